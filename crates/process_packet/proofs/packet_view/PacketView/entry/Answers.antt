use Rattle.std.proofs.Common.{sym, ◌∙◌, arith}
use Rattle.process_packet.proofs.ArrivingLemmas.{entered_before}
use Rattle.process_packet.proofs.PathHopLemmas.{has_before}
use Rattle.process_packet.proofs.packet_view.PacketView.entry.Goals as goal

pub overflow_sub-self-2 : goal.overflow_sub-self-2
overflow_sub-self-2 c =
    (has_before c.args.self.now.current c.args.meta.now c.args.path.now c.requires.meta c.requires.current (omega (arith, c.if-self-ne0.false)) (omega (arith, c.if-self-eq0.false))).some

pub read-before-requires-clause-there : goal.read-before-requires-clause-there
read-before-requires-clause-there c =
    (has_before c.args.self.now.current c.args.meta.now c.args.path.now c.requires.meta c.requires.current (omega (arith, c.if-self-ne0.false)) (omega (arith, c.if-self-eq0.false))).there

pub read-before-requires-clause-begins : goal.read-before-requires-clause-begins
read-before-requires-clause-begins c =
    (has_before c.args.self.now.current c.args.meta.now c.args.path.now c.requires.meta c.requires.current (omega (arith, c.if-self-ne0.false)) (omega (arith, c.if-self-eq0.false))).begins

pub read-before-requires-clause-ends : goal.read-before-requires-clause-ends
read-before-requires-clause-ends c =
    (has_before c.args.self.now.current c.args.meta.now c.args.path.now c.requires.meta c.requires.current (omega (arith, c.if-self-ne0.false)) (omega (arith, c.if-self-eq0.false))).ends

pub returns : goal.returns
returns c s shows segments later =
    let before = has_before c.args.self.now.current c.args.meta.now c.args.path.now c.requires.meta c.requires.current (omega (arith, c.if-self-ne0.false)) (omega (arith, c.if-self-eq0.false)) in
    entered_before s c.read-before.result _ c.args.self.now.current.segment _ c.ingress-2.result segments shows.current.place.segment
    (sym shows.current.place.position ∙ omega (arith, c.if-self-ne0.false)) before.position c.read-before.ensures c.ingress-2.ensures
