use Rattle.std.proofs.Common.{refl, arith}
use Rattle.process_packet.proofs.PathHopLemmas.{has_next}
use Rattle.process_packet.proofs.SwitchLemmas.{shows_changed}
use Rattle.process_packet.proofs.packet_view.PacketView.change_over.Goals as goal

pub read-self-requires-clause-there : goal.read-self-requires-clause-there
read-self-requires-clause-there c =
    (has_next c.args.self.now.current c.args.meta.now c.args.path.now c.requires.meta c.requires.current c.requires.last (omega (arith, c.requires.followed, c.requires.count))).there

pub read-self-requires-clause-begins : goal.read-self-requires-clause-begins
read-self-requires-clause-begins c =
    (has_next c.args.self.now.current c.args.meta.now c.args.path.now c.requires.meta c.requires.current c.requires.last (omega (arith, c.requires.followed, c.requires.count))).begins

pub read-self-requires-clause-ends : goal.read-self-requires-clause-ends
read-self-requires-clause-ends c =
    (has_next c.args.self.now.current c.args.meta.now c.args.path.now c.requires.meta c.requires.current c.requires.last (omega (arith, c.requires.followed, c.requires.count))).ends

pub returns-clause-shows : goal.returns-clause-shows
returns-clause-shows c s shows alike =
    let next = has_next c.args.self.now.current c.args.meta.now c.args.path.now c.requires.meta c.requires.current c.requires.last (omega (arith, c.requires.followed, c.requires.count)) in
    shows_changed c.args.self.now _ s _ _ _ shows (record {
      link = refl;
      moment = refl;
      begin = refl;
      payload = refl;
      segments = refl;
      switched = refl;
    }) alike c.read-self.ensures refl next.first
