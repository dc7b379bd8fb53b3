use Rattle.std.proofs.Common.{◌≡◌, ◌∙◌, List, ℕ, Option, sym, subst, ap, ap₂, arith}
use Rattle.process_packet.specs.declared.cause.Cause.TheVariants.{NoAnswer, NoWayBack}
use Rattle.process_packet.specs.declared.underlay.Underlay.{Underlay}
use Rattle.scion_packet.specs.Header.{HostAddress}
use Rattle.scion_packet.specs.Packet.{Packet, packet_of}
use Rattle.scion_packet.specs.Path.{PathFields}
use Rattle.scion_packet.proofs.Parts.{rest_of}
use Rattle.scmp_answer.specs.Outcome.{IfSent, IsGood, IsWritten, Leaves, outcome}
use Rattle.scmp_answer.specs.Reply.{Dropped, Reply, answer_packet, local_address, reply, sent_back}
use Rattle.scmp_answer.specs.WayBack.{has_no_way_back, way_back}
use Rattle.scmp_answer.proofs.ReplyLemmas.{no_way, sent, unanswered}
use Rattle.scmp_answer.proofs.answering.answer_into.Goals as goal

-- ---- left unanswered

is_no_answer : (c : goal.Then-is_left_unanswered) → reply (local_address c.args.config.now) c.args.link c.args.source c.args.bytes.now c.args.problem.now ≡ Dropped NoAnswer
is_no_answer c =
    let bytes = c.args.bytes.now in
    let payload = rest_of bytes _ _ c.read-arriving.ensures.payload in
    let left = c.is_left_unanswered.ensures (packet_of bytes) c.read-arriving.ensures.header payload in
    unanswered (local_address c.args.config.now) c.args.link c.args.source bytes c.args.problem.now (sym left ∙ c.if-is_left_unanswered.true)

pub returns-then-is_left_unanswered-clause-answer : goal.returns-then-is_left_unanswered-clause-answer
returns-then-is_left_unanswered-clause-answer c = sym (ap outcome (is_no_answer c))

pub returns-then-is_left_unanswered-clause-good : goal.returns-then-is_left_unanswered-clause-good
returns-then-is_left_unanswered-clause-good c = subst (λ (r : Reply). IfSent r IsGood) (sym (is_no_answer c)) tt

-- ---- no way back

is_no_way : (c : goal.Then-has_no_way_back) → reply (local_address c.args.config.now) c.args.link c.args.source c.args.bytes.now c.args.problem.now ≡ Dropped NoWayBack
is_no_way c =
    let bytes = c.args.bytes.now in
    let payload = rest_of bytes _ _ c.read-arriving.ensures.payload in
    let left = c.is_left_unanswered.ensures (packet_of bytes) c.read-arriving.ensures.header payload in
    let back = c.has_no_way_back.ensures ∙ ap (λ (p : PathFields). has_no_way_back c.args.link p) c.read-arriving.ensures.path in
    no_way (local_address c.args.config.now) c.args.link c.args.source bytes c.args.problem.now (sym left ∙ c.if-is_left_unanswered.false) (sym back ∙ c.if-has_no_way_back.true)

pub returns-then-has_no_way_back-clause-answer : goal.returns-then-has_no_way_back-clause-answer
returns-then-has_no_way_back-clause-answer c = sym (ap outcome (is_no_way c))

pub returns-then-has_no_way_back-clause-good : goal.returns-then-has_no_way_back-clause-good
returns-then-has_no_way_back-clause-good c = subst (λ (r : Reply). IfSent r IsGood) (sym (is_no_way c)) tt

-- ---- sent back

abbrev the_answer : goal.After-back_to → Packet
the_answer c =
    let p = packet_of c.args.bytes.now in
    answer_packet (local_address c.args.config.now) p (way_back c.args.link p.path) c.args.bytes.now c.args.problem.now

is_sent_back : (c : goal.After-back_to) → reply (local_address c.args.config.now) c.args.link c.args.source c.args.bytes.now c.args.problem.now ≡ sent_back c.args.link c.args.source (the_answer c)
is_sent_back c =
    let bytes = c.args.bytes.now in
    let payload = rest_of bytes _ _ c.read-arriving.ensures.payload in
    let left = c.is_left_unanswered.ensures (packet_of bytes) c.read-arriving.ensures.header payload in
    let back = c.has_no_way_back.ensures ∙ ap (λ (q : PathFields). has_no_way_back c.args.link q) c.read-arriving.ensures.path in
    sent (local_address c.args.config.now) c.args.link c.args.source bytes c.args.problem.now (sym left ∙ c.if-is_left_unanswered.false) (sym back ∙ c.if-has_no_way_back.false)

is_written : (c : goal.After-back_to) → IsWritten (the_answer c) c.write_answer-len.result c.write_answer-len.new.out
is_written c =
    let bytes = c.args.bytes.now in
    let p = packet_of bytes in
    let payload = rest_of bytes _ _ c.read-arriving.ensures.payload in
    let way = c.way_back-way.ensures ∙ ap (λ (q : PathFields). way_back c.args.link q) c.read-arriving.ensures.path in
    let same = ap₂ (λ (a : HostAddress) (w : PathFields). answer_packet a p w bytes c.args.problem.now) c.local_address-here.ensures way in
    subst (λ (a : Packet). IsWritten a c.write_answer-len.result c.write_answer-len.new.out) same (c.write_answer-len.ensures p c.read-arriving.ensures.header payload)

pub returns-clause-answer : goal.returns-clause-answer
returns-clause-answer c =
    ap₂ (λ (to : Option Underlay) (t : List ℕ). Leaves c.args.link to t) c.back_to.ensures (is_written c).text ∙ sym (ap outcome (is_sent_back c))

pub returns-clause-good : goal.returns-clause-good
returns-clause-good c = subst (λ (r : Reply). IfSent r IsGood) (sym (is_sent_back c)) (is_written c).good

pub returns-clause-len : goal.returns-clause-len
returns-clause-len c = omega (arith, (is_written c).whole, (is_written c).good.short)
