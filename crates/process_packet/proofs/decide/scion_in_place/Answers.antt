use Rattle.std.proofs.Common.{refl, sym, ap, ◌∙◌}
use Rattle.process_packet.specs.Decide.{decision_of, moved_by}
use Rattle.process_packet.specs.Network.{network}
use Rattle.process_packet.specs.Rows.{Verdict}
use Rattle.process_packet.specs.PacketState.{arrives}
use Rattle.process_packet.proofs.ParsedHeadersLemmas.{datagram_passed, datagram_refused, leaves, refusal_keeps, room_for}
use Rattle.process_packet.proofs.decide.scion_in_place.Goals as goal

pub returns-in-Err-clause-decision : goal.returns-in-Err-clause-decision
returns-in-Err-clause-decision c =
    let n = network c.args.config.now in
    let verdict = datagram_refused n c.args.link c.args.source.now c.args.now c.args.bytes.now _ (c.in-Err.ensures.says (arrives n c.args.link c.args.source.now c.args.now c.args.bytes.now) refl) in
    c.decision.ensures.scion ∙ sym (ap decision_of verdict)

pub returns-in-Err-clause-bytes : goal.returns-in-Err-clause-bytes
returns-in-Err-clause-bytes c =
    let n = network c.args.config.now in
    let verdict = datagram_refused n c.args.link c.args.source.now c.args.now c.args.bytes.now _ (c.in-Err.ensures.says (arrives n c.args.link c.args.source.now c.args.now c.args.bytes.now) refl) in
    refusal_keeps c.in-Err.refusal _ c.args.bytes.now verdict

pub write-requires-clause-entered : goal.write-requires-clause-entered
write-requires-clause-entered c =
    let headers = c.in-Ok.ensures.headers in
    room_for c.args.bytes.now _ _ c.in-Ok-depart.departure.entered c.in-Ok.headers.meta headers.begin headers.end headers.meta c.in-Ok-depart.ensures.entered

pub write-requires-clause-left : goal.write-requires-clause-left
write-requires-clause-left c =
    let headers = c.in-Ok.ensures.headers in
    room_for c.args.bytes.now _ _ c.in-Ok-depart.departure.left c.in-Ok.headers.meta headers.begin headers.end headers.meta c.in-Ok-depart.ensures.left

pub returns-in-Ok-depart-clause-decision : goal.returns-in-Ok-depart-clause-decision
returns-in-Ok-depart-clause-decision c =
    let n = network c.args.config.now in
    let s = arrives n c.args.link c.args.source.now c.args.now c.args.bytes.now in
    let verdict = datagram_passed n c.args.link c.args.source.now c.args.now c.args.bytes.now (c.in-Ok.ensures.says s refl) in
    sym (ap decision_of (verdict ∙ c.in-Ok-depart.ensures.verdict))

pub returns-in-Ok-depart-clause-bytes : goal.returns-in-Ok-depart-clause-bytes
returns-in-Ok-depart-clause-bytes c =
    let n = network c.args.config.now in
    let s = arrives n c.args.link c.args.source.now c.args.now c.args.bytes.now in
    let headers = c.in-Ok.ensures.headers in
    let verdict = datagram_passed n c.args.link c.args.source.now c.args.now c.args.bytes.now (c.in-Ok.ensures.says s refl) in
    leaves c.args.bytes.now c.write.new.path c.in-Ok.headers.path_begin c.in-Ok.headers.path_end c.in-Ok-depart.departure _ headers.are headers.sound headers.meta.lawful
    headers.begin headers.end headers.order c.in-Ok-depart.ensures c.write.ensures
    ∙ sym (ap (λ (v : Verdict). moved_by v c.args.bytes.now) verdict)

pub returns-in-Err-depart-clause-decision : goal.returns-in-Err-depart-clause-decision
returns-in-Err-depart-clause-decision c =
    let n = network c.args.config.now in
    let s = arrives n c.args.link c.args.source.now c.args.now c.args.bytes.now in
    let verdict = datagram_passed n c.args.link c.args.source.now c.args.now c.args.bytes.now (c.in-Ok.ensures.says s refl) in
    c.decision-in-Err-depart.ensures.scion ∙ sym (ap decision_of (verdict ∙ c.in-Err-depart.ensures))

pub returns-in-Err-depart-clause-bytes : goal.returns-in-Err-depart-clause-bytes
returns-in-Err-depart-clause-bytes c =
    let n = network c.args.config.now in
    let s = arrives n c.args.link c.args.source.now c.args.now c.args.bytes.now in
    let verdict = datagram_passed n c.args.link c.args.source.now c.args.now c.args.bytes.now (c.in-Ok.ensures.says s refl) in
    refusal_keeps c.in-Err-depart.refusal _ c.args.bytes.now (verdict ∙ c.in-Err-depart.ensures)
