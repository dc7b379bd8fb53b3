use Rattle.std.proofs.Common.{refl, sym, ap, ◌∙◌}
use Rattle.scion_packet.specs.OneHop.{one_hop_packet_of}
use Rattle.process_packet.specs.Network.{network}
use Rattle.process_packet.specs.OneHopRows.{OneHopVerdict}
use Rattle.process_packet.specs.OneHopState.{one_hop_arrives}
use Rattle.process_packet.specs.OneHopTable.{one_hop_decision_of, one_hop_moved_by}
use Rattle.process_packet.proofs.OneHopLemmas.{leaves_so, path_is_32, read_passed, read_refused, refused_keeps}
use Rattle.process_packet.proofs.one_hop.one_hop_in_place.Goals as goal

pub returns-in-Err-clause-decision : goal.returns-in-Err-clause-decision
returns-in-Err-clause-decision c =
    let n = network c.args.config.now in
    let bytes = c.args.bytes.now in
    c.decision.ensures.one_hop
    ∙ sym (ap one_hop_decision_of (read_refused n c.args.link c.args.source.now c.args.now bytes _ (c.in-Err.ensures.says (one_hop_arrives n c.args.link c.args.source.now c.args.now bytes) refl)))

pub returns-in-Err-clause-bytes : goal.returns-in-Err-clause-bytes
returns-in-Err-clause-bytes c =
    let n = network c.args.config.now in
    let bytes = c.args.bytes.now in
    refused_keeps c.in-Err.refusal bytes
    ∙ sym (ap (λ (v : OneHopVerdict). one_hop_moved_by v bytes) (read_refused n c.args.link c.args.source.now c.args.now bytes _ (c.in-Err.ensures.says (one_hop_arrives n c.args.link c.args.source.now c.args.now bytes) refl)))

pub write-requires : goal.write-requires
write-requires c =
    let ends = c.in-Ok.ensures.ends in record { whole = path_is_32 c.args.bytes.now _ _ ends.sound ends.addresses ends.header }

pub returns-in-Ok-depart-clause-decision : goal.returns-in-Ok-depart-clause-decision
returns-in-Ok-depart-clause-decision c =
    let n = network c.args.config.now in
    let bytes = c.args.bytes.now in
    let s = one_hop_arrives n c.args.link c.args.source.now c.args.now bytes in
    c.decision-in-Ok-depart.ensures (one_hop_packet_of bytes)
    ∙ sym (ap one_hop_decision_of (read_passed n c.args.link c.args.source.now c.args.now bytes _ (c.in-Ok.ensures.says s refl) c.in-Ok-depart.ensures))

pub returns-in-Ok-depart-clause-bytes : goal.returns-in-Ok-depart-clause-bytes
returns-in-Ok-depart-clause-bytes c =
    let n = network c.args.config.now in
    let bytes = c.args.bytes.now in
    let s = one_hop_arrives n c.args.link c.args.source.now c.args.now bytes in
    let ends = c.in-Ok.ensures.ends in
    leaves_so bytes c.write.new.path _ _ c.in-Ok-depart.departure ends.are ends.sound ends.addresses ends.header ends.covers c.write.ensures
    ∙ sym (ap (λ (v : OneHopVerdict). one_hop_moved_by v bytes) (read_passed n c.args.link c.args.source.now c.args.now bytes _ (c.in-Ok.ensures.says s refl) c.in-Ok-depart.ensures))

pub returns-in-Err-depart-clause-decision : goal.returns-in-Err-depart-clause-decision
returns-in-Err-depart-clause-decision c =
    let n = network c.args.config.now in
    let bytes = c.args.bytes.now in
    let s = one_hop_arrives n c.args.link c.args.source.now c.args.now bytes in
    c.decision-in-Err-depart.ensures.one_hop
    ∙ sym (ap one_hop_decision_of (read_passed n c.args.link c.args.source.now c.args.now bytes _ (c.in-Ok.ensures.says s refl) c.in-Err-depart.ensures))

pub returns-in-Err-depart-clause-bytes : goal.returns-in-Err-depart-clause-bytes
returns-in-Err-depart-clause-bytes c =
    let n = network c.args.config.now in
    let bytes = c.args.bytes.now in
    let s = one_hop_arrives n c.args.link c.args.source.now c.args.now bytes in
    refused_keeps c.in-Err-depart.refusal bytes
    ∙ sym (ap (λ (v : OneHopVerdict). one_hop_moved_by v bytes) (read_passed n c.args.link c.args.source.now c.args.now bytes _ (c.in-Ok.ensures.says s refl) c.in-Err-depart.ensures))
