use Rattle.std.proofs.Common.{ap, sym, ◌∙◌}
use Rattle.scion_packet.specs.OneHop.{one_hop_path_fault}
use Rattle.scion_packet.proofs.OneHopLaws.{one_hop_pass_both}
use Rattle.scion_packet.proofs.Parts.{path_between}
use Rattle.engine_tests.proofs.sound.is_whole_control.Goals as goal

pub returns-in-Ok-check_one_hop-clause-sound : goal.returns-in-Ok-check_one_hop-clause-sound
returns-in-Ok-check_one_hop-clause-sound c =
    let bytes = c.args.bytes.now in
    let between = path_between bytes _ _ c.in-Ok.ensures.addresses c.in-Ok.ensures.header in
    λ yes. one_hop_pass_both bytes c.in-Ok.ensures.fault (sym (ap one_hop_path_fault between) ∙ c.in-Ok-check_one_hop.ensures.fault)
