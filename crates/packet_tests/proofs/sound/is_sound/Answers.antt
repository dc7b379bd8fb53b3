use Rattle.std.proofs.Common.{ap, sym, ◌∙◌}
use Rattle.scion_packet.specs.Path.{path_fault}
use Rattle.scion_packet.proofs.PacketLaws.{pass_both}
use Rattle.scion_packet.proofs.Parts.{path_between}
use Rattle.packet_tests.proofs.sound.is_sound.Goals as goal

pub returns-in-Ok-check_path : goal.returns-in-Ok-check_path
returns-in-Ok-check_path c =
    let bytes = c.args.bytes.now in
    let between = path_between bytes _ _ c.in-Ok.ensures.addresses c.in-Ok.ensures.header in
    λ yes. pass_both bytes c.in-Ok.ensures.fault (sym (ap path_fault between) ∙ c.in-Ok-check_path.ensures.fault)
