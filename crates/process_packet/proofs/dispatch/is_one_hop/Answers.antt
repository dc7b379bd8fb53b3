use Rattle.std.proofs.Common.{◌≡◌, ◌==◌, ◌&&◌, Bool, true, slice_index, sym, ap, ◌∙◌, arith}
use Rattle.std.proofs.lemmas.Bool.Decides.{nat_tests}
use Rattle.scion_packet.specs.Header.{one_hop_path}
use Rattle.process_packet.specs.Decide.{is_one_hop}
use Rattle.process_packet.specs.Network.{network, takes_one_hop}
use Rattle.process_packet.proofs.dispatch.is_one_hop.Goals as goal
use Rattle.process_packet.proofs.dispatch.is_one_hop.Goals.{then-bytes-gt8, else-bytes-gt8}

pub returns-then-bytes-eq-ONE_HOP_PATH : goal.returns-then-bytes-eq-ONE_HOP_PATH
unfolding is_one_hop
returns-then-bytes-eq-ONE_HOP_PATH c =
    let n = network c.args.config.now in
    let kind : (slice_index c.args.bytes.now 8 == one_hop_path) ≡ true = elim c.if-bytes-gt8.branch [
      | then-bytes-gt8 w ↦ sym w.value-is ∙ c.if-bytes-eq-ONE_HOP_PATH.true
      | else-bytes-gt8 w ↦ absurd (grind (arith, nat_tests))
    ] in
    c.takes_one_hop.ensures ∙ sym (ap (λ (b : Bool). b && takes_one_hop n c.args.link) kind)
