use Rattle.std.proofs.Common.{ℕ, List, sym, subst, ◌∙◌}
use Rattle.process_packet.specs.Decide.{verdict}
use Rattle.process_packet.specs.WhatLeaves.{LeavesWhole}
use Rattle.process_packet.proofs.KindLemmas.{decided_as_scion, other_kind}
use Rattle.process_packet.proofs.WhatLeavesLemmas.{leaves_whole}
use Rattle.process_packet.proofs.laws.what_leaves_is_lawful.Goals as goal

pub returns : goal.returns
returns c n link source moment bytes out to are other says =
    let as_scion = decided_as_scion n link source moment bytes (other_kind n link bytes other) in
    subst (λ (left : List ℕ). LeavesWhole (verdict n link source moment bytes) out to bytes left) (sym as_scion.bytes_are)
    (leaves_whole n link source moment bytes out to are (sym as_scion.decision ∙ says))
