use Rattle.std.proofs.Common.{◌≡◌, ℕ, ◌<◌, length, slice_index_or}
use Rattle.process_packet.specs.Cause.{causes}
use Rattle.packet_ledger.proofs.amounts.update_each.Given as goal

abbrev pub invariant-loop-i : goal.invariant-loop-i
invariant-loop-i l =
    (length l.counts ≡ causes)
    × ((k : ℕ) → k < l.i → slice_index_or l.counts k 0 ≡ slice_index_or l.to k 0)
