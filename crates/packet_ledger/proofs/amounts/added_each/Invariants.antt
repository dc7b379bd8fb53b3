use Rattle.std.proofs.Common.{◌≡◌, ℕ, ◌+◌, ◌<◌, ◌≤◌, length, slice_index_or}
use Rattle.process_packet.specs.Cause.{causes}
use Rattle.packet_ledger.proofs.amounts.added_each.Given as goal

abbrev pub invariant-loop-i : goal.invariant-loop-i
invariant-loop-i l =
    (length l.sums ≡ causes)
    × ((k : ℕ) → k < l.i → slice_index_or l.sums k 0 ≡ slice_index_or l.xs k 0 + slice_index_or l.ys k 0)
    × ((k : ℕ) → l.i ≤ k → slice_index_or l.sums k 0 ≡ slice_index_or l.xs k 0)
