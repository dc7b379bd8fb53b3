-- Counts, and their sums, count by count.
use Rattle.std.specs.Prelude.{ℕ, zero, suc, ◌+◌, ◌≤◌, List, [], ◌∷◌, replicate, slice_index_or}
use Rattle.process_packet.specs.Cause.{causes}
use Rattle.process_packet.specs.declared.totals.Totals.{Totals}

-- the counts one by one: received, sent, answered, and then those dropped, cause by cause
abbrev pub count_at : ℕ → Totals → ℕ
count_at zero t = t.received
count_at (suc zero) t = t.sent
count_at (suc (suc zero)) t = t.answered
count_at (suc (suc (suc k))) t = slice_index_or t.dropped k 0

-- no count of any kind
abbrev pub nothing : Totals
nothing = record { received = 0; sent = 0; answered = 0; dropped = replicate causes 0 }

-- two lists of numbers, added place by place
abbrev pub add_each : List ℕ → List ℕ → List ℕ
add_each [] ys = ys
add_each (x ∷ xs) [] = x ∷ xs
add_each (x ∷ xs) (y ∷ ys) = (x + y) ∷ add_each xs ys

abbrev pub plus : Totals → Totals → Totals
plus a b = record { received = a.received + b.received; sent = a.sent + b.sent; answered = a.answered + b.answered; dropped = add_each a.dropped b.dropped }

-- no count is above n
abbrev pub AtMost : ℕ → Totals → Type 0
AtMost n t = (i : ℕ) → count_at i t ≤ n
