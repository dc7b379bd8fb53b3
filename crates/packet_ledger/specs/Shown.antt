-- What a look shows: the sums, and a row for each share.
use Rattle.std.specs.Prelude.{◌≡◌, ℕ, zero, suc, ◌+◌, ◌≤◌, List, [], ◌∷◌, slice_index, slice_set}
use Rattle.std.specs.List.{sum}
use Rattle.process_packet.specs.declared.totals.Totals.{Totals}
use Rattle.packet_ledger.specs.declared.tokens.Table.{Table}
use Rattle.packet_ledger.specs.Amounts.{add_each, count_at, plus}

-- the sums of all that was posted, and what each share posted as received, and as sent or answered, in the order of the shares
pub record Shown : Type 0 where
  pub totals : Totals
  pub inputs : List ℕ
  pub outputs : List ℕ

abbrev pub rows_of : List ℕ → List ℕ → Table
rows_of inputs outputs = record { inputs = inputs; outputs = outputs }

abbrev pub no_rows : Table
no_rows = rows_of [] []

-- a number in one place of a row
abbrev pub single : ℕ → ℕ → List ℕ
single zero n = n ∷ []
single (suc place) n = 0 ∷ single place n

-- what these counts are in the rows of the share at a place
abbrev pub counted_at : ℕ → Totals → Table
counted_at place counts = rows_of (single place counts.received) (single place (counts.sent + counts.answered))

abbrev pub add_rows : Table → Table → Table
add_rows a b = rows_of (add_each a.inputs b.inputs) (add_each a.outputs b.outputs)

-- the second are the first with these counts more at a place
pub record AreRaised (place : ℕ) (counts : Totals) (a b : Table) : Type 0 where
  pub inputs : (k : ℕ) → slice_index b.inputs k ≡ slice_index a.inputs k + slice_index (single place counts.received) k
  pub outputs : (k : ℕ) → slice_index b.outputs k ≡ slice_index a.outputs k + slice_index (single place (counts.sent + counts.answered)) k

-- no number of the first is above the second's in its place
abbrev pub IsUpTo : List ℕ → List ℕ → Type 0
IsUpTo xs ys = (k : ℕ) → slice_index xs k ≤ slice_index ys k

pub record AreUpTo (a b : Table) : Type 0 where
  pub inputs : IsUpTo a.inputs b.inputs
  pub outputs : IsUpTo a.outputs b.outputs

-- the rows add up to the sums
abbrev pub AddUp : Shown → Type 0
AddUp s = (sum s.inputs ≡ s.totals.received) × (sum s.outputs ≡ s.totals.sent + s.totals.answered)

-- from one look to a later one no count falls
abbrev pub HasGrown : Shown → Shown → Type 0
HasGrown old new = ((i : ℕ) → count_at i old.totals ≤ count_at i new.totals) × AreUpTo (rows_of old.inputs old.outputs) (rows_of new.inputs new.outputs)

-- the sums, and the row of the share at a place, after it posted these counts
abbrev pub HasBooked : ℕ → Totals → Shown → Shown → Type 0
HasBooked place counts old new =
    (new.totals ≡ plus old.totals counts)
    × (new.inputs ≡ slice_set old.inputs place (slice_index old.inputs place + counts.received))
    × (new.outputs ≡ slice_set old.outputs place (slice_index old.outputs place + (counts.sent + counts.answered)))
