-- The rule of the tokens: the sums of the book are those of what all shares posted.
use Rattle.std.specs.Prelude.{◌≡◌, ℕ, ◌+◌, ◌-◌, ◌*◌, ◌^◌, ◌≤◌, List, [], ◌∷◌, length, slice_index, true, false}
use mathlib.Core.Option.{some}
use lib.ListN.{get_elem?}
use Rattle.atomic_table.specs.Seated.{TableId}
use Rattle.process_packet.specs.Cause.{causes}
use Rattle.process_packet.specs.declared.totals.Totals.{Totals}
use Rattle.packet_ledger.specs.declared.tokens.Table.{Table}
use Rattle.packet_ledger.specs.declared.tokens.View.{View}
use Rattle.packet_ledger.specs.Amounts.{count_at, nothing, plus}
use Rattle.packet_ledger.specs.Shown.{AreUpTo, add_rows, counted_at, no_rows}

-- the name of no table
abbrev pub no_table : TableId
no_table = record { words = 0; slots = 0; views_name = 0; atom = 0; block = 0; offset = 0; slot_names = [] }

-- a book before a type stands for it: its name, and what is booked
pub record Unnamed : Type 0 where
  pub table : TableId
  pub booked : Totals

-- the book's token: its parts, what it knows as posted beside the shares, and in which rows, its sums, and the shares' rows
abbrev pub keeper : ℕ → Totals → Table → Totals → Table → View
keeper parts posted own booked rows = record { keeps = true; parts = parts; posted = posted; own = own; booked = booked; rows = rows; seen = nothing; seen_rows = no_rows }

-- the token of a share, which posted so much, in these rows
abbrev pub holder : ℕ → Totals → Table → View
holder parts posted own = record { keeps = false; parts = parts; posted = posted; own = own; booked = nothing; rows = no_rows; seen = nothing; seen_rows = no_rows }

-- the token of a look, which saw so much
abbrev pub looker : Totals → Table → View
looker seen rows = record { keeps = false; parts = 0; posted = nothing; own = no_rows; booked = nothing; rows = no_rows; seen = seen; seen_rows = rows }

-- a spent token
abbrev pub nobody : View
nobody = holder 0 nothing no_rows

-- the book's token after it gave parts away, with all that it knew as posted, and booked these counts with them, with these rows
abbrev pub kept : ℕ → Totals → Table → View → View
kept parts counts rows v = record { keeps = v.keeps; parts = v.parts - parts; posted = nothing; own = no_rows; booked = plus v.booked counts; rows = rows; seen = nothing; seen_rows = no_rows }

abbrev pub given : ℕ → Totals → ℕ → View → View
given parts counts place v = holder parts (plus v.posted counts) (add_rows v.own (counted_at place counts))

-- the book's token after a look's was cut off it
abbrev pub unlooked : View → View
unlooked v = record { keeps = v.keeps; parts = v.parts; posted = v.posted; own = v.own; booked = v.booked; rows = v.rows; seen = nothing; seen_rows = no_rows }

-- a token with what another knew, and with what only that saw
abbrev pub joined : View → View → View
joined v w = record { keeps = v.keeps; parts = v.parts + w.parts; posted = plus v.posted w.posted; own = add_rows v.own w.own; booked = v.booked; rows = v.rows; seen = w.seen; seen_rows = w.seen_rows }

-- a token with a number of further parts, and the sum of what was posted, in these rows
abbrev pub gathered : ℕ → Totals → Table → View → View
gathered parts posted own v = record { keeps = v.keeps; parts = v.parts + parts; posted = posted; own = own; booked = v.booked; rows = v.rows; seen = nothing; seen_rows = no_rows }

-- f of each, added up
abbrev pub total : (View → ℕ) → List View → ℕ
total f [] = 0
total f (v ∷ vs) = f v + total f vs

-- how much was posted in all, of the count at i
abbrev pub posted_at : List View → ℕ → ℕ
posted_at views i = total (λ (u : View). count_at i u.posted) views

-- in no row stands more than was posted in all
pub record AreWithin (own : Table) (posted : Totals) : Type 0 where
  pub inputs : (k : ℕ) → slice_index own.inputs k ≤ posted.received
  pub outputs : (k : ℕ) → slice_index own.outputs k ≤ posted.sent + posted.answered

-- what was posted in all into the rows at k
pub record AddUpTo (views : List View) (rows : Table) (k : ℕ) : Type 0 where
  pub inputs : slice_index rows.inputs k ≡ total (λ (u : View). slice_index u.own.inputs k) views
  pub outputs : slice_index rows.outputs k ≡ total (λ (u : View). slice_index u.own.outputs k) views

-- One token keeps the sums and the rows. A token posted at most 2^109 for each of its parts, into rows of its own, and
-- saw no more than the sums and the rows.
abbrev pub Fits : ℕ → (ℕ → ℕ) → Table → ℕ → View → Type 0
Fits seat sum rows by v =
    (v.keeps ≡ true → (by ≡ seat) × ((i : ℕ) → count_at i v.booked ≡ sum i) × (v.rows ≡ rows))
    × ((i : ℕ) → count_at i v.posted ≤ v.parts * 2 ^ 109)
    × (length v.posted.dropped ≡ causes)
    × ((i : ℕ) → count_at i v.seen ≤ sum i)
    × AreUpTo v.seen_rows rows
    × AreWithin v.own v.posted

pub record Balanced (words : List ℕ) (views : List View) : Type 0 where
  pub seat : ℕ
  pub rows : Table
  pub whole : total (λ (u : View). u.parts) views ≡ 65537
  pub owns : (k : ℕ) → AddUpTo views rows k
  pub fits : (by : ℕ) (v : View) → get_elem? views by ≡ some v → Fits seat (posted_at views) rows by v

-- what the book's token tells: it knows no more as posted than was booked, and with every part just that; what was booked
-- is at most what all parts may have posted; what it knows as seen is at most what it knows as booked, and in its rows; and
-- with every part its rows are what it knows as posted into them
abbrev pub Audited : View → View → Type 0
Audited v w =
    (w ≡ v)
    × ((i : ℕ) → count_at i v.booked ≤ 65537 * 2 ^ 109)
    × (v.parts ≡ 65537 → (i : ℕ) → count_at i v.posted ≡ count_at i v.booked)
    × (length v.posted.dropped ≡ causes)
    × ((i : ℕ) → count_at i v.seen ≤ count_at i v.booked)
    × AreUpTo v.seen_rows v.rows
    × (v.parts ≡ 65537 → (k : ℕ) → (slice_index v.own.inputs k ≡ slice_index v.rows.inputs k) × (slice_index v.own.outputs k ≡ slice_index v.rows.outputs k))
