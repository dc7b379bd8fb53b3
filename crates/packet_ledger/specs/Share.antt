-- What contracts see of a share.
use Rattle.std.specs.Prelude.{◌≡◌, ◌⊎◌, ℕ, ◌+◌, ◌-◌, ◌^◌, ◌<◌, ◌≤◌, ◌==◌, if◌then◌else◌, List, [], ◌∷◌, fold, slice_index, slice_set}
use Rattle.process_packet.specs.declared.cause.Cause.{Cause}
use Rattle.process_packet.specs.declared.totals.Totals.{Totals}
use Rattle.process_packet.specs.Cause.{number_of}
use Rattle.process_packet.specs.Totals.{dropped_for}
use Rattle.packet_ledger.specs.Amounts.{AtMost, count_at, nothing, plus}
use Rattle.packet_ledger.specs.Shown.{Shown, add_rows, counted_at, no_rows}
use Rattle.packet_ledger.specs.declared.tokens.Table.{Table}

-- what it counted since it was posted, the sums of all that it ever posted, and where its row stands in the book
pub record Held : Type 0 where
  pub counts : Totals
  pub posted : Totals
  pub place : ℕ

-- the share at a place, with nothing counted
abbrev pub new_share : ℕ → Held
new_share place = record { counts = nothing; posted = nothing; place = place }

abbrev pub IsNew : Held → Type 0
IsNew s = s ≡ new_share s.place

-- new shares, one after another from this place on
abbrev pub AreNew : ℕ → List Held → Type 0
AreNew place [] = Unit {0}
AreNew place (s ∷ shares) = (s ≡ new_share place) × AreNew (place + 1) shares

-- a share with these counts in place of its own
abbrev pub counting : Held → Totals → Held
counting s counts = record { counts = counts; posted = s.posted; place = s.place }

abbrev pub with_received : ℕ → Totals → Totals
with_received n t = record { received = t.received + n; sent = t.sent; answered = t.answered; dropped = t.dropped }

abbrev pub with_sent : Totals → Totals
with_sent t = record { received = t.received; sent = t.sent + 1; answered = t.answered; dropped = t.dropped }

abbrev pub with_answered : Totals → Totals
with_answered t = record { received = t.received; sent = t.sent; answered = t.answered + 1; dropped = t.dropped }

-- one more drop of this cause
abbrev pub with_fate : Cause → Totals → Totals
with_fate cause t = record { received = t.received; sent = t.sent; answered = t.answered; dropped = slice_set t.dropped (number_of cause - 1) (dropped_for t cause + 1) }

-- each count can still be raised
abbrev pub HasRoom : Totals → Type 0
HasRoom t = (i : ℕ) → count_at i t < 2 ^ 100

-- each count can be raised by one this often
abbrev pub Leaves : ℕ → Totals → Type 0
Leaves n t = (i : ℕ) → count_at i t + n ≤ 2 ^ 100

-- so each call that raises a count by one may be made
abbrev pub MayRaise : Totals → Type 0
MayRaise t = (t.received + 1 ≤ 2 ^ 100) × (t.sent + 1 ≤ 2 ^ 100) × (t.answered + 1 ≤ 2 ^ 100) × ((cause : Cause) → dropped_for t cause + 1 ≤ 2 ^ 100)

-- a share after its counts moved into the book
abbrev pub emptied : Held → Held
emptied s = record { counts = nothing; posted = plus s.posted s.counts; place = s.place }

-- All that it ever counted can stand in the book: no sum of one share passes 2^109.
abbrev pub MayPost : Held → Type 0
MayPost s = AtMost (2 ^ 109) (plus s.posted s.counts)

-- A post moves all counts into the book. Where one share's sums would pass what may stand there, it leaves the share as it was.
abbrev pub IsPosted : Held → Held → Type 0
IsPosted old new = (MayPost old × (new ≡ emptied old)) ⊎ ((MayPost old → ⊥) × (new ≡ old))

-- so afterwards it holds nothing, or more than may stand there
abbrev pub IsDrained : Held → Type 0
IsDrained s = (s.counts ≡ nothing) ⊎ (MayPost s → ⊥)

-- all that it ever counted as sent or answered
abbrev pub forwarded : Held → ℕ
forwarded s = s.posted.sent + s.posted.answered + (s.counts.sent + s.counts.answered)

-- what all shares posted, and what they still hold
abbrev pub posted_by : List Held → Totals
posted_by shares = fold (λ (t : Totals) (s : Held). plus t s.posted) nothing shares

abbrev pub counts_of : List Held → Totals
counts_of shares = fold (λ (t : Totals) (s : Held). plus t s.counts) nothing shares

-- the rows of what all shares posted
abbrev pub rows_by : List Held → Table
rows_by shares = fold (λ (t : Table) (s : Held). add_rows t (counted_at s.place s.posted)) no_rows shares

-- one number of each share at a place, added up
abbrev pub sum_at : (Held → ℕ) → ℕ → List Held → ℕ
sum_at f place [] = 0
sum_at f place (s ∷ shares) = (if place == s.place then f s else 0) + sum_at f place shares

-- the rows at each place are no more than what the shares at that place posted
pub record AreWithinTheirs (shares : List Held) (look : Shown) : Type 0 where
  pub inputs : (place : ℕ) → slice_index look.inputs place ≤ sum_at (λ s. s.posted.received) place shares
  pub outputs : (place : ℕ) → slice_index look.outputs place ≤ sum_at (λ s. s.posted.sent + s.posted.answered) place shares

-- they are just that
pub record AreTheirRows (shares : List Held) (look : Shown) : Type 0 where
  pub inputs : (place : ℕ) → slice_index look.inputs place ≡ sum_at (λ s. s.posted.received) place shares
  pub outputs : (place : ℕ) → slice_index look.outputs place ≡ sum_at (λ s. s.posted.sent + s.posted.answered) place shares
