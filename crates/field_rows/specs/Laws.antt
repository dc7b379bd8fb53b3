-- The laws of tables.
use Rattle.std.specs.Prelude.{◌≡◌, ◌≤◌, ◌<◌, ℕ, ◌+◌, ◌/◌, ◌^◌, List, length, take, drop, map}
use Rattle.std.specs.List.{AllByRecursion}
use Rattle.byteorder.specs.Endian.{big_bytes}
use Rattle.field_rows.specs.Row.{Field, width_of}
use Rattle.field_rows.specs.Place.{IsBytes, Puts, StandsAt, TableAt, number_at}

-- how many bits each field of each row has
abbrev pub widths : List Field → List ℕ
widths fs = map (λ f. f.width) fs

abbrev pub shape : List (List Field) → List (List ℕ)
shape table = map widths table

-- each row fills whole bytes
abbrev pub IsWhole : List (List Field) → Type 0
IsWhole table = AllByRecursion (λ fs. 2 ^ width_of fs ≡ 256 ^ (width_of fs / 8)) table

abbrev pub OneSpelling : Type 0
OneSpelling =
    (bytes : List ℕ) (at : ℕ) (t u : List (List Field)) → shape t ≡ shape u → IsWhole t
    → TableAt bytes at t → TableAt bytes at u → t ≡ u

pub record NumbersReadBack : Type 0 where
  pub number : (bytes : List ℕ) (at n x : ℕ) → x < 256 ^ n → StandsAt bytes at (big_bytes n x) → number_at bytes at n ≡ x
  pub bytes : (bytes : List ℕ) (at n : ℕ) → IsBytes bytes → at + n ≤ length bytes → StandsAt bytes at (big_bytes n (number_at bytes at n))

pub record WrittenStands : Type 0 where
  pub there : (old new : List ℕ) (at : ℕ) (text : List ℕ) → Puts old new at text → StandsAt new at text
  pub before : (old new : List ℕ) (at : ℕ) (text : List ℕ) → Puts old new at text → take at new ≡ take at old
  pub after : (old new : List ℕ) (at : ℕ) (text : List ℕ) → Puts old new at text → drop (at + length text) new ≡ drop (at + length text) old
  pub len : (old new : List ℕ) (at : ℕ) (text : List ℕ) → Puts old new at text → length new ≡ length old
