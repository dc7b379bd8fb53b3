-- Numbers and texts at a place in bytes: read there, standing there, written there.
use Rattle.std.specs.Prelude.{◌≡◌, ◌≤◌, ◌<◌, ℕ, ◌+◌, List, ◌++◌, length, take, drop, slice_index}
use Rattle.byteorder.specs.Endian.{big_number}
use Rattle.field_rows.specs.Row.{Field, Fits, rows}

-- each item is a byte
abbrev pub IsBytes : List ℕ → Type 0
IsBytes bytes = (i : ℕ) → slice_index bytes i < 256

-- the number in the n bytes from a place on, the highest byte first
abbrev pub number_at : List ℕ → ℕ → ℕ → ℕ
number_at bytes at n = big_number n (drop at bytes)

-- the n bytes from a place on
abbrev pub text_at : List ℕ → ℕ → ℕ → List ℕ
text_at bytes at n = take n (drop at bytes)

-- The text stands in the bytes from a place on.
pub record StandsAt (bytes : List ℕ) (at : ℕ) (text : List ℕ) : Type 0 where
  pub read : take (length text) (drop at bytes) ≡ text

-- The table stands in the bytes from a place on, and each of its fields has room for its number.
pub record TableAt (bytes : List ℕ) (at : ℕ) (table : List (List Field)) : Type 0 where
  pub fits : Fits table
  pub text : StandsAt bytes at (rows table)

-- new is old with the text written from a place on
pub record Puts (old new : List ℕ) (at : ℕ) (text : List ℕ) : Type 0 where
  pub parts : new ≡ take at old ++ (text ++ drop (at + length text) old)
  pub room : at + length text ≤ length old
