-- Fields of bits side by side, as the tables of a packet format give them: big-endian, high bits first.
use Rattle.std.specs.Prelude.{◌<◌, ℕ, ◌+◌, ◌*◌, ◌/◌, ◌^◌, List, [], ◌∷◌, ◌++◌}
use Rattle.byteorder.specs.Endian.{big_bytes}

-- one field of a table: how many bits it has, and the number in them
pub record Field : Type 0 where
  pub width : ℕ
  pub value : ℕ

abbrev pub field : ℕ → ℕ → Field
field width value = record { width = width; value = value }

-- how many bits the fields have together
abbrev pub width_of : List Field → ℕ
width_of [] = 0
width_of (f ∷ fs) = f.width + width_of fs

-- the number in the bits of all the fields, the first field in the highest bits
abbrev pub number_of : List Field → ℕ
number_of [] = 0
number_of (f ∷ []) = f.value
number_of (f ∷ g ∷ fs) = f.value * 2 ^ width_of (g ∷ fs) + number_of (g ∷ fs)

-- the bytes of a row of fields, the highest byte first
abbrev pub row : List Field → List ℕ
row fs = big_bytes (width_of fs / 8) (number_of fs)

-- the bytes of a table, row after row
abbrev pub rows : List (List Field) → List ℕ
rows [] = []
rows (fs ∷ table) = row fs ++ rows table

-- each field holds a number of its width
abbrev pub FitsRow : List Field → Type 0
FitsRow [] = Unit {0}
FitsRow (f ∷ fs) = (f.value < 2 ^ f.width) × FitsRow fs

abbrev pub Fits : List (List Field) → Type 0
Fits [] = Unit {0}
Fits (fs ∷ table) = FitsRow fs × Fits table
