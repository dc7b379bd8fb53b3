-- Pieces of a text and the numbers that they spell.
use Rattle.std.specs.Prelude.{ℕ, ◌==◌, ◌&&◌, nat_lt, nat_le, if◌then◌else◌, List, length, Option, Some, None, decimal}
use Rattle.std.specs.List.{before_first, after_first, list_all, position_or_len}
use Rattle.std.specs.Char.{digit_value}
use Rattle.std.specs.Str.{bytes_eq}
use Rattle.std.specs.Str.Parse.{digits_value}

-- the second step, where the first gave a value
infixl 10 ◌>>=◌
abbrev pub ◌>>=◌ : {A B : Type 0} → Option A → (A → Option B) → Option B
Some x >>= f = f x
None >>= f = None

-- what stands before the first such byte and after it
abbrev pub split_once : ℕ → List ℕ → Option (List ℕ × List ℕ)
split_once mark text = if nat_lt (position_or_len (λ b. b == mark) text) (length text)
    then Some (before_first (λ b. b == mark) text, after_first (λ b. b == mark) text) else None

abbrev pub if_empty : List ℕ × List ℕ → Option (List ℕ)
if_empty parts = if length parts.0 == 0 then Some parts.1 else None

-- what follows the byte that a text begins with
abbrev pub strip_prefix : ℕ → List ℕ → Option (List ℕ)
strip_prefix mark text = split_once mark text >>= if_empty

-- the number up to the limit that a text is, in decimal digits with no sign and no leading zero
abbrev pub number_up_to : ℕ → List ℕ → Option ℕ
number_up_to limit text = if nat_le (digits_value 10 text) limit && bytes_eq (decimal (digits_value 10 text)) text then Some (digits_value 10 text) else None

-- the number of one to four hex digits
abbrev pub group_of : List ℕ → Option ℕ
group_of text = if nat_lt 0 (length text) && (nat_le (length text) 4 && list_all (λ c. nat_lt (digit_value c) 16) text)
    then Some (digits_value 16 text) else None

abbrev pub unless_zero : ℕ → Option ℕ
unless_zero n = if n == 0 then None else Some n
