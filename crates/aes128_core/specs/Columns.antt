-- Columns as numbers below 2 ^ 32: row r of a column is byte r of its number, the lowest first.
use Rattle.std.specs.Prelude.{ℕ, ◌+◌, List, [], ◌∷◌, slice_index}
use Rattle.std.specs.Int.{w32, to_le_bytes}
use Rattle.aes128_core.specs.State.{four, bytes_of}

abbrev pub word_bytes : ℕ → List ℕ
word_bytes = to_le_bytes w32

-- the four bytes from place i on
abbrev pub word_from : List ℕ → ℕ → List ℕ
word_from bytes i =
    slice_index bytes i ∷ slice_index bytes (i + 1) ∷ slice_index bytes (i + 2) ∷ slice_index bytes (i + 3) ∷ []

-- the state whose columns are four words
abbrev pub state_of_words : List ℕ → List (List ℕ)
state_of_words ws = four (λ c. word_bytes (slice_index ws c))

-- the key with which these words begin
abbrev pub key_of : List ℕ → List ℕ
key_of words = bytes_of (state_of_words words)
