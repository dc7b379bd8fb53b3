-- The segment lengths of a path travelled back.
use Rattle.std.specs.Prelude.{ℕ, ◌==◌, List, [], ◌∷◌, slice_index, if◌then◌else◌}

-- those that are used, in reverse order
abbrev pub reversed_lengths : List ℕ → List ℕ
reversed_lengths lengths =
    let a = slice_index lengths 0 in
    let b = slice_index lengths 1 in
    let c = slice_index lengths 2 in
    if b == 0 then a ∷ 0 ∷ 0 ∷ [] else if c == 0 then b ∷ a ∷ 0 ∷ [] else c ∷ b ∷ a ∷ []
