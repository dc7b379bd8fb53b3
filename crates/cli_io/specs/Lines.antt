-- The lines of a text: each ends at byte 10, and what follows the last one is a line where it isn't empty.
use Rattle.std.specs.Prelude.{◌≡◌, ℕ, Bool, true, false, ⊤, List, [], ◌∷◌, ◌==◌, map, if◌then◌else◌, Option, Some, None}
use Rattle.std.specs.Io.BufRead.{strip_last}

-- one more byte in front of the first piece
abbrev pub onto_first : ℕ → List (List ℕ) → List (List ℕ)
onto_first x [] = (x ∷ []) ∷ []
onto_first x (piece ∷ pieces) = (x ∷ piece) ∷ pieces

-- the pieces of a text, each up to a byte 10 and with it
unfoldable pub pieces_of : List ℕ → List (List ℕ)
pieces_of [] = []
pieces_of (x ∷ xs) = if x == 10 then (x ∷ []) ∷ pieces_of xs else onto_first x (pieces_of xs)

-- the pieces without their ends
abbrev pub lines_of : List ℕ → List (List ℕ)
lines_of text = map (strip_last 10) (pieces_of text)

-- ---- lines that are known

abbrev pub lines_in : Option (List ℕ) → Option (List (List ℕ))
lines_in None = None
lines_in (Some text) = Some (lines_of text)

-- the line that was read last and those after it; no line was read where nothing was left
abbrev pub left_of : Bool → List ℕ → Option (List ℕ) → Option (List (List ℕ))
left_of false line rest = Some []
left_of true line None = None
left_of true line (Some text) = Some (line ∷ lines_of text)

-- where the first is known the second is, and they are related so
abbrev pub Both : {A : Type 0} → Option A → Option A → (A → A → Type 0) → Type 0
Both None b P = ⊤
Both (Some a) None P = ⊥
Both (Some a) (Some b) P = P a b

abbrev pub Same : {A : Type 0} → Option A → Option A → Type 0
Same a b = Both a b (λ x y. x ≡ y)
