-- What is written in two parts, and the first line of a text.
use Rattle.std.proofs.Common.{◌≡◌, ◌≢◌, ℕ, eqb, Bool, true, false, List, [], ◌∷◌, ◌++◌, map, Option, Some, None, refl, sym, subst, ap, ◌∙◌, append_assoc, inl, inr}
use Rattle.std.specs.Prelude.{IfSome}
use Rattle.std.specs.Bool.{OnFalse, OnTrue}
use Rattle.std.specs.Io.KnownBytes.{Appends}
use Rattle.std.specs.Io.BufRead.{take_through, drop_through, strip_last, first_piece}
use Rattle.std.proofs.lemmas.List.{append-nil}
use Rattle.std.proofs.lemmas.Bool.{cases_Bool}
use Rattle.cli_io.specs.Lines.{Same, left_of, lines_in, lines_of, onto_first, pieces_of}

pub Appends-then : (a b c : Option (List ℕ)) (x y : List ℕ) → Appends a b x → Appends b c y → Appends a c (x ++ y)
Appends-then None b c x y p q = tt
Appends-then (Some a) None c x y p q = absurd p
Appends-then (Some a) (Some b) None x y p q = absurd q
Appends-then (Some a) (Some b) (Some c) x y p q = q ∙ ap (λ (t : List ℕ). t ++ y) p ∙ append_assoc a x y

pub Appends-nothing : (a : Option (List ℕ)) → Appends a a []
Appends-nothing None = tt
Appends-nothing (Some a) = sym (append-nil a)

-- ---- the first line, and those after it

pieces_step : (x : ℕ) (xs : List ℕ) → pieces_of (x ∷ xs) ≡ take_through 10 (x ∷ xs) ∷ pieces_of (drop_through 10 (x ∷ xs))
unfolding pieces_of
pieces_step x [] =
    elim (cases_Bool (eqb x 10)) [ inl ends ↦ rw ends refl | inr goes ↦ rw goes refl ]
pieces_step x (y ∷ xs) =
    let ih = pieces_step y xs in
    elim (cases_Bool (eqb x 10)) [ inl ends ↦ rw ends refl | inr goes ↦ rw goes (ap (onto_first x) ih) ]

lines_step : (x : ℕ) (xs : List ℕ) → lines_of (x ∷ xs) ≡ first_piece 10 (x ∷ xs) ∷ lines_of (drop_through 10 (x ∷ xs))
lines_step x xs = ap (λ (ps : List (List ℕ)). map (strip_last 10) ps) (pieces_step x xs)

no_lines : lines_of [] ≡ []
unfolding pieces_of
no_lines = refl

pub line_read : (before after : Option (List ℕ)) (line : List ℕ) (more : Bool) → OnFalse more (IfSome before (λ input. input ≡ []))
    → OnTrue more (IfSome before (λ input. (input ≢ []) × (line ≡ first_piece 10 input) × (after ≡ Some (drop_through 10 input))))
    → Same (lines_in before) (left_of more line after)
line_read None after line more end next = tt
line_read (Some input) after line false end next = ap lines_of end ∙ no_lines
line_read (Some []) after line true end next = absurd (next.0 refl)
line_read (Some (x ∷ xs)) after line true end next =
    let P : Option (List ℕ) → Type 0 = λ o. Same (Some (lines_of (x ∷ xs))) (left_of true line o) in
    subst P (sym next.2) (lines_step x xs ∙ ap (λ (piece : List ℕ). piece ∷ lines_of (drop_through 10 (x ∷ xs))) (sym next.1))
