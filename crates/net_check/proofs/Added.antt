-- Nothing is added where nothing is found.
use Rattle.std.proofs.Common.{◌≡◌, List, [], ◌∷◌, ◌++◌, ap, refl, sym, ◌∙◌}

unchanged : {A : Type 0} (xs : List A) → xs ≡ xs ++ []
unchanged [] = refl
unchanged (x ∷ xs) = ap (λ (ys : List _). x ∷ ys) (unchanged xs)

pub none_added : {A : Type 0} (xs added : List A) → added ≡ [] → xs ≡ xs ++ added
none_added xs added none = unchanged xs ∙ ap (λ (ys : List _). xs ++ ys) (sym none)
