-- Devices that don't tell.
use Rattle.std.proofs.Common.{◌≡◌, List, [], ◌∷◌, None, Some}
use Rattle.std.specs.List.{AllByRecursion}

-- devices that don't tell told nothing
pub untold : (X Y : Type 0) (xs : List X) → AllByRecursion (λ (x : X). (ys : List Y) → None ≡ Some ys → ys ≡ []) xs
untold X Y [] = tt
untold X Y (x ∷ xs) = (λ ys no. cc, untold X Y xs)
