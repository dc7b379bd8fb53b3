-- A list of which nothing is told.
use Rattle.std.proofs.Common.{◌≡◌, Bool, not, false, List, [], ◌∷◌, length, rules, refl}
use Rattle.std.specs.Prelude.{◌==◌}

pub empty_unless_told : {X : Type 0} → (xs : List X) (b : Bool) → b ≡ (length xs == 0) → not b ≡ false → xs ≡ []
empty_unless_told [] b is silent = refl
empty_unless_told (x ∷ xs) b is silent = search rules
