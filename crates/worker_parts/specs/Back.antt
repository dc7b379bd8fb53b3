-- How workers come back.
use Rattle.std.specs.Prelude.{List, [], ◌∷◌}

module _ {X Y : Type 0} where
  -- one after another comes back as it was to
  abbrev pub AreBack : (X → Y → Type 0) → List X → List Y → Type 0
  AreBack R [] [] = Unit {0}
  AreBack R (x ∷ xs) (y ∷ ys) = R x y × AreBack R xs ys
  AreBack R _ _ = ⊥
