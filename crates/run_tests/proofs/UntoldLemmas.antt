-- Lists of devices that never tell.
use Rattle.std.proofs.Common.{List, [], ◌∷◌, None}
use Rattle.order_laws.specs.Deeds.{Each}
use Rattle.worker_order.specs.Heard.{ToldNothing}

pub untold_silent : (T : Type 0) {X : Type 0} (xs : List X) → Each (λ (x : X). ToldNothing {X = T} None) xs
untold_silent T [] = tt
untold_silent T (x ∷ xs) = ((λ ts e. cc), untold_silent T xs)
