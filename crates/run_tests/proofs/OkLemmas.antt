-- What is promised of a success, of one that is there.
use Rattle.std.proofs.Common.{◌≡◌, Result, Ok, subst}
use Rattle.std.specs.Prelude.{IfOk}

pub of_ok : {T E : Type 0} (P : T → Type 0) (r : Result T E) (x : T) → r ≡ Ok x → IfOk r P → P x
of_ok {T = T} {E = E} P r x is p = subst (λ (s : Result T E). IfOk s P) is p
