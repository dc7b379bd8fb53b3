-- What a result that is there says.
use Rattle.std.proofs.Common.{◌≡◌, subst}
use Rattle.std.specs.Prelude.{Result, Ok, Err, IfOk, MatchResult, is_err, false}

module _ {A E : Type 0} where
  -- of the value what is known of the result
  pub of_ok : (P : A → Type 0) (r : Result A E) (x : A) → r ≡ Ok x → IfOk r P → P x
  of_ok P r x is all = subst (λ (s : Result A E). IfOk s P) is all

  -- what is known wherever there is a value
  pub of_no_err : (P : Type 0) (Q : E → Type 0) (r : Result A E) → is_err r ≡ false → MatchResult r (λ _. P) Q → P
  of_no_err P Q (Ok x) is all = all
  of_no_err P Q (Err f) is all = cc
