-- Warnings added one after the other.
use Rattle.std.proofs.Common.{◌≡◌, List, ◌++◌, Ok, Err, Result, append_assoc}
use Rattle.std.specs.Prelude.{OnOk}
use Rattle.config_warnings.specs.declared.warning.Warning.{Warning}

module _ {E : Type 0} where
  pub three_added : (r : Result (Unit {0}) E) (a b c d p q s : List Warning) → b ≡ a ++ p → c ≡ b ++ q → OnOk r (d ≡ c ++ s) → OnOk r (d ≡ a ++ (p ++ (q ++ s)))
  three_added (Ok _) a b c d p q s first second last = rw (last, second, first) (simp append_assoc)
  three_added (Err _) a b c d p q s first second last = tt
