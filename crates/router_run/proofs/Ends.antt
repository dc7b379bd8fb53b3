-- Ends that are the same ones.
use Rattle.std.proofs.Common.{◌≡◌, ℕ, zero, suc, Bool, true, false, List, [], ◌∷◌, length, refl, sym, ◌∙◌, ap, subst, arith}
use Rattle.ruled_pipe.specs.Producer.{Sender}
use Rattle.ruled_pipe.specs.Pipe.{Shape, IsEndOf}
use Rattle.worker_parts.specs.Outlets.{AreFresh, senders}
use Rattle.worker_parts.specs.Outlet.{Offering}
use Rattle.run_ends.specs.Rows.{AreEndsOf}
use Rattle.run_pipes.specs.Handing.{AreSpared}
use Rattle.worker_parts.specs.Same.{AreSameEnds, IsSameEnd, IsSameWhere}

module _ {T : Type 0} where
  pub same_end : (s : Shape) (p : ℕ) (a b : Sender T) → IsSameEnd a b → IsEndOf s p a → IsEndOf s p b
  same_end s p a b same is = (same.0 ∙ is.0, same.1 ∙ is.1, same.2 ∙ is.2, same.3 ∙ is.3)

  same_where : (used : Bool) (s : Shape) (p : ℕ) (a b : Offering T) → IsSameWhere used a b → IsEndOf s p a.sender → IsEndOf s p b.sender
  same_where true s p a b same is = same_end s p a.sender b.sender same is
  same_where false s p a b same is = subst (λ (o : Offering T). IsEndOf s p o.sender) (sym same) is

  pub same_ends : (used : ℕ → Bool) (p : ℕ) (ss : List Shape) (xs ys : List (Offering T)) → AreSameEnds used xs ys → AreEndsOf p ss (senders xs) → AreEndsOf p ss (senders ys)
  same_ends used p [] [] [] same are = tt
  same_ends used p [] [] (y ∷ ys) same are = absurd same
  same_ends used p [] (x ∷ xs) ys same are = absurd are
  same_ends used p (s ∷ ss) [] ys same are = absurd are
  same_ends used p (s ∷ ss) (x ∷ xs) [] same are = absurd same
  same_ends used p (s ∷ ss) (x ∷ xs) (y ∷ ys) same are = (same_where (used 0) s p x y same.0 are.0, same_ends (λ j. used (suc j)) p ss xs ys same.1 are.1)

  none_offered : (used : Bool) (x y : Offering T) → IsSameWhere used x y → used ≡ false → x.sender.offers ≡ [] → y.sender.offers ≡ []
  none_offered true x y same off none = absurd cc
  none_offered false x y same off none = ap (λ (o : Offering T). o.sender.offers) same ∙ none

  pub spared : (used : ℕ → Bool) (xs ys : List (Offering T)) → AreSameEnds used xs ys → AreFresh xs → AreSpared used (senders ys)
  spared used [] [] same fresh j s at off = absurd cc
  spared used [] (y ∷ ys) same fresh j s at off = absurd same
  spared used (x ∷ xs) [] same fresh j s at off = absurd same
  spared used (x ∷ xs) (y ∷ ys) same fresh zero s at off =
      let is : y.sender ≡ s = cc in subst (λ (t : Sender T). t.offers ≡ []) is (none_offered (used 0) x y same.0 off fresh.1)
  spared used (x ∷ xs) (y ∷ ys) same fresh (suc j) s at off = spared (λ k. used (suc k)) xs ys same.1 fresh.3 j s at off

  pub ends_long : (p : ℕ) (ss : List Shape) (es : List (Sender T)) → AreEndsOf p ss es → length es ≡ length ss
  ends_long p [] [] are = refl
  ends_long p [] (e ∷ es) are = absurd are
  ends_long p (s ∷ ss) [] are = absurd are
  ends_long p (s ∷ ss) (e ∷ es) are = let r = ends_long p ss es are.1 in omega arith
