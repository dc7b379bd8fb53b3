-- Lists whose elements have a property each, taken from the front and grown at the end.
use Rattle.std.proofs.Common.{◌≡◌, ◌∙◌, ℕ, suc, ◌+◌, List, [], ◌∷◌, ◌++◌, length, ap, subst, sym, arith, length-append}
use Rattle.worker_order.specs.Returned.{AllAt}
use Rattle.run_pipes.specs.Rest.{IsRest}

module _ {X : Type 0} where
  pub all_more : (P : ℕ → X → Type 0) (n : ℕ) (xs : List X) (x : X) → AllAt P n xs → P (n + length xs) x → AllAt P n (xs ++ x ∷ [])
  all_more P n [] x all p = let e : n + 0 ≡ n = omega arith in (subst (λ (k : ℕ). P k x) e p, tt)
  all_more P n (y ∷ xs) x all p = let e : n + suc (length xs) ≡ (n + 1) + length xs = omega arith in (all.0, all_more P (n + 1) xs x all.1 (subst (λ (k : ℕ). P k x) e p))

  -- the next one, and those after it
  pub all_next : (P : ℕ → X → Type 0) (n : ℕ) (old new : List X) (x : X) → old ≡ x ∷ new → AllAt P n old → P n x × AllAt P (n + 1) new
  all_next P n old new x is all = let r = subst (λ (xs : List X). AllAt P n xs) is all in (r.0, r.1)

  pub rest_first : (P : ℕ → X → Type 0) (n total : ℕ) (old new : List X) (x : X) → old ≡ x ∷ new → IsRest P n total old → P n x
  rest_first P n total old new x is r = (all_next P n old new x is r.each).0

  pub rest_next : (P : ℕ → X → Type 0) (n total : ℕ) (old new : List X) (x : X) → old ≡ x ∷ new → IsRest P n total old → IsRest P (n + 1) total new
  rest_next P n total old new x is r = record { each = (all_next P n old new x is r.each).1; count = let c = r.count in let l = ap length is in omega arith }

  pub all_none : (P : ℕ → X → Type 0) (n : ℕ) (xs : List X) → xs ≡ [] → AllAt P n xs
  all_none P n xs none = subst (λ (ys : List X). AllAt P n ys) (sym none) tt

  -- one more after them
  pub all_pushed : (P : ℕ → X → Type 0) (i : ℕ) (xs ys : List X) (x : X) → ys ≡ xs ++ x ∷ [] → AllAt P 0 xs → length xs ≡ i → P i x → AllAt P 0 ys
  all_pushed P i xs ys x is all long p =
      let e : i ≡ 0 + length xs = omega arith in
      subst (λ (zs : List X). AllAt P 0 zs) (sym is) (all_more P 0 xs x all (subst (λ (k : ℕ). P k x) e p))

  pub pushed_long : (i : ℕ) (xs ys : List X) (x : X) → ys ≡ xs ++ x ∷ [] → length xs ≡ i → length ys ≡ i + 1
  pushed_long i xs ys x is long = let l = ap length is in let a = length-append xs (x ∷ []) in omega arith

  pub all_made : (P : ℕ → X → Type 0) (k n : ℕ) (xs : List X) → k ≡ n → length xs ≡ k → AllAt P 0 xs → IsRest P 0 n xs
  all_made P k n xs same long all = record { each = all; count = let e = long ∙ same in omega arith }
