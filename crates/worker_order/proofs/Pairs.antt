-- Lists side by side.
use Rattle.std.proofs.Common.{◌≡◌, ℕ, zero, suc, ◌+◌, List, [], ◌∷◌, map, length, Some, slice_get, refl, ap, subst, ◌∙◌, arith}
use Rattle.worker_order.specs.Returned.{AllAt, Pairs}

some_same : {X : Type 0} (x y : X) → Some x ≡ Some y → x ≡ y
some_same x y e = cc

module _ {X Y : Type 0} (Q : ℕ → X → Y → Type 0) where
  -- one of the left for each of the right
  pub choose : (P : ℕ → Y → Type 0) → ((n : ℕ) (y : Y) → P n y → (x : X) × Q n x y) → (n : ℕ) (ys : List Y) → AllAt P n ys → (xs : List X) × Pairs Q n xs ys
  choose P f n [] all = ([], tt)
  choose P f n (y ∷ ys) all = let h = f n y all.0 in let t = choose P f (n + 1) ys all.1 in (h.0 ∷ t.0, (h.1, t.1))

  pub pairs_long : (n : ℕ) (xs : List X) (ys : List Y) → Pairs Q n xs ys → length xs ≡ length ys
  pairs_long n [] [] p = refl
  pairs_long n [] (y ∷ ys) p = absurd p
  pairs_long n (x ∷ xs) [] p = absurd p
  pairs_long n (x ∷ xs) (y ∷ ys) p = let r = pairs_long (n + 1) xs ys p.1 in omega arith

  left_from : (n : ℕ) (xs : List X) (ys : List Y) → Pairs Q n xs ys → (k : ℕ) (x : X) → slice_get xs k ≡ Some x → (y : Y) × ((slice_get ys k ≡ Some y) × Q (n + k) x y)
  left_from n [] ys p k x at = absurd cc
  left_from n (z ∷ xs) [] p k x at = absurd p
  left_from n (z ∷ xs) (y ∷ ys) p zero x at =
      let m : n ≡ n + 0 = omega arith in (y, (refl, subst (λ (i : ℕ). Q i x y) m (subst (λ (t : X). Q n t y) (some_same z x at) p.0)))
  left_from n (z ∷ xs) (y ∷ ys) p (suc k) x at =
      let r = left_from (n + 1) xs ys p.1 k x at in
      let m : n + 1 + k ≡ n + suc k = omega arith in
      (r.0, (r.1.0, subst (λ (i : ℕ). Q i x r.0) m r.1.1))

  right_from : (n : ℕ) (xs : List X) (ys : List Y) → Pairs Q n xs ys → (k : ℕ) (y : Y) → slice_get ys k ≡ Some y → (x : X) × ((slice_get xs k ≡ Some x) × Q (n + k) x y)
  right_from n xs [] p k y at = absurd cc
  right_from n [] (z ∷ ys) p k y at = absurd p
  right_from n (x ∷ xs) (z ∷ ys) p zero y at =
      let m : n ≡ n + 0 = omega arith in (x, (refl, subst (λ (i : ℕ). Q i x y) m (subst (λ (t : Y). Q n x t) (some_same z y at) p.0)))
  right_from n (x ∷ xs) (z ∷ ys) p (suc k) y at =
      let r = right_from (n + 1) xs ys p.1 k y at in
      let m : n + 1 + k ≡ n + suc k = omega arith in
      (r.0, (r.1.0, subst (λ (i : ℕ). Q i r.0 y) m r.1.1))

  pub left : (xs : List X) (ys : List Y) → Pairs Q 0 xs ys → (k : ℕ) (x : X) → slice_get xs k ≡ Some x → (y : Y) × ((slice_get ys k ≡ Some y) × Q k x y)
  left xs ys p k x at = let r = left_from 0 xs ys p k x at in let m : 0 + k ≡ k = omega arith in (r.0, (r.1.0, subst (λ (i : ℕ). Q i x r.0) m r.1.1))

  pub right : (xs : List X) (ys : List Y) → Pairs Q 0 xs ys → (k : ℕ) (y : Y) → slice_get ys k ≡ Some y → (x : X) × ((slice_get xs k ≡ Some x) × Q k x y)
  right xs ys p k y at = let r = right_from 0 xs ys p k y at in let m : 0 + k ≡ k = omega arith in (r.0, (r.1.0, subst (λ (i : ℕ). Q i r.0 y) m r.1.1))

  pub pairs_map : {Z : Type 0} (f : X → Z) (g : Y → Z) → ((n : ℕ) (x : X) (y : Y) → Q n x y → f x ≡ g y) → (n : ℕ) (xs : List X) (ys : List Y) → Pairs Q n xs ys → map f xs ≡ map g ys
  pairs_map f g same n [] [] p = refl
  pairs_map f g same n [] (y ∷ ys) p = absurd p
  pairs_map f g same n (x ∷ xs) [] p = absurd p
  pairs_map {Z = Z} f g same n (x ∷ xs) (y ∷ ys) p = ap (λ (z : Z). z ∷ map f xs) (same n x y p.0) ∙ ap (λ (zs : List Z). g y ∷ zs) (pairs_map f g same (n + 1) xs ys p.1)
