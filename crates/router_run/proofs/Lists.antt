-- Lists whose elements have a property each, by their numbers.
use Rattle.std.proofs.Common.{◌≡◌, ℕ, zero, suc, ◌+◌, List, [], ◌∷◌, ◌++◌, map, length, Some, slice_get, refl, ap, subst, arith}
use Rattle.order_laws.specs.Deeds.{Each}
use Rattle.worker_order.specs.Returned.{AllAt}
use Rattle.worker_parts.specs.Back.{AreBack}
use Rattle.run_pipes.specs.Rest.{IsRest}
use Rattle.run_workers.specs.Kits.{paired}

module _ {X Y : Type 0} where
  -- what came back, and what it was
  abbrev pub CameAs : (ℕ → X → Type 0) → (X → Y → Type 0) → ℕ → Y → Type 0
  CameAs P R n y = (x : X) × P n x × R x y

  all_came : (P : ℕ → X → Type 0) (R : X → Y → Type 0) (n : ℕ) (xs : List X) (ys : List Y) → AllAt P n xs → AreBack R xs ys → AllAt (CameAs P R) n ys × (length ys ≡ length xs)
  all_came P R n [] [] all back = (tt, refl)
  all_came P R n [] (y ∷ ys) all back = absurd back
  all_came P R n (x ∷ xs) [] all back = absurd back
  all_came P R n (x ∷ xs) (y ∷ ys) all back = let r = all_came P R (n + 1) xs ys all.1 back.1 in (((x, all.0, back.0), r.0), ap suc r.1)

  pub came : (P : ℕ → X → Type 0) (R : X → Y → Type 0) (total : ℕ) (xs : List X) (ys : List Y) → IsRest P 0 total xs → AreBack R xs ys → IsRest (CameAs P R) 0 total ys
  came P R total xs ys are back = let r = all_came P R 0 xs ys are.each back in record { each = r.0; count = let l = r.1 in let n = are.count in omega arith }

  -- what follows for a part of each
  pub all_map : (P : ℕ → X → Type 0) (Q : ℕ → Y → Type 0) (f : X → Y) → ((n : ℕ) (x : X) → P n x → Q n (f x)) → (n : ℕ) (xs : List X) → AllAt P n xs → AllAt Q n (map f xs)
  all_map P Q f go n [] all = tt
  all_map P Q f go n (x ∷ xs) all = (go n x all.0, all_map P Q f go (n + 1) xs all.1)

module _ {X : Type 0} where
  all_as : (P Q : ℕ → X → Type 0) → ((n : ℕ) (x : X) → P n x → Q n x) → (n : ℕ) (xs : List X) → AllAt P n xs → AllAt Q n xs
  all_as P Q go n [] all = tt
  all_as P Q go n (x ∷ xs) all = (go n x all.0, all_as P Q go (n + 1) xs all.1)

  pub rest_as : (P Q : ℕ → X → Type 0) → ((n : ℕ) (x : X) → P n x → Q n x) → (n total : ℕ) (xs : List X) → IsRest P n total xs → IsRest Q n total xs
  rest_as P Q go n total xs are = record { each = all_as P Q go n xs are.each; count = are.count }

  -- with what is known of each
  pub all_known : (P : ℕ → X → Type 0) (M : X → Type 0) (n : ℕ) (xs : List X) → AllAt P n xs → Each M xs → AllAt (λ m x. P m x × M x) n xs
  all_known P M n [] all known = tt
  all_known P M n (x ∷ xs) all known = ((all.0, known.0), all_known P M (n + 1) xs all.1 known.1)

  pub each_of : (P : ℕ → X → Type 0) (Q : X → Type 0) → ((n : ℕ) (x : X) → P n x → Q x) → (n : ℕ) (xs : List X) → AllAt P n xs → Each Q xs
  each_of P Q go n [] all = tt
  each_of P Q go n (x ∷ xs) all = (go n x all.0, each_of P Q go (n + 1) xs all.1)

  pub each_at : (Q : X → Type 0) (xs : List X) → Each Q xs → (i : ℕ) (x : X) → slice_get xs i ≡ Some x → Q x
  each_at Q [] all i x at = absurd cc
  each_at Q (y ∷ xs) all zero x at = let e : y ≡ x = cc in subst Q e all.0
  each_at Q (y ∷ xs) all (suc i) x at = each_at Q xs all.1 i x at

  pub all_join : (P : ℕ → X → Type 0) (n : ℕ) (xs ys : List X) → AllAt P n xs → AllAt P (n + length xs) ys → AllAt P n (xs ++ ys)
  all_join P n [] ys all rest = let e : n + 0 ≡ n = omega arith in subst (λ (k : ℕ). AllAt P k ys) e rest
  all_join P n (x ∷ xs) ys all rest = let e : n + suc (length xs) ≡ n + 1 + length xs = omega arith in (all.0, all_join P (n + 1) xs ys all.1 (subst (λ (k : ℕ). AllAt P k ys) e rest))

module _ {X Y : Type 0} where
  -- what stands at a place was made of what stands there
  pub found_at : (f : X → Y) (xs : List X) (i : ℕ) (y : Y) → slice_get (map f xs) i ≡ Some y → (x : X) × ((slice_get xs i ≡ Some x) × (f x ≡ y))
  found_at f [] i y at = absurd cc
  found_at f (x ∷ xs) zero y at = (x, (refl, cc))
  found_at f (x ∷ xs) (suc i) y at = found_at f xs i y at

module _ {X Y Z : Type 0} (make : X → Y → Z) where
  pub paired_long : (xs : List X) (ys : List Y) → length ys ≡ length xs → length (paired make xs ys) ≡ length xs
  paired_long [] ys same = refl
  paired_long (x ∷ xs) [] same = absurd (omega arith)
  paired_long (x ∷ xs) (y ∷ ys) same = let r = paired_long xs ys (omega arith) in omega arith

  all_paired : (P : ℕ → X → Type 0) (Q : ℕ → Z → Type 0) → ((n : ℕ) (x : X) (y : Y) → P n x → Q n (make x y)) → (n : ℕ) (xs : List X) (ys : List Y) → length ys ≡ length xs → AllAt P n xs → AllAt Q n (paired make xs ys)
  all_paired P Q go n [] ys same all = tt
  all_paired P Q go n (x ∷ xs) [] same all = absurd (omega arith)
  all_paired P Q go n (x ∷ xs) (y ∷ ys) same all = (go n x y all.0, all_paired P Q go (n + 1) xs ys (omega arith) all.1)

  pub rest_paired : (P : ℕ → X → Type 0) (Q : ℕ → Z → Type 0) → ((n : ℕ) (x : X) (y : Y) → P n x → Q n (make x y)) → (total : ℕ) (xs : List X) (ys : List Y) → length ys ≡ total → IsRest P 0 total xs → IsRest Q 0 total (paired make xs ys)
  rest_paired P Q go total xs ys same are =
      let long : length ys ≡ length xs = let n = are.count in omega arith in
      record { each = all_paired P Q go 0 xs ys long are.each; count = let l = paired_long xs ys long in let n = are.count in omega arith }
