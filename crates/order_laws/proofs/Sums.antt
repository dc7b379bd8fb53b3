-- Sums over lists.
use Rattle.std.proofs.Common.{◌≡◌, ◌≢◌, ◌⊎◌, inl, inr, ℕ, Bool, true, false, ◌+◌, ◌<◌, ◌≤◌, zero, suc, cond, List, [], ◌∷◌, ◌++◌, length, take, drop, get_or, set, refl, ap, arith}
use Rattle.std.specs.List.{filter}
use Rattle.std.proofs.lemmas.List.{drop_more, set_past}
use Rattle.std.proofs.lemmas.Bool.{cases_eq, cases_lt}
use Rattle.order_laws.specs.Counts.{total, count}

-- a sum over a list, and one change of the list
pub total-set : {X : Type 0} (f : X → ℕ) (xs : List X) (j : ℕ) (x d : X) → j < length xs → total f (set xs j x) + f (get_or xs j d) ≡ total f xs + f x
total-set f [] j x d h = absurd (omega arith)
total-set f (y ∷ ys) zero x d h = omega arith
total-set f (y ∷ ys) (suc j) x d h = let t = total-set f ys j x d (omega arith) in omega arith

pub total-append : {X : Type 0} (f : X → ℕ) (xs ys : List X) → total f (xs ++ ys) ≡ total f xs + total f ys
total-append f [] ys = omega arith
total-append f (x ∷ xs) ys = let t = total-append f xs ys in omega arith

pub total-drop : {X : Type 0} (f : X → ℕ) (d : X) (k : ℕ) (xs : List X) → ((i : ℕ) → i < k → f (get_or xs i d) ≡ 0) → total f (drop k xs) ≡ total f xs
total-drop f d zero xs h = refl
total-drop f d (suc k) [] h = refl
total-drop f d (suc k) (x ∷ xs) h = let t = total-drop f d k xs (λ i m. h (suc i) (omega arith)) in let z = h 0 (omega arith) in omega arith

pub total-take : {X : Type 0} (f : X → ℕ) (k : ℕ) (xs : List X) → total f xs ≡ total f (take k xs) + total f (drop k xs)
total-take f zero xs = omega arith
total-take f (suc k) [] = refl
total-take f (suc k) (x ∷ xs) = let t = total-take f k xs in omega arith

pub total-agree : {X : Type 0} (f g : X → ℕ) (xs : List X) → ((x : X) → f x ≡ g x) → total f xs ≡ total g xs
total-agree f g [] h = refl
total-agree f g (x ∷ xs) h = let t = total-agree f g xs h in let e = h x in omega arith

pub total-plus : {X : Type 0} (f g : X → ℕ) (xs : List X) → total (λ x. f x + g x) xs ≡ total f xs + total g xs
total-plus f g [] = omega arith
total-plus f g (x ∷ xs) = let t = total-plus f g xs in omega arith

-- a sum over the numbers below k
abbrev pub below : (ℕ → ℕ) → ℕ → ℕ
below f zero = 0
below f (suc k) = below f k + f k

pub below-agree : (f g : ℕ → ℕ) (k : ℕ) → ((i : ℕ) → i < k → f i ≡ g i) → below f k ≡ below g k
below-agree f g zero h = refl
below-agree f g (suc k) h = let t = below-agree f g k (λ i m. h i (omega arith)) in let e = h k (omega arith) in omega arith

pub below-plus : (f g : ℕ → ℕ) (k : ℕ) → below (λ i. f i + g i) k ≡ below f k + below g k
below-plus f g zero = omega arith
below-plus f g (suc k) = let t = below-plus f g k in omega arith

pub below-none : (f : ℕ → ℕ) (k : ℕ) → ((i : ℕ) → i < k → f i ≡ 0) → below f k ≡ 0
below-none f zero h = refl
below-none f (suc k) h = let t = below-none f k (λ i m. h i (omega arith)) in let e = h k (omega arith) in omega arith

pub below-only : (f : ℕ → ℕ) (k a : ℕ) → a < k → ((i : ℕ) → i < k → i ≢ a → f i ≡ 0) → below f k ≡ f a
below-only f zero a i h = absurd (omega arith)
below-only f (suc k) a i h = go (cases_eq k a) (below-only f k a)
  where
    go : (k ≡ a) ⊎ (k ≡ a → ⊥) → (a < k → ((i : ℕ) → i < k → i ≢ a → f i ≡ 0) → below f k ≡ f a) → below f k + f k ≡ f a
    go (inl e) rest = let n = below-none f k (λ i m. h i (omega arith) (omega arith)) in let g = ap f e in omega arith
    go (inr n) rest = let t = rest (omega arith) (λ i m ne. h i (omega arith) ne) in let z = h k (omega arith) n in omega arith

pub total-below : {X : Type 0} (f : X → ℕ) (d : X) (xs : List X) (k : ℕ) → k ≤ length xs → total f xs ≡ below (λ i. f (get_or xs i d)) k + total f (drop k xs)
total-below f d xs zero h = omega arith
total-below f d xs (suc k) h =
    let t = total-below f d xs k (omega arith) in
    let e = ap (total f) (drop_more xs k d (omega arith)) in
    let n : k + 1 ≡ suc k = omega arith in
    let g = ap (λ (m : ℕ). total f (drop m xs)) n in
    omega arith

pub total-nothing : {X : Type 0} (f : X → ℕ) (d : X) (xs : List X) → ((i : ℕ) → f (get_or xs i d) ≡ 0) → total f xs ≡ 0
total-nothing f d [] z = refl
total-nothing f d (x ∷ xs) z = let t = total-nothing f d xs (λ i. z (suc i)) in let y = z 0 in omega arith

-- one of the parts is at most the whole
pub total-part : {X : Type 0} (f : X → ℕ) (d : X) (xs : List X) (j : ℕ) → f d ≡ 0 → f (get_or xs j d) ≤ total f xs
total-part f d [] j z = omega arith
total-part f d (x ∷ xs) zero z = omega arith
total-part f d (x ∷ xs) (suc j) z = let t = total-part f d xs j z in omega arith

pub count-total : {X : Type 0} (p : X → Bool) (xs : List X) → count p xs ≡ total (λ x. cond (p x) 1 0) xs
count-total p [] = refl
count-total p (x ∷ xs) = go (p x) (count-total p xs)
  where
    go : (b : Bool) → count p xs ≡ total (λ x. cond (p x) 1 0) xs → length (cond b (x ∷ filter p xs) (filter p xs)) ≡ cond b 1 0 + total (λ x. cond (p x) 1 0) xs
    go true h = omega arith
    go false h = omega arith

pub total-le : {X : Type 0} (f g : X → ℕ) (d : X) (xs : List X) → ((i : ℕ) → f (get_or xs i d) ≤ g (get_or xs i d)) → total f xs ≤ total g xs
total-le f g d [] h = omega arith
total-le f g d (x ∷ xs) h = let t = total-le f g d xs (λ i. h (suc i)) in let e = h 0 in omega arith

-- two of the parts together too
pub total-two : {X : Type 0} (f : X → ℕ) (d : X) (xs : List X) (j k : ℕ) → f d ≡ 0 → j ≢ k → f (get_or xs j d) + f (get_or xs k d) ≤ total f xs
total-two f d [] j k z n = omega arith
total-two f d (x ∷ xs) zero zero z n = absurd (n refl)
total-two f d (x ∷ xs) zero (suc k) z n = let t = total-part f d xs k z in omega arith
total-two f d (x ∷ xs) (suc j) zero z n = let t = total-part f d xs j z in omega arith
total-two f d (x ∷ xs) (suc j) (suc k) z n = let t = total-two f d xs j k z (λ e. n (ap (λ (i : ℕ). suc i) e)) in omega arith

-- what is put in place of one is as much
pub total-set-same : {X : Type 0} (f : X → ℕ) (xs : List X) (j : ℕ) (x d : X) → f x ≡ f (get_or xs j d) → total f (set xs j x) ≡ total f xs
total-set-same f xs j x d e = go (cases_lt j (length xs))
  where
    go : (j < length xs) ⊎ (length xs ≤ j) → total f (set xs j x) ≡ total f xs
    go (inl i) = let t = total-set f xs j x d i in omega arith
    go (inr i) = ap (total f) (set_past xs j x i)
