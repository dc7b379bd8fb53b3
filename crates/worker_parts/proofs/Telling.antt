-- What a source over a list tells, one answer more.
use Rattle.std.proofs.Common.{◌≡◌, ◌⊎◌, inl, inr, ℕ, zero, suc, ◌+◌, ◌<◌, ◌≤◌, List, [], ◌∷◌, ◌++◌, map, length, take, get_or, Some, refl, sym, ap, ◌∙◌, arith, append-nil}
use Rattle.worker_laws.specs.Forwards.{AddsTo}
use Rattle.worker_order.specs.Heard.{Heard}
use Rattle.worker_parts.specs.ListSource.{heard_of, gone}
use Rattle.worker_parts.specs.declared.list_source.Next.{Next}

take_next : (xs : List Next) (k : ℕ) (d : Next) → k < length xs → map heard_of (take (suc k) xs) ≡ map heard_of (take k xs) ++ heard_of (get_or xs k d) ∷ []
take_next [] k d lt = absurd (omega arith)
take_next (x ∷ xs) zero d lt = refl
take_next (x ∷ xs) (suc k) d lt = ap (λ ys. heard_of x ∷ ys) (take_next xs k d (omega arith))

some_is : (x y : List Heard) → Some x ≡ Some y → x ≡ y
some_is x y e = cc

pub told_more : (xs : List Next) (k ends : ℕ) (x : Next) → k < length xs → (1 ≤ ends → k ≡ length xs) → x ≡ get_or xs k x → AddsTo (gone k ends xs) (heard_of x) (gone (k + 1) ends xs)
told_more xs k zero x lt unended at =
    let one : k + 1 ≡ suc k = omega arith in
    λ after e. (map heard_of (take k xs) ++ [], refl, sym (some_is (map heard_of (take (k + 1) xs) ++ []) after e) ∙ append-nil (map heard_of (take (k + 1) xs)) ∙ ap (λ n. map heard_of (take n xs)) one ∙ take_next xs k x lt ∙ ap (λ (z : Next). map heard_of (take k xs) ++ heard_of z ∷ []) (sym at) ∙ ap (λ (ys : List Heard). ys ++ heard_of x ∷ []) (sym (append-nil (map heard_of (take k xs)))))
told_more xs k (suc ends) x lt unended at = absurd (let e = unended (omega arith) in omega arith)

take_front : (n : ℕ) (xs ys : List ℕ) → n ≡ length xs → take n (xs ++ ys) ≡ xs
take_front zero [] ys e = refl
take_front zero (x ∷ xs) ys e = absurd (omega arith)
take_front (suc n) [] ys e = absurd (omega arith)
take_front (suc n) (x ∷ xs) ys e = ap (λ zs. x ∷ zs) (take_front n xs ys (omega arith))

take_all : (n m : ℕ) (xs : List ℕ) → n ≤ m → length xs ≤ n → take n xs ≡ take m xs
take_all zero zero xs le short = refl
take_all zero (suc m) [] le short = refl
take_all zero (suc m) (x ∷ xs) le short = absurd (omega arith)
take_all (suc n) zero xs le short = absurd (omega arith)
take_all (suc n) (suc m) [] le short = refl
take_all (suc n) (suc m) (x ∷ xs) le short = ap (λ ys. x ∷ ys) (take_all n m xs (omega arith) (omega arith))

-- what stands at the front of a buffer is as much of a datagram as the buffer holds
pub cut_front : (n m : ℕ) (xs front rest : List ℕ) → n ≤ m → (length xs ≤ n) ⊎ (n ≡ m) → n ≡ length front → front ≡ take n xs → take n (front ++ rest) ≡ take m xs
cut_front n m xs front rest le (inl short) long is = take_front n front rest long ∙ is ∙ take_all n m xs le short
cut_front n m xs front rest le (inr e) long is = take_front n front rest long ∙ is ∙ ap (λ k. take k xs) e
