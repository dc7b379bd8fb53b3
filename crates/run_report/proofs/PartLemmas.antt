-- Workers taken apart one by one: what was gathered grows at its end, what is left shrinks in front.
use Rattle.std.proofs.Common.{◌≡◌, ℕ, suc, ◌+◌, ◌≤◌, List, [], ◌∷◌, ◌++◌, map, length, refl, ◌∙◌, ap, arith, append_assoc, length-append}
use Rattle.std.proofs.lemmas.List.{length-map}

module _ {X : Type 0} where
  -- nothing is left once as many were taken as there were
  pub none_left : (k n m : ℕ) (xs : List X) → n ≤ k → n ≡ m → k + length xs ≡ m → xs ≡ []
  none_left k n m [] all same left = refl
  none_left k n m (x ∷ xs) all same left = absurd (omega arith)

  pub shorter : (k n : ℕ) (old new : List X) (x : X) → old ≡ x ∷ new → k + length old ≡ n → (k + 1) + length new ≡ n
  shorter k n old new x is e = let l = ap length is in omega arith

  -- one more, before those that come after it
  pub grown : (old mid new tail : List X) (x y : X) → mid ≡ old ++ x ∷ [] → x ≡ y → new ≡ mid ++ tail → new ≡ old ++ y ∷ tail
  grown old mid new tail x y is same e = e ∙ (ap (λ (zs : List X). zs ++ tail) (is ∙ ap (λ (z : X). old ++ z ∷ []) same) ∙ append_assoc old (y ∷ []) tail)

  pub room_left : (old new : List X) (x : X) (n c d : ℕ) → new ≡ old ++ x ∷ [] → d ≡ c → length old + suc n ≤ c → length new + n ≤ d
  room_left old new x n c d is same fits = let a = ap length is in let b = length-append old (x ∷ []) in omega arith

  -- after nothing, and after four kinds of workers, the third of them one alone
  pub from_none : (none all tail : List X) → none ≡ [] → all ≡ none ++ tail → all ≡ tail
  from_none none all tail is e = e ∙ ap (λ (zs : List X). zs ++ tail) is

  pub all_joined : (none first second third all xs ys zs : List X) (x : X) → none ≡ [] → first ≡ none ++ xs → second ≡ first ++ ys → third ≡ second ++ x ∷ [] → all ≡ third ++ zs → all ≡ xs ++ (ys ++ x ∷ zs)
  all_joined none first second third all xs ys zs x is a b e d =
      grown second third all zs x x e refl d
      ∙ (ap (λ (l : List X). l ++ x ∷ zs) b
      ∙ (append_assoc first ys (x ∷ zs)
      ∙ ap (λ (l : List X). l ++ (ys ++ x ∷ zs)) (from_none none first xs is a)))

module _ {X Y : Type 0} where
  pub longer : (f : X → Y) (old new : List Y) (xs : List X) → new ≡ old ++ map f xs → length new ≡ length old + length xs
  longer f old new xs e = let d = ap length e in let l = length-append old (map f xs) in let k = length-map xs f in omega arith
