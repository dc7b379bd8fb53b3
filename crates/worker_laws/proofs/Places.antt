-- Each packet of workers that have ended stands at one place.
use Rattle.std.proofs.Common.{◌≡◌, ◌⊎◌, inl, inr, ℕ, zero, ◌+◌, ◌<◌, ◌≤◌, Bool, true, false, eqb, ◌&&◌, cond, List, [], ◌∷◌, length, refl, sym, ◌∙◌, ap, arith}
use Rattle.std.proofs.lemmas.Bool.{cases_eq, cases_lt, ne_eqb, eq-eqb}
use Rattle.order_laws.specs.Kinds.{Kinds}
use Rattle.order_laws.specs.Item.{Arrival}
use Rattle.order_laws.specs.Rules.{Rules, IsLawful}
use Rattle.order_laws.specs.Counts.{total}
use Rattle.order_laws.specs.Settled.{Views, told, IsTold, AreNumbered}
use Rattle.order_laws.specs.Counted.{sum_to, SlowViews}
use Rattle.order_laws.proofs.Counted.{sum_below, sum_zero, sum_one}
use Rattle.worker_laws.specs.Forwards.{Handed}
use Rattle.worker_laws.specs.Answers.{to_back}
use Rattle.worker_laws.specs.Ended.{Ended}
use Rattle.worker_laws.specs.Weighed.{arrival_weight}
use Rattle.worker_laws.specs.Places.{only_of, StandsOnce, StandsEach}
use Rattle.worker_laws.proofs.Weighed.{through}
use Rattle.worker_laws.proofs.Settling.{place, joined, weighed}

module _ {K : Kinds} (a n : ℕ) where
  abbrev A : Arrival K → ℕ
  A = arrival_weight (only_of a n)

  other_number : (x : Arrival K) → (x.number ≡ n → ⊥) → A x ≡ 0
  other_number x ne = ap (λ (b : Bool). cond (eqb x.link a && b) 1 0) (ne_eqb x.number n ne) ∙ go (eqb x.link a)
    where
      go : (b : Bool) → cond (b && false) 1 0 ≡ zero
      go true = refl
      go false = refl

  this_one : (x : Arrival K) → x.link ≡ a → x.number ≡ n → A x ≡ 1
  this_one x e f = ap (λ (b : Bool). cond (b && eqb x.number n) 1 0) (eq-eqb x.link a e) ∙ ap (λ (b : Bool). cond b 1 0) (eq-eqb x.number n f)

  -- the packets of other links
  elsewhere : (p k : ℕ) (xs : List (Arrival K)) → AreNumbered p k xs → (p ≡ a → ⊥) → total A xs ≡ 0
  elsewhere p k [] num ne = refl
  elsewhere p k (x ∷ xs) num ne =
      let r = elsewhere p (k + 1) xs num.2 ne in
      let z : A x ≡ 0 = ap (λ (b : Bool). cond (b && eqb x.number n) 1 0) (ne_eqb x.link a (λ e. ne (sym num.0 ∙ e))) in
      omega arith

  later : (p k : ℕ) (xs : List (Arrival K)) → AreNumbered p k xs → n < k → total A xs ≡ 0
  later p k [] num lt = refl
  later p k (x ∷ xs) num lt =
      let r = later p (k + 1) xs num.2 (omega arith) in
      let z = other_number x (λ e. let m = num.1 in omega arith) in
      omega arith

  earlier : (p k : ℕ) (xs : List (Arrival K)) → AreNumbered p k xs → k + length xs ≤ n → total A xs ≡ 0
  earlier p k [] num le = refl
  earlier p k (x ∷ xs) num le =
      let r = earlier p (k + 1) xs num.2 (omega arith) in
      let z = other_number x (λ e. let m = num.1 in omega arith) in
      omega arith

  within : (k : ℕ) (xs : List (Arrival K)) → AreNumbered a k xs → k ≤ n → n < k + length xs → total A xs ≡ 1
  within k [] num le lt = absurd (omega arith)
  within k (x ∷ xs) num le lt = go (cases_eq k n) (λ from to. within (k + 1) xs num.2 from to)
    where
      go : (k ≡ n) ⊎ (k ≡ n → ⊥) → (k + 1 ≤ n → n < k + 1 + length xs → total A xs ≡ 1) → A x + total A xs ≡ 1
      go (inl e) rest = let one = this_one x num.0 (num.1 ∙ e) in let r = later a (k + 1) xs num.2 (omega arith) in omega arith
      go (inr ne) rest = let z = other_number x (λ e. ne (sym num.1 ∙ e)) in let r = rest (omega arith) (omega arith) in omega arith

  module _ (R : Rules K) (v : Views K) (s : SlowViews K) (went : ℕ → List (Handed K)) (closed : ℕ → Bool) (lawful : IsLawful R (IsTold v)) (e : Ended R v s went closed) where
    here : (a < R.links) → sum_to R.links (λ p. total A (told v p)) ≡ total A (told v a)
    here lt =
        let same = sum_below R.links (λ p. total A (told v p)) (λ p. cond (eqb a p) (total A (told v a)) 0) (λ p below. step p below (cases_eq a p)) in
        same ∙ sum_one R.links a (total A (told v a)) lt
      where
        step : (p : ℕ) → p < R.links → (a ≡ p) ⊎ (a ≡ p → ⊥) → total A (told v p) ≡ cond (eqb a p) (total A (told v a)) 0
        step p below (inl q) = ap (λ (k : ℕ). total A (told v k)) (sym q) ∙ sym (ap (λ (b : Bool). cond b (total A (told v a)) 0) (eq-eqb a p q))
        step p below (inr q) = elsewhere p 1 (told v p) (e.settled.receivers p below).numbered (λ z. q (sym z)) ∙ sym (ap (λ (b : Bool). cond b (total A (told v a)) 0) (ne_eqb a p q))

    once : (a < R.links) → 1 ≤ n → n ≤ length (told v a) → sum_to R.links (λ p. total A (told v p)) ≡ 1
    once lt from to = here lt ∙ within 1 (told v a) (e.settled.receivers a lt).numbered from (omega arith)

    never : ((a < R.links) × (1 ≤ n) × (n ≤ length (told v a)) → ⊥) → sum_to R.links (λ p. total A (told v p)) ≡ 0
    never not_told = go (cases_lt a R.links)
      where
        go : (a < R.links) ⊎ (R.links ≤ a) → sum_to R.links (λ p. total A (told v p)) ≡ 0
        go (inr ge) = sum_below R.links (λ p. total A (told v p)) (λ p. 0) (λ p below. elsewhere p 1 (told v p) (e.settled.receivers p below).numbered (λ q. omega arith)) ∙ sum_zero R.links
        go (inl lt) = here lt ∙ by (cases_lt n 1) (cases_lt (length (told v a)) n)
          where
            by : (n < 1) ⊎ (1 ≤ n) → (length (told v a) < n) ⊎ (n ≤ length (told v a)) → total A (told v a) ≡ 0
            by (inl low) b = later a 1 (told v a) (e.settled.receivers a lt).numbered low
            by (inr from) (inl high) = earlier a 1 (told v a) (e.settled.receivers a lt).numbered (omega arith)
            by (inr from) (inr to) = absurd (not_told (lt, from, to))

    at_most : sum_to R.links (λ p. total A (told v p)) ≤ 1
    at_most = go (cases_lt a R.links) (cases_lt n 1) (cases_lt (length (told v a)) n)
      where
        go : (a < R.links) ⊎ (R.links ≤ a) → (n < 1) ⊎ (1 ≤ n) → (length (told v a) < n) ⊎ (n ≤ length (told v a)) → sum_to R.links (λ p. total A (told v p)) ≤ 1
        go (inr ge) b c = let z = never (λ t. let q = t.0 in omega arith) in omega arith
        go (inl lt) (inl low) c = let z = never (λ t. let q = t.1 in omega arith) in omega arith
        go (inl lt) (inr from) (inl high) = let z = never (λ t. let q = t.2 in omega arith) in omega arith
        go (inl lt) (inr from) (inr to) = let z = once lt from to in omega arith

    pub stands_once : StandsOnce R v s a n
    stands_once =
        let all = place R v s went closed lawful e (only_of a n) in
        let t = through R v s (to_back R) (joined R v s went closed lawful e) (only_of a n) (weighed R v s went closed lawful e (only_of a n)) in
        record {
          place = λ lt from to. sym all ∙ once lt from to;
          none = λ not_told. sym all ∙ never not_told;
          processors = let b = t.0 in let c = at_most in omega arith;
          slow = let b = t.1 in let c = at_most in omega arith;
          links = let b = t.2 in let c = at_most in omega arith;
        }

pub stands_each : (K : Kinds) → StandsEach K
stands_each K R v s went closed lawful e a n = stands_once {K = K} a n R v s went closed lawful e
