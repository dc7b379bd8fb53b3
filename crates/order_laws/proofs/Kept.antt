-- What was kept is what was to leave without the numbers that were lost; two such laws, one after the other.
use Rattle.std.proofs.Common.{◌≡◌, ℕ, Bool, true, false, not, eqb, ◌||◌, ◌&&◌, cond, List, [], ◌∷◌, ◌++◌, refl, sym, ◌∙◌, ap, subst, arith}
use Rattle.std.specs.List.{filter, flat_map}
use Rattle.std.proofs.lemmas.List.Elements.{filter_agree}
use Rattle.std.proofs.lemmas.List.Folds.{list_any-append}
use Rattle.order_laws.specs.Kinds.{Kinds}
use Rattle.order_laws.specs.Expected.{Departure}
use Rattle.order_laws.specs.Deeds.{Each}
use Rattle.order_laws.specs.Settled.{numbers, has_number, without}

pub or_left : (a b : Bool) → (a || b) ≡ false → a ≡ false
or_left true b e = e
or_left false b e = refl

pub or_right : (a b : Bool) → (a || b) ≡ false → b ≡ false
or_right true b e = absurd cc
or_right false b e = e

pub or_none : (a b : Bool) → a ≡ false → b ≡ false → (a || b) ≡ false
or_none a b e f = rw (e, f) refl

-- equality of numbers is symmetric
pub eqb_sym : (m n : ℕ) → eqb m n ≡ eqb n m
eqb_sym m n = grind (arith)

pub has-append : (n : ℕ) (xs ys : List ℕ) → has_number n (xs ++ ys) ≡ (has_number n xs || has_number n ys)
has-append n xs ys = list_any-append (λ m. eqb m n) xs ys

swap : (a b c d : Bool) → ((a || b) || (c || d)) ≡ ((a || c) || (b || d))
swap true b c d = refl
swap false true true d = refl
swap false true false d = refl
swap false false c d = refl

lost_step : (m : ℕ) (b : Bool) (n : ℕ) (ks ns : List ℕ) → (has_number m ns ≡ false → has_number m ks ≡ false) → (eqb n m || has_number m ns) ≡ false → has_number m (cond b ks (n ∷ ks)) ≡ false
lost_step m true n ks ns h e = h (or_right (eqb n m) (has_number m ns) e)
lost_step m false n ks ns h e = or_none (eqb n m) (has_number m ks) (or_left (eqb n m) (has_number m ns) e) (h (or_right (eqb n m) (has_number m ns) e))

module _ {D : Type 0} where
  -- numbers lost in two ways
  pub two_ways : (m : ℕ) (f g : D → List ℕ) (log : List D) → has_number m (flat_map (λ d. f d ++ g d) log) ≡ has_number m (flat_map f log ++ flat_map g log)
  two_ways m f g [] = refl
  two_ways m f g (d ∷ log) =
      let r = two_ways m f g log ∙ has-append m (flat_map f log) (flat_map g log) in
      let A : has_number m (flat_map (λ d. f d ++ g d) (d ∷ log)) ≡ ((has_number m (f d) || has_number m (g d)) || (has_number m (flat_map f log) || has_number m (flat_map g log))) =
      rw (has-append m (f d ++ g d) (flat_map (λ d. f d ++ g d) log), has-append m (f d) (g d), r) refl in
      let B : has_number m (flat_map f (d ∷ log) ++ flat_map g (d ∷ log)) ≡ ((has_number m (f d) || has_number m (flat_map f log)) || (has_number m (g d) || has_number m (flat_map g log))) =
      rw (has-append m (f d ++ flat_map f log) (g d ++ flat_map g log), has-append m (f d) (flat_map f log), has-append m (g d) (flat_map g log)) refl in
      A ∙ swap (has_number m (f d)) (has_number m (g d)) (has_number m (flat_map f log)) (has_number m (flat_map g log)) ∙ sym B

-- distinct numbers
abbrev pub Distinct : List ℕ → Type 0
Distinct [] = Unit {0}
Distinct (n ∷ ns) = (has_number n ns ≡ false) × Distinct ns

-- a packet that was to leave, and whether it was kept
pub record Tag (K : Kinds) : Type 0 where
  pub left : Departure K
  pub kept : Bool

module _ {K : Kinds} where
  abbrev pub lefts : List (Tag K) → List (Departure K)
  lefts [] = []
  lefts (t ∷ ts) = t.left ∷ lefts ts

  abbrev pub kept : List (Tag K) → List (Departure K)
  kept [] = []
  kept (t ∷ ts) = cond t.kept (t.left ∷ kept ts) (kept ts)

  abbrev pub lost : List (Tag K) → List ℕ
  lost [] = []
  lost (t ∷ ts) = cond t.kept (lost ts) (t.left.number ∷ lost ts)

  -- one more dropped number, which is not there
  pub without_without : (n : ℕ) (D : List ℕ) (E : List (Departure K)) → has_number n (numbers E) ≡ false → without (n ∷ D) E ≡ without D E
  without_without n D [] h = refl
  without_without n D (x ∷ E) h =
      let apart : eqb n x.number ≡ false = eqb_sym n x.number ∙ or_left (eqb x.number n) (has_number n (numbers E)) h in
      let rest : without (n ∷ D) E ≡ without D E = without_without n D E (or_right (eqb x.number n) (has_number n (numbers E)) h) in
      ap (λ (b : Bool). cond (not (b || has_number x.number D)) (x ∷ without (n ∷ D) E) (without (n ∷ D) E)) apart
      ∙ ap (λ (ys : List (Departure K)). cond (not (has_number x.number D)) (x ∷ ys) ys) rest

  pub without_same : (D D' : List ℕ) (E : List (Departure K)) → ((m : ℕ) → has_number m D ≡ has_number m D') → without D E ≡ without D' E
  without_same D D' E h = filter_agree _ _ (λ x. ap not (h x.number)) E

  -- a number that is not there was not lost
  pub lost_there : (m : ℕ) (ts : List (Tag K)) → has_number m (numbers (lefts ts)) ≡ false → has_number m (lost ts) ≡ false
  lost_there m [] h = refl
  lost_there m (t ∷ ts) h = lost_step m t.kept t.left.number (lost ts) (numbers (lefts ts)) (lost_there m ts) h

  kept_step : (x : Departure K) (b : Bool) (ks : List (Departure K)) (ns : List ℕ) (E : List (Departure K)) → ks ≡ without ns E → has_number x.number (numbers E) ≡ false → has_number x.number ns ≡ false
      → cond b (x ∷ ks) ks ≡ without (cond b ns (x.number ∷ ns)) (x ∷ E)
  kept_step x true ks ns E is apart there =
      ap (λ (ys : List (Departure K)). x ∷ ys) is ∙ sym (ap (λ (b : Bool). cond (not b) (x ∷ without ns E) (without ns E)) there)
  kept_step x false ks ns E is apart there =
      let self : eqb x.number x.number ≡ true = grind (arith) in
      is ∙ sym (without_without x.number ns E apart)
      ∙ sym (ap (λ (b : Bool). cond (not (b || has_number x.number ns)) (x ∷ without (x.number ∷ ns) E) (without (x.number ∷ ns) E)) self)

  -- what was kept is all that was to leave, without the numbers that were lost
  pub kept_is : (ts : List (Tag K)) → Distinct (numbers (lefts ts)) → kept ts ≡ without (lost ts) (lefts ts)
  kept_is [] d = refl
  kept_is (t ∷ ts) d = kept_step t.left t.kept (kept ts) (lost ts) (lefts ts) (kept_is ts d.1) d.0 (lost_there t.left.number ts d.0)

  pub filter_twice : (p q : Departure K → Bool) (xs : List (Departure K)) → filter p (filter q xs) ≡ filter (λ x. q x && p x) xs
  filter_twice p q [] = refl
  filter_twice p q (x ∷ xs) = go (q x) (filter q xs) (filter (λ x. q x && p x) xs) (filter_twice p q xs)
    where
      go : (b : Bool) (m n : List (Departure K)) → filter p m ≡ n → filter p (cond b (x ∷ m) m) ≡ cond (b && p x) (x ∷ n) n
      go true m n h = ap (λ (ys : List (Departure K)). cond (p x) (x ∷ ys) ys) h
      go false m n h = h

  -- two laws, one after the other
  pub without-append : (D D' : List ℕ) (E : List (Departure K)) → without (D ++ D') E ≡ without D' (without D E)
  without-append D D' E =
      filter_agree _ _ (λ x. ap not (list_any-append (λ m. eqb m x.number) D D') ∙ not_both (has_number x.number D) (has_number x.number D')) E
      ∙ sym (filter_twice (λ x. not (has_number x.number D')) (λ x. not (has_number x.number D)) E)
    where
      not_both : (x y : Bool) → not (x || y) ≡ (not x && not y)
      not_both true y = refl
      not_both false y = refl

  without_there : (m : ℕ) (D : List ℕ) (E : List (Departure K)) → has_number m (numbers E) ≡ false → has_number m (numbers (without D E)) ≡ false
  without_there m D [] h = refl
  without_there m D (x ∷ E) h = go (not (has_number x.number D)) (without_there m D E (or_right (eqb x.number m) (has_number m (numbers E)) h))
    where
      go : (b : Bool) → has_number m (numbers (without D E)) ≡ false → has_number m (numbers (cond b (x ∷ without D E) (without D E))) ≡ false
      go true r = or_none (eqb x.number m) (has_number m (numbers (without D E))) (or_left (eqb x.number m) (has_number m (numbers E)) h) r
      go false r = r

  pub without_distinct : (D : List ℕ) (E : List (Departure K)) → Distinct (numbers E) → Distinct (numbers (without D E))
  without_distinct D [] d = tt
  without_distinct D (x ∷ E) d = go (not (has_number x.number D)) (without_distinct D E d.1)
    where
      go : (b : Bool) → Distinct (numbers (without D E)) → Distinct (numbers (cond b (x ∷ without D E) (without D E)))
      go true r = (without_there x.number D E d.0, r)
      go false r = r

  -- lists of tags joined
  pub lefts-append : (s t : List (Tag K)) → lefts (s ++ t) ≡ lefts s ++ lefts t
  lefts-append [] t = refl
  lefts-append (x ∷ s) t = ap (λ (ys : List (Departure K)). x.left ∷ ys) (lefts-append s t)

  pub numbers-append : (s t : List (Departure K)) → numbers (s ++ t) ≡ numbers s ++ numbers t
  numbers-append [] t = refl
  numbers-append (x ∷ s) t = ap (λ (ys : List ℕ). x.number ∷ ys) (numbers-append s t)

  pub kept-append : (s t : List (Tag K)) → kept (s ++ t) ≡ kept s ++ kept t
  kept-append [] t = refl
  kept-append (x ∷ s) t = go x.kept (kept-append s t)
    where
      go : (b : Bool) → kept (s ++ t) ≡ kept s ++ kept t → cond b (x.left ∷ kept (s ++ t)) (kept (s ++ t)) ≡ cond b (x.left ∷ kept s) (kept s) ++ kept t
      go true r = ap (λ (ys : List (Departure K)). x.left ∷ ys) r
      go false r = r

  pub lost-append : (s t : List (Tag K)) → lost (s ++ t) ≡ lost s ++ lost t
  lost-append [] t = refl
  lost-append (x ∷ s) t = go x.kept (lost-append s t)
    where
      go : (b : Bool) → lost (s ++ t) ≡ lost s ++ lost t → cond b (lost (s ++ t)) (x.left.number ∷ lost (s ++ t)) ≡ cond b (lost s) (x.left.number ∷ lost s) ++ lost t
      go true r = r
      go false r = ap (λ (ys : List ℕ). x.left.number ∷ ys) r

  module _ {D : Type 0} where
    -- the law of one worker, by what each of its deeds was to give, gave and lost
    abbrev pub IsFair : (ins outs : D → List (Departure K)) (gone : D → List ℕ) → D → Type 0
    IsFair ins outs gone d = (t : List (Tag K)) × (lefts t ≡ ins d) × (kept t ≡ outs d) × (lost t ≡ gone d)

    all_tags : (ins outs : D → List (Departure K)) (gone : D → List ℕ) (log : List D) → Each (IsFair ins outs gone) log
        → (t : List (Tag K)) × (lefts t ≡ flat_map ins log) × (kept t ≡ flat_map outs log) × (lost t ≡ flat_map gone log)
    all_tags ins outs gone [] e = ([], refl, refl, refl)
    all_tags ins outs gone (d ∷ log) e =
        let r = all_tags ins outs gone log e.1 in
        let f = e.0 in
        (f.0 ++ r.0, lefts-append f.0 r.0 ∙ rw (f.1, r.1) refl, kept-append f.0 r.0 ∙ rw (f.2, r.2) refl, lost-append f.0 r.0 ∙ rw (f.3, r.3) refl)

    pub worker_law : (ins outs : D → List (Departure K)) (gone : D → List ℕ) (log : List D) → Each (IsFair ins outs gone) log → Distinct (numbers (flat_map ins log))
        → flat_map outs log ≡ without (flat_map gone log) (flat_map ins log)
    worker_law ins outs gone log e d =
        let r = all_tags ins outs gone log e in
        let P : List (Departure K) → Type 0 = λ xs. Distinct (numbers xs) in
        sym r.2 ∙ kept_is r.0 (subst P (sym r.1) d) ∙ rw (r.1, r.3) refl
