-- What each worker's law says of some packets.
use Rattle.std.proofs.Common.{◌≡◌, ℕ, Bool, true, false, List, [], ◌∷◌, ◌++◌, map, refl, sym, ◌∙◌, ap, subst, append-nil}
use Rattle.std.specs.List.{flat_map}
use Rattle.std.proofs.lemmas.Grind.{flat_map-append}
use Rattle.order_laws.specs.Kinds.{Kinds}
use Rattle.order_laws.specs.Expected.{Departure}
use Rattle.order_laws.specs.Deeds.{Each, Ending, Accepted, Refused, Lacked, Counted, Deed, done_items, accepted, refused, lacked, is_counted}
use Rattle.order_laws.specs.Settled.{numbers, without}
use Rattle.order_laws.proofs.Kept.{Tag, lefts, kept, lost, Distinct, kept_is, without_same, two_ways, lefts-append, kept-append, lost-append, numbers-append, IsFair, worker_law}

module _ {A B C : Type 0} where
  pub flat_flat : (g : B → List C) (f : A → List B) (xs : List A) → flat_map g (flat_map f xs) ≡ flat_map (λ x. flat_map g (f x)) xs
  flat_flat g f [] = refl
  flat_flat g f (x ∷ xs) = flat_map-append g (f x) (flat_map f xs) ∙ ap (λ (ys : List C). flat_map g (f x) ++ ys) (flat_flat g f xs)

  pub flat_items : (g : B → List C) (v : A → B) (xs : List A) → flat_map g (map v xs) ≡ flat_map (λ x. g (v x)) xs
  flat_items g v [] = refl
  flat_items g v (x ∷ xs) = ap (λ (ys : List C). g (v x) ++ ys) (flat_items g v xs)

module _ {A : Type 0} where
  pub each_map : {P Q : A → Type 0} → ((x : A) → P x → Q x) → (xs : List A) → Each P xs → Each Q xs
  each_map h [] e = tt
  each_map h (x ∷ xs) e = (h x e.0, each_map h xs e.1)

module _ {K : Kinds} where
  abbrev tags : Bool → List (Departure K) → List (Tag K)
  tags b [] = []
  tags b (x ∷ xs) = record { left = x; kept = b } ∷ tags b xs

  lefts_tags : (b : Bool) (xs : List (Departure K)) → lefts (tags b xs) ≡ xs
  lefts_tags b [] = refl
  lefts_tags b (x ∷ xs) = ap (λ (ys : List (Departure K)). x ∷ ys) (lefts_tags b xs)

  kept_all : (xs : List (Departure K)) → kept (tags true xs) ≡ xs
  kept_all [] = refl
  kept_all (x ∷ xs) = ap (λ (ys : List (Departure K)). x ∷ ys) (kept_all xs)

  kept_none : (xs : List (Departure K)) → kept (tags false xs) ≡ []
  kept_none [] = refl
  kept_none (x ∷ xs) = kept_none xs

  lost_none : (xs : List (Departure K)) → lost (tags true xs) ≡ []
  lost_none [] = refl
  lost_none (x ∷ xs) = lost_none xs

  lost_all : (xs : List (Departure K)) → lost (tags false xs) ≡ numbers xs
  lost_all [] = refl
  lost_all (x ∷ xs) = ap (λ (ys : List ℕ). x.number ∷ ys) (lost_all xs)

  -- the part before a mark is the whole, without what stands after it
  pub before_is : (xs ys : List (Departure K)) → Distinct (numbers (xs ++ ys)) → xs ≡ without (numbers ys) (xs ++ ys)
  before_is xs ys d =
      let t : List (Tag K) = tags true xs ++ tags false ys in
      let L : lefts t ≡ xs ++ ys = lefts-append (tags true xs) (tags false ys) ∙ rw (lefts_tags true xs, lefts_tags false ys) refl in
      let same : kept t ≡ xs = kept-append (tags true xs) (tags false ys) ∙ rw (kept_all xs, kept_none ys) (append-nil xs) in
      let G : lost t ≡ numbers ys = lost-append (tags true xs) (tags false ys) ∙ rw (lost_none xs, lost_all ys) refl in
      let P : List (Departure K) → Type 0 = λ zs. Distinct (numbers zs) in
      sym same ∙ kept_is t (subst P (sym L) d) ∙ rw (G, L) refl

  module _ {A : Type 0} where
    pub flat_numbers : (g : A → List (Departure K)) (xs : List A) → numbers (flat_map g xs) ≡ flat_map (λ x. numbers (g x)) xs
    flat_numbers g [] = refl
    flat_numbers g (x ∷ xs) = numbers-append (g x) (flat_map g xs) ∙ ap (λ (ys : List ℕ). numbers (g x) ++ ys) (flat_numbers g xs)

  -- One worker's law, from what it makes of an item and what is expected of it and of what it makes
  module _ {C X Y : Type 0} (makes : X → List Y) (want : X → List (Departure K)) (seen : Y → List (Departure K)) where
    abbrev pub gone : Deed C X → List ℕ
    gone d = numbers (flat_map seen (refused makes d)) ++ numbers (lacked want d)

    -- what is made of it is seen as what was expected of it, and what was only counted was not expected
    abbrev pub IsTrue : Deed C X → Type 0
    IsTrue d = (flat_map seen (makes d.item) ≡ want d.item) × is_counted d.end (want d.item ≡ [])

    fair : (x : X) (o : Ending C) → flat_map seen (makes x) ≡ want x → is_counted o (want x ≡ [])
        → IsFair (λ d. want d.item) (λ d. flat_map seen (accepted makes d)) gone (record { item = x; end = o })
    fair x Accepted is c = (tags true (want x), lefts_tags true (want x), kept_all (want x) ∙ sym is, lost_none (want x))
    fair x Refused is c = (tags false (want x), lefts_tags false (want x), kept_none (want x), lost_all (want x) ∙ sym (append-nil (numbers (flat_map seen (makes x))) ∙ ap numbers is))
    fair x Lacked is c = (tags false (want x), lefts_tags false (want x), kept_none (want x), lost_all (want x))
    fair x (Counted k) is c = ([], sym c, refl, refl)

    pub stage : (log : List (Deed C X)) → Each IsTrue log → Distinct (numbers (flat_map want (done_items log)))
        → flat_map seen (flat_map (accepted makes) log) ≡ without (numbers (flat_map seen (flat_map (refused makes) log)) ++ numbers (flat_map (lacked want) log)) (flat_map want (done_items log))
    stage log e d =
        let wants : flat_map want (done_items log) ≡ flat_map (λ d. want d.item) log = flat_items want (λ d. d.item) log in
        let P : List (Departure K) → Type 0 = λ xs. Distinct (numbers xs) in
        let law = worker_law (λ d. want d.item) (λ d. flat_map seen (accepted makes d)) gone log (each_map (λ d t. fair d.item d.end t.0 t.1) log e) (subst P wants d) in
        let R : numbers (flat_map seen (flat_map (refused makes) log)) ≡ flat_map (λ d. numbers (flat_map seen (refused makes d))) log =
        ap numbers (flat_flat seen (refused makes) log) ∙ flat_numbers (λ d. flat_map seen (refused makes d)) log in
        let S : numbers (flat_map (lacked want) log) ≡ flat_map (λ d. numbers (lacked want d)) log = flat_numbers (lacked want) log in
        flat_flat seen (accepted makes) log ∙ law
        ∙ without_same (flat_map gone log) (flat_map (λ d. numbers (flat_map seen (refused makes d))) log ++ flat_map (λ d. numbers (lacked want d)) log) (flat_map (λ d. want d.item) log) (λ m. two_ways m (λ d. numbers (flat_map seen (refused makes d))) (λ d. numbers (lacked want d)) log)
        ∙ rw (R, S, wants) refl
