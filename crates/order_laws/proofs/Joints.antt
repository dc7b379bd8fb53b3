-- What joins the workers' laws: numbers, flows and producers.
use Rattle.std.proofs.Common.{◌≡◌, ◌⊎◌, inl, inr, ℕ, Bool, true, false, not, eqb, ◌||◌, ◌&&◌, cond, ◌+◌, ◌<◌, ◌≤◌, List, [], ◌∷◌, ◌++◌, map, refl, sym, ◌∙◌, ap, subst, arith, append-nil}
use Rattle.std.specs.List.{flat_map}
use Rattle.std.proofs.lemmas.Bool.{ne_eqb, eq-eqb, cases_eq, cases_Bool}
use Rattle.order_laws.specs.Kinds.{Kinds}
use Rattle.order_laws.specs.Item.{Arrival, Outgoing, Arrived, Out}
use Rattle.order_laws.specs.Rules.{Rules, Decision, Sends, Asks, Drops}
use Rattle.order_laws.specs.Pipes.{link_pipe}
use Rattle.order_laws.specs.Expected.{Departure, departure_if, only, sent_to, expected}
use Rattle.order_laws.specs.Departures.{sends_of, numbers_of}
use Rattle.order_laws.specs.Deeds.{Pushed, of_producer, closes, has_mark, before_mark, from_mark, Each}
use Rattle.order_laws.specs.Settled.{if_so, to_processor, sent_out, to_link, AreNumbered, In, numbers, has_number, expected_of}
use Rattle.order_laws.proofs.Bands.{same_link, other_band}
use Rattle.order_laws.proofs.Kept.{Distinct, or_none, numbers-append, has-append}

module _ {K : Kinds} where
  only_none : (b : Bool) → only {K = K} b [] ≡ []
  only_none true = refl
  only_none false = refl

  -- what a processor sends, seen as what is expected
  step : (d : Departure K) (c w m h e : Bool) → (c ≡ true → w ≡ m) → (c ≡ true → m ≡ true → h ≡ e) → cond h (departure_if (c && (not false && w)) d ++ []) [] ≡ only c (only m (departure_if e d))
  step d false w m true e p q = refl
  step d false w m false e p q = refl
  step d true w m h e p q = ap (λ (b : Bool). cond h (departure_if (true && (not false && b)) d ++ []) []) (p refl) ∙ go m h e (q refl)
    where
      both : (h e : Bool) → h ≡ e → cond h (departure_if true d ++ []) [] ≡ departure_if e d
      both true true q = refl
      both false false q = refl
      both true false q = cc
      both false true q = cc

      go : (m h e : Bool) → (m ≡ true → h ≡ e) → cond h (departure_if (true && (not false && m)) d ++ []) [] ≡ only true (only m (departure_if e d))
      go true h e q = both h e (q refl)
      go false true e q = refl
      go false false e q = refl

  module _ (R : Rules K) (a l : ℕ) (mine : Arrival K → Bool) where
    abbrev E : Arrival K → List (Departure K)
    E x = expected_of R a l mine x

    pub other_mine : (x : Arrival K) → mine x ≡ false → E x ≡ []
    other_mine x h = ap (λ (b : Bool). only (eqb x.link a) (only b (sent_to l x.number (R.decide x)))) h ∙ only_none (eqb x.link a)

    pub other_link : (x : Arrival K) → eqb x.link a ≡ false → E x ≡ []
    other_link x h = ap (λ (b : Bool). only b (only (mine x) (sent_to l x.number (R.decide x)))) h

    -- what the receiver makes of an arrival for its key's processor is what is expected of it
    pub through : (k : K.Key) → ((x : Arrival K) → mine x ≡ true → R.key x ≡ k) → (x : Arrival K) → flat_map E (to_processor R (R.processor k) x) ≡ E x
    through k by_key x = go (cases_Bool (mine x))
      where
        none : (b : Bool) → E x ≡ [] → flat_map E (if_so b (x ∷ [])) ≡ []
        none true e = append-nil (E x) ∙ e
        none false e = refl

        go : (mine x ≡ true) ⊎ (mine x ≡ false) → flat_map E (to_processor R (R.processor k) x) ≡ E x
        go (inl e) =
            let at : eqb (R.processor (R.key x)) (R.processor k) ≡ true = eq-eqb (R.processor (R.key x)) (R.processor k) (ap R.processor (by_key x e)) in
            ap (λ (b : Bool). flat_map E (if_so b (x ∷ []))) at ∙ append-nil (E x)
        go (inr e) = let n = other_mine x e in none (eqb (R.processor (R.key x)) (R.processor k)) n ∙ sym n

    -- what a processor makes of an arrival for the pipe is seen as what is expected of it
    pub onward :
        (band : Bool) (wanted : ℕ → Bool) (x : Arrival K) →
        (eqb x.link a ≡ true → wanted x.number ≡ mine x) →
        ((y : K.Parcel) → eqb x.link a ≡ true → mine x ≡ true → R.decide x ≡ Sends l y → (R.two_bands l && R.urgent_parcel y) ≡ band) →
        flat_map (λ (o : Outgoing K). sends_of a wanted (Out o)) (to_link R (link_pipe R band l) x) ≡ E x
    onward band wanted x told banded = go (R.decide x) refl
      where
        none : (c m : Bool) → [] ≡ only {K = K} c (only m [])
        none true true = refl
        none true false = refl
        none false m = refl

        go : (r : Decision K) → R.decide x ≡ r → flat_map (λ (o : Outgoing K). sends_of a wanted (Out o)) (sent_out R (link_pipe R band l) x r) ≡ only (eqb x.link a) (only (mine x) (sent_to l x.number r))
        go (Asks p) e = none (eqb x.link a) (mine x)
        go (Drops c) e = none (eqb x.link a) (mine x)
        go (Sends k y) e = flat (eqb (link_pipe R (R.two_bands k && R.urgent_parcel y) k) (link_pipe R band l)) ∙ step d (eqb x.link a) (wanted x.number) (mine x) (eqb (link_pipe R (R.two_bands k && R.urgent_parcel y) k) (link_pipe R band l)) (eqb k l) told (λ c m. same (cases_eq k l) c m)
          where
            d : Departure K
            d = record { number = x.number; parcel = y }

            flat : (h : Bool) → flat_map (λ (o : Outgoing K). sends_of a wanted (Out o)) (if_so h (record { arrived = x.link; number = x.number; answer = false; link = k; parcel = y } ∷ [])) ≡ cond h (departure_if (eqb x.link a && (not false && wanted x.number)) (record { number = x.number; parcel = y }) ++ []) []
            flat true = refl
            flat false = refl

            same : (k ≡ l) ⊎ (k ≡ l → ⊥) → eqb x.link a ≡ true → mine x ≡ true → eqb (link_pipe R (R.two_bands k && R.urgent_parcel y) k) (link_pipe R band l) ≡ eqb k l
            same (inl q) c m =
                let P : ℕ → Type 0 = λ n. R.decide x ≡ Sends n y → (R.two_bands n && R.urgent_parcel y) ≡ band in
                let b : (R.two_bands k && R.urgent_parcel y) ≡ band = subst P (sym q) (banded y c m) e in
                eq-eqb _ _ (ap (λ (z : Bool). link_pipe R z k) b ∙ ap (λ (n : ℕ). link_pipe R band n) q) ∙ sym (eq-eqb k l q)
            same (inr n) c m = ne_eqb _ _ (λ q. n (same_link R (R.two_bands k && R.urgent_parcel y) band k l q)) ∙ sym (ne_eqb k l n)

    -- and nothing of it for the link's other pipe
    pub away :
        (band : Bool) (wanted : ℕ → Bool) (x : Arrival K) →
        (eqb x.link a ≡ true → wanted x.number ≡ mine x) →
        ((y : K.Parcel) → eqb x.link a ≡ true → mine x ≡ true → R.decide x ≡ Sends l y → (R.two_bands l && R.urgent_parcel y) ≡ band) →
        flat_map (λ (o : Outgoing K). sends_of a wanted (Out o)) (to_link R (link_pipe R (not band) l) x) ≡ []
    away band wanted x told banded = go (R.decide x) refl
      where
        go : (r : Decision K) → R.decide x ≡ r → flat_map (λ (o : Outgoing K). sends_of a wanted (Out o)) (sent_out R (link_pipe R (not band) l) x r) ≡ []
        go (Asks p) e = refl
        go (Drops c) e = refl
        go (Sends k y) e = pick (cases_eq (link_pipe R (R.two_bands k && R.urgent_parcel y) k) (link_pipe R (not band) l))
          where
            o : Outgoing K
            o = record { arrived = x.link; number = x.number; answer = false; link = k; parcel = y }

            clash : k ≡ l → link_pipe R (R.two_bands k && R.urgent_parcel y) k ≡ link_pipe R (not band) l → eqb x.link a ≡ true → mine x ≡ true → ⊥
            clash q h c m =
                let P : ℕ → Type 0 = λ n. R.decide x ≡ Sends n y → (R.two_bands n && R.urgent_parcel y) ≡ band in
                let b : (R.two_bands k && R.urgent_parcel y) ≡ band = subst P (sym q) (banded y c m) e in
                other_band R band l (sym h ∙ (ap (λ (z : Bool). link_pipe R z k) b ∙ ap (λ (n : ℕ). link_pipe R band n) q))

            hidden : (c w m : Bool) → (c ≡ true → w ≡ m) → (c ≡ true → m ≡ true → ⊥) → departure_if {K = K} (c && (not false && w)) (record { number = x.number; parcel = y }) ++ [] ≡ []
            hidden false w m p q = refl
            hidden true false m p q = refl
            hidden true true true p q = absurd (q refl refl)
            hidden true true false p q = absurd (let z : true ≡ false = p refl in cc)

            pick : (link_pipe R (R.two_bands k && R.urgent_parcel y) k ≡ link_pipe R (not band) l) ⊎ (link_pipe R (R.two_bands k && R.urgent_parcel y) k ≡ link_pipe R (not band) l → ⊥) → flat_map (λ (o : Outgoing K). sends_of a wanted (Out o)) (if_so (eqb (link_pipe R (R.two_bands k && R.urgent_parcel y) k) (link_pipe R (not band) l)) (record { arrived = x.link; number = x.number; answer = false; link = k; parcel = y } ∷ [])) ≡ []
            pick (inl h) =
                ap (λ (z : Bool). flat_map (λ (o : Outgoing K). sends_of a wanted (Out o)) (if_so z (record { arrived = x.link; number = x.number; answer = false; link = k; parcel = y } ∷ []))) (eq-eqb _ _ h)
                ∙ hidden (eqb x.link a) (wanted x.number) (mine x) told (clash (same_link R (R.two_bands k && R.urgent_parcel y) (not band) k l h) h)
            pick (inr n) = ap (λ (z : Bool). flat_map (λ (o : Outgoing K). sends_of a wanted (Out o)) (if_so z (record { arrived = x.link; number = x.number; answer = false; link = k; parcel = y } ∷ []))) (ne_eqb _ _ n)

    -- numbers
    has_sent : (m n : ℕ) (b c : Bool) (r : Decision K) → eqb n m ≡ false → has_number m (numbers (only b (only c (sent_to l n r)))) ≡ false
    has_sent m n false c r h = refl
    has_sent m n true false r h = refl
    has_sent m n true true (Asks p) h = refl
    has_sent m n true true (Drops d) h = refl
    has_sent m n true true (Sends k y) h = go (eqb k l)
      where
        go : (d : Bool) → has_number m (numbers (departure_if {K = K} d (record { number = n; parcel = y }))) ≡ false
        go true = or_none (eqb n m) false h refl
        go false = refl

    below : (n m : ℕ) (xs : List (Arrival K)) → AreNumbered a n xs → m < n → has_number m (numbers (flat_map E xs)) ≡ false
    below n m [] num lt = refl
    below n m (x ∷ xs) num lt =
        let q : x.number ≡ n = num.1 in
        let apart : eqb x.number m ≡ false = ne_eqb x.number m (λ e. omega arith) in
        let r = below (n + 1) m xs num.2 (omega arith) in
        ap (λ (ns : List ℕ). has_number m ns) (numbers-append (E x) (flat_map E xs)) ∙ (has-append m (numbers (E x)) (numbers (flat_map E xs))
        ∙ or_none (has_number m (numbers (E x))) (has_number m (numbers (flat_map E xs))) (has_sent m x.number (eqb x.link a) (mine x) (R.decide x) apart) r)

    one_more : (n : ℕ) (b c : Bool) (r : Decision K) (ys : List (Departure K)) → has_number n (numbers ys) ≡ false → Distinct (numbers ys) → Distinct (numbers (only b (only c (sent_to l n r)) ++ ys))
    one_more n false c r ys h d = d
    one_more n true false r ys h d = d
    one_more n true true (Asks p) ys h d = d
    one_more n true true (Drops k) ys h d = d
    one_more n true true (Sends k y) ys h d = go (eqb k l)
      where
        go : (z : Bool) → Distinct (numbers (departure_if z (record { number = n; parcel = y }) ++ ys))
        go true = (h, d)
        go false = d

    -- the numbers of what is expected are distinct
    pub distinct : (n : ℕ) (xs : List (Arrival K)) → AreNumbered a n xs → Distinct (numbers (flat_map E xs))
    distinct n [] num = tt
    distinct n (x ∷ xs) num =
        let q : x.number ≡ n = num.1 in
        one_more x.number (eqb x.link a) (mine x) (R.decide x) (flat_map E xs) (below (n + 1) x.number xs num.2 (omega arith)) (distinct (n + 1) xs num.2)

    -- what is expected of each is what is expected of all
    pub expected_is : (n : ℕ) (xs : List (Arrival K)) → AreNumbered a n xs → flat_map E xs ≡ expected R mine l (map (λ x. Arrived x) xs)
    expected_is n [] num = refl
    expected_is n (x ∷ xs) num =
        ap (λ (b : Bool). only b (only (mine x) (sent_to l x.number (R.decide x))) ++ flat_map E xs) (eq-eqb x.link a num.0)
        ∙ ap (λ (ys : List (Departure K)). only (mine x) (sent_to l x.number (R.decide x)) ++ ys) (expected_is (n + 1) xs num.2)

  module _ (mine : Arrival K → Bool) (a : ℕ) where
    abbrev wants : List (Arrival K) → ℕ → Bool
    wants xs m = numbers_of mine (map (λ x. Arrived x) xs) m

    none_below : (n m : ℕ) (xs : List (Arrival K)) → AreNumbered a n xs → m < n → wants xs m ≡ false
    none_below n m [] num lt = refl
    none_below n m (x ∷ xs) num lt =
        let q : x.number ≡ n = num.1 in
        let apart : eqb x.number m ≡ false = ne_eqb x.number m (λ e. omega arith) in
        or_none (eqb x.number m && mine x) (wants xs m) (ap (λ (b : Bool). b && mine x) apart) (none_below (n + 1) m xs num.2 (omega arith))

    number_from : (n : ℕ) (x : Arrival K) (xs : List (Arrival K)) → AreNumbered a n xs → In x xs → n ≤ x.number
    number_from n x [] num at = absurd at
    number_from n x (y ∷ ys) num at = go at (λ at'. number_from (n + 1) x ys num.2 at')
      where
        go : (y ≡ x) ⊎ In x ys → (In x ys → n + 1 ≤ x.number) → n ≤ x.number
        go (inl e) r = let q : y.number ≡ n = num.1 in let p : y.number ≡ x.number = ap (λ (z : Arrival K). z.number) e in omega arith
        go (inr at') r = let s = r at' in omega arith

    -- the number of an arrival tells whether it is wanted
    pub told_is : (n : ℕ) (x : Arrival K) (xs : List (Arrival K)) → AreNumbered a n xs → In x xs → wants xs x.number ≡ mine x
    told_is n x [] num at = absurd at
    told_is n x (y ∷ ys) num at = go at (λ at'. told_is (n + 1) x ys num.2 at')
      where
        or_right : (b : Bool) → (b || false) ≡ b
        or_right true = refl
        or_right false = refl

        go : (y ≡ x) ⊎ In x ys → (In x ys → wants ys x.number ≡ mine x) → wants (y ∷ ys) x.number ≡ mine x
        go (inl e) r =
            let q : y.number ≡ n = num.1 in
            let p : y.number ≡ x.number = ap (λ (z : Arrival K). z.number) e in
            let self : eqb y.number x.number ≡ true = eq-eqb y.number x.number p in
            let none : wants ys x.number ≡ false = none_below (n + 1) x.number ys num.2 (omega arith) in
            ap (λ (b : Bool). (b && mine y) || wants ys x.number) self
            ∙ (ap (λ (b : Bool). mine y || b) none ∙ (or_right (mine y) ∙ ap mine e))
        go (inr at') r =
            let q : y.number ≡ n = num.1 in
            let le : n + 1 ≤ x.number = number_from (n + 1) x ys num.2 at' in
            let apart : eqb y.number x.number ≡ false = ne_eqb y.number x.number (λ e. omega arith) in
            ap (λ (b : Bool). (b && mine y) || wants ys x.number) apart ∙ r at'

module _ {T : Type 0} where
  -- what holds of each producer's entries holds of all
  pub by_producer : (Q : Pushed T → Type 0) (es : List (Pushed T)) → ((p : ℕ) → Each Q (of_producer p es)) → Each Q es
  by_producer Q [] h = tt
  by_producer Q (e ∷ es) h = (first (eq-eqb e.from e.from refl) (h e.from), by_producer Q es (λ p. rest p (eqb e.from p) (h p)))
    where
      first : eqb e.from e.from ≡ true → Each Q (cond (eqb e.from e.from) (e ∷ of_producer e.from es) (of_producer e.from es)) → Q e
      first same all = (subst (λ (b : Bool). Each Q (cond b (e ∷ of_producer e.from es) (of_producer e.from es))) same all).0

      rest : (p : ℕ) (b : Bool) → Each Q (cond b (e ∷ of_producer p es) (of_producer p es)) → Each Q (of_producer p es)
      rest p true all = all.1
      rest p false all = all

  -- what only one producer's entries give
  pub of_one : {Z : Type 0} (g : Pushed T → List Z) (p : ℕ) (es : List (Pushed T)) → Each (λ (e : Pushed T). eqb e.from p ≡ false → g e ≡ []) es → flat_map g es ≡ flat_map g (of_producer p es)
  of_one {Z = Z} g p [] h = refl
  of_one {Z = Z} g p (e ∷ es) h = go (eqb e.from p) h.0 (of_one g p es h.1)
    where
      go : (b : Bool) → (b ≡ false → g e ≡ []) → flat_map g es ≡ flat_map g (of_producer p es) → g e ++ flat_map g es ≡ flat_map g (cond b (e ∷ of_producer p es) (of_producer p es))
      go true k r = ap (λ (ys : List Z). g e ++ ys) r
      go false k r = ap (λ (ys : List Z). ys ++ flat_map g es) (k refl) ∙ r

  pub split_mark : (es : List (Pushed T)) → before_mark es ++ from_mark es ≡ es
  split_mark [] = refl
  split_mark (e ∷ es) = go (closes e.load) (split_mark es)
    where
      go : (b : Bool) → before_mark es ++ from_mark es ≡ es → cond b [] (e ∷ before_mark es) ++ cond b (e ∷ es) (from_mark es) ≡ e ∷ es
      go true r = refl
      go false r = ap (λ (ys : List (Pushed T)). e ∷ ys) r

  -- where no closing mark was taken nothing stands after one
  pub never_closed : (es : List (Pushed T)) → has_mark es ≡ false → from_mark es ≡ []
  never_closed [] h = refl
  never_closed (e ∷ es) h = go (closes e.load) h (λ r. never_closed es r)
    where
      go : (b : Bool) → (b || has_mark es) ≡ false → (has_mark es ≡ false → from_mark es ≡ []) → cond b (e ∷ es) (from_mark es) ≡ []
      go true k r = absurd cc
      go false k r = r k
