-- How many places there are for the packets that are looked for: one for each that was received.
use Rattle.std.proofs.Common.{◌≡◌, ◌≢◌, ◌⊎◌, inl, inr, ℕ, Bool, true, false, ◌&&◌, ◌+◌, ◌*◌, ◌<◌, ◌≤◌, zero, suc, List, [], ◌∷◌, length, take, drop, refl, sym, subst, ◌∙◌, ap, arith, eqb, length-append}
use Rattle.std.proofs.lemmas.Bool.{cases_lt, cases_eq, eq-eqb, ne_eqb}
use Rattle.std.proofs.lemmas.List.{length-take-le, nil_from_length}
use Rattle.order_laws.specs.Kinds.{Kinds}
use Rattle.order_laws.specs.Item.{Arrival, Arrived, Item, is_one}
use Rattle.order_laws.specs.Counts.{total}
use Rattle.replay_laws.specs.Pipe.{Pipe, empty_pipe, gone, items}
use Rattle.order_laws.specs.Rules.{Rules, IsLawful}
use Rattle.replay_laws.specs.World.{World, Empty, pipe}
use Rattle.replay_laws.specs.Start.{arrivals, HasArrival, IsStart, Numbered, Reached, IsLawfulFor}
use Rattle.replay_laws.specs.Place.{places_of, places, KeepsPlace}
use Rattle.order_laws.proofs.Sums.{below, below-agree, below-plus, below-none, below-only, total-take, total-below, total-nothing}
use Rattle.replay_laws.proofs.Runs.{run_keeps, keeps_arrivals}
use Rattle.replay_laws.proofs.Moves.{Move}
use Rattle.replay_laws.proofs.ByRules.{Whence, keeps_whence, start_whence}
use Rattle.replay_laws.proofs.Weights.{Whole, keeps_whole, start_whole, one, one_if, grip, at, out, fate, weight, hands_weight, pipes_weight, all_sent_weight, fates_weight, keeps_weight}

module _ {K : Kinds} where
  -- What holds of each world that is reached, on the way to the laws.
  pub record Sound (R : Rules K) (s : World K) (law : IsLawful R (HasArrival s)) (w : World K) : Type 0 where
    pub whole : Whole R w
    pub whence : Whence R s law w
    pub same : (b : ℕ) → b < R.links → arrivals w b ≡ arrivals s b
    pub weights : (named : ℕ → ℕ → Bool) → weight named w ≡ weight named s

  module _ (R : Rules K) (s : World K) (law : IsLawful R (HasArrival s)) where
    pub keeps_sound : (w v : World K) → Move R w v → Sound R s law w → Sound R s law v
    keeps_sound w v m u = record {
      whole = keeps_whole R s law w v m u.whence.right u.whole;
      whence = keeps_whence R s law w v m u.whence;
      same = λ b i. keeps_arrivals R b i w v m ∙ u.same b i;
      weights = λ named. keeps_weight named R w u.whole v m ∙ u.weights named;
    }

    pub start_sound : IsStart R s → Sound R s law s
    start_sound st = record { whole = start_whole R s st; whence = start_whence R s law st; same = λ b i. refl; weights = λ named. refl }

  pub sound : (R : Rules K) (w : World K) (r : Reached R w) (law : IsLawfulFor R w r) → Sound R r.start law w
  sound R w r law = subst (Sound R r.start law) (sym r.by_steps) (run_keeps R (Sound R r.start law) (keeps_sound R r.start law) r.steps r.start (start_sound R r.start law r.is_start))

  module _ (named : ℕ → ℕ → Bool) where
    -- what was taken, and what is held
    gone_held : (p : Pipe K) → total (one named) (items p.history) ≡ total (one named) (gone p) + at named p
    gone_held p = total-take (one named) p.taken (items p.history)

    module _ (R : Rules K) (s w : World K) (st : IsStart R s) (law : IsLawful R (HasArrival s)) (u : Sound R s law w) where
      unfoldable pub was : ℕ → ℕ
      was b = total (one named) (gone (pipe w b))

      unfoldable pub all_of : World K → ℕ → ℕ
      all_of v b = total (one named) (arrivals v b)

      first_at : (q : ℕ) → at named (pipe s q) ≡ all_of s q
      unfolding all_of
      first_at q = ap (λ (k : ℕ). total (one named) (drop k (arrivals s q))) (st.taken q)

      first_far : (q : ℕ) → R.links ≤ q → at named (pipe s q) ≡ 0
      unfolding all_of
      first_far q i = first_at q ∙ ap (λ hs. total (one named) (items hs)) (st.empty q i)

      first_rest : (k : ℕ) → R.links ≤ k → (m : ℕ) → below (λ q. at named (pipe s q)) (k + m) ≡ below (λ q. at named (pipe s q)) k
      first_rest k i zero = let e : k + 0 ≡ k = omega arith in ap (below (λ q. at named (pipe s q))) e
      first_rest k i (suc m) =
          let e : k + suc m ≡ suc (k + m) = omega arith in
          let t = first_rest k i m in let z = first_far (k + m) (omega arith) in
          ap (below (λ q. at named (pipe s q))) e ∙ omega arith

      first_total : total (at named) s.pipes ≡ below (λ q. at named (pipe s q)) R.links
      first_total =
          let n = length s.pipes in
          let c = st.pipe_count in
          let t = total-below (at named) (empty_pipe 0) s.pipes n (omega arith) in
          let d = drop_all s.pipes in
          let z = ap (total (at named)) d in
          let r = first_rest R.links (omega arith) (R.processors + 1 + 2 * R.links) in
          let e : R.links + (R.processors + 1 + 2 * R.links) ≡ n = omega arith in
          let f = ap (below (λ q. at named (pipe s q))) e in
          omega arith
        where
          drop_all : {X : Type 0} (xs : List X) → drop (length xs) xs ≡ []
          drop_all [] = refl
          drop_all (x ∷ xs) = drop_all xs

      pub first_weight : weight named s ≡ below (all_of s) R.links
      first_weight =
          let p = first_total in
          let b = below-agree (λ q. at named (pipe s q)) (all_of s) R.links (λ i m. first_at i) in
          let z = total-nothing (grip named) Empty s.hands (λ j. ap (grip named) (st.hands j)) in
          let t = total-nothing (total (out named)) [] s.sent (λ l. ap (total (out named)) (st.sent l)) in
          let f = ap (total (fate named)) st.fates in
          omega arith

      arrivals_parted : below (all_of s) R.links ≡ below was R.links + below (λ q. at named (pipe w q)) R.links
      unfolding all_of was
      arrivals_parted =
          below-agree (all_of s) (λ b. was b + at named (pipe w b)) R.links (λ b i. ap (total (one named)) (sym (u.same b i)) ∙ gone_held (pipe w b))
          ∙ below-plus was (λ q. at named (pipe w q)) R.links

      -- one place for each that was received
      pub places_count : length (places_of R named w) ≡ below was R.links
      places_count =
          let h = hands_weight named R 0 w.hands in
          let p = pipes_weight named R R.links (drop R.links w.pipes) in
          let c = u.whole.pipe_count in
          let d = total-below (at named) (empty_pipe 0) w.pipes R.links (omega arith) in
          let o = all_sent_weight named w.sent in
          let f = fates_weight named w.fates in
          let n = u.weights named in
          let g = first_weight in
          let a = arrivals_parted in
          simp length-append (omega (arith, h, p, c, d, o, f, n, g, a))

  pub numbered_take : (b m k : ℕ) (xs : List (Item K)) → Numbered b m xs → Numbered b m (take k xs)
  numbered_take b m zero xs h = tt
  numbered_take b m (suc k) [] h = tt
  numbered_take b m (suc k) (Arrived x ∷ xs) h = (h.0, h.1, numbered_take b (m + 1) k xs h.2)
  numbered_take b m (suc k) (_ ∷ xs) h = absurd h

  -- numbered arrivals: one of each number
  module _ (a n : ℕ) where
    abbrev pub one_of : Item K → ℕ
    one_of x = one (is_one a n) x

    pub other_numbers : (b m : ℕ) (xs : List (Item K)) → Numbered b m xs → (b ≢ a) ⊎ (n < m) → total one_of xs ≡ 0
    unfolding one
    other_numbers b m [] h z = refl
    other_numbers b m (Arrived x ∷ xs) h z =
        let t = other_numbers b (m + 1) xs h.2 (later z) in
        let o = differs x h.0 h.1 z in
        omega (arith, t, o)
      where
        later : (b ≢ a) ⊎ (n < m) → (b ≢ a) ⊎ (n < m + 1)
        later (inl e) = inl e
        later (inr e) = inr (omega arith)

        differs : (x : Arrival K) → x.link ≡ b → x.number ≡ m → (b ≢ a) ⊎ (n < m) → one_if (eqb x.link a && eqb x.number n) ≡ 0
        differs x p q (inl e) = rw (ne_eqb x.link a (λ k. e (sym p ∙ k))) refl
        differs x p q (inr e) = rw (ne_eqb x.number n (omega arith)) (go (eqb x.link a))
          where
            go : (c : Bool) → one_if (c && false) ≡ 0
            go true = refl
            go false = refl
    other_numbers b m (_ ∷ xs) h z = absurd h

    pub one_number : (m : ℕ) (xs : List (Item K)) → Numbered a m xs → m ≤ n → n < m + length xs → total one_of xs ≡ 1
    unfolding one
    one_number m [] h i k = absurd (omega arith)
    one_number m (Arrived x ∷ xs) h i k = go (cases_eq m n) (λ j. one_number (m + 1) xs h.2 j (omega arith))
      where
        go : (m ≡ n) ⊎ (m ≡ n → ⊥) → (m + 1 ≤ n → total one_of xs ≡ 1) → one_if (eqb x.link a && eqb x.number n) + total one_of xs ≡ 1
        go (inl e) rest = let t = other_numbers a (m + 1) xs h.2 (inr (omega arith)) in rw (eq-eqb x.link a h.0, eq-eqb x.number n (h.1 ∙ e)) (omega (arith, t))
        go (inr e) rest = let t = rest (omega arith) in rw (ne_eqb x.number n (λ q. e (sym h.1 ∙ q)), eq-eqb x.link a h.0) (omega (arith, t))
    one_number m (_ ∷ xs) h i k = absurd h

    -- whatever the numbers are
    pub at_most_one : (b m : ℕ) (xs : List (Item K)) → Numbered b m xs → total one_of xs ≤ 1
    unfolding one
    at_most_one b m [] h = omega arith
    at_most_one b m (Arrived x ∷ xs) h = go (cases_lt n (m + 1)) (at_most_one b (m + 1) xs h.2)
      where
        le_one : (c : Bool) → one_if c ≤ 1
        le_one true = omega arith
        le_one false = omega arith

        none : (c : Bool) → one_if (c && false) ≡ 0
        none true = refl
        none false = refl

        go : (n < m + 1) ⊎ (m + 1 ≤ n) → total one_of xs ≤ 1 → one_if (eqb x.link a && eqb x.number n) + total one_of xs ≤ 1
        go (inl i) t = let z = other_numbers b (m + 1) xs h.2 (inr i) in let l = le_one (eqb x.link a && eqb x.number n) in omega arith
        go (inr i) t = let z : one_if (eqb x.link a && eqb x.number n) ≡ 0 = rw (ne_eqb x.number n (let e = h.1 in omega arith)) (none (eqb x.link a)) in omega arith
    at_most_one b m (_ ∷ xs) h = absurd h

    -- those before the number n come first
    none_before : (m k : ℕ) (xs : List (Item K)) → Numbered a m xs → m + k ≤ n → total one_of (take k xs) ≡ 0
    unfolding one
    none_before m zero xs h i = refl
    none_before m (suc k) [] h i = refl
    none_before m (suc k) (Arrived x ∷ xs) h i =
        let t = none_before (m + 1) k xs h.2 (omega arith) in
        let o : one_if (eqb x.link a && eqb x.number n) ≡ 0 = rw (ne_eqb x.number n (let e = h.1 in omega arith)) (go (eqb x.link a)) in
        omega (arith, t, o)
      where
        go : (c : Bool) → one_if (c && false) ≡ 0
        go true = refl
        go false = refl
    none_before m (suc k) (_ ∷ xs) h i = absurd h

    module _ (R : Rules K) (s w : World K) (st : IsStart R s) (law : IsLawful R (HasArrival s)) (u : Sound R s law w) where
      numbered : (b : ℕ) → b < R.links → Numbered b 1 (arrivals w b)
      numbered b i = let N : List (Item K) → Type 0 = λ xs. Numbered b 1 xs in subst N (sym (u.same b i)) (st.numbered b i)

      was_other : (b : ℕ) → b < R.links → (b ≢ a) ⊎ (n < 1) → was (is_one a n) R s w st law u b ≡ 0
      unfolding was
      was_other b i z = other_numbers b 1 (gone (pipe w b)) (numbered_take b 1 (pipe w b).taken (arrivals w b) (numbered b i)) z

      -- a packet is at no more than one place
      pub weight_one : weight (is_one a n) w ≤ 1
      unfolding all_of
      weight_one = let e = u.weights (is_one a n) in let f = first_weight (is_one a n) R s w st law u in let g = go (cases_lt a R.links) in omega arith
        where
          other : (b : ℕ) → b < R.links → b ≢ a → all_of (is_one a n) R s w st law u s b ≡ 0
          other b i ne = other_numbers b 1 (arrivals s b) (st.numbered b i) (inl ne)

          go : (a < R.links) ⊎ (R.links ≤ a) → below (all_of (is_one a n) R s w st law u s) R.links ≤ 1
          go (inl i) = let t = below-only (all_of (is_one a n) R s w st law u s) R.links a i other in let m = at_most_one a 1 (arrivals s a) (st.numbered a i) in omega (arith, t, m)
          go (inr i) = let t = below-none (all_of (is_one a n) R s w st law u s) R.links (λ b j. other b j (omega arith)) in omega arith

      pub placed_once : a < R.links → 1 ≤ n → n ≤ (pipe w a).taken → length (places R a n w) ≡ 1
      unfolding was
      placed_once i low high =
          places_count (is_one a n) R s w st law u
          ∙ (below-only (was (is_one a n) R s w st law u) R.links a i (λ b j ne. was_other b j (inl ne))
          ∙ one_number 1 (gone (pipe w a)) (numbered_take a 1 (pipe w a).taken (arrivals w a) (numbered a i)) low (let f = u.whole.fits a in let t = length-take-le (pipe w a).taken (arrivals w a) f in omega arith))

      was_late : (pipe w a).taken < n → (b : ℕ) → b < R.links → (b ≡ a) ⊎ (b ≡ a → ⊥) → was (is_one a n) R s w st law u b ≡ 0
      unfolding was
      was_late late b i (inl e) =
          let P : ℕ → Type 0 = λ c. c < R.links → total one_of (gone (pipe w c)) ≡ 0 in
          subst P (sym e) (λ j. none_before 1 (pipe w a).taken (arrivals w a) (numbered a j) (omega arith)) i
      was_late late b i (inr e) = was_other b i (inl e)

      pub placed_nowhere : (R.links ≤ a) ⊎ ((n ≡ 0) ⊎ ((pipe w a).taken < n)) → places R a n w ≡ []
      placed_nowhere h = nil_from_length (places R a n w) (places_count (is_one a n) R s w st law u ∙ below-none (was (is_one a n) R s w st law u) R.links (go h))
        where
          go : (R.links ≤ a) ⊎ ((n ≡ 0) ⊎ ((pipe w a).taken < n)) → (b : ℕ) → b < R.links → was (is_one a n) R s w st law u b ≡ 0
          go (inl far) b i = was_other b i (inl (omega arith))
          go (inr (inl z)) b i = was_other b i (inr (omega arith))
          go (inr (inr late)) b i = was_late late b i (cases_eq b a)

pub keeps_place : (K : Kinds) → KeepsPlace K
keeps_place K R w r law =
    let u = sound R w r law in
    record {
      once = λ a n i low high. placed_once a n R r.start w r.is_start law u i low high;
      nowhere = λ a n h. placed_nowhere a n R r.start w r.is_start law u h;
    }
