-- The order of packets, after any list of steps.
use Rattle.std.proofs.Common.{◌≡◌, ◌≢◌, ◌⊎◌, inl, inr, ℕ, Bool, true, false, not, ◌&&◌, ◌+◌, ◌*◌, ◌<◌, ◌≤◌, List, [], ◌∷◌, ◌++◌, length, refl, sym, subst, ◌∙◌, ap, ap₂, arith, eqb, append_assoc, length-append, le_refl}
use Rattle.std.proofs.Math.Bool.{or-false}
use Rattle.std.specs.List.{flat_map, filter, All, Contains}
use Rattle.std.proofs.lemmas.List.Elements.{All-contains_itself, All-nil, All-cons, All-head, All-tail, All-take, filter-append}
use Rattle.std.proofs.lemmas.Bool.{and_parts, eq-eqb, ne_eqb, cases_Bool, cases_eq, cases_lt}
use Rattle.order_laws.specs.Expected.{Departure, Flow, departure_if, expected, has_key, is_of, only, sent_to}
use Rattle.order_laws.specs.Less.{less}
use Rattle.order_laws.specs.Item.{Arrival, Arrived, Request, Close, End, Item, Out, Packet}
use Rattle.order_laws.specs.Kinds.{Kinds}
use Rattle.order_laws.proofs.Bands.{both_same, same_link, other_band}
use Rattle.replay_laws.specs.Order.{InOrder, KeepsOrder, IsPrefixOf, LeavesInOrder, NeverIn}
use Rattle.order_laws.specs.Departures.{numbers_of, sends_of}
use Rattle.replay_laws.specs.Pipe.{gone, held, items, passed}
use Rattle.order_laws.specs.Rules.{Decision, IsLawful, Rules}
use Rattle.replay_laws.specs.Run.{run}
use Rattle.replay_laws.specs.Start.{IsStart, Numbered, HasArrival, arrivals}
use Rattle.replay_laws.specs.Step.{Step}
use Rattle.order_laws.specs.Fate.{Fate}
use Rattle.replay_laws.specs.World.{World, pipe}
use Rattle.order_laws.specs.Pipes.{link_pipe, slow_seat}
use Rattle.replay_laws.proofs.Runs.{run_keeps, keeps_arrivals}
use Rattle.replay_laws.proofs.Parts.{All-before_close}
use Rattle.replay_laws.proofs.Thread.{adds, on_way, has, line}
use Rattle.replay_laws.proofs.Keeps.{Inv, keeps, Good, Fine, apart_only}
use Rattle.replay_laws.proofs.Lists.{filter_le}

module _ {K : Kinds} where
  -- the start
  module _ (R : Rules K) (a l : ℕ) (mine : Arrival K → Bool) where
    one : Arrival K → List (Departure K)
    one x = only (mine x) (sent_to l x.number (R.decide x))

    count : ℕ → List (Departure K) → ℕ
    count n xs = length (filter (λ (o : Departure K). eqb n o.number) xs)

    -- each arrival's number tells whether it is one of them, and counts in E at most what the arrival gives
    Told : (ℕ → Bool) → List (Departure K) → List (Item K) → Type 0
    Told wanted E [] = Unit {0}
    Told wanted E (Arrived x ∷ xs) = (x.link ≡ a) × (wanted x.number ≡ mine x) × (count x.number E ≤ length (one x)) × Told wanted E xs
    Told wanted E (_ ∷ xs) = ⊥

    no_flow : (n m : ℕ) (xs : List (Item K)) → Numbered a n xs → m < n → numbers_of mine xs m ≡ false
    no_flow n m [] h i = refl
    no_flow n m (Arrived x ∷ xs) h i =
        let e : eqb x.number m ≡ false = ne_eqb x.number m (let e = h.1 in omega arith) in
        let t = no_flow (n + 1) m xs h.2 (omega arith) in
        rw (e, t) refl
    no_flow n m (_ ∷ xs) h i = absurd h

    no_count_one : (m : ℕ) (x : Arrival K) → m ≢ x.number → count m (one x) ≡ 0
    unfolding count one
    no_count_one m x h = go (mine x) (R.decide x)
      where
        go : (b : Bool) (r : Decision K) → length (filter (λ (o : Departure K). eqb m o.number) (only b (sent_to l x.number r))) ≡ 0
        go false r = refl
        go true (Decision.Asks n) = refl
        go true (Decision.Drops c) = refl
        go true (Decision.Sends k bytes) = send (eqb k l)
          where
            send : (b : Bool) → length (filter (λ (o : Departure K). eqb m o.number) (departure_if b (record { number = x.number; parcel = bytes }))) ≡ 0
            send true = rw (ne_eqb m x.number h) refl
            send false = refl

    no_count : (n m : ℕ) (xs : List (Item K)) → Numbered a n xs → m < n → count m (expected R mine l xs) ≡ 0
    unfolding count one
    no_count n m [] h i = refl
    no_count n m (Arrived x ∷ xs) h i =
        let t = no_count (n + 1) m xs h.2 (omega arith) in
        let o = no_count_one m x (let e = h.1 in omega arith) in
        rw (filter-append, length-append) (omega (arith, t, o))
    no_count n m (_ ∷ xs) h i = absurd h

    told : (n : ℕ) (xs : List (Item K)) → Numbered a n xs → (wanted : ℕ → Bool) → ((m : ℕ) → n ≤ m → wanted m ≡ numbers_of mine xs m) → (E : List (Departure K)) → ((m : ℕ) → n ≤ m → count m E ≤ count m (expected R mine l xs)) → Told wanted E xs
    unfolding Told count one
    told n [] h wanted p E q = tt
    told n (Arrived x ∷ xs) h wanted p E q =
        let x_is : x.number ≡ n = h.1 in
        let here : wanted x.number ≡ mine x =
        p x.number (omega arith) ∙ rw (eq-eqb x.number x.number refl, no_flow (n + 1) x.number xs h.2 (omega arith)) (or-false (mine x)) in
        let none = no_count (n + 1) x.number xs h.2 (omega arith) in
        let some : count x.number E ≤ length (one x) =
        omega (arith, (simp (filter-append, length-append) at (q x.number (omega arith))), none, filter_le (λ (o : Departure K). eqb x.number o.number) (one x)) in (
          h.0,
          here,
          some,
          told (n + 1) xs h.2 wanted
              (λ m i. p m (omega arith) ∙ rw (ne_eqb x.number m (omega arith)) refl)
              E
              (λ m i. omega (arith, (simp (filter-append, length-append) at (q m (omega arith))), no_count_one m x (omega arith))),
        )
    told n (_ ∷ xs) h wanted p E q = absurd h

    module _ (Arrives : Arrival K → Type 0) (wanted : ℕ → Bool) (S Q : ℕ) (E : List (Departure K)) where
      abbrev Mine : Arrival K → Type 0
      Mine x = (mine x ≡ true) × Arrives x

      -- an arrival that arrives
      abbrev Here : Item K → Type 0
      Here (Arrived x) = Arrives x
      Here (Packet x) = Unit {0}
      Here (Request x p) = Unit {0}
      Here (Out o) = Unit {0}
      Here Close = Unit {0}
      Here End = Unit {0}

      adds_one : (x : Arrival K) → x.link ≡ a → wanted x.number ≡ mine x → adds R a l wanted (Arrived x) ≡ one x
      unfolding one
      adds_one x h k = rw (eq-eqb x.link a h, k) refl

      fine_one : (x : Arrival K) → x.link ≡ a → wanted x.number ≡ mine x → count x.number E ≤ length (one x) → Arrives x → Fine R a l Mine wanted S Q E a (Arrived x)
      unfolding count
      fine_one x h k c v = record { at_home = tt; place = go (cases_Bool (mine x)); truth = λ _. omega (arith, ap length (adds_one x h k), c) }
        where
          go : (mine x ≡ true) ⊎ (mine x ≡ false) → (adds R a l wanted (Arrived x) ≡ []) ⊎ ((a ≡ a) × Mine x)
          go (inl e) = inr (refl, (e, v))
          go (inr e) = inl (adds_one x h k ∙ (unfold one in ap (λ (b : Bool). only b (sent_to l x.number (R.decide x))) e))

      all_fine : (xs : List (Item K)) → Told wanted E xs → All Here xs → All (Fine R a l Mine wanted S Q E a) xs
      unfolding Told
      all_fine [] h v = All-nil (Fine R a l Mine wanted S Q E a)
      all_fine (Arrived x ∷ xs) h v = All-cons (Fine R a l Mine wanted S Q E a) (Arrived x) xs (fine_one x h.0 h.1 h.2 (All-head Here (Arrived x) xs v)) (all_fine xs h.3 (All-tail Here (Arrived x) xs v))
      all_fine (_ ∷ xs) h v = absurd h

      way_expected : (xs : List (Item K)) → Told wanted E xs → on_way R a l wanted xs ≡ expected R mine l xs
      unfolding Told one
      way_expected [] h = refl
      way_expected (Arrived x ∷ xs) h = ap₂ (λ (ys zs : List (Departure K)). ys ++ zs) (adds_one x h.0 h.1) (way_expected xs h.3)
      way_expected (_ ∷ xs) h = absurd h

      other_fine : (j n : ℕ) (xs : List (Item K)) → j ≢ a → Numbered j n xs → All (Fine R a l Mine wanted S Q E j) xs
      other_fine j n [] h k = All-nil (Fine R a l Mine wanted S Q E j)
      other_fine j n (Arrived x ∷ xs) h k =
          let apart : x.link ≢ a = λ e. h (sym k.0 ∙ e) in
          All-cons (Fine R a l Mine wanted S Q E j) (Arrived x) xs (record { at_home = tt; place = inl (apart_only R a l Mine wanted S Q E x.link (wanted x.number) (sent_to l x.number (R.decide x)) apart); truth = λ e. absurd (apart e) }) (other_fine j (n + 1) xs h k.2)
      other_fine j n (_ ∷ xs) h k = absurd k

  above : (R : Rules K) (b : Bool) (l : ℕ) → slow_seat R < link_pipe R b l
  above R true l = omega arith
  above R false l = omega arith

  below : (R : Rules K) (b : Bool) (l : ℕ) → l < R.links → link_pipe R b l < slow_seat R + 1 + 2 * R.links
  below R true l i = omega arith
  below R false l i = omega arith

  -- some arrivals, all of one processor, and those to link l all of one band
  module _ (R : Rules K) (w : World K) (law : IsLawful R (HasArrival w)) (st : IsStart R w) (a l : ℕ) (mine : Arrival K → Bool) (a_in : a < R.links) (l_in : l < R.links) (k : K.Key) (band : Bool) (
      by_key : (x : Arrival K) → mine x ≡ true → R.key x ≡ k
      ) (
      by_band : (x : Arrival K) (bytes : K.Parcel) → HasArrival w x → mine x ≡ true → R.decide x ≡ Decision.Sends l bytes → (R.two_bands l && R.urgent_parcel bytes) ≡ band
      ) where
    abbrev Mine' : Arrival K → Type 0
    Mine' x = (mine x ≡ true) × HasArrival w x

    abbrev wanted : ℕ → Bool
    wanted n = numbers_of mine (arrivals w a) n

    abbrev E : List (Departure K)
    E = expected R mine l (arrivals w a)

    abbrev S : ℕ
    S = R.links + R.processor k

    abbrev Q : ℕ
    Q = link_pipe R band l

    abbrev Inv' : World K → Type 0
    Inv' v = Inv R a l Mine' wanted S Q E v

    abbrev Fine' : ℕ → Item K → Type 0
    Fine' q x = Fine R a l Mine' wanted S Q E q x

    start_told : Told R a l mine wanted E (arrivals w a)
    start_told = told R a l mine 1 (arrivals w a) (st.numbered a a_in) wanted (λ m i. refl) E (λ m i. le_refl _)

    all_here : (n : ℕ) (xs : List (Item K)) → Numbered a n xs → All (Contains (arrivals w a)) xs → All (Here R a l mine (HasArrival w) wanted S Q E) xs
    all_here n [] h c = All-nil (Here R a l mine (HasArrival w) wanted S Q E)
    all_here n (Arrived x ∷ xs) h c =
        let C : Item K → Type 0 = λ y. Contains (arrivals w a) y in
        let P : ℕ → Type 0 = λ b. Contains (arrivals w b) (Arrived x) in
        All-cons (Here R a l mine (HasArrival w) wanted S Q E) (Arrived x) xs (subst P (sym h.0) (All-head C (Arrived x) xs c)) (all_here (n + 1) xs h.2 (All-tail C (Arrived x) xs c))
    all_here n (_ ∷ xs) h c = absurd h

    start_here : All (Here R a l mine (HasArrival w) wanted S Q E) (arrivals w a)
    start_here = all_here 1 (arrivals w a) (st.numbered a a_in) (All-contains_itself (arrivals w a))

    start_good : (q : ℕ) → Good R a l Mine' wanted S Q E q (pipe w q)
    start_good q = record {
      fits = omega (arith, st.taken q);
      all = go (cases_eq q a) (cases_lt q R.links);
    }
      where
        go : (q ≡ a) ⊎ (q ≡ a → ⊥) → (q < R.links) ⊎ (R.links ≤ q) → All (Fine' q) (items (pipe w q).history)
        go (inl e) _ = let P : ℕ → Type 0 = λ k. All (Fine' k) (items (pipe w k).history) in subst P (sym e) (all_fine R a l mine (HasArrival w) wanted S Q E (arrivals w a) start_told start_here)
        go (inr n) (inl i) = other_fine R a l mine (HasArrival w) wanted S Q E q 1 (items (pipe w q).history) n (st.numbered q i)
        go (inr n) (inr i) = rw (st.empty q i) (All-nil (Fine' q))

    less_none : (xs : List (Departure K)) → less [] a xs ≡ xs
    less_none [] = refl
    less_none (x ∷ xs) = ap (λ (ys : List (Departure K)). x ∷ ys) (less_none xs)

    start_has : (q : ℕ) → (pipe w q).history ≡ [] → has R a l wanted w q ≡ []
    start_has q e = rw (st.hands q, st.taken q, e) refl

    start_line : line R a l wanted S Q w ≡ E
    start_line =
        let e1 = start_has S (st.empty S (omega arith)) in
        let h2 = st.empty Q (let i = above R band l in omega arith) in
        let t2 = st.taken Q in
        let ta = st.taken a in let ha = st.hands a in
        rw (e1, h2, t2, ta, ha) (way_expected R a l mine (HasArrival w) wanted S Q E (arrivals w a) start_told)

    start_inv : Inv' w
    start_inv = record {
      hand_count = st.hand_count;
      pipe_count = st.pipe_count;
      hands = λ j. rw (st.hands j) tt;
      pipes = start_good;
      in_line = start_line ∙ (sym (less_none E) ∙ ap (λ (F : List (Fate K)). less F a E) (sym st.fates));
    }

    module _ (ss : List Step) where
      end_inv : Inv' (run R w ss)
      end_inv = run_keeps R Inv' (λ u v m i. keeps R a l Mine' wanted S Q E (λ x c h. law.faults x c h.1) (λ x h. ap (λ (n : K.Key). R.links + R.processor n) (by_key x h.0)) (λ x bytes h e. ap (λ (b : Bool). link_pipe R b l) (by_band x bytes h.1 h.0 e)) a_in (omega arith) (let i = law.processors k in omega arith) (above R band l) (below R band l l_in) u i v m) ss w start_inv

      end_arrivals : arrivals (run R w ss) a ≡ arrivals w a
      end_arrivals = run_keeps R (λ v. arrivals v a ≡ arrivals w a) (λ u v m i. keeps_arrivals R a a_in u v m ∙ i) ss w refl

      -- in a link's pipe, what is on the thread is what it sends
      sends_same : (b : Bool) (x : Item K) → Fine' (link_pipe R b l) x → sends_of a wanted x ≡ adds R a l wanted x
      sends_same b (Arrived x) h = go h.place
        where
          go : (adds R a l wanted (Arrived x) ≡ []) ⊎ ((link_pipe R b l ≡ a) × Mine' x) → [] ≡ adds R a l wanted (Arrived x)
          go (inl e) = sym e
          go (inr e) = absurd (let i = e.0 in let m = above R b l in omega arith)
      sends_same b (Packet x) h = go h.place
        where
          go : (adds R a l wanted (Packet x) ≡ []) ⊎ ((link_pipe R b l ≡ S) × Mine' x) → [] ≡ adds R a l wanted (Packet x)
          go (inl e) = sym e
          go (inr e) = absurd (let i = e.0 in let m = above R b l in let p = law.processors k in omega arith)
      sends_same b (Request x n) h = refl
      sends_same b (Out o) h = let e : o.link ≡ l = same_link R (R.two_bands o.link && R.urgent_parcel o.parcel) b o.link l h.at_home in rw (eq-eqb o.link l e) refl
      sends_same b Close h = refl
      sends_same b End h = refl

      sends_all : (b : Bool) (xs : List (Item K)) → All (Fine' (link_pipe R b l)) xs → flat_map (sends_of a wanted) xs ≡ on_way R a l wanted xs
      sends_all b [] h = refl
      sends_all b (x ∷ xs) h =
          ap₂ (λ (ys zs : List (Departure K)). ys ++ zs)
          (sends_same b x (All-head (Fine' (link_pipe R b l)) x xs h))
          (sends_all b xs (All-tail (Fine' (link_pipe R b l)) x xs h))

      end_order : IsPrefixOf (flat_map (sends_of a wanted) (passed (pipe (run R w ss) Q))) (less (run R w ss).fates a E)
      end_order =
          let v = run R w ss in
          let p = pipe v Q in
          let fine : All (Fine' Q) (passed p) = All-before_close (Fine' Q) (gone p) (All-take (Fine' Q) p.taken (items p.history) (end_inv.pipes Q).all) in
          let rest = on_way R a l wanted (held p) ++ (has R a l wanted v S ++ has R a l wanted v a) in
          (rest, sym end_inv.in_line ∙ (append_assoc (on_way R a l wanted (passed p)) (on_way R a l wanted (held p)) _ ∙ ap (λ (ys : List (Departure K)). ys ++ rest) (sym (sends_all band (passed p) fine))))

      pub leaves_in_order : LeavesInOrder R (run R w ss) a l Q mine
      leaves_in_order =
          let v = run R w ss in
          let P : List (Item K) → Type 0 = λ xs. IsPrefixOf (flat_map (sends_of a (numbers_of mine xs)) (passed (pipe v Q))) (less v.fates a (expected R mine l xs)) in
          subst P (sym end_arrivals) end_order

      -- the other pipe has none of them
      none_other : (x : Item K) → Fine' (link_pipe R (not band) l) x → sends_of a wanted x ≡ []
      none_other (Arrived x) h = refl
      none_other (Packet x) h = refl
      none_other (Request x n) h = refl
      none_other (Out o) h = sends_same (not band) (Out o) h ∙ go h.place
        where
          go : (adds R a l wanted (Out o) ≡ []) ⊎ (link_pipe R (not band) l ≡ link_pipe R band l) → adds R a l wanted (Out o) ≡ []
          go (inl e) = e
          go (inr e) = absurd (other_band R band l e)
      none_other Close h = refl
      none_other End h = refl

      none_all : (xs : List (Item K)) → All (Fine' (link_pipe R (not band) l)) xs → flat_map (sends_of a wanted) xs ≡ []
      none_all [] h = refl
      none_all (x ∷ xs) h =
          ap₂ (λ (ys zs : List (Departure K)). ys ++ zs)
          (none_other x (All-head (Fine' (link_pipe R (not band) l)) x xs h))
          (none_all xs (All-tail (Fine' (link_pipe R (not band) l)) x xs h))

      pub never_in : NeverIn (run R w ss) a (link_pipe R (not band) l) mine
      never_in =
          let v = run R w ss in
          let q = link_pipe R (not band) l in
          let P : List (Item K) → Type 0 = λ xs. flat_map (sends_of a (numbers_of mine xs)) (items (pipe v q).history) ≡ [] in
          subst P (sym end_arrivals) (none_all (items (pipe v q).history) (end_inv.pipes q).all)

  module _ (R : Rules K) (w : World K) (law : IsLawful R (HasArrival w)) (st : IsStart R w) (ss : List Step) where
    -- the packets of a flow are of one band
    flow_band : (f : Flow K) (l : ℕ) (x : Arrival K) (bytes : K.Parcel) → HasArrival w x → is_of R f x ≡ true → R.decide x ≡ Decision.Sends l bytes → (R.two_bands l && R.urgent_parcel bytes) ≡ (R.two_bands l && f.urgent)
    flow_band f l x bytes v h e = ap (λ (b : Bool). R.two_bands l && b) (law.bands x l bytes v e ∙ both_same f.urgent (R.urgent x) (and_parts _ _ h).1)

    flow_key : (f : Flow K) (x : Arrival K) → is_of R f x ≡ true → R.key x ≡ f.key
    flow_key f x h = law.keys (R.key x) f.key (and_parts _ _ h).0

    pub in_order : InOrder R (run R w ss)
    in_order = record {
      of_flow = λ a f l i j. leaves_in_order R w law st a l (is_of R f) i j f.key (R.two_bands l && f.urgent) (flow_key f) (flow_band f l) ss;
      one_pipe = λ a f l i j. never_in R w law st a l (is_of R f) i j f.key (R.two_bands l && f.urgent) (flow_key f) (flow_band f l) ss;
      of_key = λ a k l i j one. leaves_in_order R w law st a l (has_key R k) i j k false (λ x h. law.keys (R.key x) k h) (λ x bytes v h e. ap (λ (b : Bool). b && R.urgent_parcel bytes) one) ss;
    }

pub keeps_order : (K : Kinds) → KeepsOrder K
keeps_order K R w r law = let P : World K → Type 0 = λ v. InOrder R v in subst P (sym r.by_steps) (in_order R r.start law r.is_start r.steps)
