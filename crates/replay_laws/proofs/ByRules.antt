-- Each move keeps that all comes from the arrivals by the rules.
use Rattle.std.proofs.Common.{◌≡◌, ◌⊎◌, inl, inr, ℕ, Bool, true, ◌+◌, ◌<◌, ◌≤◌, List, [], ◌∷◌, ◌++◌, get_or, refl, sym, subst}
use Rattle.std.specs.Prelude.{Some, None}
use Rattle.std.specs.List.{All, Contains}
use Rattle.std.proofs.lemmas.List.Elements.{All-nil, All-cons, All-head, All-tail, All-append, All-push, All-get_or, All-contains_itself}
use Rattle.std.proofs.lemmas.Option.{slice_get_within, get_or_from_slice_get}
use Rattle.std.proofs.lemmas.Bool.{cases_lt}
use Rattle.order_laws.specs.Item.{Arrival, Outgoing, Arrived, Request, Close, End, Item, Out, Packet}
use Rattle.order_laws.specs.Kinds.{Kinds}
use Rattle.replay_laws.specs.ByRules.{IsMade, IsHandMade, IsCauseOf, IsCaused, IsHome, IsByRules, KeepsRules}
use Rattle.replay_laws.specs.Next.{decided, replied, Ends, Makes, Outcome, full_of, hand_after, taken_from}
use Rattle.replay_laws.specs.Pipe.{Pipe, front, items, one_taken, pushed, refusal_of, refused}
use Rattle.order_laws.specs.Rules.{Decision, Reply, Replies, Withholds, IsLawful, Rules}
use Rattle.replay_laws.specs.Start.{HasArrival, IsStart, Numbered}
use Rattle.replay_laws.specs.Worker.{Worker}
use Rattle.order_laws.specs.Cause.{Cause}
use Rattle.order_laws.specs.Fate.{Fate}
use Rattle.replay_laws.specs.World.{Empty, Got, Hand, Owes, World, fate_of, hand, pipe, sent_with, with_fate, with_hand, with_looks, with_pipe}
use Rattle.order_laws.specs.Pipes.{home}
use Rattle.replay_laws.specs.Full.{is_received}
use Rattle.replay_laws.proofs.Runs.{run_keeps}
use Rattle.replay_laws.proofs.Moves.{Move, Receives, Starves, Offers, Refuses, Takes, Looks, Works, Lacks, Marks, Sends, Fails, Sweeps, work, is_mark}
use Rattle.replay_laws.proofs.Parts.{at_cases, hand_cases, pipe_cases, items_pushed}

module _ {K : Kinds} where
  -- nobody owes an arrival
  abbrev pub OwesNone : Hand K → Type 0
  OwesNone Empty = Unit {0}
  OwesNone (Got x) = Unit {0}
  OwesNone (Owes x) = is_received x ≡ true

  module _ (R : Rules K) (s : World K) (law : IsLawful R (HasArrival s)) where
    abbrev Made : Item K → Type 0
    Made x = IsMade R s x

    abbrev Home : ℕ → Item K → Type 0
    Home q x = IsHome R q x

    abbrev Caused : Fate K → Type 0
    Caused f = IsCaused R s f

    abbrev Right : World K → Type 0
    Right w = IsByRules R s w

    right_hand : (w : World K) (j : ℕ) (h : Hand K) → Right w → IsHandMade R s h → Right (with_hand w j h)
    right_hand w j h u k = record { hands = λ i. go i (hand_cases w j h i); pipes = u.pipes; fates = u.fates; homes = u.homes; sent = u.sent }
      where
        go : (i : ℕ) → (hand (with_hand w j h) i ≡ hand w i) ⊎ ((i ≡ j) × (hand (with_hand w j h) i ≡ h)) → IsHandMade R s (hand (with_hand w j h) i)
        go i (inl e) = subst (IsHandMade R s) (sym e) (u.hands i)
        go i (inr e) = subst (IsHandMade R s) (sym e.1) k

    right_pipe : (w : World K) (q : ℕ) (p : Pipe K) → Right w → All Made (items p.history) → All (Home q) (items p.history) → Right (with_pipe w q p)
    right_pipe w q p u k h = record { hands = u.hands; pipes = λ i. go i (pipe_cases w q p i); fates = u.fates; homes = λ i. at i (pipe_cases w q p i); sent = u.sent }
      where
        go : (i : ℕ) → (pipe (with_pipe w q p) i ≡ pipe w i) ⊎ ((i ≡ q) × (pipe (with_pipe w q p) i ≡ p)) → All Made (items (pipe (with_pipe w q p) i).history)
        go i (inl e) = let P : Pipe K → Type 0 = λ z. All Made (items z.history) in subst P (sym e) (u.pipes i)
        go i (inr e) = let P : Pipe K → Type 0 = λ z. All Made (items z.history) in subst P (sym e.1) k

        at : (i : ℕ) → (pipe (with_pipe w q p) i ≡ pipe w i) ⊎ ((i ≡ q) × (pipe (with_pipe w q p) i ≡ p)) → All (Home i) (items (pipe (with_pipe w q p) i).history)
        at i (inl e) = let P : Pipe K → Type 0 = λ z. All (Home i) (items z.history) in subst P (sym e) (u.homes i)
        at i (inr e) =
            let P : Pipe K → Type 0 = λ z. All (Home i) (items z.history) in
            let Q : ℕ → Type 0 = λ n. All (Home n) (items p.history) in
            subst P (sym e.1) (subst Q (sym e.0) h)

    right_fate : (w : World K) (x : Item K) (c : Cause K) → Right w → All Caused (fate_of x c) → Right (with_fate w x c)
    right_fate w x c u k = record { hands = u.hands; pipes = u.pipes; homes = u.homes; sent = u.sent; fates = All-append Caused w.fates (fate_of x c) u.fates k }

    right_looks : (w : World K) (ls : List Bool) → Right w → Right (with_looks w ls)
    right_looks w ls u = record { hands = u.hands; pipes = u.pipes; fates = u.fates; homes = u.homes; sent = u.sent }

    right_taken : (w : World K) (q j : ℕ) (h : Hand K) → Right w → IsHandMade R s h → Right (taken_from w q j h)
    right_taken w q j h u k = right_hand (with_pipe w q (one_taken (pipe w q))) j h (right_pipe w q (one_taken (pipe w q)) u (u.pipes q) (u.homes q)) k

    right_pushed : (w : World K) (q : ℕ) (from : Worker) (x : Item K) → Right w → Made x → Home q x → Right (with_pipe w q (pushed (pipe w q) from x))
    right_pushed w q from x u k h =
        let P : List (Item K) → Type 0 = λ xs. All Made xs in
        let Q : List (Item K) → Type 0 = λ xs. All (Home q) xs in
        right_pipe w q (pushed (pipe w q) from x) u
        (subst P (sym (items_pushed (pipe w q) from x)) (All-push Made (items (pipe w q).history) x (u.pipes q) k))
        (subst Q (sym (items_pushed (pipe w q) from x)) (All-push (Home q) (items (pipe w q).history) x (u.homes q) h))

    -- what is owed goes home
    stands : (x : Item K) → is_received x ≡ true → Home (home R x) x
    stands (Arrived x) h = cc
    stands (Packet x) h = refl
    stands (Request x n) h = refl
    stands (Out o) h = refl
    stands Close h = tt
    stands End h = tt

    mark_home : (q : ℕ) (x : Item K) → is_mark x ≡ true → Home q x
    mark_home q Close m = tt
    mark_home q End m = tt
    mark_home q (Arrived x) m = cc
    mark_home q (Packet x) m = cc
    mark_home q (Request x n) m = cc
    mark_home q (Out o) m = cc

    front_made : (w : World K) (q : ℕ) (x : Item K) → Right w → front (pipe w q) ≡ Some x → Made x
    front_made w q x u e =
        let p = pipe w q in
        subst Made (get_or_from_slice_get (items p.history) p.taken x x e) (All-get_or Made (items p.history) p.taken x (slice_get_within (items p.history) p.taken x e) (u.pipes q))

    after_made : (x : Item K) → Made x → IsHandMade R s (hand_after x)
    after_made (Arrived x) h = h
    after_made (Packet x) h = h
    after_made (Request x n) h = h
    after_made (Out o) h = h
    after_made Close h = tt
    after_made End h = tt

    one_fate : (f : Fate K) → Caused f → All Caused (f ∷ [])
    one_fate f h = All-cons Caused f [] h (All-nil Caused)

    -- a cause of the pipeline's own
    abbrev IsOwn : Cause K → Type 0
    IsOwn c = (f : Fate K) → IsCauseOf R s f c

    pipelines : (x : Item K) (c : Cause K) → IsOwn c → All Caused (fate_of x c)
    pipelines (Arrived x) c e = let f : Fate K = record { link = x.link; number = x.number; cause = c } in one_fate f (e f)
    pipelines (Packet x) c e = let f : Fate K = record { link = x.link; number = x.number; cause = c } in one_fate f (e f)
    pipelines (Request x n) c e = let f : Fate K = record { link = x.link; number = x.number; cause = c } in one_fate f (e f)
    pipelines (Out o) c e = let f : Fate K = record { link = o.arrived; number = o.number; cause = c } in one_fate f (e f)
    pipelines Close c e = All-nil Caused
    pipelines End c e = All-nil Caused

    full_pipelines : (x : Item K) → IsOwn (full_of x)
    full_pipelines (Arrived x) f = tt
    full_pipelines (Packet x) f = tt
    full_pipelines (Request x n) f = tt
    full_pipelines (Out o) f = tt
    full_pipelines Close f = tt
    full_pipelines End f = tt

    -- what a worker makes of an item comes from the same arrival
    abbrev Turns : Item K → Outcome K → Type 0
    Turns x (Makes y) = Made y
    Turns x (Ends c) = All Caused (fate_of x c)

    by_decision : (x : Arrival K) (r : Decision K) → R.decide x ≡ r → HasArrival s x → Turns (Packet x) (decided x r)
    by_decision x (Decision.Sends l y) e h = (x, h, refl, refl, inl (refl, e))
    by_decision x (Decision.Asks p) e h = (h, e)
    by_decision x (Decision.Drops c) e h = one_fate _ (x, h, refl, refl, inl e)

    by_reply : (x : Arrival K) (p : K.Problem) (r : Reply K) → R.reply x p ≡ r → HasArrival s x → R.decide x ≡ Decision.Asks p → Turns (Request x p) (replied x r)
    by_reply x p (Replies l y) e h k = (x, h, refl, refl, inr (refl, p, k, e))
    by_reply x p (Withholds c) e h k = one_fate _ (x, h, refl, refl, inr (p, k, e))

    turned : (x : Item K) (e : Outcome K) → work R x ≡ Some e → Made x → Turns x e
    turned (Packet x) e h m = let q : decided x (R.decide x) ≡ e = cc in subst (Turns (Packet x)) q (by_decision x (R.decide x) refl m.0)
    turned (Request x p) e h m = let q : replied x (R.reply x p) ≡ e = cc in subst (Turns (Request x p)) q (by_reply x p (R.reply x p) refl m.0 m.1)
    turned (Arrived x) e h m = cc
    turned (Out o) e h m = cc
    turned Close e h m = cc
    turned End e h m = cc

    mark_made : (x : Item K) → is_mark x ≡ true → Made x
    mark_made Close m = tt
    mark_made End m = tt
    mark_made (Arrived x) m = cc
    mark_made (Packet x) m = cc
    mark_made (Request x n) m = cc
    mark_made (Out o) m = cc

    held_made : (w : World K) (j : ℕ) (h : Hand K) → Right w → hand w j ≡ h → IsHandMade R s h
    held_made w j h u e = subst (IsHandMade R s) e (u.hands j)

    -- what a hand owes is no arrival
    abbrev OweNone : World K → Type 0
    OweNone w = (j : ℕ) → OwesNone (hand w j)

    owes_with : (w : World K) (j : ℕ) (h : Hand K) → OweNone w → OwesNone h → OweNone (with_hand w j h)
    owes_with w j h u k i = go (hand_cases w j h i)
      where
        go : (hand (with_hand w j h) i ≡ hand w i) ⊎ ((i ≡ j) × (hand (with_hand w j h) i ≡ h)) → OwesNone (hand (with_hand w j h) i)
        go (inl e) = subst OwesNone (sym e) (u i)
        go (inr e) = subst OwesNone (sym e.1) k

    after_owes : (x : Item K) → OwesNone (hand_after x)
    after_owes (Arrived x) = tt
    after_owes (Packet x) = tt
    after_owes (Request x p) = tt
    after_owes (Out o) = tt
    after_owes Close = tt
    after_owes End = tt

    decided_owes : (x : Arrival K) (r : Decision K) (y : Item K) → decided x r ≡ Makes y → is_received y ≡ true
    decided_owes x (Decision.Sends l p) y e = let P : Outcome K → Type 0 = elim [ Makes z ↦ is_received z ≡ true | Ends c ↦ Unit {0} ] in subst P e refl
    decided_owes x (Decision.Asks p) y e = let P : Outcome K → Type 0 = elim [ Makes z ↦ is_received z ≡ true | Ends c ↦ Unit {0} ] in subst P e refl
    decided_owes x (Decision.Drops c) y e = cc

    replied_owes : (x : Arrival K) (r : Reply K) (y : Item K) → replied x r ≡ Makes y → is_received y ≡ true
    replied_owes x (Replies l p) y e = let P : Outcome K → Type 0 = elim [ Makes z ↦ is_received z ≡ true | Ends c ↦ Unit {0} ] in subst P e refl
    replied_owes x (Withholds c) y e = cc

    work_owes : (x y : Item K) → work R x ≡ Some (Makes y) → is_received y ≡ true
    work_owes (Packet x) y e = decided_owes x (R.decide x) y cc
    work_owes (Request x p) y e = replied_owes x (R.reply x p) y cc
    work_owes (Arrived x) y e = cc
    work_owes (Out o) y e = cc
    work_owes Close y e = cc
    work_owes End y e = cc

    keeps_owes : (w v : World K) → Move R w v → OweNone w → OweNone v
    keeps_owes w v (Receives b x None i e k q) u = owes_with (with_pipe w b (one_taken (pipe w b))) b (Owes (Packet x)) u refl
    keeps_owes w v (Receives b x (Some c) i e k q) u = owes_with (with_pipe w b (one_taken (pipe w b))) b Empty u tt
    keeps_owes w v (Starves b x h) u = owes_with w b Empty u tt
    keeps_owes w v (Offers from j x h r) u = owes_with (with_pipe w (home R x) (pushed (pipe w (home R x)) from x)) j Empty u tt
    keeps_owes w v (Refuses j x h r) u = owes_with (with_pipe w (home R x) (refused (pipe w (home R x)) (refusal_of x (pipe w (home R x))))) j Empty u tt
    keeps_owes w v (Takes q j x ls i n m e k) u = owes_with (with_pipe w q (one_taken (pipe w q))) j (hand_after x) u (after_owes x)
    keeps_owes w v (Looks ls) u = u
    keeps_owes w v (Works j x (Makes y) h k) u = owes_with w j (Owes y) u (work_owes x y k)
    keeps_owes w v (Works j x (Ends c) h k) u = owes_with w j Empty u tt
    keeps_owes w v (Lacks j x h k) u = owes_with w j Empty u tt
    keeps_owes w v (Marks q from x i m r) u = u
    keeps_owes w v (Sends l j o i s' h) u = owes_with w j Empty u tt
    keeps_owes w v (Fails j o h) u = owes_with w j Empty u tt
    keeps_owes w v (Sweeps q j x ls i n m e k) u = owes_with (with_pipe w q (one_taken (pipe w q))) j Empty u tt

    pub record Whence (w : World K) : Type 0 where
      pub right : Right w
      pub owes : OweNone w

    out_sent : (w : World K) → Right w → (l : ℕ) (o : Outgoing K) → Made (Out o) → (k : ℕ) → All (λ o. Made (Out o)) (get_or (sent_with w l o).sent k [])
    out_sent w u l o m k = go (at_cases w.sent l (get_or w.sent l [] ++ o ∷ []) [] k)
      where
        P : Outgoing K → Type 0
        P o = Made (Out o)

        go : (get_or (sent_with w l o).sent k [] ≡ get_or w.sent k []) ⊎ ((k ≡ l) × (get_or (sent_with w l o).sent k [] ≡ get_or w.sent l [] ++ o ∷ [])) → All (λ o. Made (Out o)) (get_or (sent_with w l o).sent k [])
        go (inl e) = let Q : List (Outgoing K) → Type 0 = λ os. All (λ o. Made (Out o)) os in subst Q (sym e) (u.sent k)
        go (inr e) = let Q : List (Outgoing K) → Type 0 = λ os. All (λ o. Made (Out o)) os in subst Q (sym e.1) (All-push (λ o. Made (Out o)) (get_or w.sent l []) o (u.sent l) m)

    keeps_right : (w v : World K) → Move R w v → Right w → OweNone w → Right v
    keeps_right w v (Receives b x None i e k q) u o = right_taken w b b (Owes (Packet x)) u (front_made w b (Arrived x) u k, q)
    keeps_right w v (Receives b x (Some c) i e k q) u o =
        let here = front_made w b (Arrived x) u k in
        right_fate (taken_from w b b Empty) (Arrived x) (Cause.Ruled c) (right_taken w b b Empty u tt) (one_fate _ (x, here, refl, refl, inl (law.faults x c here q)))
    keeps_right w v (Starves b x h) u o = right_fate (with_hand w b Empty) x Cause.NoBuffer (right_hand w b Empty u tt) (pipelines x Cause.NoBuffer (λ f. tt))
    keeps_right w v (Offers from j x h r) u o = right_hand _ j Empty (right_pushed w (home R x) from x u (held_made w j (Owes x) u h) (stands x (subst OwesNone h (o j)))) tt
    keeps_right w v (Refuses j x h r) u o =
        let p = refused (pipe w (home R x)) (refusal_of x (pipe w (home R x))) in
        right_fate (with_hand (with_pipe w (home R x) p) j Empty) x (full_of x) (right_hand (with_pipe w (home R x) p) j Empty (right_pipe w (home R x) p u (u.pipes (home R x)) (u.homes (home R x))) tt) (pipelines x (full_of x) (full_pipelines x))
    keeps_right w v (Takes q j x ls s i n e k) u o = right_taken (with_looks w ls) q j (hand_after x) (right_looks w ls u) (after_made x (front_made w q x u k))
    keeps_right w v (Looks ls) u o = right_looks w ls u
    keeps_right w v (Works j x (Makes y) h k) u o = right_hand w j (Owes y) u (turned x (Makes y) k (held_made w j (Got x) u h))
    keeps_right w v (Works j x (Ends c) h k) u o = right_fate (with_hand w j Empty) x c (right_hand w j Empty u tt) (turned x (Ends c) k (held_made w j (Got x) u h))
    keeps_right w v (Lacks j x h k) u o = right_fate (with_hand w j Empty) x Cause.NoMemory (right_hand w j Empty u tt) (pipelines x Cause.NoMemory (λ f. tt))
    keeps_right w v (Marks q from x i m r) u o = right_pushed w q from x u (mark_made x m) (mark_home q x m)
    keeps_right w v (Sends l j o i s' h) u o' = let t = right_hand w j Empty u tt in record { hands = t.hands; pipes = t.pipes; fates = t.fates; homes = t.homes; sent = λ k. out_sent w u l o (held_made w j (Got (Out o)) u h) k }
    keeps_right w v (Fails j o h) u o' = right_fate (with_hand w j Empty) (Out o) Cause.SendFailed (right_hand w j Empty u tt) (pipelines (Out o) Cause.SendFailed (λ f. tt))
    keeps_right w v (Sweeps q j x ls s i n e k) u o = right_fate (taken_from (with_looks w ls) q j Empty) x Cause.Closed (right_taken (with_looks w ls) q j Empty (right_looks w ls u) tt) (pipelines x Cause.Closed (λ f. tt))

    pub keeps_whence : (w v : World K) → Move R w v → Whence w → Whence v
    keeps_whence w v m u = record { right = keeps_right w v m u.right u.owes; owes = keeps_owes w v m u.owes }

    -- the start
    arrived_made : (a n : ℕ) (xs : List (Item K)) → Numbered a n xs → All (Contains (items (pipe s a).history)) xs → All Made xs
    arrived_made a n [] h c = All-nil Made
    arrived_made a n (Arrived x ∷ xs) h c =
        let C : Item K → Type 0 = λ y. Contains (items (pipe s a).history) y in
        let P : ℕ → Type 0 = λ b. Contains (items (pipe s b).history) (Arrived x) in
        All-cons Made (Arrived x) xs (subst P (sym h.0) (All-head C (Arrived x) xs c)) (arrived_made a (n + 1) xs h.2 (All-tail C (Arrived x) xs c))
    arrived_made a n (_ ∷ xs) h c = absurd h

    module _ (st : IsStart R s) where
      home_all : (a n : ℕ) (xs : List (Item K)) → a < R.links → Numbered a n xs → All (Home a) xs
      home_all a n [] i h = All-nil (Home a)
      home_all a n (Arrived x ∷ xs) i h = All-cons (Home a) (Arrived x) xs (h.0, i) (home_all a (n + 1) xs i h.2)
      home_all a n (_ ∷ xs) i h = absurd h

      start_right : Right s
      start_right = record {
        hands = λ j. rw (st.hands j) tt;
        pipes = λ q. go q (cases_lt q R.links);
        fates = rw st.fates (All-nil Caused);
        homes = λ q. at q (cases_lt q R.links);
        sent = λ l. rw (st.sent l) (All-nil (λ o. Made (Out o)));
      }
        where
          go : (q : ℕ) → (q < R.links) ⊎ (R.links ≤ q) → All Made (items (pipe s q).history)
          go q (inl i) = arrived_made q 1 (items (pipe s q).history) (st.numbered q i) (All-contains_itself (items (pipe s q).history))
          go q (inr i) = rw (st.empty q i) (All-nil Made)

          at : (q : ℕ) → (q < R.links) ⊎ (R.links ≤ q) → All (Home q) (items (pipe s q).history)
          at q (inl i) = home_all q 1 (items (pipe s q).history) i (st.numbered q i)
          at q (inr i) = rw (st.empty q i) (All-nil (Home q))

      pub start_whence : Whence s
      start_whence = record { right = start_right; owes = λ j. rw (st.hands j) tt }

pub keeps_rules : (K : Kinds) → KeepsRules K
keeps_rules K R w r law =
    let last = run_keeps R (Whence R r.start law) (λ u v m k. keeps_whence R r.start law u v m k) r.steps r.start (start_whence R r.start law r.is_start) in
    subst (IsByRules R r.start) (sym r.by_steps) last.right
