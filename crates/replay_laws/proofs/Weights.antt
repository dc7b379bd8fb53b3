-- Each move keeps the number of places at which a packet stands.
use Rattle.std.proofs.Common.{◌≡◌, ◌≢◌, ◌⊎◌, inl, inr, ℕ, Bool, true, false, ◌&&◌, ◌+◌, ◌<◌, ◌≤◌, cond, List, [], ◌∷◌, ◌++◌, length, drop, get_or, refl, sym, subst, ◌∙◌, ap, arith, length-append}
use Rattle.std.specs.Prelude.{Some, None}
use Rattle.std.specs.List.{flat_map}
use Rattle.std.proofs.lemmas.List.{set_past, length_push, length-set}
use Rattle.std.proofs.lemmas.Option.{slice_get_within}
use Rattle.std.proofs.lemmas.Bool.{cases_lt}
use Rattle.replay_laws.specs.Marks.{is_named}
use Rattle.order_laws.specs.Item.{Arrival, Arrived, Request, Close, End, Item, Out, Outgoing, Packet}
use Rattle.order_laws.specs.Kinds.{Kinds}
use Rattle.order_laws.specs.Counts.{total}
use Rattle.replay_laws.specs.ByRules.{IsMade, IsHandMade, IsByRules}
use Rattle.replay_laws.specs.Next.{decided, replied, Ends, Makes, Outcome, full_of, hand_after, taken_from}
use Rattle.replay_laws.specs.Pipe.{Pipe, empty_pipe, front, held, items, one_taken, pushed, refusal_of, refused}
use Rattle.replay_laws.specs.Place.{Place, Answered, Dropped, InHand, here_if, in_fates, in_hand, in_hands, in_pipe, in_pipes, in_sent, place_at, places_of, worker_at}
use Rattle.order_laws.specs.Rules.{Decision, Reply, Replies, Withholds, IsLawful, Rules}
use Rattle.replay_laws.specs.Start.{IsStart, HasArrival}
use Rattle.replay_laws.specs.Worker.{Worker}
use Rattle.order_laws.specs.Cause.{Cause}
use Rattle.order_laws.specs.Fate.{Fate}
use Rattle.replay_laws.specs.World.{Empty, Got, Hand, Owes, World, fate_of, hand, pipe, seat_count, sent_with, with_fate, with_hand, with_looks, with_pipe}
use Rattle.order_laws.specs.Pipes.{home, link_pipe, pipe_count}
use Rattle.order_laws.proofs.Sums.{total-set, total-append, total-drop}
use Rattle.replay_laws.proofs.Moves.{Move, Receives, Starves, Offers, Refuses, Takes, Looks, Works, Lacks, Marks, Sends, Fails, Sweeps, Serves, work, is_mark}
use Rattle.replay_laws.proofs.Parts.{hand_cases, pipe_cases, hand_there, pipe_there, held_front, held_pushed, items_pushed}

abbrev pub one_if : Bool → ℕ
one_if b = cond b 1 0

module _ {K : Kinds} where
  -- What stays: how many of each there are, no pipe has more taken than pushed, what is owed has a pipe to go to.
  abbrev pub HasHome : Rules K → Hand K → Type 0
  HasHome R Empty = Unit {0}
  HasHome R (Got x) = Unit {0}
  HasHome R (Owes x) = home R x < pipe_count R

  abbrev pub Fits : Pipe K → Type 0
  Fits p = p.taken ≤ length (items p.history)

  pub record Whole (R : Rules K) (w : World K) : Type 0 where
    pub hand_count : length w.hands ≡ seat_count R
    pub pipe_count : length w.pipes ≡ pipe_count R
    pub sent_count : length w.sent ≡ R.links
    pub fits : (q : ℕ) → Fits (pipe w q)
    pub homes : (j : ℕ) → HasHome R (hand w j)

  module _ (R : Rules K) where
    whole_hand : (w : World K) (j : ℕ) (h : Hand K) → Whole R w → HasHome R h → Whole R (with_hand w j h)
    whole_hand w j h u k = record {
      hand_count = length-set w.hands j h ∙ u.hand_count;
      pipe_count = u.pipe_count;
      sent_count = u.sent_count;
      fits = u.fits;
      homes = λ i. go i (hand_cases w j h i);
    }
      where
        go : (i : ℕ) → (hand (with_hand w j h) i ≡ hand w i) ⊎ ((i ≡ j) × (hand (with_hand w j h) i ≡ h)) → HasHome R (hand (with_hand w j h) i)
        go i (inl e) = subst (HasHome R) (sym e) (u.homes i)
        go i (inr e) = subst (HasHome R) (sym e.1) k

    whole_pipe : (w : World K) (q : ℕ) (p : Pipe K) → Whole R w → Fits p → Whole R (with_pipe w q p)
    whole_pipe w q p u k = record {
      hand_count = u.hand_count;
      pipe_count = length-set w.pipes q p ∙ u.pipe_count;
      sent_count = u.sent_count;
      fits = λ i. go i (pipe_cases w q p i);
      homes = u.homes;
    }
      where
        go : (i : ℕ) → (pipe (with_pipe w q p) i ≡ pipe w i) ⊎ ((i ≡ q) × (pipe (with_pipe w q p) i ≡ p)) → Fits (pipe (with_pipe w q p) i)
        go i (inl e) = subst Fits (sym e) (u.fits i)
        go i (inr e) = subst Fits (sym e.1) k

    whole_fate : (w : World K) (x : Item K) (c : Cause K) → Whole R w → Whole R (with_fate w x c)
    whole_fate w x c u = record { hand_count = u.hand_count; pipe_count = u.pipe_count; sent_count = u.sent_count; fits = u.fits; homes = u.homes }

    whole_looks : (w : World K) (ls : List Bool) → Whole R w → Whole R (with_looks w ls)
    whole_looks w ls u = record { hand_count = u.hand_count; pipe_count = u.pipe_count; sent_count = u.sent_count; fits = u.fits; homes = u.homes }

    whole_sent : (w : World K) (l : ℕ) (o : Outgoing K) → Whole R w → Whole R (sent_with w l o)
    whole_sent w l o u = record { hand_count = u.hand_count; pipe_count = u.pipe_count; sent_count = length-set w.sent l (get_or w.sent l [] ++ o ∷ []) ∙ u.sent_count; fits = u.fits; homes = u.homes }

    fits_taken : (p : Pipe K) (x : Item K) → front p ≡ Some x → Fits (one_taken p)
    fits_taken p x k = let t = slice_get_within (items p.history) p.taken x k in omega arith

    fits_pushed : (p : Pipe K) (from : Worker) (x : Item K) → Fits p → Fits (pushed p from x)
    fits_pushed p from x h = let t = ap length (items_pushed p from x) in let g = length_push (items p.history) x in omega arith

    whole_taken : (w : World K) (q j : ℕ) (x : Item K) (h : Hand K) → Whole R w → front (pipe w q) ≡ Some x → HasHome R h → Whole R (taken_from w q j h)
    whole_taken w q j x h u k g = whole_hand (with_pipe w q (one_taken (pipe w q))) j h (whole_pipe w q (one_taken (pipe w q)) u (fits_taken (pipe w q) x k)) g

    after_home : (x : Item K) → HasHome R (hand_after x)
    after_home (Arrived x) = tt
    after_home (Packet x) = tt
    after_home (Request x n) = tt
    after_home (Out o) = tt
    after_home Close = tt
    after_home End = tt

    module _ (s : World K) (law : IsLawful R (HasArrival s)) where
      below : (b : Bool) (l : ℕ) → l < R.links → link_pipe R b l < pipe_count R
      below true l i = omega arith
      below false l i = omega arith

      packet_home : (x : Arrival K) → home R (Packet x) < pipe_count R
      packet_home x = let i = law.processors (R.key x) in omega arith

      MadeHome : Outcome K → Type 0
      MadeHome (Makes y) = home R y < pipe_count R
      MadeHome (Ends c) = Unit {0}

      decided_home : (x : Arrival K) (r : Decision K) → ((l : ℕ) (y : K.Parcel) → r ≡ Decision.Sends l y → l < R.links) → MadeHome (decided x r)
      unfolding MadeHome
      decided_home x (Decision.Sends l y) h = below (R.two_bands l && R.urgent_parcel y) l (h l y refl)
      decided_home x (Decision.Asks p) h = omega arith
      decided_home x (Decision.Drops c) h = tt

      replied_home : (x : Arrival K) (r : Reply K) → ((l : ℕ) (y : K.Parcel) → r ≡ Replies l y → l < R.links) → MadeHome (replied x r)
      unfolding MadeHome
      replied_home x (Replies l y) h = below (R.two_bands l && R.urgent_parcel y) l (h l y refl)
      replied_home x (Withholds c) h = tt

      work_home : (x : Item K) (e : Outcome K) → work R x ≡ Some e → IsMade R s x → MadeHome e
      work_home (Packet x) e h m = let q : decided x (R.decide x) ≡ e = cc in subst MadeHome q (decided_home x (R.decide x) (λ l y. law.sends x l y m.0))
      work_home (Request x p) e h m = let q : replied x (R.reply x p) ≡ e = cc in subst MadeHome q (replied_home x (R.reply x p) (λ l y. law.replies x p l y m.0 m.1))
      work_home (Arrived x) e h m = cc
      work_home (Out o) e h m = cc
      work_home Close e h m = cc
      work_home End e h m = cc

      pub keeps_whole : (w v : World K) → Move R w v → IsByRules R s w → Whole R w → Whole R v
      unfolding MadeHome
      keeps_whole w v (Receives b x None i e k q) t u = whole_taken w b b (Arrived x) (Owes (Packet x)) u k (packet_home x)
      keeps_whole w v (Receives b x (Some c) i e k q) t u = whole_fate _ (Arrived x) (Cause.Ruled c) (whole_taken w b b (Arrived x) Empty u k tt)
      keeps_whole w v (Starves b x h) t u = whole_fate _ x Cause.NoBuffer (whole_hand w b Empty u tt)
      keeps_whole w v (Offers from j x h r) t u = whole_hand _ j Empty (whole_pipe w (home R x) _ u (fits_pushed (pipe w (home R x)) from x (u.fits (home R x)))) tt
      keeps_whole w v (Refuses j x h r) t u = whole_fate _ x _ (whole_hand _ j Empty (whole_pipe w (home R x) _ u (u.fits (home R x))) tt)
      keeps_whole w v (Takes q j x ls s i n e k) t u = whole_taken (with_looks w ls) q j x (hand_after x) (whole_looks w ls u) k (after_home x)
      keeps_whole w v (Looks ls) t u = whole_looks w ls u
      keeps_whole w v (Works j x (Makes y) h k) t u = whole_hand w j (Owes y) u (work_home x (Makes y) k (subst (IsHandMade R s) h (t.hands j)))
      keeps_whole w v (Works j x (Ends c) h k) t u = whole_fate _ x c (whole_hand w j Empty u tt)
      keeps_whole w v (Lacks j x h k) t u = whole_fate _ x Cause.NoMemory (whole_hand w j Empty u tt)
      keeps_whole w v (Marks q from x i m r) t u = whole_pipe w q _ u (fits_pushed (pipe w q) from x (u.fits q))
      keeps_whole w v (Sends l j o i s' h) t u = whole_sent (with_hand w j Empty) l o (whole_hand w j Empty u tt)
      keeps_whole w v (Fails j o h) t u = whole_fate _ (Out o) Cause.SendFailed (whole_hand w j Empty u tt)
      keeps_whole w v (Sweeps q j x ls s i n e k) t u = whole_fate _ x Cause.Closed (whole_taken (with_looks w ls) q j x Empty (whole_looks w ls u) k tt)

  module _ (named : ℕ → ℕ → Bool) where
    unfoldable pub one : Item K → ℕ
    one x = cond (is_named named x) 1 0

    length_if : (b : Bool) (p : Place K) → length (here_if b p) ≡ one_if b
    length_if true p = refl
    length_if false p = refl

    abbrev pub grip : Hand K → ℕ
    grip Empty = 0
    grip (Got x) = one x
    grip (Owes x) = one x

    abbrev pub at : Pipe K → ℕ
    at p = total one (held p)

    abbrev pub out : Outgoing K → ℕ
    out o = one (Out o)

    abbrev pub fate : Fate K → ℕ
    fate x = cond (named x.link x.number) 1 0

    abbrev pub weight : World K → ℕ
    weight w = total grip w.hands + (total at w.pipes + (total (total out) w.sent + total fate w.fates))

    -- the weight is the number of places
    pipe_weight : (p : Place K) (xs : List (Item K)) → length (in_pipe named p xs) ≡ total one xs
    unfolding one
    pipe_weight p [] = refl
    pipe_weight p (x ∷ xs) = let t = pipe_weight p xs in let o = length_if (is_named named x) p in rw length-append (omega (arith, t, o))

    hand_weight : (p : Place K) (h : Hand K) → length (in_hand named p h) ≡ grip h
    unfolding one
    hand_weight p Empty = refl
    hand_weight p (Got x) = length_if (is_named named x) p
    hand_weight p (Owes x) = length_if (is_named named x) p

    pub hands_weight : (R : Rules K) (j : ℕ) (hs : List (Hand K)) → length (in_hands R named j hs) ≡ total grip hs
    hands_weight R j [] = refl
    hands_weight R j (h ∷ hs) = let t = hands_weight R (j + 1) hs in let k = hand_weight (InHand (worker_at R j)) h in simp length-append (omega (arith, t, k))

    pub pipes_weight : (R : Rules K) (q : ℕ) (ps : List (Pipe K)) → length (in_pipes R named q ps) ≡ total at ps
    pipes_weight R q [] = refl
    pipes_weight R q (p ∷ ps) = let t = pipes_weight R (q + 1) ps in let k = pipe_weight (place_at R q) (held p) in simp length-append (omega (arith, t, k))

    sent_weight : (os : List (Outgoing K)) → length (in_sent named os) ≡ total out os
    unfolding one
    sent_weight [] = refl
    sent_weight (o ∷ os) = let t = sent_weight os in let h = length_if (named o.arrived o.number) (cond o.answer Answered Place.Sent) in rw length-append (omega (arith, t, h))

    pub all_sent_weight : (xs : List (List (Outgoing K))) → length (flat_map (in_sent named) xs) ≡ total (total out) xs
    all_sent_weight [] = refl
    all_sent_weight (os ∷ xs) = let t = all_sent_weight xs in let h = sent_weight os in rw length-append (omega (arith, t, h))

    pub fates_weight : (F : List (Fate K)) → length (in_fates named F) ≡ total fate F
    fates_weight [] = refl
    fates_weight (x ∷ F) = let t = fates_weight F in let h = length_if (named x.link x.number) (Dropped x.cause) in rw length-append (omega (arith, t, h))

    pub places_weight : (R : Rules K) (w : World K) → ((b : ℕ) → b < R.links → at (pipe w b) ≡ 0) → length (places_of R named w) ≡ weight w
    places_weight R w none =
        let h = hands_weight R 0 w.hands in
        let p = pipes_weight R R.links (drop R.links w.pipes) in
        let d = total-drop at (empty_pipe 0) R.links w.pipes none in
        let o = all_sent_weight w.sent in let f = fates_weight w.fates in
        simp length-append (omega (arith, h, p, d, o, f))

    -- one hand or pipe is replaced
    regrips : (w : World K) (j : ℕ) (h : Hand K) → j < length w.hands → weight (with_hand w j h) + grip (hand w j) ≡ weight w + grip h
    regrips w j h i = let t = total-set grip w.hands j h Empty i in omega arith

    repipes : (w : World K) (q : ℕ) (p : Pipe K) → q < length w.pipes → weight (with_pipe w q p) + at (pipe w q) ≡ weight w + at p
    repipes w q p i = let t = total-set at w.pipes q p (empty_pipe 0) i in omega arith

    fate_weight : (x : Item K) (c : Cause K) → total fate (fate_of x c) ≡ one x
    unfolding one
    fate_weight (Arrived x) c = omega arith
    fate_weight (Packet x) c = omega arith
    fate_weight (Request x m) c = omega arith
    fate_weight (Out o) c = omega arith
    fate_weight Close c = refl
    fate_weight End c = refl

    fated : (v : World K) (x : Item K) (c : Cause K) → weight (with_fate v x c) ≡ weight v + one x
    fated v x c = let t = total-append fate v.fates (fate_of x c) in let f = fate_weight x c in omega arith

    mark_weight : (x : Item K) → is_mark x ≡ true → one x ≡ 0
    unfolding one
    mark_weight Close m = refl
    mark_weight End m = refl
    mark_weight (Arrived x) m = cc
    mark_weight (Packet x) m = cc
    mark_weight (Request x k) m = cc
    mark_weight (Out o) m = cc

    after_weight : (x : Item K) → grip (hand_after x) ≡ one x
    after_weight (Arrived x) = refl
    after_weight (Packet x) = refl
    after_weight (Request x m) = refl
    after_weight (Out o) = refl
    after_weight Close = sym (mark_weight Close refl)
    after_weight End = sym (mark_weight End refl)

    push_weight : (p : Pipe K) (from : Worker) (x : Item K) → Fits p → at (pushed p from x) ≡ at p + one x
    push_weight p from x h = let e = ap (total one) (held_pushed p from x h) in let t = total-append one (held p) (x ∷ []) in omega arith

    -- what a worker makes of an item has its name
    Named : Arrival K → Outcome K → Type 0
    Named x (Makes y) = one y ≡ one (Packet x)
    Named x (Ends c) = Unit {0}

    decided_weight : (x : Arrival K) (r : Decision K) (y : Item K) → decided x r ≡ Makes y → one y ≡ one (Packet x)
    unfolding one Named
    decided_weight x (Decision.Sends k p) y e = subst (Named x) e refl
    decided_weight x (Decision.Asks p) y e = subst (Named x) e refl
    decided_weight x (Decision.Drops c) y e = cc

    replied_weight : (x : Arrival K) (r : Reply K) (y : Item K) → replied x r ≡ Makes y → one y ≡ one (Packet x)
    unfolding one Named
    replied_weight x (Replies k p) y e = subst (Named x) e refl
    replied_weight x (Withholds c) y e = cc

    work_weight : (R : Rules K) (x y : Item K) → work R x ≡ Some (Makes y) → one y ≡ one x
    unfolding one
    work_weight R (Packet x) y e = decided_weight x (R.decide x) y cc
    work_weight R (Request x m) y e = replied_weight x (R.reply x m) y cc
    work_weight R (Arrived x) y e = cc
    work_weight R (Out o) y e = cc
    work_weight R Close y e = cc
    work_weight R End y e = cc

    module _ (R : Rules K) (w : World K) (u : Whole R w) where
      there : (j : ℕ) (h : Hand K) → hand w j ≡ h → h ≢ Empty → j < length w.hands
      there j h e n = hand_there w j (λ k. n (sym e ∙ k))

      emptied : (j : ℕ) (x : Item K) → j < length w.hands → grip (hand w j) ≡ one x → weight (with_hand w j Empty) + one x ≡ weight w
      emptied j x i h = let m = regrips w j Empty i in omega arith

      ends_with : (j : ℕ) (x : Item K) (c : Cause K) → j < length w.hands → grip (hand w j) ≡ one x → weight (with_fate (with_hand w j Empty) x c) ≡ weight w
      ends_with j x c i h = let m = emptied j x i h in let f = fated (with_hand w j Empty) x c in omega arith

      took : (q j : ℕ) (x : Item K) (h : Hand K) → j < seat_count R → hand w j ≡ Empty → front (pipe w q) ≡ Some x → weight (taken_from w q j h) + one x ≡ weight w + grip h
      took q j x h i e k =
          let p = one_taken (pipe w q) in
          let m = repipes w q p (pipe_there w q x k) in
          let c = u.hand_count in
          let g = regrips (with_pipe w q p) j h (omega arith) in
          let f = ap (total one) (held_front (pipe w q) x k) in
          let z = ap grip e in
          omega arith

      seat_in : (q j : ℕ) → Serves R q j → j < seat_count R
      seat_in q j (inl s) = let i = s.1 in omega arith
      seat_in q j (inr s) = s.2

      pushes : (q : ℕ) (from : Worker) (x : Item K) → q < pipe_count R → weight (with_pipe w q (pushed (pipe w q) from x)) ≡ weight w + one x
      pushes q from x i =
          let c = u.pipe_count in
          let m = repipes w q (pushed (pipe w q) from x) (omega arith) in
          let g = push_weight (pipe w q) from x (u.fits q) in
          omega arith

      marks : (q : ℕ) (from : Worker) (x : Item K) → is_mark x ≡ true → weight (with_pipe w q (pushed (pipe w q) from x)) ≡ weight w
      marks q from x m = go (cases_lt q (length w.pipes))
        where
          go : (q < length w.pipes) ⊎ (length w.pipes ≤ q) → weight (with_pipe w q (pushed (pipe w q) from x)) ≡ weight w
          go (inl i) = let c = u.pipe_count in let g = pushes q from x (omega arith) in let z = mark_weight x m in omega arith
          go (inr i) = ap (λ (ps : List (Pipe K)). total grip w.hands + (total at ps + (total (total out) w.sent + total fate w.fates))) (set_past w.pipes q (pushed (pipe w q) from x) i)

      owed_home : (j : ℕ) (x : Item K) → hand w j ≡ Owes x → home R x < pipe_count R
      owed_home j x h = subst (HasHome R) h (u.homes j)

    module _ (R : Rules K) (w : World K) (u : Whole R w) where
      pub keeps_weight : (v : World K) → Move R w v → weight v ≡ weight w
      unfolding one
      keeps_weight v (Receives b x None i e k q) = let t = took R w u b b (Arrived x) (Owes (Packet x)) (omega arith) e k in omega arith
      keeps_weight v (Receives b x (Some c) i e k q) = let t = took R w u b b (Arrived x) Empty (omega arith) e k in let f = fated (taken_from w b b Empty) (Arrived x) (Cause.Ruled c) in omega arith
      keeps_weight v (Starves b x h) = ends_with R w u b x Cause.NoBuffer (there R w u b (Owes x) h (λ e. cc)) (ap grip h)
      keeps_weight v (Offers from j x h r) =
          let q = home R x in
          let g = pushes R w u q from x (owed_home R w u j x h) in
          let m = regrips (with_pipe w q (pushed (pipe w q) from x)) j Empty (there R w u j (Owes x) h (λ e. cc)) in
          let z = ap grip h in
          omega arith
      keeps_weight v (Refuses j x h r) =
          let q = home R x in
          let p = refused (pipe w q) (refusal_of x (pipe w q)) in
          let c = u.pipe_count in
          let i = owed_home R w u j x h in
          let g = repipes w q p (omega arith) in
          let m = regrips (with_pipe w q p) j Empty (there R w u j (Owes x) h (λ e. cc)) in
          let z = ap grip h in
          let f = fated (with_hand (with_pipe w q p) j Empty) x (full_of x) in
          omega arith
      keeps_weight v (Takes q j x ls s i n e k) = let t = took R (with_looks w ls) (whole_looks R w ls u) q j x (hand_after x) (seat_in R w u q j s) e k in let f = after_weight x in omega arith
      keeps_weight v (Looks ls) = refl
      keeps_weight v (Works j x (Makes y) h k) =
          let m = regrips w j (Owes y) (there R w u j (Got x) h (λ e. cc)) in
          let e = ap grip h in let f = work_weight R x y k in omega arith
      keeps_weight v (Works j x (Ends c) h k) = ends_with R w u j x c (there R w u j (Got x) h (λ e. cc)) (ap grip h)
      keeps_weight v (Lacks j x h k) = ends_with R w u j x Cause.NoMemory (there R w u j (Got x) h (λ e. cc)) (ap grip h)
      keeps_weight v (Marks q from x i m r) = marks R w u q from x m
      keeps_weight v (Sends l j o i s' h) =
          let m = emptied R w u j (Out o) (there R w u j (Got (Out o)) h (λ e. cc)) (ap grip h) in
          let old = get_or w.sent l [] in
          let c = u.sent_count in
          let t = total-set (total out) w.sent l (old ++ o ∷ []) [] (omega arith) in
          let g = total-append out old (o ∷ []) in
          omega arith
      keeps_weight v (Fails j o h) = ends_with R w u j (Out o) Cause.SendFailed (there R w u j (Got (Out o)) h (λ e. cc)) (ap grip h)
      keeps_weight v (Sweeps q j x ls s i n e k) =
          let t = took R (with_looks w ls) (whole_looks R w ls u) q j x Empty (seat_in R w u q j s) e k in
          let f = fated (taken_from (with_looks w ls) q j Empty) x Cause.Closed in omega arith

  pub start_whole : (R : Rules K) (w : World K) → IsStart R w → Whole R w
  start_whole R w st = record {
    hand_count = st.hand_count;
    pipe_count = st.pipe_count;
    sent_count = st.sent_count;
    fits = λ q. (let t = st.taken q in omega arith);
    homes = λ j. rw (st.hands j) tt;
  }
