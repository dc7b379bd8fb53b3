-- What a forwarder sent is what it took for sending.
use Rattle.std.proofs.Common.{◌≡◌, ◌≢◌, ◌⊎◌, inl, inr, ℕ, Bool, true, false, not, ◌||◌, ◌&&◌, ◌+◌, ◌<◌, ◌≤◌, cond, List, [], ◌∷◌, ◌++◌, length, take, get_or, set, refl, sym, subst, ◌∙◌, ap, ap₂, arith, eqb, append_assoc}
use Rattle.std.specs.Prelude.{Option, Some, None}
use Rattle.std.specs.List.{All, filter}
use Rattle.std.proofs.lemmas.List.{append-nil, get_or-set_same, get_or-set_other}
use Rattle.std.proofs.lemmas.List.Elements.{All-head, All-tail, All-take, filter_agree, filter-append}
use Rattle.std.proofs.lemmas.List.Folds.{list_any-append}
use Rattle.std.proofs.lemmas.List.Concat.{flat_map-append}
use Rattle.std.proofs.lemmas.Bool.{cases_eq, eq-eqb, ne_eqb}
use Rattle.order_laws.specs.Kinds.{Kinds}
use Rattle.order_laws.specs.Item.{Arrival, Outgoing, Arrived, Packet, Request, Out, Close, End, Item, is_one}
use Rattle.replay_laws.specs.Marks.{before_close}
use Rattle.order_laws.specs.Counts.{total}
use Rattle.replay_laws.specs.Pipe.{Pipe, front, gone, items, passed}
use Rattle.order_laws.specs.Rules.{Rules, Decision, Reply, Replies, Withholds, IsLawful}
use Rattle.order_laws.specs.Fate.{Fate}
use Rattle.replay_laws.specs.World.{World, Hand, Empty, Got, Owes, hand, pipe, fate_of, sent_with, with_looks, with_hand, with_fate}
use Rattle.order_laws.specs.Cause.{Cause}
use Rattle.order_laws.specs.Pipes.{link_pipe, slow_seat}
use Rattle.replay_laws.specs.Step.{Step}
use Rattle.replay_laws.specs.Next.{Outcome, Makes, Ends, decided, replied, next, hand_after, full_of, taken_from}
use Rattle.replay_laws.specs.Run.{or_same, run}
use Rattle.replay_laws.specs.Start.{HasArrival, IsStart}
use Rattle.replay_laws.specs.ByRules.{IsHome}
use Rattle.replay_laws.specs.Close.{took_by, front_if, up_to_close}
use Rattle.replay_laws.specs.Sent.{outgoing, outs, to_send, link_took, is_send_failed, has_failed, less_failed, IsSent, KeepsSent}
use Rattle.order_laws.specs.Merge.{IsMerge}
use Rattle.replay_laws.proofs.Lists.{filter-filter}
use Rattle.order_laws.proofs.Sums.{total-part}
use Rattle.replay_laws.proofs.Moves.{Move, Receives, Starves, Offers, Refuses, Takes, Looks, Works, Lacks, Marks, Sends, Fails, Sweeps, Serves, OfLink, Act, Took, act, moves, moves-act, work, is_work}
use Rattle.replay_laws.proofs.Parts.{All-before_close, hand_cases, hand_same, hand_other, hand_there}
use Rattle.replay_laws.proofs.Weights.{Whole, one, grip, out, fate}
use Rattle.order_laws.proofs.Bands.{same_link, other_band}
use Rattle.order_laws.proofs.Merge.{merge-append, merge_left}
use Rattle.replay_laws.proofs.Place.{Sound, sound, start_sound, weight_one}
use Rattle.replay_laws.proofs.Close.{one_step as close_step, Goes, took_is, took_none, new_took, front_at, front_far, first_held}

-- other names
apart : (a n b m : ℕ) → (eqb b a && eqb m n) ≡ false → (((eqb a b && eqb n m) && true) || false) ≡ false
apart a n b m h = go (cases_eq a b) (cases_eq n m)
  where
    go : (a ≡ b) ⊎ (a ≡ b → ⊥) → (n ≡ m) ⊎ (n ≡ m → ⊥) → (((eqb a b && eqb n m) && true) || false) ≡ false
    go (inl e) (inl f) = let p = eq-eqb b a (sym e) in let q = eq-eqb m n (sym f) in absurd (let z : true ≡ false = sym (ap₂ (λ (x y : Bool). x && y) p q) ∙ h in cc)
    go (inl e) (inr f) = rw (ne_eqb n m f) (none (eqb a b))
      where
        none : (c : Bool) → (((c && false) && true) || false) ≡ false
        none true = refl
        none false = refl
    go (inr e) _ = rw (ne_eqb a b e) refl

module _ {K : Kinds} where
  -- the mark sends nothing
  outs_up : (xs : List (Item K)) → outs (up_to_close xs) ≡ outs (before_close xs)
  outs_up [] = refl
  outs_up (Close ∷ xs) = refl
  outs_up (Arrived x ∷ xs) = outs_up xs
  outs_up (Packet x ∷ xs) = outs_up xs
  outs_up (Request x p ∷ xs) = outs_up xs
  outs_up (Out o ∷ xs) = ap (λ (ys : List (Outgoing K)). o ∷ ys) (outs_up xs)
  outs_up (End ∷ xs) = outs_up xs

  outs_goes : (p z : Pipe K) (f s : List (Item K)) → Goes p z f s → outs (passed z) ≡ outs (passed p) ++ outs f
  outs_goes p z f s g =
      sym (outs_up (gone z))
      ∙ (ap outs g.up
      ∙ (flat_map-append outgoing (up_to_close (gone p)) f
      ∙ ap (λ (ys : List (Outgoing K)). ys ++ outs f) (outs_up (gone p))))

  after_send : (x : Item K) → to_send (hand_after x) ≡ outgoing x
  after_send (Arrived x) = refl
  after_send (Packet x) = refl
  after_send (Request x p) = refl
  after_send (Out o) = refl
  after_send Close = refl
  after_send End = refl

  -- failures
  not_or : (F G : List (Fate K)) (os : List (Outgoing K)) → less_failed (F ++ G) os ≡ filter (λ o. not (has_failed G o)) (less_failed F os)
  not_or F G os =
      filter_agree _ _ (λ o. ap not (list_any-append (λ f. is_one o.arrived o.number f.link f.number && is_send_failed f.cause) F G) ∙ both (has_failed F o) (has_failed G o)) os
      ∙ sym (filter-filter (λ o. not (has_failed G o)) (λ o. not (has_failed F o)) os)
    where
      both : (x y : Bool) → not (x || y) ≡ (not x && not y)
      both true y = refl
      both false y = refl

  all_kept : (p : Outgoing K → Bool) (os : List (Outgoing K)) → ((o : Outgoing K) → p o ≡ true) → filter p os ≡ os
  all_kept p [] h = refl
  all_kept p (o ∷ os) h = ap (λ (b : Bool). cond b (o ∷ filter p os) (filter p os)) (h o) ∙ ap (λ (ys : List (Outgoing K)). o ∷ ys) (all_kept p os h)

  other_cause : (x : Item K) (c : Cause K) → is_send_failed c ≡ false → (o : Outgoing K) → has_failed (fate_of x c) o ≡ false
  other_cause x c h o = go x
    where
      none : (b : Bool) → ((b && is_send_failed c) || false) ≡ false
      none true = ap (λ (d : Bool). d || false) h
      none false = refl

      go : (x : Item K) → has_failed (fate_of x c) o ≡ false
      go (Arrived x) = none (is_one o.arrived o.number x.link x.number)
      go (Packet x) = none (is_one o.arrived o.number x.link x.number)
      go (Request x p) = none (is_one o.arrived o.number x.link x.number)
      go (Out p) = none (is_one o.arrived o.number p.arrived p.number)
      go Close = refl
      go End = refl

  fate_same : (F : List (Fate K)) (x : Item K) (c : Cause K) (os : List (Outgoing K)) → is_send_failed c ≡ false → less_failed (F ++ fate_of x c) os ≡ less_failed F os
  fate_same F x c os h = not_or F (fate_of x c) os ∙ all_kept (λ o. not (has_failed (fate_of x c) o)) (less_failed F os) (λ o. ap not (other_cause x c h o))

  -- no failure of the packet is noted
  unfailed : (o : Outgoing K) (F : List (Fate K)) → total (fate (is_one o.arrived o.number)) F ≡ 0 → has_failed F o ≡ false
  unfailed o [] h = refl
  unfailed o (f ∷ F) h = go (is_one o.arrived o.number f.link f.number) (unfailed o F) h
    where
      go : (b : Bool) → (total (fate (is_one o.arrived o.number)) F ≡ 0 → has_failed F o ≡ false) → cond b 1 0 + total (fate (is_one o.arrived o.number)) F ≡ 0 → ((b && is_send_failed f.cause) || has_failed F o) ≡ false
      go true rest h = absurd (omega arith)
      go false rest h = rest (omega arith)

  -- a failure takes out none of another name
  abbrev failure : Outgoing K → Fate K
  failure o = record { link = o.arrived; number = o.number; cause = Cause.SendFailed }

  still_sent : (o : Outgoing K) (os : List (Outgoing K)) → total (out (is_one o.arrived o.number)) os ≡ 0 → filter (λ p. not (has_failed (failure o ∷ []) p)) os ≡ os
  unfolding one
  still_sent o [] h = refl
  still_sent o (p ∷ os) h = go (is_one o.arrived o.number p.arrived p.number) refl (still_sent o os) h
    where
      go : (b : Bool) → is_one o.arrived o.number p.arrived p.number ≡ b → (total (out (is_one o.arrived o.number)) os ≡ 0 → filter (λ p. not (has_failed (failure o ∷ []) p)) os ≡ os) → cond b 1 0 + total (out (is_one o.arrived o.number)) os ≡ 0 → filter (λ p. not (has_failed (failure o ∷ []) p)) (p ∷ os) ≡ p ∷ os
      go true e rest h = absurd (omega arith)
      go false e rest h =
          ap (λ (b : Bool). cond (not b) (p ∷ filter (λ p. not (has_failed (failure o ∷ []) p)) os) (filter (λ p. not (has_failed (failure o ∷ []) p)) os)) (apart o.arrived o.number p.arrived p.number e)
          ∙ ap (λ (ys : List (Outgoing K)). p ∷ ys) (rest (omega arith))

  gone_failed : (o : Outgoing K) (b : Bool) → filter (λ p. not (has_failed (failure o ∷ []) p)) (cond b (o ∷ []) []) ≡ []
  gone_failed o true = rw (eq-eqb o.arrived o.arrived refl, eq-eqb o.number o.number refl) refl
  gone_failed o false = refl

  module _ (R : Rules K) (l : ℕ) where
    abbrev J : ℕ
    J = slow_seat R + 1 + l

    abbrev Lo : ℕ
    Lo = link_pipe R false l

    abbrev Hi : ℕ
    Hi = link_pipe R true l

    record Part (w : World K) (taken : List (Outgoing K)) : Type 0 where
      handed : List (Outgoing K)
      parted : taken ≡ handed ++ to_send (hand w J)
      sent : get_or w.sent l [] ≡ less_failed w.fates handed

    news : Act → World K → List (Outgoing K)
    news c w = outs (new_took c w Lo) ++ outs (new_took c w Hi)

    module _ (w : World K) (taken : List (Outgoing K)) where
      plain : (v : World K) → Part v taken → Part v (taken ++ [])
      plain v p = let P : List (Outgoing K) → Type 0 = λ t. Part v t in subst P (sym (append-nil taken)) p

      same_part : (v : World K) → to_send (hand v J) ≡ to_send (hand w J) → get_or v.sent l [] ≡ get_or w.sent l [] → ((os : List (Outgoing K)) → less_failed v.fates os ≡ less_failed w.fates os) → Part w taken → Part v taken
      same_part v h s f p = record {
        handed = p.handed;
        parted = p.parted ∙ ap (λ (ys : List (Outgoing K)). p.handed ++ ys) (sym h);
        sent = s ∙ (p.sent ∙ sym (f p.handed));
      }

      send_with : (j : ℕ) (h : Hand K) → to_send h ≡ to_send (hand w j) → to_send (hand (with_hand w j h) J) ≡ to_send (hand w J)
      send_with j h e = go (hand_cases w j h J)
        where
          go : (hand (with_hand w j h) J ≡ hand w J) ⊎ ((J ≡ j) × (hand (with_hand w j h) J ≡ h)) → to_send (hand (with_hand w j h) J) ≡ to_send (hand w J)
          go (inl k) = ap to_send k
          go (inr k) = ap to_send k.1 ∙ (e ∙ ap (λ (i : ℕ). to_send (hand w i)) (sym k.0))

      -- the hand has what it had to send, and no failure is new
      quiet : (v : World K) (j : ℕ) (g h : Hand K) (G : List (Fate K)) → hand w j ≡ g → to_send h ≡ to_send g → hand v J ≡ hand (with_hand w j h) J → v.sent ≡ w.sent → v.fates ≡ w.fates ++ G → ((os : List (Outgoing K)) → less_failed (w.fates ++ G) os ≡ less_failed w.fates os) → Part w taken → Part v (taken ++ [])
      quiet v j g h G e t k s f n p =
          plain v (same_part v (ap to_send k ∙ send_with j h (t ∙ sym (ap to_send e))) (ap (λ (os : List (List (Outgoing K))). get_or os l []) s) (λ os. ap (λ (F : List (Fate K)). less_failed F os) f ∙ n os) p)

    works_none : (x : Item K) (e : Outcome K) → work R x ≡ Some e → [] ≡ outgoing x
    works_none (Packet x) e h = refl
    works_none (Request x p) e h = refl
    works_none (Arrived x) e h = cc
    works_none (Out o) e h = cc
    works_none Close e h = cc
    works_none End e h = cc

    lacks_none : (x : Item K) → is_work x ≡ true → [] ≡ outgoing x
    lacks_none (Packet x) h = refl
    lacks_none (Request x p) h = refl
    lacks_none (Arrived x) h = cc
    lacks_none (Out o) h = cc
    lacks_none Close h = cc
    lacks_none End h = cc

    no_fate : (F : List (Fate K)) (os : List (Outgoing K)) → less_failed (F ++ []) os ≡ less_failed F os
    no_fate F os = ap (λ (G : List (Fate K)). less_failed G os) (append-nil F)

    decided_sound : (x : Arrival K) (r : Decision K) (c : Cause K) → decided x r ≡ Ends c → is_send_failed c ≡ false
    decided_sound x (Decision.Sends k y) c e = cc
    decided_sound x (Decision.Asks p) c e = cc
    decided_sound x (Decision.Drops d) c e = let P : Outcome K → Type 0 = elim [ Makes z ↦ Unit {0} | Ends k ↦ is_send_failed k ≡ false ] in subst P e refl

    replied_sound : (x : Arrival K) (r : Reply K) (c : Cause K) → replied x r ≡ Ends c → is_send_failed c ≡ false
    replied_sound x (Replies k y) c e = cc
    replied_sound x (Withholds d) c e = let P : Outcome K → Type 0 = elim [ Makes z ↦ Unit {0} | Ends k ↦ is_send_failed k ≡ false ] in subst P e refl

    work_sound : (x : Item K) (c : Cause K) → work R x ≡ Some (Ends c) → is_send_failed c ≡ false
    work_sound (Packet x) c e = decided_sound x (R.decide x) c cc
    work_sound (Request x p) c e = replied_sound x (R.reply x p) c cc
    work_sound (Arrived x) c e = cc
    work_sound (Out o) c e = cc
    work_sound Close c e = cc
    work_sound End c e = cc

    full_sound : (x : Item K) → is_send_failed (full_of x) ≡ false
    full_sound (Arrived x) = refl
    full_sound (Packet x) = refl
    full_sound (Request x p) = refl
    full_sound (Out o) = refl
    full_sound Close = refl
    full_sound End = refl

    -- a forwarder takes, of one of its link's pipes
    near : (w : World K) → Whole R w → (q : ℕ) (x : Item K) (b : Bool) → q ≡ link_pipe R b l → front (pipe w q) ≡ Some x → news (Took q) w ≡ outgoing x
    unfolding news
    near w u q x false e f =
        let lo : outs (front_if (eqb q Lo) w Lo) ≡ outgoing x = ap outs (front_at R w u Lo q (sym e) ∙ first_held (pipe w q) x f) ∙ append-nil (outgoing x) in
        let hi : outs (front_if (eqb q Hi) w Hi) ≡ [] = ap outs (front_far R w u Hi q (λ k. other_band R false l (k ∙ e))) in
        ap₂ (λ (ys zs : List (Outgoing K)). ys ++ zs) lo hi ∙ append-nil (outgoing x)
    near w u q x true e f =
        let lo : outs (front_if (eqb q Lo) w Lo) ≡ [] = ap outs (front_far R w u Lo q (λ k. other_band R true l (k ∙ e))) in
        let hi : outs (front_if (eqb q Hi) w Hi) ≡ outgoing x = ap outs (front_at R w u Hi q (sym e) ∙ first_held (pipe w q) x f) ∙ append-nil (outgoing x) in
        ap₂ (λ (ys zs : List (Outgoing K)). ys ++ zs) lo hi

    far_off : (w : World K) → Whole R w → (q : ℕ) → Lo ≢ q → Hi ≢ q → news (Took q) w ≡ []
    unfolding news
    far_off w u q a b = ap₂ (λ (ys zs : List (Outgoing K)). ys ++ zs) (ap outs (front_far R w u Lo q a)) (ap outs (front_far R w u Hi q b))

    with_news : (v : World K) (taken new old : List (Outgoing K)) → new ≡ old → Part v (taken ++ old) → Part v (taken ++ new)
    with_news v taken new old e p = let P : List (Outgoing K) → Type 0 = λ ys. Part v (taken ++ ys) in subst P (sym e) p

    module _ (s : World K) (law : IsLawful R (HasArrival s)) (st : IsStart R s) (w : World K) (u : Sound R s law w) (taken : List (Outgoing K)) (p : Part w taken) where
      idle : (v : World K) (j : ℕ) (g h : Hand K) → hand w j ≡ g → to_send h ≡ to_send g → hand v J ≡ hand (with_hand w j h) J → v.sent ≡ w.sent → v.fates ≡ w.fates → Part v (taken ++ [])
      idle v j g h e t k s f = quiet w taken v j g h [] e t k s (f ∙ sym (append-nil w.fates)) (no_fate w.fates) p

      ends : (v : World K) (j : ℕ) (g h : Hand K) (x : Item K) (c : Cause K) → hand w j ≡ g → to_send h ≡ to_send g → hand v J ≡ hand (with_hand w j h) J → v.sent ≡ w.sent → v.fates ≡ w.fates ++ fate_of x c → is_send_failed c ≡ false → Part v (taken ++ [])
      ends v j g h x c e t k s f n = quiet w taken v j g h (fate_of x c) e t k s f (λ os. fate_same w.fates x c os n) p

      -- what is taken of a pipe
      takes : (q j : ℕ) (x : Item K) (ls : List Bool) → Serves R q j → hand w j ≡ Empty → front (pipe w q) ≡ Some x → Part (taken_from (with_looks w ls) q j (hand_after x)) (taken ++ news (Took q) w)
      takes q j x ls (inl a) e f =
          let v = taken_from (with_looks w ls) q j (hand_after x) in
          let b = a.0 in let c = a.1 in
          with_news v taken (news (Took q) w) [] (far_off w u.whole q (omega arith) (omega arith))
          (plain w taken v (same_part w taken v (ap to_send (hand_other w j (hand_after x) J (omega arith))) refl (λ os. refl) p))
      takes q j x ls (inr a) e f = go a.3 (cases_eq a.3.0 l)
        where
          go : (k : OfLink R q j) → (k.0 ≡ l) ⊎ (k.0 ≡ l → ⊥) → Part (taken_from (with_looks w ls) q j (hand_after x)) (taken ++ news (Took q) w)
          go k (inl i) =
              let v = taken_from (with_looks w ls) q j (hand_after x) in
              let j_is : J ≡ j = sym (k.3 ∙ ap (λ (n : ℕ). slow_seat R + 1 + n) i) in
              let q_is : q ≡ link_pipe R k.1 l = k.2 ∙ ap (link_pipe R k.1) i in
              let c = u.whole.hand_count in
              let m = a.2 in
              let now : hand v J ≡ hand_after x = ap (hand v) j_is ∙ hand_same w j (hand_after x) (omega arith) in
              let was : hand w J ≡ Empty = ap (hand w) j_is ∙ e in
              with_news v taken (news (Took q) w) (outgoing x) (near w u.whole q x k.1 q_is f)
              (record {
                handed = p.handed;
                parted =
                    ap (λ (ys : List (Outgoing K)). ys ++ outgoing x) (p.parted ∙ (ap (λ (h : Hand K). p.handed ++ to_send h) was ∙ append-nil p.handed))
                    ∙ ap (λ (ys : List (Outgoing K)). p.handed ++ ys) (sym (ap to_send now ∙ after_send x));
                sent = p.sent;
              })
          go k (inr n) =
              let v = taken_from (with_looks w ls) q j (hand_after x) in
              let far : (b : Bool) → link_pipe R b l ≢ q = λ b g. n (sym (same_link R b k.1 l k.0 (g ∙ k.2))) in
              let jk = k.3 in
              let off : J ≢ j = λ g. n (omega arith) in
              with_news v taken (news (Took q) w) [] (far_off w u.whole q (far false) (far true))
              (plain w taken v (same_part w taken v (ap to_send (hand_other w j (hand_after x) J off)) refl (λ os. refl) p))

      -- what a hand has stands nowhere else
      module _ (j : ℕ) (o : Outgoing K) (h : hand w j ≡ Got (Out o)) where
        held_one : 1 ≤ total (grip (is_one o.arrived o.number)) w.hands
        unfolding one
        held_one =
            let t = total-part (grip (is_one o.arrived o.number)) Empty w.hands j refl in
            let g : grip (is_one o.arrived o.number) (hand w j) ≡ 1 = ap (grip (is_one o.arrived o.number)) h ∙ rw (eq-eqb o.arrived o.arrived refl, eq-eqb o.number o.number refl) refl in
            omega arith

        no_failure : has_failed w.fates o ≡ false
        no_failure = let a = weight_one o.arrived o.number R s w st law u in let b = held_one in unfailed o w.fates (omega arith)

        not_sent : total (out (is_one o.arrived o.number)) (get_or w.sent l []) ≡ 0
        not_sent =
            let a = weight_one o.arrived o.number R s w st law u in
            let b = held_one in
            let t = total-part (total (out (is_one o.arrived o.number))) [] w.sent l refl in
            omega arith

        j_in : j < length w.hands
        j_in = hand_there w j (λ e. let z : Got (Out o) ≡ Empty = sym h ∙ e in cc)

        -- it leaves the hand
        hands_over : J ≡ j → (p.handed ++ o ∷ []) ++ to_send (hand (with_hand w j Empty) J) ≡ taken
        hands_over e =
            ap (λ (g : Hand K). (p.handed ++ o ∷ []) ++ to_send g) (ap (hand (with_hand w j Empty)) e ∙ hand_same w j Empty j_in)
            ∙ (append-nil (p.handed ++ o ∷ [])
            ∙ (sym (ap (λ (g : Hand K). p.handed ++ to_send g) (ap (hand w) e ∙ h)) ∙ sym p.parted))

        kept_one : less_failed w.fates (o ∷ []) ≡ o ∷ []
        kept_one = ap (λ (b : Bool). cond (not b) (o ∷ []) []) no_failure

        sends : (k : ℕ) → k < R.links → j ≡ slow_seat R + 1 + k → Part (sent_with (with_hand w j Empty) k o) (taken ++ [])
        sends k i e = plain w taken v (go (cases_eq k l))
          where
            v : World K
            v = sent_with (with_hand w j Empty) k o

            go : (k ≡ l) ⊎ (k ≡ l → ⊥) → Part (sent_with (with_hand w j Empty) k o) taken
            go (inl f) =
                let c = u.whole.sent_count in
                let new : get_or (set w.sent k (get_or w.sent k [] ++ o ∷ [])) l [] ≡ get_or w.sent l [] ++ o ∷ [] =
                ap (λ (n : ℕ). get_or (set w.sent k (get_or w.sent k [] ++ o ∷ [])) n []) (sym f)
                ∙ (get_or-set_same w.sent k (get_or w.sent k [] ++ o ∷ []) [] (omega arith) ∙ ap (λ (n : ℕ). get_or w.sent n [] ++ o ∷ []) f) in
                record {
                  handed = p.handed ++ o ∷ [];
                  parted = sym (hands_over (sym (e ∙ ap (λ (n : ℕ). slow_seat R + 1 + n) f)));
                  sent =
                      new
                      ∙ (ap₂ (λ (ys zs : List (Outgoing K)). ys ++ zs) p.sent (sym kept_one)
                      ∙ sym (filter-append (λ o. not (has_failed w.fates o)) p.handed (o ∷ [])));
                }
            go (inr n) = same_part w taken (sent_with (with_hand w j Empty) k o)
                (ap to_send (hand_other w j Empty J (λ g. n (omega arith))))
                (get_or-set_other w.sent k l (get_or w.sent k [] ++ o ∷ []) [] (λ g. n (sym g)))
                (λ os. refl) p

        fails : Part (with_fate (with_hand w j Empty) (Out o) Cause.SendFailed) (taken ++ [])
        fails = plain w taken (with_fate (with_hand w j Empty) (Out o) Cause.SendFailed) (go (cases_eq J j))
          where
            left : get_or w.sent l [] ≡ filter (λ p. not (has_failed (failure o ∷ []) p)) (less_failed w.fates p.handed)
            left = sym (ap (filter (λ p. not (has_failed (failure o ∷ []) p))) (sym p.sent) ∙ still_sent o (get_or w.sent l []) not_sent)

            go : (J ≡ j) ⊎ (J ≡ j → ⊥) → Part (with_fate (with_hand w j Empty) (Out o) Cause.SendFailed) taken
            go (inl e) = record {
              handed = p.handed ++ o ∷ [];
              parted = sym (hands_over e);
              sent =
                  left
                  ∙ (sym (append-nil (filter (λ p. not (has_failed (failure o ∷ []) p)) (less_failed w.fates p.handed)))
                  ∙ (ap (λ (ys : List (Outgoing K)). filter (λ p. not (has_failed (failure o ∷ []) p)) (less_failed w.fates p.handed) ++ ys) (sym (gone_failed o (not (has_failed w.fates o))))
                  ∙ (sym (filter-append (λ p. not (has_failed (failure o ∷ []) p)) (less_failed w.fates p.handed) (less_failed w.fates (o ∷ [])))
                  ∙ (ap (filter (λ p. not (has_failed (failure o ∷ []) p))) (sym (filter-append (λ o. not (has_failed w.fates o)) p.handed (o ∷ [])))
                  ∙ sym (not_or w.fates (failure o ∷ []) (p.handed ++ o ∷ []))))));
            }
            go (inr n) = record {
              handed = p.handed;
              parted = p.parted ∙ ap (λ (g : Hand K). p.handed ++ to_send g) (sym (hand_other w j Empty J n));
              sent = left ∙ sym (not_or w.fates (failure o ∷ []) p.handed);
            }

      keeps_part : (v : World K) (m : Move R w v) → Part v (taken ++ news (act m) w)
      unfolding news
      keeps_part v (Receives b x None i e k q) = idle v b Empty (Owes (Packet x)) e refl refl refl refl
      keeps_part v (Receives b x (Some c) i e k q) = ends v b Empty Empty (Arrived x) (Cause.Ruled c) e refl refl refl refl refl
      keeps_part v (Starves b x h) = ends v b (Owes x) Empty x Cause.NoBuffer h refl refl refl refl refl
      keeps_part v (Offers from j x h r) = idle v j (Owes x) Empty h refl refl refl refl
      keeps_part v (Refuses j x h r) = ends v j (Owes x) Empty x (full_of x) h refl refl refl refl (full_sound x)
      keeps_part v (Takes q j x ls a n m e k) = takes q j x ls a e k
      keeps_part v (Looks ls) = plain w taken v (same_part w taken v refl refl (λ os. refl) p)
      keeps_part v (Works j x (Makes y) h k) = idle v j (Got x) (Owes y) h (works_none x (Makes y) k) refl refl refl
      keeps_part v (Works j x (Ends c) h k) = ends v j (Got x) Empty x c h (works_none x (Ends c) k) refl refl refl (work_sound x c k)
      keeps_part v (Lacks j x h k) = ends v j (Got x) Empty x Cause.NoMemory h (lacks_none x k) refl refl refl refl
      keeps_part v (Marks q from x i m r) = plain w taken v (same_part w taken v refl refl (λ os. refl) p)
      keeps_part v (Sends k j o i e h) = sends j o h k i e
      keeps_part v (Fails j o h) = fails j o h
      keeps_part v (Sweeps q j x ls a n m e k) = ends v j Empty Empty x Cause.Closed e refl refl refl refl refl

    module _ (s : World K) (law : IsLawful R (HasArrival s)) (st : IsStart R s) where
      step_news : World K → Step → List (Item K)
      step_news w t = took_by R w t Lo ++ took_by R w t Hi

      -- the merge goes on with what each pipe gave
      Merged : World K → List (Outgoing K) → Type 0
      Merged w taken = IsMerge (outs (passed (pipe w Lo))) (outs (passed (pipe w Hi))) taken

      one_step : (w : World K) (t : Step) (taken : List (Outgoing K)) → Sound R s law w → Part w taken → Part (or_same w (next R w t)) (taken ++ outs (step_news w t))
      unfolding step_news news
      one_step w t taken u p = go (next R w t) refl
        where
          go : (o : Option (World K)) → next R w t ≡ o → Part (or_same w o) (taken ++ outs (took_by R w t Lo ++ took_by R w t Hi))
          go None e =
              let z : outs (took_by R w t Lo ++ took_by R w t Hi) ≡ [] = ap₂ (λ (xs ys : List (Item K)). outs (xs ++ ys)) (took_none R w t Lo e) (took_none R w t Hi e) in
              with_news w taken (outs (took_by R w t Lo ++ took_by R w t Hi)) [] z (plain w taken w p)
          go (Some v) e =
              let m = moves R w v t e in
              let a = moves-act R w v t e in
              let z : outs (took_by R w t Lo ++ took_by R w t Hi) ≡ outs (new_took (act m) w Lo) ++ outs (new_took (act m) w Hi) =
              flat_map-append outgoing (took_by R w t Lo) (took_by R w t Hi)
              ∙ (ap₂ (λ (xs ys : List (Item K)). outs xs ++ outs ys) (took_is R w v t Lo e) (took_is R w v t Hi e)
              ∙ ap (λ (c : Act). outs (new_took c w Lo) ++ outs (new_took c w Hi)) (sym a)) in
              with_news v taken (outs (took_by R w t Lo ++ took_by R w t Hi)) (outs (new_took (act m) w Lo) ++ outs (new_took (act m) w Hi)) z (keeps_part s law st w u taken p v m)

      one_merge : (w : World K) (t : Step) (taken : List (Outgoing K)) → Sound R s law w → Merged w taken → Merged (or_same w (next R w t)) (taken ++ outs (step_news w t))
      unfolding step_news Merged
      one_merge w t taken u m =
          let v = or_same w (next R w t) in
          let lo : outs (passed (pipe v Lo)) ≡ outs (passed (pipe w Lo)) ++ outs (took_by R w t Lo) = outs_goes (pipe w Lo) (pipe v Lo) _ _ (close_step R s law Lo (omega arith) w t u).1 in
          let hi : outs (passed (pipe v Hi)) ≡ outs (passed (pipe w Hi)) ++ outs (took_by R w t Hi) = outs_goes (pipe w Hi) (pipe v Hi) _ _ (close_step R s law Hi (omega arith) w t u).1 in
          let n : taken ++ outs (took_by R w t Lo ++ took_by R w t Hi) ≡ taken ++ (outs (took_by R w t Lo) ++ outs (took_by R w t Hi)) = ap (λ (ys : List (Outgoing K)). taken ++ ys) (flat_map-append outgoing (took_by R w t Lo) (took_by R w t Hi)) in
          let P : List (Outgoing K) → Type 0 = λ xs. IsMerge xs (outs (passed (pipe v Hi))) (taken ++ outs (took_by R w t Lo ++ took_by R w t Hi)) in
          let Q : List (Outgoing K) → Type 0 = λ ys. IsMerge (outs (passed (pipe w Lo)) ++ outs (took_by R w t Lo)) ys (taken ++ outs (took_by R w t Lo ++ took_by R w t Hi)) in
          let S : List (Outgoing K) → Type 0 = λ zs. IsMerge (outs (passed (pipe w Lo)) ++ outs (took_by R w t Lo)) (outs (passed (pipe w Hi)) ++ outs (took_by R w t Hi)) zs in
          subst P (sym lo) (subst Q (sym hi) (subst S (sym n) (merge-append (outs (passed (pipe w Lo))) (outs (passed (pipe w Hi))) taken (outs (took_by R w t Lo)) (outs (took_by R w t Hi)) m)))

      sound_step : (w : World K) (t : Step) → Sound R s law w → Sound R s law (or_same w (next R w t))
      sound_step w t u = (close_step R s law Lo (omega arith) w t u).0

      -- what is taken by a list of steps, after what was taken before
      more : (w : World K) (t : Step) (ss : List Step) (taken : List (Outgoing K)) → (taken ++ outs (step_news w t)) ++ outs (link_took R (or_same w (next R w t)) ss l) ≡ taken ++ outs (link_took R w (t ∷ ss) l)
      unfolding step_news
      more w t ss taken =
          let rest = link_took R (or_same w (next R w t)) ss l in
          append_assoc taken (outs (took_by R w t Lo ++ took_by R w t Hi)) (outs rest)
          ∙ ap (λ (ys : List (Outgoing K)). taken ++ ys) (
          sym (flat_map-append outgoing (took_by R w t Lo ++ took_by R w t Hi) rest)
          ∙ ap outs (append_assoc (took_by R w t Lo) (took_by R w t Hi) rest)
          )

      all_steps : (ss : List Step) (w : World K) (taken : List (Outgoing K)) → Sound R s law w → Part w taken → Merged w taken → Part (run R w ss) (taken ++ outs (link_took R w ss l)) × Merged (run R w ss) (taken ++ outs (link_took R w ss l))
      unfolding Merged
      all_steps [] w taken u p m = (plain w taken w p, (let P : List (Outgoing K) → Type 0 = λ ys. Merged w ys in subst P (sym (append-nil taken)) m))
      all_steps (t ∷ ss) w taken u p m =
          let v = or_same w (next R w t) in
          let rest = all_steps ss v (taken ++ outs (step_news w t)) (sound_step w t u) (one_step w t taken u p) (one_merge w t taken u m) in
          let P : List (Outgoing K) → Type 0 = λ ys. Part (run R v ss) ys in
          let Q : List (Outgoing K) → Type 0 = λ ys. Merged (run R v ss) ys in
          (subst P (more w t ss taken) rest.0, subst Q (more w t ss taken) rest.1)

      start_part : Part s []
      start_part = record {
        handed = [];
        parted = sym (ap to_send (st.hands J));
        sent = st.sent l;
      }

      start_merged : Merged s []
      unfolding Merged
      start_merged =
          let none : (q : ℕ) → outs (passed (pipe s q)) ≡ [] = λ q. ap (λ (k : ℕ). outs (before_close (take k (items (pipe s q).history)))) (st.taken q) in
          (none Lo, none Hi)

      -- on a link with one band nothing stands in the high pipe
      low_only : R.two_bands l ≡ false → (x : Item K) → IsHome R Hi x → outgoing x ≡ []
      low_only b (Out o) h = absurd (go (R.two_bands o.link && R.urgent_parcel o.parcel) refl h)
        where
          go : (c : Bool) → (R.two_bands o.link && R.urgent_parcel o.parcel) ≡ c → link_pipe R c o.link ≡ link_pipe R true l → ⊥
          go false e k = other_band_of l o.link k
            where
              other_band_of : (l k : ℕ) → link_pipe R false k ≡ link_pipe R true l → ⊥
              other_band_of l k e = omega arith
          go true e k =
              let f : o.link ≡ l = same_link R true true o.link l k in
              let z : false ≡ true = sym (ap (λ (d : Bool). d && R.urgent_parcel o.parcel) (ap R.two_bands f ∙ b)) ∙ e in cc
      low_only b (Arrived x) h = refl
      low_only b (Packet x) h = refl
      low_only b (Request x p) h = refl
      low_only b Close h = refl
      low_only b End h = refl

      low_all : R.two_bands l ≡ false → (xs : List (Item K)) → All (IsHome R Hi) xs → outs xs ≡ []
      low_all b [] h = refl
      low_all b (x ∷ xs) h = ap₂ (λ (ys zs : List (Outgoing K)). ys ++ zs) (low_only b x (All-head (IsHome R Hi) x xs h)) (low_all b xs (All-tail (IsHome R Hi) x xs h))

      pub sent_of : (ss : List Step) (w : World K) → w ≡ run R s ss → Sound R s law w → IsSent R s w ss l
      unfolding Merged
      sent_of ss w e u =
          let first = start_sound R s law st in
          let all = all_steps ss s [] first start_part start_merged in
          let P : World K → Type 0 = λ v. Part v (outs (link_took R s ss l)) in
          let M : World K → Type 0 = λ v. Merged v (outs (link_took R s ss l)) in
          let p = subst P (sym e) all.0 in
          let m = subst M (sym e) all.1 in
          record {
            handed = p.handed;
            in_hand = p.parted;
            sent = p.sent;
            merged = m;
            one_band = λ b.
                let home = IsHome R Hi in
                let none : outs (passed (pipe w Hi)) ≡ [] = low_all b (passed (pipe w Hi)) (All-before_close (IsHome R Hi) (gone (pipe w Hi)) (All-take (IsHome R Hi) (pipe w Hi).taken (items (pipe w Hi).history) (u.whence.right.homes Hi))) in
                let Q : List (Outgoing K) → Type 0 = λ ys. IsMerge (outs (passed (pipe w Lo))) ys (outs (link_took R s ss l)) in
                merge_left (outs (passed (pipe w Lo))) (outs (link_took R s ss l)) (subst Q none m);
          }

pub keeps_sent : (K : Kinds) → KeepsSent K
keeps_sent K R w r law l i = sent_of R l r.start law r.is_start r.steps w r.by_steps (sound R w r law)
