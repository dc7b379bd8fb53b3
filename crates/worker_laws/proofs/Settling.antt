-- Of workers that have ended each packet stands at one place, and the order holds.
use Rattle.std.proofs.Common.{◌*◌, ◌≡◌, ◌⊎◌, inl, inr, ℕ, suc, ◌+◌, ◌-◌, ◌<◌, ◌≤◌, Bool, true, false, List, [], ◌∷◌, ◌++◌, refl, sym, ◌∙◌, ap, ap₂, subst, arith, eqb}
use Rattle.std.proofs.lemmas.Bool.{cases_lt, cases_eq, ne_eqb}
use Rattle.std.proofs.lemmas.Grind.{flat_map-append}
use Rattle.order_laws.specs.Kinds.{Kinds}
use Rattle.order_laws.specs.Item.{Arrival, Outgoing, Out}
use Rattle.order_laws.specs.Rules.{Rules, Decision, Sends, Asks, Drops, Reply, Replies, Withholds, IsLawful}
use Rattle.order_laws.specs.Pipes.{link_pipe, home, slow_seat}
use Rattle.order_laws.specs.Deeds.{Pushed, payload_of, payloads, of_producer, Each, Ending, Accepted, Refused, Lacked, Counted, Deed, if_accepted, if_refused, accepted, before_mark, from_mark}
use Rattle.order_laws.specs.Settled.{SlowPathRequest, if_so, to_link, sent_out, to_slow, asked_of, Views, IsTold, IsLinkPipe, SettlesInOrder}
use Rattle.order_laws.specs.Counted.{SlowViews, place_of, link_pipes}
use Rattle.order_laws.proofs.Joints.{by_producer, split_mark}
use Rattle.order_laws.proofs.Stages.{each_map}
use Rattle.order_laws.proofs.SettledOrder.{each_both, each_in, each_out, each_items, known, settles_order}
use Rattle.worker_laws.specs.Weighed.{IsPlaced}
use Rattle.worker_laws.specs.Answers.{to_back, answer_to, replied_out}
use Rattle.worker_laws.specs.Forwards.{Handed}
use Rattle.worker_laws.specs.Ended.{Ended, Ends, HasEnded, IsPacketOf, IsAnswerTo}
use Rattle.worker_laws.proofs.Weighed.{AreWeighed, Joined, places_each}
use Rattle.worker_laws.proofs.Placed.{receiver_weighed, processor_weighed, slow_weighed}

pub is_eqb : (m n : ℕ) → eqb m n ≡ true → m ≡ n
is_eqb m n is = go (cases_eq m n)
  where
    go : (m ≡ n) ⊎ (m ≡ n → ⊥) → m ≡ n
    go (inl e) = e
    go (inr ne) = absurd (let z : false ≡ true = sym (ne_eqb m n ne) ∙ is in cc)

module _ {A C : Type 0} (P : A → Type 0) where
  pub each_accepted : (o : Ending C) (xs : List A) → Each P xs → Each P (if_accepted o xs)
  each_accepted Accepted xs e = e
  each_accepted Refused xs e = tt
  each_accepted Lacked xs e = tt
  each_accepted (Counted c) xs e = tt

  pub each_refused : (o : Ending C) (xs : List A) → Each P xs → Each P (if_refused o xs)
  each_refused Accepted xs e = tt
  each_refused Refused xs e = e
  each_refused Lacked xs e = tt
  each_refused (Counted c) xs e = tt

each_all : {A : Type 0} (P : A → Type 0) → ((x : A) → P x) → (xs : List A) → Each P xs
each_all P h [] = tt
each_all P h (x ∷ xs) = (h x, each_all P h xs)

module _ {K : Kinds} (R : Rules K) (v : Views K) (s : SlowViews K) (went : ℕ → List (Handed K)) (closed : ℕ → Bool) (lawful : IsLawful R (IsTold v)) (e : Ended R v s went closed) where
  -- a request is about a packet that was told, by its decision
  abbrev pub IsAskable : SlowPathRequest K → Type 0
  IsAskable q = IsTold v q.arrival × (R.decide q.arrival ≡ Asks q.problem)

  pub asked_right : (x : Arrival K) → IsTold v x → Each IsAskable (to_slow R x)
  asked_right x t = all (R.decide x) refl
    where
      all : (r : Decision K) → R.decide x ≡ r → Each IsAskable (asked_of x r)
      all (Sends l y) q = tt
      all (Asks p) q = ((t, q), tt)
      all (Drops c) q = tt

  asked_by : (i : ℕ) → i < R.processors → Each IsAskable (payloads (of_producer i s.taken))
  asked_by i lt =
      let law = e.settled.workers i lt in
      let each = each_in IsAskable (accepted (to_slow R)) (v.worked i) (each_map (λ (d : Deed K.RuleCause (Arrival K)) k. each_accepted IsAskable d.end (to_slow R d.item) (asked_right d.item k.1)) (v.worked i) (known R v lawful e.settled i lt)) in
      subst (λ (xs : List (SlowPathRequest K)). Each IsAskable xs) (sym (ap payloads (e.requests i lt) ∙ law.slow.0)) each

  pub askable : Each (λ (d : Deed K.RuleCause (SlowPathRequest K)). IsAskable d.item) s.worked
  askable =
      let P : Pushed (SlowPathRequest K) → Type 0 = λ p. Each IsAskable (payload_of p.load) in
      let each : Each P s.taken = by_producer P s.taken (λ i. go P i (cases_lt i R.processors) (λ lt. each_out IsAskable (λ (p : Pushed (SlowPathRequest K)). payload_of p.load) (of_producer i s.taken) (asked_by i lt))) in
      each_items IsAskable (λ (d : Deed K.RuleCause (SlowPathRequest K)). d.item) s.worked (subst (λ (xs : List (SlowPathRequest K)). Each IsAskable xs) e.slow.took (each_in IsAskable (λ (p : Pushed (SlowPathRequest K)). payload_of p.load) s.taken each))
    where
      go : (P : Pushed (SlowPathRequest K) → Type 0) (i : ℕ) → (i < R.processors) ⊎ (R.processors ≤ i) → (i < R.processors → Each P (of_producer i s.taken)) → Each P (of_producer i s.taken)
      go P i (inl lt) h = h lt
      go P i (inr ge) h = subst (λ (xs : List (Pushed (SlowPathRequest K))). Each P xs) (sym (e.request_only i ge)) tt

  pub weighed : (w : (link number : ℕ) → ℕ) → AreWeighed R v s (to_back R) w
  weighed w = record {
    receivers = λ p lt. each_all _ (receiver_weighed R w (IsTold v) lawful) (v.received p);
    workers = λ i lt. each_map (λ d h. processor_weighed R w (IsTold v) lawful d h.0.1 h.1) (v.worked i) (each_both _ _ (v.worked i) (known R v lawful e.settled i lt) (e.offered i lt));
    slow = each_map (λ d h. slow_weighed R w (IsTold v) lawful d h.0.0 h.0.1 h.1) s.worked (each_both _ _ s.worked askable e.slow.answered);
  }

  pub joined : Joined R v s (to_back R)
  joined = record {
    settled = e.settled;
    slow_took = e.slow.took;
    slow_tells = e.slow.tells;
    requests = e.requests;
    request_only = e.request_only;
    egress_slow = e.egress_slow;
    egress_marks = λ j lt. subst (λ (k : ℕ). payloads (of_producer k (v.forwarded (place_of R j))) ≡ []) (omega arith) (e.egress_marks j lt);
    egress_none = λ j p lt ge. e.egress_none j p lt (omega arith);
  }

  pub place : (w : (link number : ℕ) → ℕ) → IsPlaced w R v s
  place w = places_each K R v s (to_back R) joined w (weighed w)

  pub order : SettlesInOrder R v
  order = settles_order R v lawful e.settled

  pub low_open : (l : ℕ) → l < R.links → closed (2 * l) ≡ false → v.swept (link_pipe R false l) ≡ []
  low_open l lt none = order.open_pipe (link_pipe R false l) (omega arith, omega arith) (e.low_shut l lt ∙ none)

  pub high_open : (l : ℕ) → l < R.links → closed (2 * l + 1) ≡ false → v.swept (link_pipe R true l) ≡ []
  high_open l lt none = order.open_pipe (link_pipe R true l) (omega arith, omega arith) (e.high_shut l lt ∙ none)

  -- what leaves is a packet's or an answer's, in its own pipe
  abbrev pub IsRight : ℕ → Outgoing K → Type 0
  IsRight q o = IsPacketOf R v o × IsAnswerTo R v o × (home R (Out o) ≡ q)

  pub sent_right : (q : ℕ) (x : Arrival K) → IsTold v x → Each (IsRight q) (to_link R q x)
  sent_right q x t = all (R.decide x) refl
    where
      one : (b : Bool) (l : ℕ) (y : K.Parcel) → R.decide x ≡ Sends l y → eqb (home R (Out (record { arrived = x.link; number = x.number; answer = false; link = l; parcel = y }))) q ≡ b
          → Each (IsRight q) (if_so b (record { arrived = x.link; number = x.number; answer = false; link = l; parcel = y } ∷ []))
      one true l y is at = ((λ n. (x, t, is, refl, refl), λ a. absurd cc, is_eqb _ q at), tt)
      one false l y is at = tt

      all : (r : Decision K) → R.decide x ≡ r → Each (IsRight q) (sent_out R q x r)
      all (Sends l y) is = one (eqb (home R (Out (record { arrived = x.link; number = x.number; answer = false; link = l; parcel = y }))) q) l y is refl
      all (Asks p) is = tt
      all (Drops c) is = tt

  pub replied_right : (q : ℕ) (x : SlowPathRequest K) → IsAskable x → Each (IsRight q) (to_back R q x)
  replied_right q x t = all (R.reply x.arrival x.problem) refl
    where
      one : (b : Bool) (l : ℕ) (y : K.Parcel) → R.reply x.arrival x.problem ≡ Replies l y → eqb (home R (Out (answer_to x l y))) q ≡ b → Each (IsRight q) (if_so b (answer_to x l y ∷ []))
      one true l y is at = ((λ n. absurd cc, λ a. (x.arrival, x.problem, t.0, t.1, is, refl, refl), is_eqb _ q at), tt)
      one false l y is at = tt

      all : (r : Reply K) → R.reply x.arrival x.problem ≡ r → Each (IsRight q) (replied_out R q x r)
      all (Replies l y) is = one (eqb (home R (Out (answer_to x l y))) q) l y is refl
      all (Withholds c) is = tt

  right_by : (j : ℕ) → j < link_pipes R → (i : ℕ) → (i < R.processors) ⊎ (R.processors ≤ i) → (i ≡ R.processors) ⊎ (i ≡ R.processors → ⊥) → (i ≡ suc R.processors) ⊎ (i ≡ suc R.processors → ⊥)
      → Each (IsRight (place_of R j)) (payloads (of_producer i (v.forwarded (place_of R j))))
  right_by j lt i (inl below) b c =
      let q = place_of R j in
      let law = e.settled.workers i below in
      subst (λ (xs : List (Outgoing K)). Each (IsRight (place_of R j)) xs) (sym (ap payloads (e.settled.egress_packets q i (omega arith, omega arith) below) ∙ (law.tells q (omega arith, omega arith)).0))
      (each_in (IsRight (place_of R j)) (accepted (to_link R q)) (v.worked i) (each_map (λ (d : Deed K.RuleCause (Arrival K)) k. each_accepted (IsRight (place_of R j)) d.end (to_link R q d.item) (sent_right q d.item k.1)) (v.worked i) (known R v lawful e.settled i below)))
  right_by j lt i (inr ge) (inl b) c =
      let q = place_of R j in
      let mine : of_producer i (v.forwarded q) ≡ s.leaving q = ap (λ (k : ℕ). of_producer k (v.forwarded q)) b ∙ e.egress_slow j lt in
      subst (λ (xs : List (Outgoing K)). Each (IsRight (place_of R j)) xs) (sym (ap payloads mine ∙ (e.slow.tells q (omega arith, omega arith)).0))
      (each_in (IsRight (place_of R j)) (accepted (to_back R q)) s.worked (each_map (λ (d : Deed K.RuleCause (SlowPathRequest K)) k. each_accepted (IsRight (place_of R j)) d.end (to_back R q d.item) (replied_right q d.item k)) s.worked askable))
  right_by j lt i (inr ge) (inr b) (inl c) =
      subst (λ (xs : List (Outgoing K)). Each (IsRight (place_of R j)) xs) (sym (ap (λ (k : ℕ). payloads (of_producer k (v.forwarded (place_of R j)))) c ∙ joined.egress_marks j lt)) tt
  right_by j lt i (inr ge) (inr b) (inr c) =
      let none : of_producer i (v.forwarded (place_of R j)) ≡ [] = joined.egress_none j i lt (above i ge b c) in
      subst (λ (xs : List (Pushed (Outgoing K))). Each (IsRight (place_of R j)) (payloads xs)) (sym none) tt
    where
      above : (i : ℕ) → R.processors ≤ i → (i ≡ R.processors → ⊥) → (i ≡ suc R.processors → ⊥) → suc (suc R.processors) ≤ i
      above i ge b c = go (cases_lt i (suc (suc R.processors)))
        where
          go : (i < suc (suc R.processors)) ⊎ (suc (suc R.processors) ≤ i) → suc (suc R.processors) ≤ i
          go (inr h) = h
          go (inl h) = absurd (b (mid (cases_eq i (suc R.processors))))
            where
              mid : (i ≡ suc R.processors) ⊎ (i ≡ suc R.processors → ⊥) → i ≡ R.processors
              mid (inl q) = absurd (c q)
              mid (inr q) = omega arith

  -- of each link's pipe
  pub right : (j : ℕ) → j < link_pipes R → Each (IsRight (place_of R j)) (v.handed (place_of R j) ++ v.swept (place_of R j))
  right j lt =
      let q = place_of R j in
      let es = v.forwarded q in
      let law = e.settled.forwarders q (omega arith, omega arith) in
      let P : Pushed (Outgoing K) → Type 0 = λ p. Each (IsRight (place_of R j)) (payload_of p.load) in
      let each : Each P es = by_producer P es (λ i. each_out (IsRight (place_of R j)) (λ (p : Pushed (Outgoing K)). payload_of p.load) (of_producer i es) (right_by j lt i (cases_lt i R.processors) (cases_eq i R.processors) (cases_eq i (suc R.processors)))) in
      let all : Each (IsRight (place_of R j)) (payloads es) = each_in (IsRight (place_of R j)) (λ (p : Pushed (Outgoing K)). payload_of p.load) es each in
      let split : payloads es ≡ v.handed q ++ v.swept q =
      ap payloads (sym (split_mark es)) ∙ flat_map-append (λ (p : Pushed (Outgoing K)). payload_of p.load) (before_mark es) (from_mark es) ∙ ap₂ (λ (xs ys : List (Outgoing K)). xs ++ ys) (sym law.sent) (sym law.after) in
      subst (λ (xs : List (Outgoing K)). Each (IsRight (place_of R j)) xs) split all

  pub right_at : (q : ℕ) → IsLinkPipe R q → Each (IsRight q) (v.handed q ++ v.swept q)
  right_at q at =
      let j : ℕ = q - (slow_seat R + 1) in
      let is : place_of R j ≡ q = let a = at.0 in omega arith in
      subst (λ (p : ℕ). Each (IsRight p) (v.handed p ++ v.swept p)) is (right j (let a = at.0 in let b = at.1 in omega arith))

  pub has_ended : HasEnded R v s went closed
  has_ended = record {
    order = order;
    place = place;
    packets = λ q at. each_map (λ o h. h.0) (v.handed q ++ v.swept q) (right_at q at);
    answers = λ q at. each_map (λ o h. h.1) (v.handed q ++ v.swept q) (right_at q at);
    own_pipe = λ q at. each_map (λ o h. h.2) (v.handed q ++ v.swept q) (right_at q at);
    low_shut = e.low_shut;
    high_shut = e.high_shut;
    low_open = low_open;
    high_open = high_open;
  }

pub ends : (K : Kinds) → Ends K
ends K R v s went closed lawful e = has_ended R v s went closed lawful e
