-- Reasons, refusals and bands of workers that have ended.
use Rattle.std.proofs.Common.{◌≡◌, inl, inr, ℕ, ◌+◌, ◌<◌, ◌&&◌, Bool, true, false, eqb, List, [], ◌∷◌, ◌++◌, refl, sym, ◌∙◌, ap, subst, arith}
use Rattle.order_laws.specs.Kinds.{Kinds}
use Rattle.order_laws.specs.Item.{Arrival, Outgoing, Out}
use Rattle.order_laws.specs.Rules.{Rules, IsLawful}
use Rattle.order_laws.specs.Pipes.{home, is_high, link_pipe}
use Rattle.order_laws.specs.Merge.{IsMerge}
use Rattle.order_laws.specs.Deeds.{payloads, before_mark, Each, Ending, Accepted, Refused, Lacked, Counted, Deed, if_counted, refused}
use Rattle.order_laws.specs.Settled.{SlowPathRequest, if_so, to_processor, to_link, to_slow, Views, told, In, IsTold, IsLinkPipe, AreNumbered}
use Rattle.order_laws.specs.Counted.{SlowViews}
use Rattle.order_laws.proofs.Stages.{each_map}
use Rattle.order_laws.proofs.SettledOrder.{each_both, each_in, each_items, each_split, known}
use Rattle.worker_laws.specs.Receives.{IsSeen}
use Rattle.worker_laws.specs.Works.{IsJust}
use Rattle.worker_laws.specs.Answers.{IsWithheld, to_back}
use Rattle.worker_laws.specs.Forwards.{Handed, handed_items}
use Rattle.worker_laws.specs.Ended.{Ended, IsAnswerTo, IsPacketOf}
use Rattle.worker_laws.specs.Reasons.{IsAskedOf, IsDropped, IsUnanswered, HasReasons, GivesReasons, HasMerged, MergesBands}
use Rattle.worker_laws.proofs.Settling.{is_eqb, each_refused, IsRight, sent_right, replied_right, asked_right, askable, right_at}

-- every arrival that a receiver numbered was told
each_self : {K : Kinds} (xs : List (Arrival K)) → Each (λ x. In x xs) xs
each_self [] = tt
each_self (x ∷ xs) = (inl refl, each_map (λ y at. inr at) xs (each_self xs))

each_link : {K : Kinds} (a n : ℕ) (xs : List (Arrival K)) → AreNumbered a n xs → Each (λ (x : Arrival K). x.link ≡ a) xs
each_link a n [] num = tt
each_link a n (x ∷ xs) num = (num.0, each_link a (n + 1) xs num.2)

counted_as : {C : Type 0} {P Q : C → Type 0} (o : Ending C) → ((c : C) → P c → Q c) → if_counted o P → if_counted o Q
counted_as Accepted f p = tt
counted_as Refused f p = tt
counted_as Lacked f p = tt
counted_as (Counted c) f p = f c p

module _ {K : Kinds} (R : Rules K) (v : Views K) (s : SlowViews K) (went : ℕ → List (Handed K)) (closed : ℕ → Bool) (lawful : IsLawful R (IsTold v)) (e : Ended R v s went closed) where
  told_each : (p : ℕ) → p < R.links → Each (λ (d : Deed K.RuleCause (Arrival K)). IsTold v d.item) (v.received p)
  told_each p lt =
      let numbered = (e.settled.receivers p lt).numbered in
      each_items (IsTold v) (λ (d : Deed K.RuleCause (Arrival K)). d.item) (v.received p)
      (each_map (λ x h. subst (λ (q : ℕ). In x (told v q)) (sym h.1) h.0) (told v p) (each_both (λ x. In x (told v p)) (λ (x : Arrival K). x.link ≡ p) (told v p) (each_self (told v p)) (each_link p 1 (told v p) numbered)))

  receivers : (p : ℕ) → p < R.links → Each (IsDropped R v) (v.received p)
  receivers p lt =
      each_map (λ (d : Deed K.RuleCause (Arrival K)) h. (h.0, counted_as d.end (λ c is. lawful.faults d.item c h.0 is) h.1)) (v.received p)
      (each_both (λ (d : Deed K.RuleCause (Arrival K)). IsTold v d.item) (IsSeen R) (v.received p) (told_each p lt) (e.settled.receivers p lt).just)

  processors : (i : ℕ) → i < R.processors → Each (IsDropped R v) (v.worked i)
  processors i lt =
      each_map (λ (d : Deed K.RuleCause (Arrival K)) h. (h.0.1, h.1)) (v.worked i)
      (each_both _ (IsJust R) (v.worked i) (known R v lawful e.settled i lt) (e.settled.workers i lt).just)

  slow : Each (IsUnanswered R v) s.worked
  slow = each_both _ (IsWithheld R) s.worked (askable R v s went closed lawful e) e.slow.just

  for_processor : (i : ℕ) (x : Arrival K) → IsTold v x → Each (λ (y : Arrival K). IsTold v y × (R.processor (R.key y) ≡ i)) (to_processor R i x)
  for_processor i x t = go (eqb (R.processor (R.key x)) i) refl
    where
      go : (b : Bool) → eqb (R.processor (R.key x)) i ≡ b → Each (λ (y : Arrival K). IsTold v y × (R.processor (R.key y) ≡ i)) (if_so b (x ∷ []))
      go true is = ((t, is_eqb (R.processor (R.key x)) i is), tt)
      go false is = tt

  full_processor : (p i : ℕ) → p < R.links → i < R.processors → Each (λ (x : Arrival K). IsTold v x × (R.processor (R.key x) ≡ i)) (v.arrived_full p i)
  full_processor p i lt lti =
      let P : Arrival K → Type 0 = λ x. IsTold v x × (R.processor (R.key x) ≡ i) in
      subst (λ (xs : List (Arrival K)). Each P xs) (sym ((e.settled.receivers p lt).tells i lti).1)
      (each_in P (refused (to_processor R i)) (v.received p) (each_map (λ (d : Deed K.RuleCause (Arrival K)) t. each_refused P d.end (to_processor R i d.item) (for_processor i d.item t)) (v.received p) (told_each p lt)))

  full_link : (i q : ℕ) → i < R.processors → IsLinkPipe R q → Each (λ (o : Outgoing K). IsPacketOf R v o × (home R (Out o) ≡ q)) (v.leaving_full i q)
  full_link i q lt at =
      let P : Outgoing K → Type 0 = IsRight R v s went closed lawful e q in
      each_map (λ o h. (h.0, h.2)) (v.leaving_full i q)
      (subst (λ (xs : List (Outgoing K)). Each P xs) (sym ((e.settled.workers i lt).tells q at).1)
      (each_in P (refused (to_link R q)) (v.worked i)
      (each_map (λ (d : Deed K.RuleCause (Arrival K)) k. each_refused P d.end (to_link R q d.item) (sent_right R v s went closed lawful e q d.item k.1)) (v.worked i) (known R v lawful e.settled i lt))))

  full_answer : (q : ℕ) → IsLinkPipe R q → Each (λ (o : Outgoing K). IsAnswerTo R v o × (home R (Out o) ≡ q)) (s.leaving_full q)
  full_answer q at =
      let P : Outgoing K → Type 0 = IsRight R v s went closed lawful e q in
      each_map (λ o h. (h.1, h.2)) (s.leaving_full q)
      (subst (λ (xs : List (Outgoing K)). Each P xs) (sym (e.slow.tells q at).1)
      (each_in P (refused (to_back R q)) s.worked
      (each_map (λ (d : Deed K.RuleCause (SlowPathRequest K)) k. each_refused P d.end (to_back R q d.item) (replied_right R v s went closed lawful e q d.item k)) s.worked (askable R v s went closed lawful e))))

  full_slow : (i : ℕ) → i < R.processors → Each (IsAskedOf R v) (v.asked_full i)
  full_slow i lt =
      subst (λ (xs : List (SlowPathRequest K)). Each (IsAskedOf R v) xs) (sym (e.settled.workers i lt).slow.1)
      (each_in (IsAskedOf R v) (refused (to_slow R)) (v.worked i)
      (each_map (λ (d : Deed K.RuleCause (Arrival K)) k. each_refused (IsAskedOf R v) d.end (to_slow R d.item) (asked_right R v s went closed lawful e d.item k.1)) (v.worked i) (known R v lawful e.settled i lt)))

  pub has_reasons : HasReasons R v s
  has_reasons = record { receivers = receivers; processors = processors; slow = slow; clear = e.clear; full_processor = full_processor; full_link = full_link; full_answer = full_answer; full_slow = full_slow }

  -- ---- bands

  -- nothing is for the second pipe of a link with one band
  not_high : (l : ℕ) (o : Outgoing K) → R.two_bands l ≡ false → home R (Out o) ≡ link_pipe R true l → ⊥
  not_high l o one at = go (is_high R o) refl
    where
      go : (b : Bool) → is_high R o ≡ b → ⊥
      go true is =
          let same : o.link ≡ l = let w = ap (λ (c : Bool). link_pipe R c o.link) is in omega arith in
          let none : is_high R o ≡ false = ap (λ (k : ℕ). R.two_bands k && R.urgent_parcel o.parcel) same ∙ ap (λ (c : Bool). c && R.urgent_parcel o.parcel) one in
          let z : true ≡ false = sym is ∙ none in cc
      go false is = let w = ap (λ (c : Bool). link_pipe R c o.link) is in omega arith

  none_of : (l : ℕ) (os : List (Outgoing K)) → R.two_bands l ≡ false → Each (λ (o : Outgoing K). home R (Out o) ≡ link_pipe R true l) os → os ≡ []
  none_of l [] one all = refl
  none_of l (o ∷ os) one all = absurd (not_high l o one all.0)

  low_alone : (xs zs : List (Outgoing K)) → IsMerge xs [] zs → zs ≡ xs
  low_alone xs [] m = sym m.0
  low_alone xs (z ∷ zs) (inl m) = ap (λ (l : List (Outgoing K)). z ∷ l) (low_alone m.0 zs m.2) ∙ sym m.1
  low_alone xs (z ∷ zs) (inr m) = absurd (let w : [] ≡ z ∷ m.0 = m.1 in cc)

  pub has_merged : (l : ℕ) → l < R.links → HasMerged R v went l
  has_merged l lt = record { merged = merged; one_band = one_band }
    where
      at_low : IsLinkPipe R (link_pipe R false l)
      at_low = (omega arith, omega arith)

      at_high : IsLinkPipe R (link_pipe R true l)
      at_high = (omega arith, omega arith)

      merged : IsMerge (v.handed (link_pipe R false l)) (v.handed (link_pipe R true l)) (handed_items (went l))
      merged =
          let a = (e.settled.forwarders (link_pipe R false l) at_low).sent in
          let b = (e.settled.forwarders (link_pipe R true l) at_high).sent in
          subst (λ (xs : List (Outgoing K)). IsMerge xs (v.handed (link_pipe R true l)) (handed_items (went l))) (sym a) (subst (λ (ys : List (Outgoing K)). IsMerge (payloads (before_mark (v.forwarded (link_pipe R false l)))) ys (handed_items (went l))) (sym b) (e.sinks l lt))

      one_band : R.two_bands l ≡ false → (handed_items (went l) ≡ v.handed (link_pipe R false l)) × (v.handed (link_pipe R true l) ≡ []) × (v.swept (link_pipe R true l) ≡ [])
      one_band one =
          let q : ℕ = link_pipe R true l in
          let all = each_map (λ o h. h.2) (v.handed q ++ v.swept q) (right_at R v s went closed lawful e q at_high) in
          let parts = each_split (λ (o : Outgoing K). home R (Out o) ≡ q) (v.handed q) (v.swept q) all in
          let no_handed = none_of l (v.handed q) one parts.0 in
          let no_swept = none_of l (v.swept q) one parts.1 in
          (low_alone (v.handed (link_pipe R false l)) (handed_items (went l)) (subst (λ (ys : List (Outgoing K)). IsMerge (v.handed (link_pipe R false l)) ys (handed_items (went l))) no_handed merged), no_handed, no_swept)

pub gives_reasons : (K : Kinds) → GivesReasons K
gives_reasons K R v s went closed lawful e = has_reasons R v s went closed lawful e

pub merges_bands : (K : Kinds) → MergesBands K
merges_bands K R v s went closed lawful e = has_merged R v s went closed lawful e
