-- All that the workers of a run dropped, as one list, and sums over it.
use Rattle.std.proofs.Common.{◌≡◌, ◌⊎◌, inl, inr, ℕ, zero, suc, ◌+◌, ◌<◌, ◌≤◌, Bool, true, false, cond, List, [], ◌∷◌, ◌++◌, map, refl, ap, ◌∙◌, arith}
use Rattle.std.specs.List.{flat_map}
use Rattle.std.proofs.lemmas.Bool.{cases_eq}
use Rattle.order_laws.specs.Counts.{total}
use Rattle.order_laws.specs.Counted.{sum_to, SlowViews, place_of, link_pipes}
use Rattle.order_laws.specs.Deeds.{Ending, Accepted, Refused, Lacked, Counted, Deed, Each}
use Rattle.order_laws.specs.Item.{Arrival, Outgoing}
use Rattle.order_laws.specs.Rules.{Rules}
use Rattle.order_laws.specs.Settled.{SlowPathRequest, Views}
use Rattle.order_laws.specs.Cause.{Cause}
use Rattle.order_laws.specs.Fate.{Fate}
use Rattle.order_laws.proofs.Counted.{sum_below}
use Rattle.order_laws.proofs.SettledOrder.{each_join}
use Rattle.order_laws.proofs.Sums.{total-append}
use Rattle.process_packet.specs.declared.cause.Cause.{Cause as RouterCause}
use Rattle.router_rules.specs.Rules.{kinds}
use Rattle.worker_laws.specs.Forwards.{Handed}

-- ---- lists by number

-- no term is above the sum
pub sum_part : (n k : ℕ) (g : ℕ → ℕ) → k < n → g k ≤ sum_to n g
sum_part zero k g lt = absurd (omega arith)
sum_part (suc n) k g lt = go (cases_eq k n) (λ less. sum_part n k g less)
  where
    go : (k ≡ n) ⊎ (k ≡ n → ⊥) → (k < n → g k ≤ sum_to n g) → g k ≤ sum_to n g + g n
    go (inl e) r = let a = ap g e in omega arith
    go (inr e) r = let a = r (omega arith) in omega arith

module _ {X : Type 0} where
  -- g 0 and g 1 and .., n of them, joined
  abbrev pub collect : ℕ → (ℕ → List X) → List X
  collect zero g = []
  collect (suc n) g = collect n g ++ g n

  pub each_collect : (P : X → Type 0) (n : ℕ) (g : ℕ → List X) → ((k : ℕ) → k < n → Each P (g k)) → Each P (collect n g)
  each_collect P zero g e = tt
  each_collect P (suc n) g e = each_join P (collect n g) (g n) (each_collect P n g (λ k lt. e k (omega arith))) (e n (omega arith))

  total_collect : (f : X → ℕ) (n : ℕ) (g : ℕ → List X) → total f (collect n g) ≡ sum_to n (λ k. total f (g k))
  total_collect f zero g = refl
  total_collect f (suc n) g = let r = total_collect f n g in let a = total-append f (collect n g) (g n) in omega arith

  collected : (f : X → ℕ) (n : ℕ) (g : ℕ → List X) (h : ℕ → ℕ) → ((k : ℕ) → total f (g k) ≡ h k) → total f (collect n g) ≡ sum_to n h
  collected f n g h e = total_collect f n g ∙ sum_below n (λ k. total f (g k)) h (λ k lt. e k)

module _ {X Y : Type 0} where
  pub total_map : (f : Y → ℕ) (g : X → Y) (xs : List X) → total f (map g xs) ≡ total (λ x. f (g x)) xs
  total_map f g [] = refl
  total_map f g (x ∷ xs) = let r = total_map f g xs in omega arith

  total_flat : (f : Y → ℕ) (g : X → List Y) (h : X → ℕ) → ((x : X) → total f (g x) ≡ h x) → (xs : List X) → total f (flat_map g xs) ≡ total h xs
  total_flat f g h e [] = refl
  total_flat f g h e (x ∷ xs) = let r = total_flat f g h e xs in let a = total-append f (g x) (flat_map g xs) in let b = e x in omega arith

-- ---- what was dropped, and why

abbrev pub of_arrival : Cause kinds → Arrival kinds → Fate kinds
of_arrival why x = record { link = x.link; number = x.number; cause = why }

abbrev pub of_request : Cause kinds → SlowPathRequest kinds → Fate kinds
of_request why q = of_arrival why q.arrival

abbrev pub of_outgoing : Cause kinds → Outgoing kinds → Fate kinds
of_outgoing why o = record { link = o.arrived; number = o.number; cause = why }

-- what a worker counted, or lacked a buffer for
abbrev pub of_end : Ending RouterCause → (Cause kinds → Fate kinds) → List (Fate kinds)
of_end Accepted drop = []
of_end Refused drop = []
of_end Lacked drop = drop Cause.NoBuffer ∷ []
of_end (Counted why) drop = drop (Cause.Ruled why) ∷ []

abbrev pub of_deed : {X : Type 0} → (Cause kinds → X → Fate kinds) → Deed RouterCause X → List (Fate kinds)
of_deed drop d = of_end d.end (λ why. drop why d.item)

-- what a sink refused
abbrev pub of_handed : Handed kinds → List (Fate kinds)
of_handed h = cond h.took [] (of_outgoing Cause.SendFailed h.item ∷ [])

-- the sum over what became of an item
abbrev pub at_end : Ending RouterCause → (Cause kinds → ℕ) → ℕ
at_end Accepted f = 0
at_end Refused f = 0
at_end Lacked f = f Cause.NoBuffer
at_end (Counted why) f = f (Cause.Ruled why)

end_total : (f : Fate kinds → ℕ) (o : Ending RouterCause) (drop : Cause kinds → Fate kinds) → total f (of_end o drop) ≡ at_end o (λ why. f (drop why))
end_total f Accepted drop = refl
end_total f Refused drop = refl
end_total f Lacked drop = omega arith
end_total f (Counted why) drop = omega arith

module _ (R : Rules kinds) (v : Views kinds) (s : SlowViews kinds) where
  -- by receivers, processors and the slow path; at full pipes; after closing marks
  abbrev pub by_receiver : ℕ → List (Fate kinds)
  by_receiver p = flat_map (of_deed of_arrival) (v.received p)

  abbrev pub by_processor : ℕ → List (Fate kinds)
  by_processor i = flat_map (of_deed of_arrival) (v.worked i)

  abbrev pub by_slow : List (Fate kinds)
  by_slow = flat_map (of_deed of_request) s.worked

  abbrev pub at_processor : ℕ → List (Fate kinds)
  at_processor p = collect R.processors (λ i. map (of_arrival Cause.ProcessorFull) (v.arrived_full p i))

  abbrev pub at_link : ℕ → List (Fate kinds)
  at_link i = collect (link_pipes R) (λ j. map (of_outgoing Cause.LinkFull) (v.leaving_full i (place_of R j)))

  abbrev pub at_link_answered : ℕ → List (Fate kinds)
  at_link_answered j = map (of_outgoing Cause.LinkFull) (s.leaving_full (place_of R j))

  abbrev pub at_slow : ℕ → List (Fate kinds)
  at_slow i = map (of_request Cause.AnswerFull) (v.asked_full i)

  abbrev pub after_mark : ℕ → List (Fate kinds)
  after_mark j = map (of_outgoing Cause.Closed) (v.swept (place_of R j))

  -- all that was dropped before a sink
  abbrev pub stopped : List (Fate kinds)
  stopped =
      collect R.links by_receiver
      ++ (collect R.processors by_processor
      ++ (by_slow
      ++ (collect R.links at_processor
      ++ (collect R.processors at_link
      ++ (collect (link_pipes R) at_link_answered
      ++ (collect R.processors at_slow
      ++ collect (link_pipes R) after_mark))))))

  module _ (f : Fate kinds → ℕ) where
    abbrev pub sum_receiver : ℕ → ℕ
    sum_receiver p = total (λ (d : Deed RouterCause (Arrival kinds)). at_end d.end (λ why. f (of_arrival why d.item))) (v.received p)

    abbrev pub sum_processor : ℕ → ℕ
    sum_processor i = total (λ (d : Deed RouterCause (Arrival kinds)). at_end d.end (λ why. f (of_arrival why d.item))) (v.worked i)

    abbrev pub sum_slow : ℕ
    sum_slow = total (λ (d : Deed RouterCause (SlowPathRequest kinds)). at_end d.end (λ why. f (of_request why d.item))) s.worked

    abbrev pub sum_at_processor : ℕ → ℕ
    sum_at_processor p = sum_to R.processors (λ i. total (λ x. f (of_arrival Cause.ProcessorFull x)) (v.arrived_full p i))

    abbrev pub sum_at_link : ℕ → ℕ
    sum_at_link i = sum_to (link_pipes R) (λ j. total (λ o. f (of_outgoing Cause.LinkFull o)) (v.leaving_full i (place_of R j)))

    abbrev pub sum_at_link_answered : ℕ → ℕ
    sum_at_link_answered j = total (λ o. f (of_outgoing Cause.LinkFull o)) (s.leaving_full (place_of R j))

    abbrev pub sum_at_slow : ℕ → ℕ
    sum_at_slow i = total (λ q. f (of_request Cause.AnswerFull q)) (v.asked_full i)

    abbrev pub sum_after_mark : ℕ → ℕ
    sum_after_mark j = total (λ o. f (of_outgoing Cause.Closed o)) (v.swept (place_of R j))

    pub stopped_sum :
        total f stopped
        ≡ sum_to R.links sum_receiver + sum_to R.processors sum_processor + sum_slow + sum_to R.links sum_at_processor + sum_to R.processors sum_at_link + sum_to (link_pipes R) sum_at_link_answered + sum_to R.processors sum_at_slow + sum_to (link_pipes R) sum_after_mark
    stopped_sum =
        let l1 = collect R.links by_receiver in
        let l2 = collect R.processors by_processor in
        let l3 = by_slow in
        let l4 = collect R.links at_processor in
        let l5 = collect R.processors at_link in
        let l6 = collect (link_pipes R) at_link_answered in
        let l7 = collect R.processors at_slow in
        let l8 = collect (link_pipes R) after_mark in
        let a1 = total-append f l1 (l2 ++ (l3 ++ (l4 ++ (l5 ++ (l6 ++ (l7 ++ l8)))))) in
        let a2 = total-append f l2 (l3 ++ (l4 ++ (l5 ++ (l6 ++ (l7 ++ l8))))) in
        let a3 = total-append f l3 (l4 ++ (l5 ++ (l6 ++ (l7 ++ l8)))) in
        let a4 = total-append f l4 (l5 ++ (l6 ++ (l7 ++ l8))) in
        let a5 = total-append f l5 (l6 ++ (l7 ++ l8)) in
        let a6 = total-append f l6 (l7 ++ l8) in
        let a7 = total-append f l7 l8 in
        let deed_arrival : (d : Deed RouterCause (Arrival kinds)) → total f (of_deed of_arrival d) ≡ at_end d.end (λ why. f (of_arrival why d.item)) = λ d. end_total f d.end (λ why. of_arrival why d.item) in
        let deed_request : (d : Deed RouterCause (SlowPathRequest kinds)) → total f (of_deed of_request d) ≡ at_end d.end (λ why. f (of_request why d.item)) = λ d. end_total f d.end (λ why. of_request why d.item) in
        let b1 = collected f R.links by_receiver sum_receiver (λ p. total_flat f (of_deed of_arrival) (λ d. at_end d.end (λ why. f (of_arrival why d.item))) deed_arrival (v.received p)) in
        let b2 = collected f R.processors by_processor sum_processor (λ i. total_flat f (of_deed of_arrival) (λ d. at_end d.end (λ why. f (of_arrival why d.item))) deed_arrival (v.worked i)) in
        let b3 = total_flat f (of_deed of_request) (λ d. at_end d.end (λ why. f (of_request why d.item))) deed_request s.worked in
        let b4 = collected f R.links at_processor sum_at_processor (λ p. collected f R.processors (λ i. map (of_arrival Cause.ProcessorFull) (v.arrived_full p i)) (λ i. total (λ x. f (of_arrival Cause.ProcessorFull x)) (v.arrived_full p i)) (λ i. total_map f (of_arrival Cause.ProcessorFull) (v.arrived_full p i))) in
        let b5 = collected f R.processors at_link sum_at_link (λ i. collected f (link_pipes R) (λ j. map (of_outgoing Cause.LinkFull) (v.leaving_full i (place_of R j))) (λ j. total (λ o. f (of_outgoing Cause.LinkFull o)) (v.leaving_full i (place_of R j))) (λ j. total_map f (of_outgoing Cause.LinkFull) (v.leaving_full i (place_of R j)))) in
        let b6 = collected f (link_pipes R) at_link_answered sum_at_link_answered (λ j. total_map f (of_outgoing Cause.LinkFull) (s.leaving_full (place_of R j))) in
        let b7 = collected f R.processors at_slow sum_at_slow (λ i. total_map f (of_request Cause.AnswerFull) (v.asked_full i)) in
        let b8 = collected f (link_pipes R) after_mark sum_after_mark (λ j. total_map f (of_outgoing Cause.Closed) (v.swept (place_of R j))) in
        omega arith

-- what the sinks refused
abbrev pub failed : Rules kinds → (ℕ → List (Handed kinds)) → List (Fate kinds)
failed R went = collect R.links (λ l. flat_map of_handed (went l))

handed_total : (f : Fate kinds → ℕ) (h : Handed kinds) → total f (of_handed h) ≡ cond h.took 0 (f (of_outgoing Cause.SendFailed h.item))
handed_total f h = go h.took
  where
    go : (b : Bool) → total f (cond b [] (of_outgoing Cause.SendFailed h.item ∷ [])) ≡ cond b 0 (f (of_outgoing Cause.SendFailed h.item))
    go true = refl
    go false = omega arith

pub failed_sum : (R : Rules kinds) (went : ℕ → List (Handed kinds)) (f : Fate kinds → ℕ) → total f (failed R went) ≡ sum_to R.links (λ l. total (λ (h : Handed kinds). cond h.took 0 (f (of_outgoing Cause.SendFailed h.item))) (went l))
failed_sum R went f =
    collected f R.links (λ l. flat_map of_handed (went l)) (λ l. total (λ (h : Handed kinds). cond h.took 0 (f (of_outgoing Cause.SendFailed h.item))) (went l))
    (λ l. total_flat f of_handed (λ h. cond h.took 0 (f (of_outgoing Cause.SendFailed h.item))) (handed_total f) (went l))
