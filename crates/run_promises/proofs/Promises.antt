-- A run that has ended keeps what is promised of it.
use Rattle.std.proofs.Common.{◌≡◌, ◌⊎◌, inl, inr, ℕ, zero, ◌+◌, ◌*◌, ◌<◌, ◌≤◌, Bool, true, false, eqb, not, ◌&&◌, ◌||◌, cond, List, [], ◌∷◌, ◌++◌, map, length, None, refl, sym, ap, subst, ◌∙◌, arith}
use Rattle.std.specs.List.{filter, flat_map, list_any}
use Rattle.std.proofs.lemmas.Bool.{cases_eq, cases_lt, cases_Bool, eq-eqb, ne_eqb}
use Rattle.order_laws.specs.Counts.{total, count}
use Rattle.order_laws.specs.Counted.{sum_to, SlowViews, place_of, link_pipes}
use Rattle.order_laws.specs.Deeds.{Ending, Accepted, Refused, Lacked, Counted, Deed, Each, if_counted, if_lacked, if_refused, lacked, refused}
use Rattle.order_laws.specs.Expected.{Departure, Flow, departure_if, is_of, only, sent_to}
use Rattle.order_laws.specs.Less.{is_drop_of, is_dropped, is_early, less}
use Rattle.order_laws.specs.Item.{Arrival, Arrived, Outgoing, Out, is_one}
use Rattle.order_laws.specs.Departures.{numbers_of}
use Rattle.order_laws.specs.Rules.{Rules, Decision, Sends, Asks, Drops, Withholds, IsLawful}
use Rattle.order_laws.specs.Merge.{IsMerge}
use Rattle.order_laws.specs.Settled.{SlowPathRequest, if_so, to_processor, to_link, Views, told, IsTold, IsLinkPipe, expected_of, seen, dropped, has_number, numbers, without, HandsInOrder}
use Rattle.order_laws.specs.Cause.{Cause}
use Rattle.order_laws.specs.Fate.{Fate}
use Rattle.order_laws.specs.Pipes.{home, is_high, link_pipe}
use Rattle.order_laws.proofs.Counted.{sum_below, sum_add, sum_zero}
use Rattle.order_laws.proofs.Kept.{numbers-append}
use Rattle.order_laws.proofs.SettledOrder.{each_both, each_in, each_join, each_nothing, each_split, known}
use Rattle.order_laws.proofs.Stages.{each_map}
use Rattle.order_laws.proofs.Sums.{count-total, total-append, total-agree, total-plus}
use Rattle.process_packet.specs.Totals.{dropped_for}
use Rattle.process_packet.specs.declared.cause.Cause.{Cause as RouterCause}
use Rattle.process_packet.specs.declared.config.Config.{Config}
use Rattle.process_packet.specs.declared.totals.Totals.{Totals}
use Rattle.router_rules.specs.Causes.{booked_as}
use Rattle.router_rules.specs.Links.{link_count}
use Rattle.router_rules.specs.Rules.{kinds, rules}
use Rattle.worker_laws.specs.Answers.{to_back}
use Rattle.worker_laws.specs.Causes.{when, was_counted, counted_in, was_refused}
use Rattle.worker_laws.specs.Ended.{Ended, HasEnded, IsAnswerTo, IsPacketOf}
use Rattle.worker_laws.specs.Forwards.{Handed, handed_items}
use Rattle.worker_laws.specs.Places.{StandsOnce, only_of}
use Rattle.worker_laws.specs.Reasons.{HasReasons, HasMerged, IsAskedOf}
use Rattle.worker_laws.specs.Receives.{IsClear, lacks, unless_counted, was_lacked}
use Rattle.worker_laws.specs.Weighed.{arrival_weight, request_weight, outgoing_weight, lost, lost_by, places}
use Rattle.worker_laws.specs.Workers.{slow_views, views_of, went_at}
use Rattle.worker_laws.specs.Works.{LacksNothing}
use Rattle.worker_laws.proofs.Causes.{sum_pairs, when_add, when_sum, when_zero}
use Rattle.worker_laws.proofs.Settling.{askable, each_refused, replied_right, right_at, sent_right}
use Rattle.run_promises.specs.Promises.{HasReason, IsReason, KeepsPromises, LeavesOn, departures, drops_for, places_of, sent_in_sequence, taken_of, PromisesAreKept}
use Rattle.worker_order.specs.Returned.{shares_of}
use Rattle.worker_order.specs.Totals.{HasTotals, same_cause, totals_of}
use Rattle.run_promises.proofs.Drops.{each_collect, sum_part, total_map, of_arrival, of_request, of_outgoing, of_end, of_deed, of_handed, at_end, stopped, stopped_sum, sum_receiver, sum_processor, sum_at_processor, sum_at_link, sum_after_mark, failed, failed_sum}

-- ---- sums and tests over a list

module _ {X : Type 0} where
  total_le : (f g : X → ℕ) (xs : List X) → ((x : X) → f x ≤ g x) → total f xs ≤ total g xs
  total_le f g [] h = omega arith
  total_le f g (x ∷ xs) h = let r = total_le f g xs h in let a = h x in omega arith

  total_none : (f : X → ℕ) (xs : List X) → ((x : X) → f x ≡ 0) → total f xs ≡ 0
  total_none f [] h = refl
  total_none f (x ∷ xs) h = let r = total_none f xs h in let a = h x in omega arith

  -- how many pass a test, and whether one does
  passes : (p : X → Bool) (xs : List X) → 1 ≤ total (λ x. cond (p x) 1 0) xs → list_any p xs ≡ true
  passes p [] le = absurd (omega arith)
  passes p (x ∷ xs) le = go (p x) le (passes p xs)
    where
      go : (b : Bool) → 1 ≤ cond b 1 0 + total (λ x. cond (p x) 1 0) xs → (1 ≤ total (λ x. cond (p x) 1 0) xs → list_any p xs ≡ true) → (b || list_any p xs) ≡ true
      go true le rest = refl
      go false le rest = rest (omega arith)

  passed : (p : X → Bool) (xs : List X) → list_any p xs ≡ true → 1 ≤ total (λ x. cond (p x) 1 0) xs
  passed p [] any = absurd cc
  passed p (x ∷ xs) any = go (p x) any (passed p xs)
    where
      go : (b : Bool) → (b || list_any p xs) ≡ true → (list_any p xs ≡ true → 1 ≤ total (λ x. cond (p x) 1 0) xs) → 1 ≤ cond b 1 0 + total (λ x. cond (p x) 1 0) xs
      go true any rest = omega arith
      go false any rest = let r = rest any in omega arith

  filter_agree : (p q : X → Bool) (xs : List X) → Each (λ x. p x ≡ q x) xs → filter p xs ≡ filter q xs
  filter_agree p q [] same = refl
  filter_agree p q (x ∷ xs) same =
      ap (λ (b : Bool). cond b (x ∷ filter p xs) (filter p xs)) same.0 ∙ ap (λ (ys : List X). cond (q x) (x ∷ ys) ys) (filter_agree p q xs same.1)

  -- what holds of all that passes
  each_passed : (P : X → Type 0) (p : X → Bool) (xs : List X) → Each P (filter p xs) → Each (λ x. p x ≡ true → P x) xs
  each_passed P p [] e = tt
  each_passed P p (x ∷ xs) e = go (p x) refl e (each_passed P p xs)
    where
      go : (b : Bool) → p x ≡ b → Each P (cond b (x ∷ filter p xs) (filter p xs)) → (Each P (filter p xs) → Each (λ x. p x ≡ true → P x) xs) → (p x ≡ true → P x) × Each (λ x. p x ≡ true → P x) xs
      go true is e rest = (λ t. e.0, rest e.1)
      go false is e rest = (λ t. absurd (let z : false ≡ true = sym is ∙ t in cc), rest e)

  each_mapped : {Y : Type 0} (P : Y → Type 0) (f : X → Y) (xs : List X) → Each (λ x. P (f x)) xs → Each P (map f xs)
  each_mapped P f [] e = tt
  each_mapped P f (x ∷ xs) e = (e.0, each_mapped P f xs e.1)

  each_unmapped : {Y : Type 0} (P : Y → Type 0) (f : X → Y) (xs : List X) → Each P (map f xs) → Each (λ x. P (f x)) xs
  each_unmapped P f [] e = tt
  each_unmapped P f (x ∷ xs) e = (e.0, each_unmapped P f xs e.1)

has_it : (P : ℕ → Type 0) (n : ℕ) (ns : List ℕ) → Each P ns → has_number n ns ≡ true → P n
has_it P n [] e any = absurd cc
has_it P n (m ∷ ns) e any = go (cases_eq m n) (has_it P n ns e.1)
  where
    go : (m ≡ n) ⊎ (m ≡ n → ⊥) → (has_number n ns ≡ true → P n) → P n
    go (inl is) rest = subst P is e.0
    go (inr ne) rest = rest (ap (λ (b : Bool). b || has_number n ns) (sym (ne_eqb m n ne)) ∙ any)

const_total : {X : Type 0} (b : Bool) (xs : List X) → total (λ x. cond b 1 0) xs ≡ when b (length xs)
const_total true [] = refl
const_total true (x ∷ xs) = let r = const_total true xs in omega arith
const_total false [] = refl
const_total false (x ∷ xs) = let r = const_total false xs in omega arith

-- ---- merged lists

abbrev Os : Type 0
Os = List (Outgoing kinds)

merge_total : (f : Outgoing kinds → ℕ) (xs ys zs : Os) → IsMerge xs ys zs → total f xs + total f ys ≡ total f zs
merge_total f xs ys [] m = rw (m.0, m.1) refl
merge_total f xs ys (z ∷ zs) (inl m) = let r = merge_total f m.0 ys zs m.2 in let a = ap (total f) m.1 in omega arith
merge_total f xs ys (z ∷ zs) (inr m) = let r = merge_total f xs m.0 zs m.2 in let a = ap (total f) m.1 in omega arith

merge_each : (P : Outgoing kinds → Type 0) (xs ys zs : Os) → IsMerge xs ys zs → Each P xs → Each P ys → Each P zs
merge_each P xs ys [] m e f = tt
merge_each P xs ys (z ∷ zs) (inl m) e f = let h = subst (λ (os : Os). Each P os) m.1 e in (h.0, merge_each P m.0 ys zs m.2 h.1 f)
merge_each P xs ys (z ∷ zs) (inr m) e f = let h = subst (λ (os : Os). Each P os) m.1 f in (h.0, merge_each P xs m.0 zs m.2 e h.1)

module _ {D : Type 0} (g : Outgoing kinds → List D) where
  -- of one list nothing is seen
  merge_low : (xs ys zs : Os) → IsMerge xs ys zs → Each (λ o. g o ≡ []) ys → flat_map g zs ≡ flat_map g xs
  merge_low xs ys [] m none = ap (flat_map g) (sym m.0)
  merge_low xs ys (z ∷ zs) (inl m) none = ap (λ (ds : List D). g z ++ ds) (merge_low m.0 ys zs m.2 none) ∙ ap (flat_map g) (sym m.1)
  merge_low xs ys (z ∷ zs) (inr m) none = let h = subst (λ (os : Os). Each (λ o. g o ≡ []) os) m.1 none in ap (λ (ds : List D). ds ++ flat_map g zs) h.0 ∙ merge_low xs m.0 zs m.2 h.1

  merge_high : (xs ys zs : Os) → IsMerge xs ys zs → Each (λ o. g o ≡ []) xs → flat_map g zs ≡ flat_map g ys
  merge_high xs ys [] m none = ap (flat_map g) (sym m.1)
  merge_high xs ys (z ∷ zs) (inl m) none = let h = subst (λ (os : Os). Each (λ o. g o ≡ []) os) m.1 none in ap (λ (ds : List D). ds ++ flat_map g zs) h.0 ∙ merge_high m.0 ys zs m.2 h.1
  merge_high xs ys (z ∷ zs) (inr m) none = ap (λ (ds : List D). g z ++ ds) (merge_high xs m.0 zs m.2 none) ∙ ap (flat_map g) (sym m.1)

-- ---- packets by their names

abbrev weight : (a n : ℕ) → Fate kinds → ℕ
weight a n d = only_of a n d.link d.number

abbrev early_weight : (a n : ℕ) → Fate kinds → ℕ
early_weight a n d = cond (is_drop_of a n d) 1 0

early_below : (a n : ℕ) (d : Fate kinds) → early_weight a n d ≤ weight a n d
early_below a n d = go (eqb d.link a) (eqb d.number n) (is_early d.cause)
  where
    go : (x y z : Bool) → cond (x && (y && z)) 1 0 ≤ cond (x && y) 1 0
    go true true true = omega arith
    go true true false = omega arith
    go true false z = omega arith
    go false y z = omega arith

early_one : (a : ℕ) (d : Fate kinds) → d.link ≡ a → is_early d.cause ≡ true → early_weight a d.number d ≡ 1
early_one a d link early = rw (eq-eqb d.link a link, eq-eqb d.number d.number refl, early) refl

late_none : (a n : ℕ) (d : Fate kinds) → is_early d.cause ≡ false → early_weight a n d ≡ 0
late_none a n d late = rw (late) (go (eqb d.link a) (eqb d.number n))
  where
    go : (x y : Bool) → cond (x && (y && false)) 1 0 ≡ zero
    go true true = refl
    go true false = refl
    go false y = refl

end_lost : (o : Ending RouterCause) (n : ℕ) → at_end o (λ why. n) ≡ lost_by o n
end_lost Accepted n = refl
end_lost Refused n = refl
end_lost Lacked n = refl
end_lost (Counted why) n = refl

-- numbers of departures, each with an item of its name
named : {X : Type 0} (w : ℕ → X → ℕ) (g : X → List (Departure kinds)) → ((x : X) → Each (λ n. 1 ≤ w n x) (numbers (g x))) → (xs : List X) → Each (λ n. 1 ≤ total (w n) xs) (numbers (flat_map g xs))
named w g one [] = tt
named w g one (x ∷ xs) =
    subst (λ (ns : List ℕ). Each (λ n. 1 ≤ w n x + total (w n) xs) ns) (sym (numbers-append (g x) (flat_map g xs)))
    (each_join (λ n. 1 ≤ w n x + total (w n) xs) (numbers (g x)) (numbers (flat_map g xs))
    (each_map (λ n h. omega arith) (numbers (g x)) (one x)) (each_map (λ n h. omega arith) (numbers (flat_map g xs)) (named w g one xs)))

module _ (R : Rules kinds) (a l : ℕ) (mine : Arrival kinds → Bool) (Q : ℕ → Type 0) where
  expected_named : (x : Arrival kinds) → (x.link ≡ a → Q x.number) → Each Q (numbers (expected_of R a l mine x))
  expected_named x h = by_link (cases_eq x.link a)
    where
      by_sent : (b : Bool) (d : Departure kinds) → Q d.number → Each Q (numbers (departure_if b d))
      by_sent true d q = (q, tt)
      by_sent false d q = tt

      by_decision : Q x.number → (r : Decision kinds) → Each Q (numbers (sent_to l x.number r))
      by_decision q (Sends k y) = by_sent (eqb k l) (record { number = x.number; parcel = y }) q
      by_decision q (Asks p) = tt
      by_decision q (Drops c) = tt

      by_mine : Q x.number → (b : Bool) → Each Q (numbers (only b (sent_to l x.number (R.decide x))))
      by_mine q true = by_decision q (R.decide x)
      by_mine q false = tt

      by_link : (x.link ≡ a) ⊎ (x.link ≡ a → ⊥) → Each Q (numbers (expected_of R a l mine x))
      by_link (inl e) = rw (eq-eqb x.link a e) (by_mine (h e) (mine x))
      by_link (inr ne) = rw (ne_eqb x.link a ne) tt

seen_named : (v : Views kinds) (a : ℕ) (mine : Arrival kinds → Bool) (Q : ℕ → Type 0) (o : Outgoing kinds) → (o.arrived ≡ a → Q o.number) → Each Q (numbers (seen v a mine o))
seen_named v a mine Q o h = by_link (cases_eq o.arrived a)
  where
    wanted : Bool
    wanted = not o.answer && numbers_of mine (map (λ x. Arrived x) (told v a)) o.number

    by : (b : Bool) → Q o.number → Each Q (numbers (departure_if {K = kinds} b (record { number = o.number; parcel = o.parcel })))
    by true q = (q, tt)
    by false q = tt

    by_link : (o.arrived ≡ a) ⊎ (o.arrived ≡ a → ⊥) → Each Q (numbers (seen v a mine o))
    by_link (inl e) = rw (eq-eqb o.arrived a e) (by wanted (h e))
    by_link (inr ne) = rw (ne_eqb o.arrived a ne) tt

-- ---- the run

module _ (c : Config) (v : Views kinds) (s : SlowViews kinds) (went : ℕ → List (Handed kinds)) (closed : ℕ → Bool) (t : Totals) where
  abbrev R : Rules kinds
  R = rules c

  -- what is known of it
  pub record Kept : Type 0 where
    pub lawful : IsLawful R (IsTold v)
    pub ended : Ended R v s went closed
    pub follows : HasEnded R v s went closed
    pub once : (a n : ℕ) → StandsOnce R v s a n
    pub reasons : HasReasons R v s
    pub bands : (l : ℕ) → l < R.links → HasMerged R v went l
    pub totals : HasTotals c v s went t

  module _ (kept : Kept) where
    abbrev drops : List (Fate kinds)
    drops = stopped R v s ++ failed R went

    -- ---- places

    abbrev handed_sum : (a n : ℕ) → ℕ
    handed_sum a n = sum_to (link_pipes R) (λ j. total (outgoing_weight (only_of a n)) (v.handed (place_of R j)))

    lost_is : {X : Type 0} (w : X → ℕ) (log : List (Deed RouterCause X)) → total (λ (d : Deed RouterCause X). at_end d.end (λ why. w d.item)) log ≡ lost w log
    lost_is w log = total-agree (λ d. at_end d.end (λ why. w d.item)) (λ d. lost_by d.end (w d.item)) log (λ d. end_lost d.end (w d.item))

    placed : (a n : ℕ) → handed_sum a n + total (weight a n) (stopped R v s) ≡ places (only_of a n) R v s
    placed a n =
        let w = only_of a n in
        let all = stopped_sum R v s (weight a n) in
        let x = sum_below R.links (sum_receiver R v s (weight a n)) (λ p. lost (arrival_weight w) (v.received p)) (λ p lt. lost_is (arrival_weight w) (v.received p)) in
        let y = sum_below R.processors (sum_processor R v s (weight a n)) (λ i. lost (arrival_weight w) (v.worked i)) (λ i lt. lost_is (arrival_weight w) (v.worked i)) in
        let z = lost_is (request_weight w) s.worked in
        omega arith

    at_most_one : (a n : ℕ) → places (only_of a n) R v s ≤ 1
    at_most_one a n = go (cases_lt a R.links) (cases_lt n 1) (cases_lt (length (told v a)) n)
      where
        go : (a < R.links) ⊎ (R.links ≤ a) → (n < 1) ⊎ (1 ≤ n) → (length (told v a) < n) ⊎ (n ≤ length (told v a)) → places (only_of a n) R v s ≤ 1
        go (inr ge) x y = let z = (kept.once a n).none (λ e. let q = e.0 in omega arith) in omega arith
        go (inl lt) (inl low) y = let z = (kept.once a n).none (λ e. let q = e.1 in omega arith) in omega arith
        go (inl lt) (inr from) (inl high) = let z = (kept.once a n).none (λ e. let q = e.2 in omega arith) in omega arith
        go (inl lt) (inr from) (inr to) = let z = (kept.once a n).place lt from to in omega arith

    -- of each link what was handed to its sink is taken or refused
    handed_is : (a n : ℕ) → sum_to R.links (λ l. taken_of a n (went l)) + total (weight a n) (failed R went) ≡ handed_sum a n
    handed_is a n =
        let w = only_of a n in
        let f = failed_sum R went (weight a n) in
        let refused_at : ℕ → ℕ = λ l. total (λ (h : Handed kinds). cond h.took 0 (weight a n (of_outgoing Cause.SendFailed h.item))) (went l) in
        let two : ℕ → ℕ = λ j. total (outgoing_weight w) (v.handed (place_of R j)) in
        let p = sum_pairs R.links two in
        let q = sum_below R.links (λ l. two (2 * l) + two (2 * l + 1)) (λ l. taken_of a n (went l) + refused_at l) (λ l lt. of_link l lt) in
        let r = sum_add R.links (λ l. taken_of a n (went l)) refused_at in
        omega arith
      where
        one : (h : Handed kinds) → cond (h.took && is_one a n h.item.arrived h.item.number) 1 0 + cond h.took 0 (cond (is_one a n h.item.arrived h.item.number) 1 0) ≡ cond (is_one a n h.item.arrived h.item.number) 1 0
        one h = go h.took (is_one a n h.item.arrived h.item.number)
          where
            go : (x y : Bool) → cond (x && y) 1 0 + cond x 0 (cond y 1 0) ≡ cond y 1 0
            go true true = refl
            go true false = refl
            go false y = omega arith

        of_link : (l : ℕ) → l < R.links
            → total (outgoing_weight (only_of a n)) (v.handed (place_of R (2 * l))) + total (outgoing_weight (only_of a n)) (v.handed (place_of R (2 * l + 1)))
            ≡ taken_of a n (went l) + total (λ (h : Handed kinds). cond h.took 0 (weight a n (of_outgoing Cause.SendFailed h.item))) (went l)
        of_link l lt =
            let w = only_of a n in
            let low : link_pipe R false l ≡ place_of R (2 * l) = omega arith in
            let high : link_pipe R true l ≡ place_of R (2 * l + 1) = omega arith in
            let x = ap (λ (q : ℕ). total (outgoing_weight w) (v.handed q)) low in
            let y = ap (λ (q : ℕ). total (outgoing_weight w) (v.handed q)) high in
            let m = merge_total (outgoing_weight w) (v.handed (link_pipe R false l)) (v.handed (link_pipe R true l)) (handed_items (went l)) (kept.bands l lt).merged in
            let i = total_map (outgoing_weight w) (λ (h : Handed kinds). h.item) (went l) in
            let k = count-total (λ (h : Handed kinds). h.took && is_one a n h.item.arrived h.item.number) (went l) in
            let g = total-plus (λ (h : Handed kinds). cond (h.took && is_one a n h.item.arrived h.item.number) 1 0) (λ (h : Handed kinds). cond h.took 0 (cond (is_one a n h.item.arrived h.item.number) 1 0)) (went l) in
            let e = total-agree (λ (h : Handed kinds). cond (h.took && is_one a n h.item.arrived h.item.number) 1 0 + cond h.took 0 (cond (is_one a n h.item.arrived h.item.number) 1 0)) (λ h. outgoing_weight w h.item) (went l) one in
            omega arith

    all_places : (a n : ℕ) → places_of (link_count c) went drops a n ≡ places (only_of a n) R v s
    all_places a n =
        let d = count-total (λ (d : Fate kinds). is_one a n d.link d.number) drops in
        let x = total-append (weight a n) (stopped R v s) (failed R went) in
        let y = placed a n in
        let z = handed_is a n in
        omega arith

    -- ---- order

    early_failed : (a n : ℕ) → total (early_weight a n) (failed R went) ≡ 0
    early_failed a n =
        let f = failed_sum R went (early_weight a n) in
        let z = sum_below R.links (λ l. total (λ (h : Handed kinds). cond h.took 0 (early_weight a n (of_outgoing Cause.SendFailed h.item))) (went l)) (λ l. 0) (λ l lt. total_none (λ (h : Handed kinds). cond h.took 0 (early_weight a n (of_outgoing Cause.SendFailed h.item))) (went l) none) in
        let y = sum_zero R.links in
        omega arith
      where
        none : (h : Handed kinds) → cond h.took 0 (early_weight a n (of_outgoing Cause.SendFailed h.item)) ≡ 0
        none h = rw (late_none a n (of_outgoing Cause.SendFailed h.item) refl) (go h.took)
          where
            go : (b : Bool) → cond b 0 0 ≡ zero
            go true = refl
            go false = refl

    early_drops : (a n : ℕ) → total (early_weight a n) drops ≡ total (early_weight a n) (stopped R v s)
    early_drops a n = let x = total-append (early_weight a n) (stopped R v s) (failed R went) in let y = early_failed a n in omega arith

    -- the place of the pipe of one band of a link
    pipe_at : (b : Bool) (l : ℕ) → l < R.links → (j : ℕ) × ((j < link_pipes R) × (place_of R j ≡ link_pipe R b l))
    pipe_at false l lt = (2 * l, (omega arith, omega arith))
    pipe_at true l lt = (2 * l + 1, (omega arith, omega arith))

    end_named : {X : Type 0} (g : X → List (Departure kinds)) (w : ℕ → X → Cause kinds → ℕ) → ((x : X) → Each (λ n. 1 ≤ w n x Cause.NoBuffer) (numbers (g x))) → (d : Deed RouterCause X) → Each (λ n. 1 ≤ at_end d.end (w n d.item)) (numbers (lacked g d))
    end_named g w one d = go d.end
      where
        go : (o : Ending RouterCause) → Each (λ n. 1 ≤ at_end o (w n d.item)) (numbers (if_lacked o (g d.item)))
        go Accepted = tt
        go Refused = tt
        go Lacked = one d.item
        go (Counted why) = tt

    module _ (a l : ℕ) (f : Flow kinds) (a_lt : a < R.links) (l_lt : l < R.links) where
      abbrev mine : Arrival kinds → Bool
      mine = is_of R f

      abbrev band : Bool
      band = R.two_bands l && f.urgent

      abbrev i : ℕ
      i = R.processor f.key

      abbrev missing : Bool → List ℕ
      missing b = dropped R v a l (link_pipe R b l) i mine

      by_arrival : (why : Cause kinds) → is_early why ≡ true → (x : Arrival kinds) → Each (λ n. 1 ≤ early_weight a n (of_arrival why x)) (numbers (expected_of R a l mine x))
      by_arrival why early x = expected_named R a l mine (λ n. 1 ≤ early_weight a n (of_arrival why x)) x (λ e. let z = early_one a (of_arrival why x) e early in omega arith)

      by_outgoing : (why : Cause kinds) → is_early why ≡ true → (o : Outgoing kinds) → Each (λ n. 1 ≤ early_weight a n (of_outgoing why o)) (numbers (seen v a mine o))
      by_outgoing why early o = seen_named v a mine (λ n. 1 ≤ early_weight a n (of_outgoing why o)) o (λ e. let z = early_one a (of_outgoing why o) e early in omega arith)

      -- a part of the drops
      abbrev IsThere : ℕ → Type 0
      IsThere n = 1 ≤ total (early_weight a n) (stopped R v s)

      missing_there : (b : Bool) → Each IsThere (missing b)
      missing_there b =
          let j = pipe_at b l l_lt in
          let q = link_pipe R b l in
          let i_lt = kept.lawful.processors f.key in
          let at_pipe : Each (λ n. 1 ≤ total (λ x. early_weight a n (of_arrival Cause.ProcessorFull x)) (v.arrived_full a i)) (numbers (flat_map (expected_of R a l mine) (v.arrived_full a i))) =
          named (λ n x. early_weight a n (of_arrival Cause.ProcessorFull x)) (expected_of R a l mine) (by_arrival Cause.ProcessorFull refl) (v.arrived_full a i) in
          let unbuffered : Each (λ n. 1 ≤ sum_receiver R v s (early_weight a n) a) (numbers (flat_map (lacked (expected_of R a l mine)) (v.received a))) =
          named (λ n (d : Deed RouterCause (Arrival kinds)). at_end d.end (λ why. early_weight a n (of_arrival why d.item))) (lacked (expected_of R a l mine)) (end_named (expected_of R a l mine) (λ n x why. early_weight a n (of_arrival why x)) (by_arrival Cause.NoBuffer refl)) (v.received a) in
          let lacking : Each (λ n. 1 ≤ sum_processor R v s (early_weight a n) i) (numbers (flat_map (lacked (expected_of R a l mine)) (v.worked i))) =
          named (λ n (d : Deed RouterCause (Arrival kinds)). at_end d.end (λ why. early_weight a n (of_arrival why d.item))) (lacked (expected_of R a l mine)) (end_named (expected_of R a l mine) (λ n x why. early_weight a n (of_arrival why x)) (by_arrival Cause.NoBuffer refl)) (v.worked i) in
          let at_band : Each (λ n. 1 ≤ total (λ o. early_weight a n (of_outgoing Cause.LinkFull o)) (v.leaving_full i q)) (numbers (flat_map (seen v a mine) (v.leaving_full i q))) =
          named (λ n o. early_weight a n (of_outgoing Cause.LinkFull o)) (seen v a mine) (by_outgoing Cause.LinkFull refl) (v.leaving_full i q) in
          let swept : Each (λ n. 1 ≤ total (λ o. early_weight a n (of_outgoing Cause.Closed o)) (v.swept q)) (numbers (flat_map (seen v a mine) (v.swept q))) =
          named (λ n o. early_weight a n (of_outgoing Cause.Closed o)) (seen v a mine) (by_outgoing Cause.Closed refl) (v.swept q) in
          let l1 = numbers (flat_map (expected_of R a l mine) (v.arrived_full a i)) in
          let l2 = numbers (flat_map (lacked (expected_of R a l mine)) (v.received a)) in
          let l3 = numbers (flat_map (seen v a mine) (v.leaving_full i q)) in
          let l4 = numbers (flat_map (lacked (expected_of R a l mine)) (v.worked i)) in
          let l5 = numbers (flat_map (seen v a mine) (v.swept q)) in
          each_join IsThere ((l1 ++ l2) ++ (l3 ++ l4)) l5
          (each_join IsThere (l1 ++ l2) (l3 ++ l4)
          (each_join IsThere l1 l2
          (each_map (λ n h. let e = early_weight a n in let all = stopped_sum R v s e in let x = sum_part R.processors i (λ k. total (λ x. e (of_arrival Cause.ProcessorFull x)) (v.arrived_full a k)) i_lt in let y = sum_part R.links a (sum_at_processor R v s e) a_lt in omega arith) l1 at_pipe)
          (each_map (λ n h. let e = early_weight a n in let all = stopped_sum R v s e in let y = sum_part R.links a (sum_receiver R v s e) a_lt in omega arith) l2 unbuffered))
          (each_join IsThere l3 l4
          (each_map (λ n h. let e = early_weight a n in let all = stopped_sum R v s e in let same = ap (λ (p : ℕ). total (λ o. e (of_outgoing Cause.LinkFull o)) (v.leaving_full i p)) j.1.1 in let x = sum_part (link_pipes R) j.0 (λ k. total (λ o. e (of_outgoing Cause.LinkFull o)) (v.leaving_full i (place_of R k))) j.1.0 in let y = sum_part R.processors i (sum_at_link R v s e) i_lt in omega arith) l3 at_band)
          (each_map (λ n h. let e = early_weight a n in let all = stopped_sum R v s e in let y = sum_part R.processors i (sum_processor R v s e) i_lt in omega arith) l4 lacking)))
          (each_map (λ n h. let e = early_weight a n in let all = stopped_sum R v s e in let same = ap (λ (p : ℕ). total (λ o. e (of_outgoing Cause.Closed o)) (v.swept p)) j.1.1 in let x = sum_part (link_pipes R) j.0 (sum_after_mark R v s e) j.1.0 in omega arith) l5 swept)

      -- what was handed on stands in its pipe
      handed_there : (b : Bool) → Each (λ (d : Departure kinds). 1 ≤ handed_sum a d.number) (flat_map (seen v a mine) (v.handed (link_pipe R b l)))
      handed_there b =
          let j = pipe_at b l l_lt in
          let q = link_pipe R b l in
          let here : Each (λ n. 1 ≤ total (outgoing_weight (only_of a n)) (v.handed q)) (numbers (flat_map (seen v a mine) (v.handed q))) =
          named (λ n o. outgoing_weight (only_of a n) o) (seen v a mine) (λ o. seen_named v a mine (λ n. 1 ≤ outgoing_weight (only_of a n) o) o (λ e. one o e)) (v.handed q) in
          by_number (flat_map (seen v a mine) (v.handed q))
          (each_map (λ n h. let same = ap (λ (p : ℕ). total (outgoing_weight (only_of a n)) (v.handed p)) j.1.1 in let x = sum_part (link_pipes R) j.0 (λ k. total (outgoing_weight (only_of a n)) (v.handed (place_of R k))) j.1.0 in omega arith) (numbers (flat_map (seen v a mine) (v.handed q))) here)
        where
          one : (o : Outgoing kinds) → o.arrived ≡ a → 1 ≤ outgoing_weight (only_of a o.number) o
          one o e = rw (eq-eqb o.arrived a e, eq-eqb o.number o.number refl) (omega arith)

          by_number : (ds : List (Departure kinds)) → Each (λ n. 1 ≤ handed_sum a n) (numbers ds) → Each (λ (d : Departure kinds). 1 ≤ handed_sum a d.number) ds
          by_number [] e = tt
          by_number (d ∷ ds) e = (e.0, by_number ds e.1)

      -- missing is what was dropped
      missing_is : (b : Bool) → HandsInOrder R v a l (link_pipe R b l) i mine
          → without (missing b) (sent_in_sequence c l f (told v a)) ≡ less drops a (sent_in_sequence c l f (told v a))
      missing_is b order =
          let xs = sent_in_sequence c l f (told v a) in
          let here = each_passed (λ (d : Departure kinds). 1 ≤ handed_sum a d.number) (λ d. not (has_number d.number (missing b))) xs (subst (λ (ds : List (Departure kinds)). Each (λ (d : Departure kinds). 1 ≤ handed_sum a d.number) ds) order (handed_there b)) in
          filter_agree (λ d. not (has_number d.number (missing b))) (λ d. not (is_dropped drops a d.number)) xs (each_map (λ d h. ap not (same d h (has_number d.number (missing b)) refl)) xs here)
        where
          same : (d : Departure kinds) → (not (has_number d.number (missing b)) ≡ true → 1 ≤ handed_sum a d.number) → (m : Bool) → has_number d.number (missing b) ≡ m → has_number d.number (missing b) ≡ is_dropped drops a d.number
          same d h true is =
              let there = has_it IsThere d.number (missing b) (missing_there b) is in
              let all = early_drops a d.number in
              is ∙ sym (passes (is_drop_of a d.number) drops (omega arith))
          same d h false is = is ∙ go (is_dropped drops a d.number) refl
            where
              go : (k : Bool) → is_dropped drops a d.number ≡ k → false ≡ is_dropped drops a d.number
              go false k = sym k
              go true k =
                  let handed = h (ap not is) in
                  let early = passed (is_drop_of a d.number) drops k in
                  let all = early_drops a d.number in
                  let below = total_le (early_weight a d.number) (weight a d.number) (stopped R v s) (early_below a d.number) in
                  let p = placed a d.number in
                  let m = at_most_one a d.number in
                  absurd (omega arith)

      order : departures c a f (told v a) (went l) ≡ less drops a (sent_in_sequence c l f (told v a))
      order = by band (kept.follows.order.of_flow a f l a_lt l_lt) (kept.follows.order.one_pipe a f l a_lt l_lt)
        where
          by : (b : Bool) → HandsInOrder R v a l (link_pipe R b l) i mine → flat_map (seen v a mine) (v.handed (link_pipe R (not b) l)) ≡ [] → departures c a f (told v a) (went l) ≡ less drops a (sent_in_sequence c l f (told v a))
          by false hands none =
              merge_low (seen v a mine) (v.handed (link_pipe R false l)) (v.handed (link_pipe R true l)) (handed_items (went l)) (kept.bands l l_lt).merged (each_nothing (seen v a mine) (v.handed (link_pipe R true l)) none)
              ∙ hands ∙ missing_is false hands
          by true hands none =
              merge_high (seen v a mine) (v.handed (link_pipe R false l)) (v.handed (link_pipe R true l)) (handed_items (went l)) (kept.bands l l_lt).merged (each_nothing (seen v a mine) (v.handed (link_pipe R false l)) none)
              ∙ hands ∙ missing_is true hands

    -- ---- reasons

    abbrev Reasoned : Fate kinds → Type 0
    Reasoned d = HasReason c closed (told v) d

    because : (why : Cause kinds) (x : Arrival kinds) → IsTold v x → IsReason c closed x why → Reasoned (of_arrival why x)
    because why x there is = record { packet = x; there = there; link = refl; number = refl; reason = is }

    -- what leaves is a packet or an answer
    leaving : (why : Cause kinds) (o : Outgoing kinds) → IsPacketOf R v o → IsAnswerTo R v o → ((x : Arrival kinds) → LeavesOn c o.link x → IsReason c closed x why) → Reasoned (of_outgoing why o)
    leaving why o packet answer reason = go o.answer refl
      where
        go : (b : Bool) → o.answer ≡ b → Reasoned (of_outgoing why o)
        go false is = let p = packet is in record { packet = p.0; there = p.1; link = p.3; number = p.4; reason = reason p.0 (inl (o.parcel, p.2)) }
        go true is = let p = answer is in record { packet = p.0; there = p.2; link = p.5; number = p.6; reason = reason p.0 (inr (p.1, o.parcel, p.3, p.4)) }

    received_drop : (d : Deed RouterCause (Arrival kinds)) → IsTold v d.item → if_counted d.end (λ why. R.decide d.item ≡ Drops why) → unless_counted d.end (R.inspect d.item ≡ None) → Each Reasoned (of_deed of_arrival d)
    received_drop d there is clear = go d.end is clear
      where
        go : (o : Ending RouterCause) → if_counted o (λ why. R.decide d.item ≡ Drops why) → unless_counted o (R.inspect d.item ≡ None) → Each Reasoned (of_end o (λ why. of_arrival why d.item))
        go Accepted is clear = tt
        go Refused is clear = tt
        go Lacked is clear = (because Cause.NoBuffer d.item there clear, tt)
        go (Counted why) is clear = (because (Cause.Ruled why) d.item there (inl is), tt)

    worked_drop : (d : Deed RouterCause (Arrival kinds)) → IsTold v d.item → if_counted d.end (λ why. R.decide d.item ≡ Drops why) → LacksNothing d.end → Each Reasoned (of_deed of_arrival d)
    worked_drop d there is ample = go d.end is ample
      where
        go : (o : Ending RouterCause) → if_counted o (λ why. R.decide d.item ≡ Drops why) → LacksNothing o → Each Reasoned (of_end o (λ why. of_arrival why d.item))
        go Accepted is ample = tt
        go Refused is ample = tt
        go Lacked is ample = absurd ample
        go (Counted why) is ample = (because (Cause.Ruled why) d.item there (inl is), tt)

    answered_drop : (d : Deed RouterCause (SlowPathRequest kinds)) → IsAskedOf R v d.item → if_counted d.end (λ why. R.reply d.item.arrival d.item.problem ≡ Withholds why) → LacksNothing d.end → Each Reasoned (of_deed of_request d)
    answered_drop d asked is ample = go d.end is ample
      where
        go : (o : Ending RouterCause) → if_counted o (λ why. R.reply d.item.arrival d.item.problem ≡ Withholds why) → LacksNothing o → Each Reasoned (of_end o (λ why. of_request why d.item))
        go Accepted is ample = tt
        go Refused is ample = tt
        go Lacked is ample = absurd ample
        go (Counted why) is ample = (because (Cause.Ruled why) d.item.arrival asked.0 (inr (d.item.problem, asked.1, is)), tt)

    -- a receiver offered only what has no fault
    clear_offer : (p i : ℕ) → p < R.links → i < R.processors → Each (λ (x : Arrival kinds). IsTold v x × (R.inspect x ≡ None)) (v.arrived_full p i)
    clear_offer p i lt i_lt =
        let P : Arrival kinds → Type 0 = λ x. IsTold v x × (R.inspect x ≡ None) in
        subst (λ (xs : List (Arrival kinds)). Each P xs) (sym ((kept.ended.settled.receivers p lt).tells i i_lt).1)
        (each_in P (refused (to_processor R i)) (v.received p)
        (each_map (λ (d : Deed RouterCause (Arrival kinds)) h. one d h.0.0 h.1) (v.received p) (each_both _ (IsClear R) (v.received p) (kept.reasons.receivers p lt) (kept.reasons.clear p lt))))
      where
        one : (d : Deed RouterCause (Arrival kinds)) → IsTold v d.item → IsClear R d → Each (λ (x : Arrival kinds). IsTold v x × (R.inspect x ≡ None)) (refused (to_processor R i) d)
        one d there clear = go d.end clear
          where
            so : (b : Bool) → R.inspect d.item ≡ None → Each (λ (x : Arrival kinds). IsTold v x × (R.inspect x ≡ None)) (if_so b (d.item ∷ []))
            so true none = ((there, none), tt)
            so false none = tt

            go : (o : Ending RouterCause) → unless_counted o (R.inspect d.item ≡ None) → Each (λ (x : Arrival kinds). IsTold v x × (R.inspect x ≡ None)) (if_refused o (to_processor R i d.item))
            go Accepted clear = tt
            go Refused clear = so (eqb (R.processor (R.key d.item)) i) clear
            go Lacked clear = tt
            go (Counted why) clear = tt

    abbrev Fits : ℕ → Outgoing kinds → Type 0
    Fits q o = IsPacketOf R v o × IsAnswerTo R v o × (home R (Out o) ≡ q)

    full_packet : (i q : ℕ) → i < R.processors → IsLinkPipe R q → Each (Fits q) (v.leaving_full i q)
    full_packet i q lt at =
        subst (λ (os : Os). Each (Fits q) os) (sym ((kept.ended.settled.workers i lt).tells q at).1)
        (each_in (Fits q) (refused (to_link R q)) (v.worked i)
        (each_map (λ (d : Deed RouterCause (Arrival kinds)) k. each_refused (Fits q) d.end (to_link R q d.item) (sent_right R v s went closed kept.lawful kept.ended q d.item k.1)) (v.worked i) (known R v kept.lawful kept.ended.settled i lt)))

    full_answer : (q : ℕ) → IsLinkPipe R q → Each (Fits q) (s.leaving_full q)
    full_answer q at =
        subst (λ (os : Os). Each (Fits q) os) (sym (kept.ended.slow.tells q at).1)
        (each_in (Fits q) (refused (to_back R q)) s.worked
        (each_map (λ (d : Deed RouterCause (SlowPathRequest kinds)) k. each_refused (Fits q) d.end (to_back R q d.item) (replied_right R v s went closed kept.lawful kept.ended q d.item k)) s.worked (askable R v s went closed kept.lawful kept.ended)))

    link_full : (q : ℕ) (os : List (Outgoing kinds)) → Each (Fits q) os → Each Reasoned (map (of_outgoing Cause.LinkFull) os)
    link_full q os all = each_mapped Reasoned (of_outgoing Cause.LinkFull) os (each_map (λ o h. leaving Cause.LinkFull o h.0 h.1 (λ x leaves. (o.link, leaves))) os all)

    -- swept only after a mark of its own link
    is_closed : (j : ℕ) (o : Outgoing kinds) → j < link_pipes R → home R (Out o) ≡ place_of R j → (v.swept (place_of R j) ≡ [] → ⊥) → (closed (2 * o.link) ≡ true) ⊎ (closed (2 * o.link + 1) ≡ true)
    is_closed j o lt at some = go (is_high R o) refl
      where
        go : (b : Bool) → is_high R o ≡ b → (closed (2 * o.link) ≡ true) ⊎ (closed (2 * o.link + 1) ≡ true)
        go false is = by (cases_Bool (closed (2 * o.link)))
          where
            here : link_pipe R false o.link ≡ place_of R j
            here = ap (λ (b : Bool). link_pipe R b o.link) (sym is) ∙ at

            by : (closed (2 * o.link) ≡ true) ⊎ (closed (2 * o.link) ≡ false) → (closed (2 * o.link) ≡ true) ⊎ (closed (2 * o.link + 1) ≡ true)
            by (inl e) = inl e
            by (inr e) = absurd (some (ap v.swept (sym here) ∙ kept.follows.low_open o.link (let h = here in omega arith) e))
        go true is = by (cases_Bool (closed (2 * o.link + 1)))
          where
            here : link_pipe R true o.link ≡ place_of R j
            here = ap (λ (b : Bool). link_pipe R b o.link) (sym is) ∙ at

            by : (closed (2 * o.link + 1) ≡ true) ⊎ (closed (2 * o.link + 1) ≡ false) → (closed (2 * o.link) ≡ true) ⊎ (closed (2 * o.link + 1) ≡ true)
            by (inl e) = inr e
            by (inr e) = absurd (some (ap v.swept (sym here) ∙ kept.follows.high_open o.link (let h = here in omega arith) e))

    each_some : (os : List (Outgoing kinds)) → Each (λ o. os ≡ [] → ⊥) os
    each_some [] = tt
    each_some (o ∷ os) = (λ e. absurd cc, each_map (λ x h e. absurd cc) os (each_some os))

    swept_drop : (j : ℕ) → j < link_pipes R → Each Reasoned (map (of_outgoing Cause.Closed) (v.swept (place_of R j)))
    swept_drop j lt =
        let q = place_of R j in
        let fits = (each_split (Fits q) (v.handed q) (v.swept q) (right_at R v s went closed kept.lawful kept.ended q (omega arith, omega arith))).1 in
        each_mapped Reasoned (of_outgoing Cause.Closed) (v.swept q)
        (each_map (λ o h. leaving Cause.Closed o h.0.0 h.0.1 (λ x leaves. (o.link, leaves, is_closed j o lt h.0.2 h.1))) (v.swept q) (each_both (Fits q) (λ o. v.swept q ≡ [] → ⊥) (v.swept q) fits (each_some (v.swept q))))

    failed_drop : (l : ℕ) → l < R.links → Each Reasoned (flat_map of_handed (went l))
    failed_drop l lt =
        let P : Outgoing kinds → Type 0 = λ o. Reasoned (of_outgoing Cause.SendFailed o) in
        let items = merge_each P (v.handed (link_pipe R false l)) (v.handed (link_pipe R true l)) (handed_items (went l)) (kept.bands l lt).merged (of_band false) (of_band true) in
        each_in Reasoned of_handed (went l) (each_map (λ (h : Handed kinds) p. one h p) (went l) (each_unmapped P (λ (h : Handed kinds). h.item) (went l) items))
      where
        of_band : (b : Bool) → Each (λ o. Reasoned (of_outgoing Cause.SendFailed o)) (v.handed (link_pipe R b l))
        of_band b =
            let j = pipe_at b l lt in
            let q = link_pipe R b l in
            let at : IsLinkPipe R q = (let e = j.1.1 in omega arith, let e = j.1.1 in let f = j.1.0 in omega arith) in
            each_map (λ o h. leaving Cause.SendFailed o h.0 h.1 (λ x leaves. (o.link, leaves))) (v.handed q) (each_split (Fits q) (v.handed q) (v.swept q) (right_at R v s went closed kept.lawful kept.ended q at)).0

        one : (h : Handed kinds) → Reasoned (of_outgoing Cause.SendFailed h.item) → Each Reasoned (of_handed h)
        one h p = go h.took
          where
            go : (b : Bool) → Each Reasoned (cond b [] (of_outgoing Cause.SendFailed h.item ∷ []))
            go true = tt
            go false = (p, tt)

    reasons : Each Reasoned drops
    reasons =
        each_join Reasoned (stopped R v s) (failed R went) stopped_reasons (each_collect Reasoned R.links (λ l. flat_map of_handed (went l)) failed_drop)
      where
        stopped_reasons : Each Reasoned (stopped R v s)
        stopped_reasons =
            each_join Reasoned _ _
            (each_collect Reasoned R.links _ (λ p lt. each_in Reasoned (of_deed of_arrival) (v.received p) (each_map (λ (d : Deed RouterCause (Arrival kinds)) h. received_drop d h.0.0 h.0.1 h.1) (v.received p) (each_both _ (IsClear R) (v.received p) (kept.reasons.receivers p lt) (kept.reasons.clear p lt)))))
            (each_join Reasoned _ _
            (each_collect Reasoned R.processors _ (λ i lt. each_in Reasoned (of_deed of_arrival) (v.worked i) (each_map (λ (d : Deed RouterCause (Arrival kinds)) h. worked_drop d h.0.0 h.0.1 h.1) (v.worked i) (each_both _ _ (v.worked i) (kept.reasons.processors i lt) (kept.ended.unlacked i lt)))))
            (each_join Reasoned _ _
            (each_in Reasoned (of_deed of_request) s.worked (each_map (λ (d : Deed RouterCause (SlowPathRequest kinds)) h. answered_drop d h.0.0 h.0.1 h.1) s.worked (each_both _ _ s.worked kept.reasons.slow kept.ended.unlacked_slow)))
            (each_join Reasoned _ _
            (each_collect Reasoned R.links _ (λ p lt. each_collect Reasoned R.processors _ (λ i i_lt. each_mapped Reasoned (of_arrival Cause.ProcessorFull) (v.arrived_full p i) (each_map (λ x h. because Cause.ProcessorFull x h.0 h.1) (v.arrived_full p i) (clear_offer p i lt i_lt)))))
            (each_join Reasoned _ _
            (each_collect Reasoned R.processors _ (λ i lt. each_collect Reasoned (link_pipes R) _ (λ j j_lt. link_full (place_of R j) (v.leaving_full i (place_of R j)) (full_packet i (place_of R j) lt (omega arith, omega arith)))))
            (each_join Reasoned _ _
            (each_collect Reasoned (link_pipes R) _ (λ j j_lt. link_full (place_of R j) (s.leaving_full (place_of R j)) (full_answer (place_of R j) (omega arith, omega arith))))
            (each_join Reasoned _ _
            (each_collect Reasoned R.processors _ (λ i lt. each_mapped Reasoned (of_request Cause.AnswerFull) (v.asked_full i) (each_map (λ (q : SlowPathRequest kinds) h. because Cause.AnswerFull q.arrival h.0 (q.problem, h.1)) (v.asked_full i) (kept.reasons.full_slow i lt))))
            (each_collect Reasoned (link_pipes R) _ swept_drop)))))))

    -- ---- the report

    module _ (why : RouterCause) where
      abbrev is_it : Cause kinds → Bool
      is_it k = same_cause (booked_as k) why

      abbrev hit : Fate kinds → ℕ
      hit d = cond (is_it d.cause) 1 0

      abbrev ruled : RouterCause → Bool
      ruled k = is_it (Cause.Ruled k)

      end_counts : (o : Ending RouterCause) → at_end o (λ k. cond (is_it k) 1 0) ≡ was_counted ruled o + when (is_it Cause.NoBuffer) (was_lacked o)
      end_counts Accepted = let z = when_zero (is_it Cause.NoBuffer) in omega arith
      end_counts Refused = let z = when_zero (is_it Cause.NoBuffer) in omega arith
      end_counts Lacked = omega arith
      end_counts (Counted k) = let z = when_zero (is_it Cause.NoBuffer) in omega arith

      deeds : {X : Type 0} (log : List (Deed RouterCause X)) → total (λ (d : Deed RouterCause X). at_end d.end (λ k. cond (is_it k) 1 0)) log ≡ counted_in ruled log + when (is_it Cause.NoBuffer) (lacks log)
      deeds [] = let z = when_zero (is_it Cause.NoBuffer) in omega arith
      deeds (d ∷ log) =
          let r = deeds log in
          let a = end_counts d.end in
          let b = when_add (is_it Cause.NoBuffer) (was_lacked d.end) (lacks log) in
          omega arith

      ample : {X : Type 0} (log : List (Deed RouterCause X)) → Each (λ (d : Deed RouterCause X). LacksNothing d.end) log → when (is_it Cause.NoBuffer) (lacks log) ≡ 0
      ample log all = ap (when (is_it Cause.NoBuffer)) (none log all) ∙ when_zero (is_it Cause.NoBuffer)
        where
          lacked_none : (o : Ending RouterCause) → LacksNothing o → was_lacked o ≡ 0
          lacked_none Accepted e = refl
          lacked_none Refused e = refl
          lacked_none Lacked e = absurd e
          lacked_none (Counted k) e = refl

          none : {X : Type 0} (log : List (Deed RouterCause X)) → Each (λ (d : Deed RouterCause X). LacksNothing d.end) log → lacks log ≡ 0
          none [] e = refl
          none (d ∷ log) e = let r = none log e.1 in let a = lacked_none d.end e.0 in omega arith

      -- a sum of lists of one cause
      alike : {X : Type 0} (n : ℕ) (b : Bool) (xs : ℕ → List X) → sum_to n (λ k. total (λ x. cond b 1 0) (xs k)) ≡ when b (sum_to n (λ k. length (xs k)))
      alike n b xs = sum_below n (λ k. total (λ x. cond b 1 0) (xs k)) (λ k. when b (length (xs k))) (λ k lt. const_total b (xs k)) ∙ when_sum b n (λ k. length (xs k))

      alike_twice : {X : Type 0} (m n : ℕ) (b : Bool) (xs : ℕ → ℕ → List X) → sum_to m (λ i. sum_to n (λ k. total (λ x. cond b 1 0) (xs i k))) ≡ when b (sum_to m (λ i. sum_to n (λ k. length (xs i k))))
      alike_twice m n b xs = sum_below m (λ i. sum_to n (λ k. total (λ x. cond b 1 0) (xs i k))) (λ i. when b (sum_to n (λ k. length (xs i k)))) (λ i lt. alike n b (xs i)) ∙ when_sum b m (λ i. sum_to n (λ k. length (xs i k)))

      refused_hit : (hs : List (Handed kinds)) → total (λ (h : Handed kinds). cond h.took 0 (hit (of_outgoing Cause.SendFailed h.item))) hs ≡ when (is_it Cause.SendFailed) (count was_refused hs)
      refused_hit hs =
          total-agree (λ (h : Handed kinds). cond h.took 0 (cond (is_it Cause.SendFailed) 1 0)) (λ h. when (is_it Cause.SendFailed) (cond (not h.took) 1 0)) hs (λ h. one h.took (is_it Cause.SendFailed))
          ∙ whens (is_it Cause.SendFailed) hs ∙ ap (when (is_it Cause.SendFailed)) (sym (count-total was_refused hs))
        where
          one : (x y : Bool) → cond x 0 (cond y 1 0) ≡ when y (cond (not x) 1 0)
          one true true = refl
          one true false = refl
          one false true = refl
          one false false = refl

          whens : (b : Bool) (hs : List (Handed kinds)) → total (λ (h : Handed kinds). when b (cond (not h.took) 1 0)) hs ≡ when b (total (λ (h : Handed kinds). cond (not h.took) 1 0) hs)
          whens b [] = sym (when_zero b)
          whens b (h ∷ hs) = let r = whens b hs in let a = when_add b (cond (not h.took) 1 0) (total (λ (h : Handed kinds). cond (not h.took) 1 0) hs) in omega arith

      dropped_are : dropped_for t why ≡ drops_for why drops
      dropped_are =
          let L = R.links in
          let P = R.processors in
          let J = link_pipes R in
          let told_by = kept.totals.each why in
          let d = count-total (λ (d : Fate kinds). is_it d.cause) drops in
          let x = total-append hit (stopped R v s) (failed R went) in
          let y = stopped_sum R v s hit in
          let z = failed_sum R went hit in
          let b = is_it Cause.NoBuffer in
          let a1 = sum_below L (sum_receiver R v s hit) (λ p. counted_in ruled (v.received p) + when b (lacks (v.received p))) (λ p lt. deeds (v.received p)) in
          let a2 = sum_add L (λ p. counted_in ruled (v.received p)) (λ p. when b (lacks (v.received p))) in
          let a3 = when_sum b L (λ p. lacks (v.received p)) in
          let b1 = sum_below P (sum_processor R v s hit) (λ i. counted_in ruled (v.worked i)) (λ i lt. let m = deeds (v.worked i) in let n = ample (v.worked i) (kept.ended.unlacked i lt) in omega arith) in
          let c1 = deeds s.worked in
          let c2 = ample s.worked kept.ended.unlacked_slow in
          let e1 = alike_twice L P (is_it Cause.ProcessorFull) v.arrived_full in
          let f1 = alike_twice P J (is_it Cause.LinkFull) (λ i j. v.leaving_full i (place_of R j)) in
          let f2 = alike J (is_it Cause.LinkFull) (λ j. s.leaving_full (place_of R j)) in
          let f3 = when_add (is_it Cause.LinkFull) (sum_to P (λ i. sum_to J (λ j. length (v.leaving_full i (place_of R j))))) (sum_to J (λ j. length (s.leaving_full (place_of R j)))) in
          let g1 = alike P (is_it Cause.AnswerFull) v.asked_full in
          let h1 = alike J (is_it Cause.Closed) (λ j. v.swept (place_of R j)) in
          let k1 = sum_below L (λ l. total (λ (h : Handed kinds). cond h.took 0 (hit (of_outgoing Cause.SendFailed h.item))) (went l)) (λ l. when (is_it Cause.SendFailed) (count was_refused (went l))) (λ l lt. refused_hit (went l)) in
          let k2 = when_sum (is_it Cause.SendFailed) L (λ l. count was_refused (went l)) in
          omega arith

    pub keeps_promises : KeepsPromises c closed (told v) went t
    keeps_promises = record {
      drops = drops;
      order = λ a l f a_lt l_lt. order a l f a_lt l_lt;
      numbered = λ a lt. (kept.ended.settled.receivers a lt).numbered;
      once = λ a n lt from to. all_places a n ∙ (kept.once a n).place lt from to;
      others = λ a n none. all_places a n ∙ (kept.once a n).none none;
      reasons = reasons;
      received_are = kept.totals.received;
      sent_are = kept.totals.sent;
      answered_are = kept.totals.answered;
      dropped_are = dropped_are;
      balance = kept.totals.balance;
    }

-- the same links' pipes, by another name
pub closed_as : (c : Config) (closed other : ℕ → Bool) → ((j : ℕ) → closed j ≡ other j) → (received : ℕ → List (Arrival kinds)) (handed : ℕ → List (Handed kinds)) (t : Totals)
    → KeepsPromises c closed received handed t → KeepsPromises c other received handed t
closed_as c closed other same received handed t k = record {
  drops = k.drops;
  order = k.order;
  numbered = k.numbered;
  once = k.once;
  others = k.others;
  reasons = each_map (λ (d : Fate kinds) h. record { packet = h.packet; there = h.there; link = h.link; number = h.number; reason = by h.packet d.cause h.reason }) k.drops k.reasons;
  received_are = k.received_are;
  sent_are = k.sent_are;
  answered_are = k.answered_are;
  dropped_are = k.dropped_are;
  balance = k.balance;
}
  where
    either : (l : ℕ) → (closed (2 * l) ≡ true) ⊎ (closed (2 * l + 1) ≡ true) → (other (2 * l) ≡ true) ⊎ (other (2 * l + 1) ≡ true)
    either l (inl e) = inl (sym (same (2 * l)) ∙ e)
    either l (inr e) = inr (sym (same (2 * l + 1)) ∙ e)

    by : (x : Arrival kinds) (why : Cause kinds) → IsReason c closed x why → IsReason c other x why
    by x (Cause.Ruled why) is = is
    by x Cause.ProcessorFull is = is
    by x Cause.LinkFull is = is
    by x Cause.AnswerFull is = is
    by x Cause.NoMemory is = is
    by x Cause.Closed is = (is.0, is.1, either is.0 is.2)
    by x Cause.SendFailed is = is
    by x Cause.NoBuffer is = is

pub promises_are_kept : {T : Type 0} → PromisesAreKept T
promises_are_kept shows c b closed run =
    let v = views_of (rules c) run.workers in
    let s = slow_views (rules c) run.workers in
    record {
      received = told v;
      handed = went_at run.workers;
      promises = keeps_promises c v s (went_at run.workers) closed (totals_of (shares_of b)) (record { lawful = run.lawful; ended = run.keeps; follows = run.ended; once = run.once; reasons = run.reasons; bands = run.bands; totals = run.totals });
      sources = run.sources;
      sinks = run.sinks;
      sent = run.sent;
    }
