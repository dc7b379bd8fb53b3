-- Every packet of a running pipeline that has ended is counted once.
use Rattle.std.proofs.Common.{◌≡◌, ◌⊎◌, inl, inr, ℕ, zero, suc, ◌+◌, ◌<◌, ◌≤◌, Bool, true, false, eqb, cond, List, [], ◌∷◌, ◌++◌, length, refl, sym, ◌∙◌, ap, subst, arith, length-append}
use Rattle.std.specs.List.{flat_map}
use Rattle.std.proofs.lemmas.Grind.{flat_map-append}
use Rattle.std.proofs.lemmas.Bool.{cases_eq, cases_lt, ne_eqb, eq-eqb}
use Rattle.order_laws.specs.Kinds.{Kinds}
use Rattle.order_laws.specs.Item.{Arrival, Outgoing}
use Rattle.order_laws.specs.Rules.{Rules}
use Rattle.order_laws.specs.Deeds.{Pushed, payload_of, payloads, of_producer, before_mark, from_mark, Each, Ending, Accepted, Refused, Lacked, Counted, Deed, if_accepted, if_refused, done_items, accepted, refused}
use Rattle.order_laws.specs.Settled.{SlowPathRequest, to_processor, to_link, to_slow, Views}
use Rattle.order_laws.specs.Counted.{sum_to, unsent, unsent_by, is_offer, IsOne, SlowViews, place_of, link_pipes, Tallied, IsCounted, no_side, CountsOnce}
use Rattle.order_laws.proofs.Joints.{by_producer, split_mark}
use Rattle.order_laws.proofs.SettledOrder.{named}

pub sum_below : (n : ℕ) (g h : ℕ → ℕ) → ((k : ℕ) → k < n → g k ≡ h k) → sum_to n g ≡ sum_to n h
sum_below zero g h e = refl
sum_below (suc n) g h e = let r = sum_below n g h (λ k lt. e k (omega arith)) in let s = e n (omega arith) in omega arith

pub sum_add : (n : ℕ) (g h : ℕ → ℕ) → sum_to n (λ k. g k + h k) ≡ sum_to n g + sum_to n h
sum_add zero g h = refl
sum_add (suc n) g h = let r = sum_add n g h in omega arith

pub sum_zero : (n : ℕ) → sum_to n (λ k. 0) ≡ 0
sum_zero zero = refl
sum_zero (suc n) = let r = sum_zero n in omega arith

pub sum_swap : (m n : ℕ) (g : ℕ → ℕ → ℕ) → sum_to m (λ i. sum_to n (λ j. g i j)) ≡ sum_to n (λ j. sum_to m (λ i. g i j))
sum_swap zero n g = sym (sum_zero n)
sum_swap (suc m) n g = let r = sum_swap m n g in let s = sum_add n (λ j. sum_to m (λ i. g i j)) (λ j. g m j) in omega arith

-- a sum of which one term counts
pub sum_one : (n k c : ℕ) → k < n → sum_to n (λ p. cond (eqb k p) c 0) ≡ c
sum_one zero k c lt = absurd (omega arith)
sum_one (suc n) k c lt = go (cases_eq k n)
    (λ less. sum_one n k c less)
  where
    none : (m : ℕ) → m ≤ k → sum_to m (λ p. cond (eqb k p) c 0) ≡ 0
    none m le = sum_below m (λ p. cond (eqb k p) c 0) (λ p. 0) (λ p below. ap (λ (b : Bool). cond b c 0) (ne_eqb k p (λ e. omega arith))) ∙ sum_zero m

    go : (k ≡ n) ⊎ (k ≡ n → ⊥) → (k < n → sum_to n (λ p. cond (eqb k p) c 0) ≡ c) → sum_to n (λ p. cond (eqb k p) c 0) + cond (eqb k n) c 0 ≡ c
    go (inl e) r = let z = none n (omega arith) in let y : cond (eqb k n) c 0 ≡ c = ap (λ (b : Bool). cond b c 0) (eq-eqb k n e) in omega arith
    go (inr e) r =
        let z : sum_to n (λ p. cond (eqb k p) c 0) ≡ c = r (omega arith) in
        let y : cond (eqb k n) c 0 ≡ 0 = ap (λ (b : Bool). cond b c 0) (ne_eqb k n e) in
        omega arith

module _ {T : Type 0} where
  -- what was taken, by its producers
  pub by_number : (n : ℕ) (es : List (Pushed T)) → Each (λ (e : Pushed T). e.from < n) es → length (payloads es) ≡ sum_to n (λ p. length (payloads (of_producer p es)))
  by_number n [] h = sym (sum_zero n)
  by_number n (e ∷ es) h =
      let r = by_number n es h.1 in
      let c : ℕ = length (payload_of e.load) in
      let one : (p : ℕ) → length (payloads (of_producer p (e ∷ es))) ≡ cond (eqb e.from p) c 0 + length (payloads (of_producer p es)) = λ p. step p (eqb e.from p) in
      let s = sum_below n (λ p. length (payloads (of_producer p (e ∷ es)))) (λ p. cond (eqb e.from p) c 0 + length (payloads (of_producer p es))) (λ p lt. one p) in
      let t = sum_add n (λ p. cond (eqb e.from p) c 0) (λ p. length (payloads (of_producer p es))) in
      let u = sum_one n e.from c h.0 in
      let w = length-append (payload_of e.load) (payloads es) in
      omega arith
    where
      step : (p : ℕ) (b : Bool) → length (payloads (cond b (e ∷ of_producer p es) (of_producer p es))) ≡ cond b (length (payload_of e.load)) 0 + length (payloads (of_producer p es))
      step p true = length-append (payload_of e.load) (payloads (of_producer p es))
      step p false = omega arith

  pub all_below : (n : ℕ) (es : List (Pushed T)) → ((p : ℕ) → n ≤ p → of_producer p es ≡ []) → Each (λ (e : Pushed T). e.from < n) es
  all_below n es none = by_producer (λ (e : Pushed T). e.from < n) es (λ p. go p (cases_lt p n))
    where
      each_is : (p : ℕ) → p < n → (xs : List (Pushed T)) → Each (λ (e : Pushed T). e.from ≡ p) xs → Each (λ (e : Pushed T). e.from < n) xs
      each_is p lt [] h = tt
      each_is p lt (x ∷ xs) h = (let q : x.from ≡ p = h.0 in omega arith, each_is p lt xs h.1)

      go : (p : ℕ) → (p < n) ⊎ (n ≤ p) → Each (λ (e : Pushed T). e.from < n) (of_producer p es)
      go p (inl lt) = each_is p lt (of_producer p es) (named p es)
      go p (inr ge) = subst (λ (xs : List (Pushed T)). Each (λ (e : Pushed T). e.from < n) xs) (sym (none p ge)) tt

grows : {Y : Type 0} (m : ℕ) (f g : ℕ → List Y) → sum_to m (λ k. length (f k ++ g k)) ≡ sum_to m (λ k. length (f k)) + sum_to m (λ k. length (g k))
grows m f g = sum_below m (λ k. length (f k ++ g k)) (λ k. length (f k) + length (g k)) (λ k lt. length-append (f k) (g k)) ∙ sum_add m (λ k. length (f k)) (λ k. length (g k))

module _ {C X Y Z : Type 0} (m : ℕ) (makes : ℕ → X → List Y) (side : X → List Z) where
  abbrev yes : List (Deed C X) → ℕ
  yes log = sum_to m (λ k. length (flat_map (accepted (makes k)) log)) + length (flat_map (accepted side) log)

  abbrev no : List (Deed C X) → ℕ
  no log = sum_to m (λ k. length (flat_map (refused (makes k)) log)) + length (flat_map (refused side) log)

  one_deed : (x : X) (o : Ending C) → is_offer o (sum_to m (λ k. length (makes k x)) + length (side x) ≡ 1)
      → (sum_to m (λ k. length (if_accepted o (makes k x))) + length (if_accepted o (side x))) + (sum_to m (λ k. length (if_refused o (makes k x))) + length (if_refused o (side x))) + unsent_by o ≡ 1
  one_deed x Accepted e = let z = sum_zero m in omega arith
  one_deed x Refused e = let z = sum_zero m in omega arith
  one_deed x Lacked e = let z = sum_zero m in omega arith
  one_deed x (Counted c) e = let z = sum_zero m in omega arith

  -- each deed is an accepted offer, a refused one, or none
  pub deeds : (log : List (Deed C X)) → Each (IsOne m makes side) log → length log ≡ yes log + no log + unsent log
  deeds [] h = let z = sum_zero m in omega arith
  deeds (d ∷ log) h =
      let r = deeds log h.1 in
      let o = one_deed d.item d.end h.0 in
      let a = grows m (λ k. accepted (makes k) d) (λ k. flat_map (accepted (makes k)) log) in
      let b = length-append (accepted side d) (flat_map (accepted side) log) in
      let c = grows m (λ k. refused (makes k) d) (λ k. flat_map (refused (makes k)) log) in
      let e = length-append (refused side d) (flat_map (refused side) log) in
      omega arith

length_items : {C X : Type 0} (log : List (Deed C X)) → length (done_items log) ≡ length log
length_items [] = refl
length_items (d ∷ log) = let r = length_items log in omega arith

sum_three : (n : ℕ) (g a b c : ℕ → ℕ) → ((k : ℕ) → k < n → g k ≡ a k + b k + c k) → sum_to n g ≡ sum_to n a + sum_to n b + sum_to n c
sum_three n g a b c e = sum_below n g (λ k. a k + b k + c k) e ∙ (let r = sum_add n (λ k. a k + b k) c in let s = sum_add n a b in omega arith)

none_accepted : {C X : Type 0} (Y : Type 0) (log : List (Deed C X)) → length (flat_map (accepted (no_side {X = X} {Y = Y})) log) ≡ 0
none_accepted Y [] = refl
none_accepted {C = C} {X = X} Y (d ∷ log) = go d.end (none_accepted Y log)
  where
    go : (o : Ending C) → length (flat_map (accepted (no_side {X = X} {Y = Y})) log) ≡ 0 → length (if_accepted {Y = Y} o [] ++ flat_map (accepted (no_side {X = X} {Y = Y})) log) ≡ 0
    go Accepted r = r
    go Refused r = r
    go Lacked r = r
    go (Counted c) r = r

none_refused : {C X : Type 0} (Y : Type 0) (log : List (Deed C X)) → length (flat_map (refused (no_side {X = X} {Y = Y})) log) ≡ 0
none_refused Y [] = refl
none_refused {C = C} {X = X} Y (d ∷ log) = go d.end (none_refused Y log)
  where
    go : (o : Ending C) → length (flat_map (refused (no_side {X = X} {Y = Y})) log) ≡ 0 → length (if_refused {Y = Y} o [] ++ flat_map (refused (no_side {X = X} {Y = Y})) log) ≡ 0
    go Accepted r = r
    go Refused r = r
    go Lacked r = r
    go (Counted c) r = r

module _ {K : Kinds} where
  module _ (R : Rules K) (v : Views K) (w : SlowViews K) (t : Tallied R v w) where
    abbrev N : ℕ
    N = R.links

    abbrev P : ℕ
    P = R.processors

    -- the links' pipes, two of each link
    abbrev L : ℕ
    L = link_pipes R

    abbrev at : ℕ → ℕ
    at j = place_of R j

    abbrev in_ : ℕ → ℕ → ℕ
    in_ p i = length (payloads (v.arrived p i))

    abbrev out_ : ℕ → ℕ → ℕ
    out_ i l = length (payloads (v.leaving i (at l)))

    received_are : (p : ℕ) → p < N → length (v.received p) ≡ sum_to P (λ i. in_ p i) + sum_to P (λ i. length (v.arrived_full p i)) + unsent (v.received p)
    received_are p lt =
        let law = t.settled.receivers p lt in
        let d = deeds P (to_processor R) (no_side {X = Arrival K} {Y = SlowPathRequest K}) (v.received p) (t.receiver_one p lt) in
        let z = none_accepted (SlowPathRequest K) (v.received p) in
        let y = none_refused (SlowPathRequest K) (v.received p) in
        let a = sum_below P (λ i. in_ p i) (λ i. length (flat_map (accepted (to_processor R i)) (v.received p))) (λ i b. ap length (law.tells i b).0) in
        let c = sum_below P (λ i. length (v.arrived_full p i)) (λ i. length (flat_map (refused (to_processor R i)) (v.received p))) (λ i b. ap length (law.tells i b).1) in
        omega arith

    worked_are : (i : ℕ) → i < P → length (v.worked i) ≡ sum_to N (λ p. in_ p i)
    worked_are i lt =
        let law = t.settled.workers i lt in
        sym (length_items (v.worked i)) ∙ ap length (sym law.took)
        ∙ by_number N (v.taken i) (all_below N (v.taken i) (λ p ge. t.settled.packet_only i p lt ge))
        ∙ sum_below N (λ p. length (payloads (of_producer p (v.taken i)))) (λ p. in_ p i) (λ p below. ap (λ (es : List (Pushed (Arrival K))). length (payloads es)) (t.settled.packets i p lt below))

    abbrev gone_ : ℕ → ℕ
    gone_ i = sum_to L (λ l. length (v.leaving_full i (at l))) + length (v.asked_full i) + unsent (v.worked i)

    split_are : (i : ℕ) → i < P → length (v.worked i) ≡ sum_to L (λ l. out_ i l) + length (payloads (v.asked i)) + gone_ i
    split_are i lt =
        let law = t.settled.workers i lt in
        let d = deeds L (λ j. to_link R (at j)) (to_slow R) (v.worked i) (t.worker_one i lt) in
        let z = ap length law.slow.0 in
        let y = ap length law.slow.1 in
        let a = sum_below L (λ l. out_ i l) (λ l. length (flat_map (accepted (to_link R (at l))) (v.worked i))) (λ l b. ap length (law.tells (at l) (omega arith, omega arith)).0) in
        let c = sum_below L (λ l. length (v.leaving_full i (at l))) (λ l. length (flat_map (refused (to_link R (at l))) (v.worked i))) (λ l b. ap length (law.tells (at l) (omega arith, omega arith)).1) in
        omega arith

    slow_are : length w.worked ≡ sum_to P (λ i. length (payloads (v.asked i)))
    slow_are =
        sym (length_items w.worked) ∙ ap length (sym t.slow_took)
        ∙ by_number P w.taken (all_below P w.taken t.request_only)
        ∙ sum_below P (λ i. length (payloads (of_producer i w.taken))) (λ i. length (payloads (v.asked i))) (λ i below. ap (λ (es : List (Pushed (SlowPathRequest K))). length (payloads es)) (t.requests i below))

    slow_split : length w.worked ≡ sum_to L (λ l. length (payloads (w.leaving (at l)))) + sum_to L (λ l. length (w.leaving_full (at l))) + unsent w.worked
    slow_split =
        let d = deeds L (λ j. t.back (at j)) (no_side {X = SlowPathRequest K} {Y = SlowPathRequest K}) w.worked t.slow_one in
        let z = none_accepted (SlowPathRequest K) w.worked in
        let y = none_refused (SlowPathRequest K) w.worked in
        let a = sum_below L (λ l. length (payloads (w.leaving (at l)))) (λ l. length (flat_map (accepted (t.back (at l))) w.worked)) (λ l b. ap length (t.slow_tells (at l) (omega arith, omega arith)).0) in
        let c = sum_below L (λ l. length (w.leaving_full (at l))) (λ l. length (flat_map (refused (t.back (at l))) w.worked)) (λ l b. ap length (t.slow_tells (at l) (omega arith, omega arith)).1) in
        omega arith

    handed_are : (l : ℕ) → l < L → length (v.handed (at l)) + length (v.swept (at l)) ≡ sum_to P (λ i. out_ i l) + length (payloads (w.leaving (at l)))
    handed_are l lt =
        let law = t.settled.forwarders (at l) (omega arith, omega arith) in
        let es = v.forwarded (at l) in
        let whole : length (payloads (before_mark es)) + length (payloads (from_mark es)) ≡ length (payloads es) =
        sym (length-append (payloads (before_mark es)) (payloads (from_mark es))) ∙ ap length (sym (flat_map-append (λ (e : Pushed (Outgoing K)). payload_of e.load) (before_mark es) (from_mark es)) ∙ ap payloads (split_mark es)) in
        let n = by_number (suc (suc P)) es (all_below (suc (suc P)) es (λ j ge. t.egress_none l j lt ge)) in
        let a = sum_below P (λ i. length (payloads (of_producer i es))) (λ i. out_ i l) (λ i below. ap (λ (xs : List (Pushed (Outgoing K))). length (payloads xs)) (t.settled.egress_packets (at l) i (omega arith, omega arith) below)) in
        let b = ap (λ (xs : List (Pushed (Outgoing K))). length (payloads xs)) (t.egress_slow l lt) in
        let c = ap length (t.egress_marks l lt) in
        let x = ap length law.sent in
        let y = ap length law.after in
        omega arith

    -- received = handed to sinks + dropped
    pub counted : IsCounted R v w
    counted =
        let a = sum_three N (λ p. length (v.received p)) (λ p. sum_to P (λ i. in_ p i)) (λ p. sum_to P (λ i. length (v.arrived_full p i))) (λ p. unsent (v.received p)) received_are in
        let b = sum_swap N P in_ in
        let c = sum_below P (λ i. length (v.worked i)) (λ i. sum_to N (λ p. in_ p i)) worked_are in
        let d = sum_three P (λ i. length (v.worked i)) (λ i. sum_to L (λ l. out_ i l)) (λ i. length (payloads (v.asked i))) gone_ split_are in
        let e = sum_three P gone_ (λ i. sum_to L (λ l. length (v.leaving_full i (at l)))) (λ i. length (v.asked_full i)) (λ i. unsent (v.worked i)) (λ i lt. refl) in
        let f = slow_are in
        let g = slow_split in
        let h = sum_swap P L out_ in
        let k = sum_below L (λ l. length (v.handed (at l)) + length (v.swept (at l))) (λ l. sum_to P (λ i. out_ i l) + length (payloads (w.leaving (at l)))) handed_are in
        let m = sum_add L (λ l. length (v.handed (at l))) (λ l. length (v.swept (at l))) in
        let n = sum_add L (λ l. sum_to P (λ i. out_ i l)) (λ l. length (payloads (w.leaving (at l)))) in
        omega arith

pub counts_once : (K : Kinds) → CountsOnce K
counts_once K R v w t = counted R v w t
