-- Each packet of a running pipeline that has ended stands at one place.
use Rattle.std.proofs.Common.{◌≡◌, ℕ, suc, ◌+◌, ◌<◌, ◌≤◌, Bool, true, false, eqb, cond, List, [], ◌∷◌, ◌++◌, refl, sym, ◌∙◌, ap, arith}
use Rattle.std.specs.List.{flat_map}
use Rattle.std.proofs.lemmas.Grind.{flat_map-append}
use Rattle.order_laws.specs.Kinds.{Kinds}
use Rattle.order_laws.specs.Item.{Arrival, Outgoing}
use Rattle.order_laws.specs.Rules.{Rules}
use Rattle.order_laws.specs.Counts.{total}
use Rattle.order_laws.specs.Deeds.{Pushed, payload_of, payloads, of_producer, before_mark, from_mark, Each, Ending, Accepted, Refused, Lacked, Counted, Deed, if_accepted, if_refused, done_items, accepted, refused, Tells}
use Rattle.order_laws.specs.Settled.{SlowPathRequest, to_processor, to_link, to_slow, IsLinkPipe, Views, Settled}
use Rattle.order_laws.specs.Counted.{sum_to, is_offer, SlowViews, place_of, link_pipes, no_side}
use Rattle.order_laws.proofs.Sums.{total-append}
use Rattle.order_laws.proofs.Joints.{split_mark}
use Rattle.order_laws.proofs.Counted.{sum_below, sum_add, sum_zero, sum_swap, sum_one, all_below}
use Rattle.worker_laws.specs.Weighed.{lost_by, lost, IsWeighed, arrival_weight, request_weight, outgoing_weight, IsPlaced, numbered, through_processors, through_slow, through_links}

-- The weights that workers keep.
pub record AreWeighed {K : Kinds} (R : Rules K) (v : Views K) (s : SlowViews K) (back : ℕ → SlowPathRequest K → List (Outgoing K)) (w : (link number : ℕ) → ℕ) : Type 0 where
  pub receivers : (p : ℕ) → p < R.links
      → Each (IsWeighed R.processors (to_processor R) (no_side {X = Arrival K} {Y = SlowPathRequest K}) (arrival_weight w) (arrival_weight w) (request_weight w)) (v.received p)
  pub workers : (i : ℕ) → i < R.processors
      → Each (IsWeighed (link_pipes R) (λ j. to_link R (place_of R j)) (to_slow R) (arrival_weight w) (outgoing_weight w) (request_weight w)) (v.worked i)
  pub slow : Each (IsWeighed (link_pipes R) (λ j. back (place_of R j)) (no_side {X = SlowPathRequest K} {Y = SlowPathRequest K}) (request_weight w) (outgoing_weight w) (request_weight w)) s.worked

-- The gathered views, joined by their pipes, with what the slow path makes of a request for the link's pipe at a place.
pub record Joined {K : Kinds} (R : Rules K) (v : Views K) (s : SlowViews K) (back : ℕ → SlowPathRequest K → List (Outgoing K)) : Type 0 where
  pub settled : Settled R v
  pub slow_took : payloads s.taken ≡ done_items s.worked
  pub slow_tells : (q : ℕ) → IsLinkPipe R q → Tells (back q) s.worked (s.leaving q) (s.leaving_full q)
  pub requests : (i : ℕ) → i < R.processors → of_producer i s.taken ≡ v.asked i
  pub request_only : (i : ℕ) → R.processors ≤ i → of_producer i s.taken ≡ []
  pub egress_slow : (j : ℕ) → j < link_pipes R → of_producer R.processors (v.forwarded (place_of R j)) ≡ s.leaving (place_of R j)
  pub egress_marks : (j : ℕ) → j < link_pipes R → payloads (of_producer (suc R.processors) (v.forwarded (place_of R j))) ≡ []
  pub egress_none : (j p : ℕ) → j < link_pipes R → suc (suc R.processors) ≤ p → of_producer p (v.forwarded (place_of R j)) ≡ []

-- Each packet that a receiver numbered stands at one place when the workers have ended.
abbrev pub PlacesEach : Kinds → Type 0
PlacesEach K = (R : Rules K) (v : Views K) (s : SlowViews K) (back : ℕ → SlowPathRequest K → List (Outgoing K)) (t : Joined R v s back) (w : (link number : ℕ) → ℕ) → AreWeighed R v s back w → IsPlaced w R v s

module _ {T : Type 0} (f : T → ℕ) where
  -- what was taken, by its producers
  pub by_number : (n : ℕ) (es : List (Pushed T)) → Each (λ (e : Pushed T). e.from < n) es → total f (payloads es) ≡ sum_to n (λ p. total f (payloads (of_producer p es)))
  by_number n [] h = sym (sum_zero n)
  by_number n (e ∷ es) h =
      let r = by_number n es h.1 in
      let c : ℕ = total f (payload_of e.load) in
      let one : (p : ℕ) → total f (payloads (of_producer p (e ∷ es))) ≡ cond (eqb e.from p) c 0 + total f (payloads (of_producer p es)) = λ p. step p (eqb e.from p) in
      let s = sum_below n (λ p. total f (payloads (of_producer p (e ∷ es)))) (λ p. cond (eqb e.from p) c 0 + total f (payloads (of_producer p es))) (λ p lt. one p) in
      let t = sum_add n (λ p. cond (eqb e.from p) c 0) (λ p. total f (payloads (of_producer p es))) in
      let u = sum_one n e.from c h.0 in
      let w = total-append f (payload_of e.load) (payloads es) in
      omega arith
    where
      step : (p : ℕ) (b : Bool) → total f (payloads (cond b (e ∷ of_producer p es) (of_producer p es))) ≡ cond b (total f (payload_of e.load)) 0 + total f (payloads (of_producer p es))
      step p true = total-append f (payload_of e.load) (payloads (of_producer p es))
      step p false = omega arith

grows : {Y : Type 0} (m : ℕ) (h : Y → ℕ) (f g : ℕ → List Y) → sum_to m (λ k. total h (f k ++ g k)) ≡ sum_to m (λ k. total h (f k)) + sum_to m (λ k. total h (g k))
grows m h f g = sum_below m (λ k. total h (f k ++ g k)) (λ k. total h (f k) + total h (g k)) (λ k lt. total-append h (f k) (g k)) ∙ sum_add m (λ k. total h (f k)) (λ k. total h (g k))

module _ {C X Y Z : Type 0} (m : ℕ) (makes : ℕ → X → List Y) (side : X → List Z) (f : X → ℕ) (g : Y → ℕ) (h : Z → ℕ) where
  abbrev yes : List (Deed C X) → ℕ
  yes log = sum_to m (λ k. total g (flat_map (accepted (makes k)) log)) + total h (flat_map (accepted side) log)

  abbrev no : List (Deed C X) → ℕ
  no log = sum_to m (λ k. total g (flat_map (refused (makes k)) log)) + total h (flat_map (refused side) log)

  one_deed : (x : X) (o : Ending C) → is_offer o (sum_to m (λ k. total g (makes k x)) + total h (side x) ≡ f x)
      → (sum_to m (λ k. total g (if_accepted o (makes k x))) + total h (if_accepted o (side x))) + (sum_to m (λ k. total g (if_refused o (makes k x))) + total h (if_refused o (side x))) + lost_by o (f x) ≡ f x
  one_deed x Accepted e = let z = sum_zero m in omega arith
  one_deed x Refused e = let z = sum_zero m in omega arith
  one_deed x Lacked e = let z = sum_zero m in omega arith
  one_deed x (Counted c) e = let z = sum_zero m in omega arith

  -- each deed is an accepted offer, a refused one, or none
  pub deeds : (log : List (Deed C X)) → Each (IsWeighed m makes side f g h) log → total f (done_items log) ≡ yes log + no log + lost f log
  deeds [] e = let z = sum_zero m in omega arith
  deeds (d ∷ log) e =
      let r = deeds log e.1 in
      let o = one_deed d.item d.end e.0 in
      let a = grows m g (λ k. accepted (makes k) d) (λ k. flat_map (accepted (makes k)) log) in
      let b = total-append h (accepted side d) (flat_map (accepted side) log) in
      let c = grows m g (λ k. refused (makes k) d) (λ k. flat_map (refused (makes k)) log) in
      let q = total-append h (refused side d) (flat_map (refused side) log) in
      omega arith

sum_three : (n : ℕ) (g a b c : ℕ → ℕ) → ((k : ℕ) → k < n → g k ≡ a k + b k + c k) → sum_to n g ≡ sum_to n a + sum_to n b + sum_to n c
sum_three n g a b c e = sum_below n g (λ k. a k + b k + c k) e ∙ (let r = sum_add n (λ k. a k + b k) c in let s = sum_add n a b in omega arith)

module _ {C X Y : Type 0} (h : Y → ℕ) where
  none_accepted : (log : List (Deed C X)) → total h (flat_map (accepted (no_side {X = X} {Y = Y})) log) ≡ 0
  none_accepted [] = refl
  none_accepted (d ∷ log) = go d.end (none_accepted log)
    where
      go : (o : Ending C) → total h (flat_map (accepted (no_side {X = X} {Y = Y})) log) ≡ 0 → total h (if_accepted {Y = Y} o [] ++ flat_map (accepted (no_side {X = X} {Y = Y})) log) ≡ 0
      go Accepted r = r
      go Refused r = r
      go Lacked r = r
      go (Counted c) r = r

  none_refused : (log : List (Deed C X)) → total h (flat_map (refused (no_side {X = X} {Y = Y})) log) ≡ 0
  none_refused [] = refl
  none_refused (d ∷ log) = go d.end (none_refused log)
    where
      go : (o : Ending C) → total h (flat_map (refused (no_side {X = X} {Y = Y})) log) ≡ 0 → total h (if_refused {Y = Y} o [] ++ flat_map (refused (no_side {X = X} {Y = Y})) log) ≡ 0
      go Accepted r = r
      go Refused r = r
      go Lacked r = r
      go (Counted c) r = r

module _ {K : Kinds} where
  module _ (R : Rules K) (v : Views K) (s : SlowViews K) (back : ℕ → SlowPathRequest K → List (Outgoing K)) (t : Joined R v s back) (w : (link number : ℕ) → ℕ) (kept : AreWeighed R v s back w) where
    abbrev N : ℕ
    N = R.links

    abbrev P : ℕ
    P = R.processors

    abbrev L : ℕ
    L = link_pipes R

    abbrev at : ℕ → ℕ
    at j = place_of R j

    abbrev A : Arrival K → ℕ
    A = arrival_weight w

    abbrev Q : SlowPathRequest K → ℕ
    Q = request_weight w

    abbrev O : Outgoing K → ℕ
    O = outgoing_weight w

    abbrev in_ : ℕ → ℕ → ℕ
    in_ p i = total A (payloads (v.arrived p i))

    abbrev out_ : ℕ → ℕ → ℕ
    out_ i l = total O (payloads (v.leaving i (at l)))

    received_are : (p : ℕ) → p < N → total A (done_items (v.received p)) ≡ sum_to P (λ i. in_ p i) + sum_to P (λ i. total A (v.arrived_full p i)) + lost A (v.received p)
    received_are p lt =
        let law = t.settled.receivers p lt in
        let d = deeds P (to_processor R) (no_side {X = Arrival K} {Y = SlowPathRequest K}) A A Q (v.received p) (kept.receivers p lt) in
        let z = none_accepted {X = Arrival K} Q (v.received p) in
        let y = none_refused {X = Arrival K} Q (v.received p) in
        let a = sum_below P (λ i. in_ p i) (λ i. total A (flat_map (accepted (to_processor R i)) (v.received p))) (λ i b. ap (total A) (law.tells i b).0) in
        let c = sum_below P (λ i. total A (v.arrived_full p i)) (λ i. total A (flat_map (refused (to_processor R i)) (v.received p))) (λ i b. ap (total A) (law.tells i b).1) in
        omega arith

    worked_are : (i : ℕ) → i < P → total A (done_items (v.worked i)) ≡ sum_to N (λ p. in_ p i)
    worked_are i lt =
        let law = t.settled.workers i lt in
        ap (total A) (sym law.took)
        ∙ by_number A N (v.taken i) (all_below N (v.taken i) (λ p ge. t.settled.packet_only i p lt ge))
        ∙ sum_below N (λ p. total A (payloads (of_producer p (v.taken i)))) (λ p. in_ p i) (λ p below. ap (λ (es : List (Pushed (Arrival K))). total A (payloads es)) (t.settled.packets i p lt below))

    abbrev gone_ : ℕ → ℕ
    gone_ i = sum_to L (λ l. total O (v.leaving_full i (at l))) + total Q (v.asked_full i) + lost A (v.worked i)

    split_are : (i : ℕ) → i < P → total A (done_items (v.worked i)) ≡ sum_to L (λ l. out_ i l) + total Q (payloads (v.asked i)) + gone_ i
    split_are i lt =
        let law = t.settled.workers i lt in
        let d = deeds L (λ j. to_link R (at j)) (to_slow R) A O Q (v.worked i) (kept.workers i lt) in
        let z = ap (total Q) law.slow.0 in
        let y = ap (total Q) law.slow.1 in
        let a = sum_below L (λ l. out_ i l) (λ l. total O (flat_map (accepted (to_link R (at l))) (v.worked i))) (λ l b. ap (total O) (law.tells (at l) (omega arith, omega arith)).0) in
        let c = sum_below L (λ l. total O (v.leaving_full i (at l))) (λ l. total O (flat_map (refused (to_link R (at l))) (v.worked i))) (λ l b. ap (total O) (law.tells (at l) (omega arith, omega arith)).1) in
        omega arith

    slow_are : total Q (done_items s.worked) ≡ sum_to P (λ i. total Q (payloads (v.asked i)))
    slow_are =
        ap (total Q) (sym t.slow_took)
        ∙ by_number Q P s.taken (all_below P s.taken t.request_only)
        ∙ sum_below P (λ i. total Q (payloads (of_producer i s.taken))) (λ i. total Q (payloads (v.asked i))) (λ i below. ap (λ (es : List (Pushed (SlowPathRequest K))). total Q (payloads es)) (t.requests i below))

    slow_split : total Q (done_items s.worked) ≡ sum_to L (λ l. total O (payloads (s.leaving (at l)))) + sum_to L (λ l. total O (s.leaving_full (at l))) + lost Q s.worked
    slow_split =
        let d = deeds L (λ j. back (at j)) (no_side {X = SlowPathRequest K} {Y = SlowPathRequest K}) Q O Q s.worked kept.slow in
        let z = none_accepted {X = SlowPathRequest K} Q s.worked in
        let y = none_refused {X = SlowPathRequest K} Q s.worked in
        let a = sum_below L (λ l. total O (payloads (s.leaving (at l)))) (λ l. total O (flat_map (accepted (back (at l))) s.worked)) (λ l b. ap (total O) (t.slow_tells (at l) (omega arith, omega arith)).0) in
        let c = sum_below L (λ l. total O (s.leaving_full (at l))) (λ l. total O (flat_map (refused (back (at l))) s.worked)) (λ l b. ap (total O) (t.slow_tells (at l) (omega arith, omega arith)).1) in
        omega arith

    forwarded_are : (l : ℕ) → l < L → total O (payloads (v.forwarded (at l))) ≡ total O (v.handed (at l)) + total O (v.swept (at l))
    forwarded_are l lt =
        let law = t.settled.forwarders (at l) (omega arith, omega arith) in
        let es = v.forwarded (at l) in
        let whole : total O (payloads (before_mark es)) + total O (payloads (from_mark es)) ≡ total O (payloads es) =
        sym (total-append O (payloads (before_mark es)) (payloads (from_mark es))) ∙ ap (total O) (sym (flat_map-append (λ (e : Pushed (Outgoing K)). payload_of e.load) (before_mark es) (from_mark es)) ∙ ap payloads (split_mark es)) in
        let x = ap (total O) law.sent in
        let y = ap (total O) law.after in
        omega arith

    handed_are : (l : ℕ) → l < L → total O (v.handed (at l)) + total O (v.swept (at l)) ≡ sum_to P (λ i. out_ i l) + total O (payloads (s.leaving (at l)))
    handed_are l lt =
        let es = v.forwarded (at l) in
        let whole = forwarded_are l lt in
        let n = by_number O (suc (suc P)) es (all_below (suc (suc P)) es (λ j ge. t.egress_none l j lt ge)) in
        let a = sum_below P (λ i. total O (payloads (of_producer i es))) (λ i. out_ i l) (λ i below. ap (λ (xs : List (Pushed (Outgoing K))). total O (payloads xs)) (t.settled.egress_packets (at l) i (omega arith, omega arith) below)) in
        let b = ap (λ (xs : List (Pushed (Outgoing K))). total O (payloads xs)) (t.egress_slow l lt) in
        let c = ap (total O) (t.egress_marks l lt) in
        omega arith

    pub placed : IsPlaced w R v s
    placed =
        let a = sum_three N (λ p. total A (done_items (v.received p))) (λ p. sum_to P (λ i. in_ p i)) (λ p. sum_to P (λ i. total A (v.arrived_full p i))) (λ p. lost A (v.received p)) received_are in
        let b = sum_swap N P in_ in
        let c = sum_below P (λ i. total A (done_items (v.worked i))) (λ i. sum_to N (λ p. in_ p i)) worked_are in
        let d = sum_three P (λ i. total A (done_items (v.worked i))) (λ i. sum_to L (λ l. out_ i l)) (λ i. total Q (payloads (v.asked i))) gone_ split_are in
        let e = sum_three P gone_ (λ i. sum_to L (λ l. total O (v.leaving_full i (at l)))) (λ i. total Q (v.asked_full i)) (λ i. lost A (v.worked i)) (λ i lt. refl) in
        let f = slow_are in
        let g = slow_split in
        let h = sum_swap P L out_ in
        let k = sum_below L (λ l. total O (v.handed (at l)) + total O (v.swept (at l))) (λ l. sum_to P (λ i. out_ i l) + total O (payloads (s.leaving (at l)))) handed_are in
        let m = sum_add L (λ l. total O (v.handed (at l))) (λ l. total O (v.swept (at l))) in
        let n = sum_add L (λ l. sum_to P (λ i. out_ i l)) (λ l. total O (payloads (s.leaving (at l)))) in
        omega arith

    -- what went through the pipes of a kind is at most what was numbered
    pub through : (through_processors w R v ≤ numbered w R v) × (through_slow w s ≤ numbered w R v) × (through_links w R v ≤ numbered w R v)
    through =
        let a = sum_three N (λ p. total A (done_items (v.received p))) (λ p. sum_to P (λ i. in_ p i)) (λ p. sum_to P (λ i. total A (v.arrived_full p i))) (λ p. lost A (v.received p)) received_are in
        let b = sum_swap N P in_ in
        let c = sum_below P (λ i. total A (done_items (v.worked i))) (λ i. sum_to N (λ p. in_ p i)) worked_are in
        let taken = sum_below P (λ i. total A (payloads (v.taken i))) (λ i. total A (done_items (v.worked i))) (λ i lt. ap (total A) (t.settled.workers i lt).took) in
        let d = sum_three P (λ i. total A (done_items (v.worked i))) (λ i. sum_to L (λ l. out_ i l)) (λ i. total Q (payloads (v.asked i))) gone_ split_are in
        let f = slow_are in
        let slow = ap (total Q) t.slow_took in
        let g = slow_split in
        let h = sum_swap P L out_ in
        let k = sum_below L (λ l. total O (v.handed (at l)) + total O (v.swept (at l))) (λ l. sum_to P (λ i. out_ i l) + total O (payloads (s.leaving (at l)))) handed_are in
        let m = sum_below L (λ l. total O (payloads (v.forwarded (at l)))) (λ l. total O (v.handed (at l)) + total O (v.swept (at l))) (λ l lt. forwarded_are l lt) in
        let n = sum_add L (λ l. sum_to P (λ i. out_ i l)) (λ l. total O (payloads (s.leaving (at l)))) in
        (omega arith, omega arith, omega arith)

pub places_each : (K : Kinds) → PlacesEach K
places_each K R v s back t w kept = placed R v s back t w kept
