-- A running pipeline that has ended: each worker's law by its own lists, and pipes in which nothing is held.
use Rattle.std.specs.Prelude.{◌≡◌, ◌⊎◌, ◌<◌, ◌≤◌, ℕ, Bool, true, false, ◌&&◌, not, ◌==◌, ◌+◌, if◌then◌else◌, List, [], ◌∷◌, ◌++◌, map, Some}
use Rattle.std.specs.List.{flat_map, filter, list_any}
use Rattle.order_laws.specs.Kinds.{Kinds}
use Rattle.order_laws.specs.Item.{Arrival, Outgoing, Arrived, Out}
use Rattle.order_laws.specs.Rules.{Rules, IsLawful, Decision, Sends, Asks, Drops}
use Rattle.order_laws.specs.Pipes.{slow_seat, pipe_count, link_pipe, home}
use Rattle.order_laws.specs.Expected.{Departure, Flow, only, sent_to, expected, is_of, has_key}
use Rattle.order_laws.specs.Departures.{sends_of, numbers_of}
use Rattle.order_laws.specs.Deeds.{Pushed, payloads, of_producer, has_mark, before_mark, from_mark, Each, Deed, if_counted, done_items, lacked, Tells}

-- an arrival with its problem, for the slow path
pub record SlowPathRequest (K : Kinds) : Type 0 where
  pub arrival : Arrival K
  pub problem : K.Problem

abbrev pub if_so : {X : Type 0} → Bool → List X → List X
if_so b xs = if b then xs else []

abbrev pub has_number : ℕ → List ℕ → Bool
has_number n ns = list_any (λ m. m == n) ns

module _ {K : Kinds} where
  -- What a worker makes of an item for one pipe.

  abbrev pub to_processor : Rules K → ℕ → Arrival K → List (Arrival K)
  to_processor R i x = if_so (R.processor (R.key x) == i) (x ∷ [])

  abbrev pub sent_out : Rules K → ℕ → Arrival K → Decision K → List (Outgoing K)
  sent_out R q x (Sends l y) =
      if_so (home R (Out (record { arrived = x.link; number = x.number; answer = false; link = l; parcel = y })) == q)
      (record { arrived = x.link; number = x.number; answer = false; link = l; parcel = y } ∷ [])
  sent_out R q x (Asks p) = []
  sent_out R q x (Drops c) = []

  -- for the leaving link's pipe at place q
  abbrev pub to_link : Rules K → ℕ → Arrival K → List (Outgoing K)
  to_link R q x = sent_out R q x (R.decide x)

  abbrev pub asked_of : Arrival K → Decision K → List (SlowPathRequest K)
  asked_of x (Sends l y) = []
  asked_of x (Asks p) = record { arrival = x; problem = p } ∷ []
  asked_of x (Drops c) = []

  abbrev pub to_slow : Rules K → Arrival K → List (SlowPathRequest K)
  to_slow R x = asked_of x (R.decide x)

  -- the place of a link's pipe
  abbrev pub IsLinkPipe : Rules K → ℕ → Type 0
  IsLinkPipe R q = (slow_seat R < q) × (q < pipe_count R)

  -- numbered from n
  abbrev pub AreNumbered : (a n : ℕ) → List (Arrival K) → Type 0
  AreNumbered a n [] = Unit {0}
  AreNumbered a n (x ∷ xs) = (x.link ≡ a) × (x.number ≡ n) × AreNumbered a (n + 1) xs

-- The receiver of link a: what it did with each datagram, and the two lists of its end of each processor's pipe.
pub record ReceiverLaw {K : Kinds} (R : Rules K) (a : ℕ) (log : List (Deed K.RuleCause (Arrival K))) (offers : ℕ → List (Pushed (Arrival K))) (refusals : ℕ → List (Arrival K)) : Type 0 where
  pub numbered : AreNumbered a 1 (done_items log)
  pub just : Each (λ (d : Deed K.RuleCause (Arrival K)). if_counted d.end (λ c. R.inspect d.item ≡ Some c)) log
  pub tells : (i : ℕ) → i < R.processors → Tells (to_processor R i) log (offers i) (refusals i)

-- A processor: what it did with each arrival that it took, and the two lists of its end of each link's pipe and of the slow
-- path's.
pub record ProcessorLaw {K : Kinds} (R : Rules K) (log : List (Deed K.RuleCause (Arrival K))) (taken : List (Pushed (Arrival K))) (offers : ℕ → List (Pushed (Outgoing K))) (refusals : ℕ → List (Outgoing K)) (asks : List (Pushed (SlowPathRequest K))) (full : List (SlowPathRequest K)) : Type 0 where
  pub took : payloads taken ≡ done_items log
  pub just : Each (λ (d : Deed K.RuleCause (Arrival K)). if_counted d.end (λ c. R.decide d.item ≡ Drops c)) log
  pub tells : (q : ℕ) → IsLinkPipe R q → Tells (to_link R q) log (offers q) (refusals q)
  pub slow : Tells (to_slow R) log asks full

-- A forwarder, at one pipe of its link: what it handed to its sink, and what it swept.
pub record ForwarderLaw {K : Kinds} (taken : List (Pushed (Outgoing K))) (handed swept : List (Outgoing K)) (shut : Bool) : Type 0 where
  pub sent : handed ≡ payloads (before_mark taken)
  pub after : swept ≡ payloads (from_mark taken)
  pub mark : shut ≡ has_mark taken

pub record Views (K : Kinds) : Type 0 where
  -- of receiver p: what it did, and its end of the pipe of processor i
  pub received : ℕ → List (Deed K.RuleCause (Arrival K))
  pub arrived : (p i : ℕ) → List (Pushed (Arrival K))
  pub arrived_full : (p i : ℕ) → List (Arrival K)
  -- of processor i: what it took, what it did, and its ends of the link's pipe at place q and of the slow path's
  pub taken : ℕ → List (Pushed (Arrival K))
  pub worked : ℕ → List (Deed K.RuleCause (Arrival K))
  pub leaving : (i q : ℕ) → List (Pushed (Outgoing K))
  pub leaving_full : (i q : ℕ) → List (Outgoing K)
  pub asked : ℕ → List (Pushed (SlowPathRequest K))
  pub asked_full : ℕ → List (SlowPathRequest K)
  -- of the link's pipe at place q: what its forwarder took, handed to its sink and swept, and whether a closing mark was taken
  pub forwarded : ℕ → List (Pushed (Outgoing K))
  pub handed : ℕ → List (Outgoing K)
  pub swept : ℕ → List (Outgoing K)
  pub shut : ℕ → Bool

module _ {K : Kinds} where
  -- all that the receiver of link a numbered
  abbrev pub told : Views K → ℕ → List (Arrival K)
  told v a = done_items (v.received a)

  abbrev pub In : Arrival K → List (Arrival K) → Type 0
  In x [] = ⊥
  In x (y ∷ ys) = (y ≡ x) ⊎ In x ys

  -- a receiver numbered it
  abbrev pub IsTold : Views K → Arrival K → Type 0
  IsTold v x = In x (told v x.link)

pub record Settled {K : Kinds} (R : Rules K) (v : Views K) : Type 0 where
  pub receivers : (p : ℕ) → p < R.links → ReceiverLaw R p (v.received p) (v.arrived p) (v.arrived_full p)
  pub workers : (i : ℕ) → i < R.processors → ProcessorLaw R (v.worked i) (v.taken i) (v.leaving i) (v.leaving_full i) (v.asked i) (v.asked_full i)
  pub forwarders : (q : ℕ) → IsLinkPipe R q → ForwarderLaw (v.forwarded q) (v.handed q) (v.swept q) (v.shut q)
  -- each producer's entries in what was taken are its accepted pushes, and there are no others
  pub packets : (i p : ℕ) → i < R.processors → p < R.links → of_producer p (v.taken i) ≡ v.arrived p i
  pub packet_only : (i p : ℕ) → i < R.processors → R.links ≤ p → of_producer p (v.taken i) ≡ []
  pub egress_packets : (q i : ℕ) → IsLinkPipe R q → i < R.processors → of_producer i (v.forwarded q) ≡ v.leaving i q
  -- those beyond the processors push answers and marks
  pub egress_only : (q j : ℕ) → IsLinkPipe R q → R.processors ≤ j → Each (λ (o : Outgoing K). o.answer ≡ true) (payloads (of_producer j (v.forwarded q)))

module _ {K : Kinds} where
  abbrev pub numbers : List (Departure K) → List ℕ
  numbers [] = []
  numbers (x ∷ xs) = x.number ∷ numbers xs

  -- what is expected, without the packets of some numbers
  abbrev pub without : List ℕ → List (Departure K) → List (Departure K)
  without dropped xs = filter (λ x. not (has_number x.number dropped)) xs

  -- what is expected of one arrival, where it is of link a and one of mine
  abbrev pub expected_of : Rules K → (a l : ℕ) → (Arrival K → Bool) → Arrival K → List (Departure K)
  expected_of R a l mine x = only (x.link == a) (only (mine x) (sent_to l x.number (R.decide x)))

  -- of what leaves, the packets of link a that are of mine
  abbrev pub seen : Views K → (a : ℕ) → (Arrival K → Bool) → Outgoing K → List (Departure K)
  seen v a mine o = sends_of a (numbers_of mine (map (λ x. Arrived x) (told v a))) (Out o)

  -- the numbers of link a that were dropped before the pipe q of link l: at the processor's pipe, for want of a buffer; at
  -- pipe q, for want of memory; swept
  abbrev pub dropped : Rules K → Views K → (a l q i : ℕ) → (Arrival K → Bool) → List ℕ
  dropped R v a l q i mine =
      ((numbers (flat_map (expected_of R a l mine) (v.arrived_full a i)) ++ numbers (flat_map (lacked (expected_of R a l mine)) (v.received a)))
      ++ (numbers (flat_map (seen v a mine) (v.leaving_full i q)) ++ numbers (flat_map (lacked (expected_of R a l mine)) (v.worked i))))
      ++ numbers (flat_map (seen v a mine) (v.swept q))

  -- what was handed on from pipe q is all that the sequential router sends of them on link l, in order, less the dropped
  abbrev pub HandsInOrder : Rules K → Views K → (a l q i : ℕ) → (Arrival K → Bool) → Type 0
  HandsInOrder R v a l q i mine =
      flat_map (seen v a mine) (v.handed q) ≡ without (dropped R v a l q i mine) (expected R mine l (map (λ x. Arrived x) (told v a)))

pub record SettlesInOrder {K : Kinds} (R : Rules K) (v : Views K) : Type 0 where
  -- on a link with two bands through the pipe of the flow's band
  pub of_flow : (a : ℕ) (f : Flow K) (l : ℕ) → a < R.links → l < R.links → HandsInOrder R v a l (link_pipe R (R.two_bands l && f.urgent) l) (R.processor f.key) (is_of R f)
  -- on a link with one band for all of a key
  pub of_key : (a : ℕ) (k : K.Key) (l : ℕ) → a < R.links → l < R.links → R.two_bands l ≡ false → HandsInOrder R v a l (link_pipe R false l) (R.processor k) (has_key R k)
  -- and none through the other
  pub one_pipe : (a : ℕ) (f : Flow K) (l : ℕ) → a < R.links → l < R.links → flat_map (seen v a (is_of R f)) (v.handed (link_pipe R (not (R.two_bands l && f.urgent)) l)) ≡ []
  -- of a pipe that was never closed nothing is swept
  pub open_pipe : (q : ℕ) → IsLinkPipe R q → v.shut q ≡ false → v.swept q ≡ []

-- Where each worker keeps its law and the pipes hold nothing, each forwarder handed on of each link and flow what the
-- sequential router sends, in order, less what was dropped.
abbrev pub Settles : Kinds → Type 0
Settles K = (R : Rules K) (v : Views K) → IsLawful R (IsTold v) → Settled R v → SettlesInOrder R v
