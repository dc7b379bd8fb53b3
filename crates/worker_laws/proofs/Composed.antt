-- Workers that keep their laws, over pipes that were drained, have ended.
use Rattle.std.proofs.Common.{◌≡◌, ◌⊎◌, inl, inr, ℕ, zero, suc, ◌+◌, ◌-◌, ◌*◌, ◌<◌, ◌≤◌, Bool, true, false, cond, List, [], ◌∷◌, ◌++◌, map, length, Some, slice_get, refl, sym, ◌∙◌, ap, subst, arith, append-nil, length-append}
use Rattle.std.specs.List.{flat_map}
use Rattle.std.proofs.lemmas.Bool.{cases_eq, lt-ltb}
use Rattle.ruled_pipe.specs.Producer.{Sender}
use Rattle.order_laws.specs.Kinds.{Kinds}
use Rattle.order_laws.specs.Item.{Arrival, Outgoing}
use Rattle.order_laws.specs.Rules.{Rules, Reply, Replies, Withholds}
use Rattle.order_laws.specs.Pipes.{link_pipe, slow_seat}
use Rattle.order_laws.specs.Deeds.{Pushed, payloads, of_producer, has_mark, Each, Deed, done_items, accepted, Tells}
use Rattle.order_laws.specs.Settled.{SlowPathRequest, if_so, to_link, IsLinkPipe, ReceiverLaw, ProcessorLaw, Views, Settled}
use Rattle.order_laws.specs.Counted.{place_of, link_pipes}
use Rattle.order_laws.proofs.SettledOrder.{each_join}
use Rattle.worker_laws.specs.Ends.{pushes, refusals_in, EndTells}
use Rattle.worker_laws.specs.Works.{IsOffered, LacksNothing}
use Rattle.worker_laws.specs.Receives.{IsClear}
use Rattle.worker_laws.specs.Answers.{to_back, replied_out, SlowLaw}
use Rattle.worker_laws.specs.Forwards.{Handed, handed_items, WentOn}
use Rattle.worker_laws.specs.Gathers.{offers_at, refusals_at, TookAll}
use Rattle.worker_laws.specs.Ended.{Ended}
use Rattle.worker_laws.specs.Workers.{Receiver, Processor, Forwarder, Workers, read_at, IsColumn, links_at, went_at, slow_ends, passed_at, at_place, views_of, slow_views, link_ends, HaveEnded, Composes}
use Rattle.worker_laws.proofs.Settling.{each_accepted}
use Rattle.worker_laws.proofs.Gathers.{closes_by_last}

-- ---- lists by index

module _ {X : Type 0} where
  pub there : (xs : List X) (k : ℕ) → k < length xs → (x : X) × (slice_get xs k ≡ Some x)
  there [] k lt = absurd (omega arith)
  there (x ∷ xs) zero lt = (x, refl)
  there (x ∷ xs) (suc k) lt = there xs k (omega arith)

  get_short : (xs : List X) (k : ℕ) (x : X) → slice_get xs k ≡ Some x → k < length xs
  get_short [] k x at = absurd cc
  get_short (y ∷ xs) zero x at = omega arith
  get_short (y ∷ xs) (suc k) x at = let r = get_short xs k x at in omega arith

  some_same : (x y : X) → Some x ≡ Some y → x ≡ y
  some_same x y e = cc

module _ {A B : Type 0} where
  pub read_is : (f : A → List B) (xs : List A) (k : ℕ) (x : A) → slice_get xs k ≡ Some x → read_at f xs k ≡ f x
  read_is f [] k x at = absurd cc
  read_is f (y ∷ xs) zero x at = ap f (some_same y x at)
  read_is f (y ∷ xs) (suc k) x at = read_is f xs k x at

  pub map_get : (f : A → B) (xs : List A) (k : ℕ) (x : A) → slice_get xs k ≡ Some x → slice_get (map f xs) k ≡ Some (f x)
  map_get f [] k x at = absurd cc
  map_get f (y ∷ xs) zero x at = ap Some (ap f (some_same y x at))
  map_get f (y ∷ xs) (suc k) x at = map_get f xs k x at

  map_long : (f : A → B) (xs : List A) → length (map f xs) ≡ length xs
  map_long f [] = refl
  map_long f (x ∷ xs) = let r = map_long f xs in omega arith

module _ {X : Type 0} where
  offers_is : (ss : List (Sender X)) (k : ℕ) (s : Sender X) → slice_get ss k ≡ Some s → offers_at ss k ≡ pushes s.offers
  offers_is [] k s at = absurd cc
  offers_is (t ∷ ss) zero s at = ap (λ (u : Sender X). pushes u.offers) (some_same t s at)
  offers_is (t ∷ ss) (suc k) s at = offers_is ss k s at

  refusals_is : (ss : List (Sender X)) (k : ℕ) (s : Sender X) → slice_get ss k ≡ Some s → refusals_at ss k ≡ refusals_in s.refusals
  refusals_is [] k s at = absurd cc
  refusals_is (t ∷ ss) zero s at = ap (λ (u : Sender X). refusals_in u.refusals) (some_same t s at)
  refusals_is (t ∷ ss) (suc k) s at = refusals_is ss k s at

  -- ---- columns

  column_long : (j : ℕ) (rows : List (List (Sender X))) (row : List (Sender X)) → IsColumn j rows row → length row ≡ length rows
  column_long j [] [] c = refl
  column_long j [] (x ∷ xs) c = absurd c
  column_long j (r ∷ rows) [] c = absurd c
  column_long j (r ∷ rows) (x ∷ xs) c = let l = column_long j rows xs c.1 in omega arith

  column_is : (j : ℕ) (rows : List (List (Sender X))) (row : List (Sender X)) → IsColumn j rows row → (p : ℕ) (r : List (Sender X)) → slice_get rows p ≡ Some r → offers_at row p ≡ offers_at r j
  column_is j [] row c p r at = absurd cc
  column_is j (q ∷ rows) [] c p r at = absurd c
  column_is j (q ∷ rows) (x ∷ xs) c zero r at = sym (offers_is q j x c.0) ∙ ap (λ (l : List (Sender X)). offers_at l j) (some_same q r at)
  column_is j (q ∷ rows) (x ∷ xs) c (suc p) r at = column_is j rows xs c.1 p r at

  -- what was taken of the producer of a column that is worker p's
  taken_is : (j : ℕ) (rows : List (List (Sender X))) (row : List (Sender X)) (taken : List (Pushed X)) → IsColumn j rows row → TookAll row taken → (p : ℕ) (r : List (Sender X)) → slice_get rows p ≡ Some r → of_producer p taken ≡ offers_at r j
  taken_is j rows row taken c all p r at =
      let short = get_short rows p r at in
      let long = column_long j rows row c in
      all.0 p (omega arith) ∙ column_is j rows row c p r at

  taken_none : (j : ℕ) (rows : List (List (Sender X))) (row : List (Sender X)) (taken : List (Pushed X)) → IsColumn j rows row → TookAll row taken → (p : ℕ) → length rows ≤ p → of_producer p taken ≡ []
  taken_none j rows row taken c all p ge = let long = column_long j rows row c in all.1 p (omega arith)

  front_get : (xs ys : List X) (k : ℕ) (x : X) → slice_get xs k ≡ Some x → slice_get (xs ++ ys) k ≡ Some x
  front_get [] ys k x at = absurd cc
  front_get (z ∷ xs) ys zero x at = at
  front_get (z ∷ xs) ys (suc k) x at = front_get xs ys k x at

  -- what stands after a first list
  pub back_get : (xs ys : List X) (k n : ℕ) → n ≡ length xs + k → slice_get (xs ++ ys) n ≡ slice_get ys k
  back_get [] ys k n e = let is : n ≡ k = omega arith in ap (λ (m : ℕ). slice_get ys m) is
  back_get (z ∷ xs) ys k zero e = absurd (omega arith)
  back_get (z ∷ xs) ys k (suc n) e = back_get xs ys k n (omega arith)

  -- the last row is the last of the column
  column_last : (j : ℕ) (rows : List (List (Sender X))) (last : List (Sender X)) (row : List (Sender X)) → IsColumn j (rows ++ last ∷ []) row
      → (front : List (Sender X)) × ((s : Sender X) × ((row ≡ front ++ s ∷ []) × ((slice_get last j ≡ Some s) × IsColumn j rows front)))
  column_last j [] last [] c = absurd c
  column_last j [] last (x ∷ []) c = ([], (x, (refl, (c.0, tt))))
  column_last j [] last (x ∷ y ∷ xs) c = absurd c.1
  column_last j (r ∷ rows) last [] c = absurd c
  column_last j (r ∷ rows) last (x ∷ xs) c =
      let l = column_last j rows last xs c.1 in
      (x ∷ l.0, (l.1.0, (ap (λ (t : List (Sender X)). x ∷ t) l.1.1.0, (l.1.1.1.0, (c.0, l.1.1.1.1)))))

  -- each of a column is a worker's
  column_get : (j : ℕ) (rows : List (List (Sender X))) (row : List (Sender X)) → IsColumn j rows row → (p : ℕ) (s : Sender X) → slice_get row p ≡ Some s → (r : List (Sender X)) × ((slice_get rows p ≡ Some r) × (slice_get r j ≡ Some s))
  column_get j [] [] c p s at = absurd cc
  column_get j [] (x ∷ xs) c p s at = absurd c
  column_get j (r ∷ rows) [] c p s at = absurd c
  column_get j (r ∷ rows) (x ∷ xs) c zero s at = (r, (refl, subst (λ (t : Sender X). slice_get r j ≡ Some t) (some_same x s at) c.0))
  column_get j (r ∷ rows) (x ∷ xs) c (suc p) s at = column_get j rows xs c.1 p s at

module _ {A X : Type 0} where
  -- each of some rows and one more
  one_of_rows : (f : A → List X) (ps : List A) (last : List X) (k : ℕ) (r : List X) → slice_get (map f ps ++ last ∷ []) k ≡ Some r → ((x : A) × ((slice_get ps k ≡ Some x) × (f x ≡ r))) ⊎ (last ≡ r)
  one_of_rows f [] last zero r at = inr (some_same last r at)
  one_of_rows f [] last (suc k) r at = absurd cc
  one_of_rows f (p ∷ ps) last zero r at = inl (p, (refl, some_same (f p) r at))
  one_of_rows f (p ∷ ps) last (suc k) r at = one_of_rows f ps last k r at

module _ {X : Type 0} where
  two_last : (xs : List (List X)) (a b : List X) → xs ++ (a ∷ b ∷ []) ≡ (xs ++ a ∷ []) ++ b ∷ []
  two_last [] a b = refl
  two_last (x ∷ xs) a b = ap (λ (l : List (List X)). x ∷ l) (two_last xs a b)

module _ {K : Kinds} where
  pub passed_low : (fs : List (Forwarder K)) (l : ℕ) (f : Forwarder K) → slice_get fs l ≡ Some f → passed_at fs (2 * l) ≡ pushes f.low.taken
  passed_low [] l f at = absurd cc
  passed_low (g ∷ fs) zero f at = ap (λ (x : Forwarder K). pushes x.low.taken) (some_same g f at)
  passed_low (g ∷ fs) (suc l) f at =
      let n : 2 * suc l ≡ suc (suc (2 * l)) = omega arith in
      ap (λ (m : ℕ). passed_at (g ∷ fs) m) n ∙ passed_low fs l f at

  pub passed_high : (fs : List (Forwarder K)) (l : ℕ) (f : Forwarder K) → slice_get fs l ≡ Some f → passed_at fs (2 * l + 1) ≡ pushes f.high.taken
  passed_high [] l f at = absurd cc
  passed_high (g ∷ fs) zero f at = ap (λ (x : Forwarder K). pushes x.high.taken) (some_same g f at)
  passed_high (g ∷ fs) (suc l) f at =
      let n : 2 * suc l + 1 ≡ suc (suc (2 * l + 1)) = omega arith in
      ap (λ (m : ℕ). passed_at (g ∷ fs) m) n ∙ passed_high fs l f at

  -- an answer says so
  answers_say : (R : Rules K) (q : ℕ) (x : SlowPathRequest K) → Each (λ (o : Outgoing K). o.answer ≡ true) (to_back R q x)
  answers_say R q x = go (R.reply x.arrival x.problem)
    where
      one : (b : Bool) (o : Outgoing K) → o.answer ≡ true → Each (λ (o : Outgoing K). o.answer ≡ true) (if_so b (o ∷ []))
      one true o is = (is, tt)
      one false o is = tt

      go : (r : Reply K) → Each (λ (o : Outgoing K). o.answer ≡ true) (replied_out R q x r)
      go (Replies l y) = one _ _ refl
      go (Withholds c) = tt

  each_answer : (R : Rules K) (q : ℕ) (log : List (Deed K.RuleCause (SlowPathRequest K))) → Each (λ (o : Outgoing K). o.answer ≡ true) (flat_map (accepted (to_back R q)) log)
  each_answer R q [] = tt
  each_answer R q (d ∷ log) = each_join (λ (o : Outgoing K). o.answer ≡ true) (accepted (to_back R q) d) (flat_map (accepted (to_back R q)) log) (each_accepted (λ (o : Outgoing K). o.answer ≡ true) d.end (to_back R q d.item) (answers_say R q d.item)) (each_answer R q log)

  -- ---- places

  module _ (R : Rules K) where
    abbrev place : ℕ → ℕ
    place q = q - (slow_seat R + 1)

    at_link : {X : Type 0} (g : ℕ → List X) (q : ℕ) → IsLinkPipe R q → at_place R g q ≡ g (q - (slow_seat R + 1))
    at_link g q at = ap (λ (b : Bool). cond b (g (q - (slow_seat R + 1))) []) (lt-ltb (slow_seat R) q at.0)

    at_pipe : {X : Type 0} (g : ℕ → List X) (j : ℕ) → at_place R g (place_of R j) ≡ g j
    at_pipe g j =
        let n : place_of R j - (slow_seat R + 1) ≡ j = omega arith in
        let lt : slow_seat R < place_of R j = omega arith in
        ap (λ (b : Bool). cond b (g (place_of R j - (slow_seat R + 1))) []) (lt-ltb (slow_seat R) (place_of R j) lt) ∙ ap g n

    within : (q : ℕ) → IsLinkPipe R q → q - (slow_seat R + 1) < link_pipes R
    within q at = let a = at.0 in let b = at.1 in omega arith

    again : (q : ℕ) → IsLinkPipe R q → place_of R (q - (slow_seat R + 1)) ≡ q
    again q at = let a = at.0 in omega arith

    -- what the ends of links' pipes tell, place by place
    ends_tell : {C X : Type 0} (makes : ℕ → X → List (Outgoing K)) (log : List (Deed C X)) (senders : List (Sender (Outgoing K))) → length senders ≡ link_pipes R
        → ((j : ℕ) (s : Sender (Outgoing K)) → slice_get senders j ≡ Some s → EndTells (makes (place_of R j)) log s)
        → (q : ℕ) → IsLinkPipe R q → Tells (makes q) log (at_place R (offers_at senders) q) (at_place R (refusals_at senders) q)
    ends_tell makes log senders long tells q at =
        let j : ℕ = q - (slow_seat R + 1) in
        let f = there senders j (let b = within q at in omega arith) in
        let t = tells j f.0 f.1 in
        let n : place_of R j ≡ q = again q at in
        subst (λ (p : ℕ). Tells (makes p) log (at_place R (offers_at senders) q) (at_place R (refusals_at senders) q)) n
        (ap payloads (at_link (offers_at senders) q at ∙ offers_is senders j f.0 f.1) ∙ t.0, at_link (refusals_at senders) q at ∙ refusals_is senders j f.0 f.1 ∙ t.1)

    law_as : (log log' : List (Deed K.RuleCause (Arrival K))) (tk tk' : List (Pushed (Arrival K))) (ls ls' : List (Sender (Outgoing K))) (qs qs' : List (Pushed (SlowPathRequest K))) (fs fs' : List (SlowPathRequest K)) → log' ≡ log → tk' ≡ tk → ls' ≡ ls → qs' ≡ qs → fs' ≡ fs
        → ProcessorLaw R log tk (λ q. at_place R (offers_at ls) q) (λ q. at_place R (refusals_at ls) q) qs fs → ProcessorLaw R log' tk' (λ q. at_place R (offers_at ls') q) (λ q. at_place R (refusals_at ls') q) qs' fs'
    law_as log log' tk tk' ls ls' qs qs' fs fs' a b c d e law =
        subst (λ (x : List (Deed K.RuleCause (Arrival K))). ProcessorLaw R x tk' (λ q. at_place R (offers_at ls') q) (λ q. at_place R (refusals_at ls') q) qs' fs') (sym a)
        (subst (λ (x : List (Pushed (Arrival K))). ProcessorLaw R log x (λ q. at_place R (offers_at ls') q) (λ q. at_place R (refusals_at ls') q) qs' fs') (sym b)
        (subst (λ (x : List (Sender (Outgoing K))). ProcessorLaw R log tk (λ q. at_place R (offers_at x) q) (λ q. at_place R (refusals_at x) q) qs' fs') (sym c)
        (subst (λ (x : List (Pushed (SlowPathRequest K))). ProcessorLaw R log tk (λ q. at_place R (offers_at ls) q) (λ q. at_place R (refusals_at ls) q) x fs') (sym d)
        (subst (λ (x : List (SlowPathRequest K)). ProcessorLaw R log tk (λ q. at_place R (offers_at ls) q) (λ q. at_place R (refusals_at ls) q) qs x) (sym e) law))))

module _ {K : Kinds} (R : Rules K) (w : Workers K) (closed : ℕ → Bool) (h : HaveEnded R w closed) where
  abbrev v : Views K
  v = views_of R w

  abbrev passed : ℕ → List (Pushed (Outgoing K))
  passed j = passed_at w.forwarders j

  receiver : (p : ℕ) → p < R.links → (r : Receiver K) × (slice_get w.receivers p ≡ Some r)
  receiver p lt = there w.receivers p (let n = h.receiver_count in omega arith)

  processor : (i : ℕ) → i < R.processors → (p : Processor K) × (slice_get w.processors i ≡ Some p)
  processor i lt = there w.processors i (let n = h.processor_count in omega arith)

  forwarder : (l : ℕ) → l < R.links → (f : Forwarder K) × (slice_get w.forwarders l ≡ Some f)
  forwarder l lt = there w.forwarders l (let n = h.forwarder_count in omega arith)

  receivers : (p : ℕ) → p < R.links → ReceiverLaw R p (v.received p) (v.arrived p) (v.arrived_full p)
  receivers p lt =
      let f = receiver p lt in
      let r = f.0 in
      let k = h.receivers p r f.1 in
      let law : ReceiverLaw R p r.log (λ i. offers_at r.senders i) (λ i. refusals_at r.senders i) = record {
        numbered = k.0.numbered;
        just = k.0.just;
        tells = λ i below. let g = there r.senders i (let n = k.1 in omega arith) in let t = k.0.ends i g.0 g.1 in (ap payloads (offers_is r.senders i g.0 g.1) ∙ t.0, refusals_is r.senders i g.0 g.1 ∙ t.1);
      } in
      subst (λ (x : List (Deed K.RuleCause (Arrival K))). ReceiverLaw R p x (v.arrived p) (v.arrived_full p)) (sym (read_is (λ (r : Receiver K). r.log) w.receivers p r f.1))
      (subst (λ (x : List (Sender (Arrival K))). ReceiverLaw R p r.log (λ i. offers_at x i) (λ i. refusals_at x i)) (sym (read_is (λ (r : Receiver K). r.senders) w.receivers p r f.1)) law)

  workers : (i : ℕ) → i < R.processors → ProcessorLaw R (v.worked i) (v.taken i) (v.leaving i) (v.leaving_full i) (v.asked i) (v.asked_full i)
  workers i lt =
      let f = processor i lt in
      let p = f.0 in
      let k = h.processors i p f.1 in
      let at : slice_get (slow_ends w) i ≡ Some p.slow = map_get (λ (p : Processor K). p.slow) w.processors i p f.1 in
      law_as R p.log (v.worked i) (pushes p.taker.taken) (v.taken i) p.links (links_at w i) (pushes p.slow.offers) (v.asked i) (refusals_in p.slow.refusals) (v.asked_full i)
      (read_is (λ (p : Processor K). p.log) w.processors i p f.1) (read_is (λ (p : Processor K). pushes p.taker.taken) w.processors i p f.1) (read_is (λ (p : Processor K). p.links) w.processors i p f.1)
      (offers_is (slow_ends w) i p.slow at) (refusals_is (slow_ends w) i p.slow at)
      (record { took = k.0.took ∙ append-nil (done_items p.log); just = k.0.just; tells = ends_tell R (to_link R) p.log p.links k.1 k.0.links; slow = k.0.asks })

  slow : SlowLaw R w.slow.log (pushes w.slow.taker.taken) (λ q. at_place R (offers_at w.slow.links) q) (λ q. at_place R (refusals_at w.slow.links) q)
  slow = record { took = h.slow.0.took; just = h.slow.0.just; answered = h.slow.0.answered; tells = ends_tell R (to_back R) w.slow.log w.slow.links h.slow.1 h.slow.0.links }

  packets : (i p : ℕ) → i < R.processors → p < R.links → of_producer p (v.taken i) ≡ v.arrived p i
  packets i p lt below =
      let f = receiver p below in
      let c = h.packets i lt in
      taken_is i (map (λ (r : Receiver K). r.senders) w.receivers) c.0 (v.taken i) c.1 c.2 p f.0.senders (map_get (λ (r : Receiver K). r.senders) w.receivers p f.0 f.1)
      ∙ sym (ap (λ (x : List (Sender (Arrival K))). offers_at x i) (read_is (λ (r : Receiver K). r.senders) w.receivers p f.0 f.1))

  packet_only : (i p : ℕ) → i < R.processors → R.links ≤ p → of_producer p (v.taken i) ≡ []
  packet_only i p lt ge =
      let c = h.packets i lt in
      let long = map_long (λ (r : Receiver K). r.senders) w.receivers in
      taken_none i (map (λ (r : Receiver K). r.senders) w.receivers) c.0 (v.taken i) c.1 c.2 p (let n = h.receiver_count in omega arith)

  -- ---- of the pipe of the links number j

  abbrev link_rows : List (List (Sender (Outgoing K)))
  link_rows = map (λ (p : Processor K). p.links) w.processors

  rows_long : length link_rows ≡ R.processors
  rows_long = map_long (λ (p : Processor K). p.links) w.processors ∙ h.processor_count

  by_processor : (j i : ℕ) → j < link_pipes R → i < R.processors → of_producer i (passed j) ≡ offers_at (links_at w i) j
  by_processor j i lt below =
      let f = processor i below in
      let c = h.egress_packets j lt in
      taken_is j (link_ends w) c.0 (passed j) c.1 c.2 i f.0.links (front_get link_rows (w.slow.links ∷ w.controller ∷ []) i f.0.links (map_get (λ (p : Processor K). p.links) w.processors i f.0 f.1))
      ∙ sym (ap (λ (x : List (Sender (Outgoing K))). offers_at x j) (read_is (λ (p : Processor K). p.links) w.processors i f.0 f.1))

  by_slow : (j : ℕ) → j < link_pipes R → of_producer R.processors (passed j) ≡ offers_at w.slow.links j
  by_slow j lt =
      let c = h.egress_packets j lt in
      let n : R.processors ≡ length link_rows + 0 = let l = rows_long in omega arith in
      taken_is j (link_ends w) c.0 (passed j) c.1 c.2 R.processors w.slow.links (back_get link_rows (w.slow.links ∷ w.controller ∷ []) 0 R.processors n)

  by_controller : (j : ℕ) → j < link_pipes R → of_producer (R.processors + 1) (passed j) ≡ offers_at w.controller j
  by_controller j lt =
      let c = h.egress_packets j lt in
      let n : R.processors + 1 ≡ length link_rows + 1 = let l = rows_long in omega arith in
      taken_is j (link_ends w) c.0 (passed j) c.1 c.2 (R.processors + 1) w.controller (back_get link_rows (w.slow.links ∷ w.controller ∷ []) 1 (R.processors + 1) n)

  by_nobody : (j p : ℕ) → j < link_pipes R → R.processors + 2 ≤ p → of_producer p (passed j) ≡ []
  by_nobody j p lt ge =
      let c = h.egress_packets j lt in
      let long = length-append link_rows (w.slow.links ∷ w.controller ∷ []) in
      let l = rows_long in
      taken_none j (link_ends w) c.0 (passed j) c.1 c.2 p (omega arith)

  only_marks : (j : ℕ) → j < link_pipes R → payloads (of_producer (R.processors + 1) (passed j)) ≡ []
  only_marks j lt =
      let f = there w.controller j (let n = h.controller_count in omega arith) in
      ap payloads (by_controller j lt ∙ offers_is w.controller j f.0 f.1) ∙ h.controller j f.0 f.1

  egress_packets : (q i : ℕ) → IsLinkPipe R q → i < R.processors → of_producer i (v.forwarded q) ≡ v.leaving i q
  egress_packets q i at lt = ap (of_producer i) (at_link R passed q at) ∙ by_processor (q - (slow_seat R + 1)) i (within R q at) lt ∙ sym (at_link R (offers_at (links_at w i)) q at)

  egress_only : (q p : ℕ) → IsLinkPipe R q → R.processors ≤ p → Each (λ (o : Outgoing K). o.answer ≡ true) (payloads (of_producer p (v.forwarded q)))
  egress_only q p at ge =
      let j : ℕ = q - (slow_seat R + 1) in
      let lt : j < link_pipes R = within R q at in
      let same : of_producer p (v.forwarded q) ≡ of_producer p (passed j) = ap (of_producer p) (at_link R passed q at) in
      subst (λ (es : List (Pushed (Outgoing K))). Each (λ (o : Outgoing K). o.answer ≡ true) (payloads es)) (sym same) (go j lt (cases_eq p R.processors) (cases_eq p (R.processors + 1)))
    where
      go : (j : ℕ) → j < link_pipes R → (p ≡ R.processors) ⊎ (p ≡ R.processors → ⊥) → (p ≡ R.processors + 1) ⊎ (p ≡ R.processors + 1 → ⊥) → Each (λ (o : Outgoing K). o.answer ≡ true) (payloads (of_producer p (passed j)))
      go j lt (inl e) b =
          let f = there w.slow.links j (let n = h.slow.1 in omega arith) in
          let is : payloads (of_producer p (passed j)) ≡ flat_map (accepted (to_back R (place_of R j))) w.slow.log =
          ap (λ (k : ℕ). payloads (of_producer k (passed j))) e ∙ ap payloads (by_slow j lt ∙ offers_is w.slow.links j f.0 f.1) ∙ (h.slow.0.links j f.0 f.1).0 in
          subst (λ (os : List (Outgoing K)). Each (λ (o : Outgoing K). o.answer ≡ true) os) (sym is) (each_answer R (place_of R j) w.slow.log)
      go j lt (inr n) (inl e) =
          let is : payloads (of_producer p (passed j)) ≡ [] = ap (λ (k : ℕ). payloads (of_producer k (passed j))) e ∙ only_marks j lt in
          subst (λ (os : List (Outgoing K)). Each (λ (o : Outgoing K). o.answer ≡ true) os) (sym is) tt
      go j lt (inr n) (inr m) =
          let is : of_producer p (passed j) ≡ [] = by_nobody j p lt (omega arith) in
          subst (λ (es : List (Pushed (Outgoing K))). Each (λ (o : Outgoing K). o.answer ≡ true) (payloads es)) (sym is) tt

  settled : Settled R v
  settled = record {
    receivers = receivers;
    workers = workers;
    forwarders = λ q at. record { sent = refl; after = refl; mark = refl };
    packets = packets;
    packet_only = packet_only;
    egress_packets = egress_packets;
    egress_only = egress_only;
  }

  -- ---- who closed

  marks_are : (j : ℕ) → j < link_pipes R → (s : Sender (Outgoing K)) × ((slice_get w.controller j ≡ Some s) × (has_mark (passed j) ≡ has_mark (pushes s.offers)))
  marks_are j lt =
      let c = h.egress_packets j lt in
      let col : IsColumn j ((link_rows ++ w.slow.links ∷ []) ++ w.controller ∷ []) c.0 = subst (λ (rows : List (List (Sender (Outgoing K)))). IsColumn j rows c.0) (two_last link_rows w.slow.links w.controller) c.1 in
      let l = column_last j (link_rows ++ w.slow.links ∷ []) w.controller c.0 col in
      let all : TookAll (l.0 ++ l.1.0 ∷ []) (passed j) = subst (λ (row : List (Sender (Outgoing K))). TookAll row (passed j)) l.1.1.0 c.2 in
      (l.1.0, (l.1.1.1.0, closes_by_last l.0 l.1.0 (passed j) all (λ p s at. none l.0 p s (column_get j (link_rows ++ w.slow.links ∷ []) l.0 l.1.1.1.1 p s at))))
    where
      by : (p : ℕ) (s : Sender (Outgoing K)) (r : List (Sender (Outgoing K))) → slice_get r j ≡ Some s → ((x : Processor K) × ((slice_get w.processors p ≡ Some x) × (x.links ≡ r))) ⊎ (w.slow.links ≡ r) → has_mark (pushes s.offers) ≡ false
      by p s r at (inl x) = h.processors_close_none p j x.0 s x.1.0 (ap (λ (l : List (Sender (Outgoing K))). slice_get l j) x.1.1 ∙ at)
      by p s r at (inr e) = h.slow_closes_none j s (ap (λ (l : List (Sender (Outgoing K))). slice_get l j) e ∙ at)

      none : (front : List (Sender (Outgoing K))) (p : ℕ) (s : Sender (Outgoing K)) → ((r : List (Sender (Outgoing K))) × ((slice_get (link_rows ++ w.slow.links ∷ []) p ≡ Some r) × (slice_get r j ≡ Some s))) → has_mark (pushes s.offers) ≡ false
      none front p s c = by p s c.0 c.1.1 (one_of_rows (λ (x : Processor K). x.links) w.processors w.slow.links p c.0 c.1.0)

  low_is : (l : ℕ) → link_pipe R false l ≡ place_of R (2 * l)
  low_is l = omega arith

  high_is : (l : ℕ) → link_pipe R true l ≡ place_of R (2 * l + 1)
  high_is l = omega arith

  pub low_passed : (l : ℕ) → v.forwarded (link_pipe R false l) ≡ passed (2 * l)
  low_passed l = ap (λ (q : ℕ). at_place R passed q) (low_is l) ∙ at_pipe R passed (2 * l)

  pub high_passed : (l : ℕ) → v.forwarded (link_pipe R true l) ≡ passed (2 * l + 1)
  high_passed l = ap (λ (q : ℕ). at_place R passed q) (high_is l) ∙ at_pipe R passed (2 * l + 1)

  sinks : (l : ℕ) → l < R.links → WentOn (v.forwarded (link_pipe R false l)) (v.forwarded (link_pipe R true l)) (handed_items (went_at w l))
  sinks l lt =
      let f = forwarder l lt in
      let low = low_passed l ∙ passed_low w.forwarders l f.0 f.1 in
      let high = high_passed l ∙ passed_high w.forwarders l f.0 f.1 in
      let went = read_is (λ (f : Forwarder K). f.went) w.forwarders l f.0 f.1 in
      subst (λ (x : List (Pushed (Outgoing K))). WentOn x (v.forwarded (link_pipe R true l)) (handed_items (went_at w l))) (sym low)
      (subst (λ (x : List (Pushed (Outgoing K))). WentOn (pushes f.0.low.taken) x (handed_items (went_at w l))) (sym high)
      (subst (λ (x : List (Handed K)). WentOn (pushes f.0.low.taken) (pushes f.0.high.taken) (handed_items x)) (sym went) (h.forwarders l f.0 f.1)))

  pub has_ended : Ended R v (slow_views R w) (went_at w) closed
  has_ended = record {
    settled = settled;
    clear = λ p lt. let f = receiver p lt in subst (λ (x : List (Deed K.RuleCause (Arrival K))). Each (IsClear R) x) (sym (read_is (λ (r : Receiver K). r.log) w.receivers p f.0 f.1)) (h.receivers p f.0 f.1).0.clear;
    offered = λ i lt. let f = processor i lt in subst (λ (x : List (Deed K.RuleCause (Arrival K))). Each (IsOffered R) x) (sym (read_is (λ (p : Processor K). p.log) w.processors i f.0 f.1)) (h.processors i f.0 f.1).0.offers;
    slow = slow;
    requests = λ i lt. h.requests.0 i (let n = map_long (λ (p : Processor K). p.slow) w.processors in let m = h.processor_count in omega arith);
    request_only = λ i ge. h.requests.1 i (let n = map_long (λ (p : Processor K). p.slow) w.processors in let m = h.processor_count in omega arith);
    egress_slow = λ j lt. ap (of_producer R.processors) (at_pipe R passed j) ∙ by_slow j lt ∙ sym (at_pipe R (offers_at w.slow.links) j);
    egress_marks = λ j lt. ap (λ (es : List (Pushed (Outgoing K))). payloads (of_producer (R.processors + 1) es)) (at_pipe R passed j) ∙ only_marks j lt;
    egress_none = λ j p lt ge. ap (of_producer p) (at_pipe R passed j) ∙ by_nobody j p lt ge;
    sinks = sinks;
    low_shut = λ l lt. let m = marks_are (2 * l) (omega arith) in ap has_mark (low_passed l) ∙ m.1.1 ∙ h.closes (2 * l) m.0 m.1.0;
    high_shut = λ l lt. let m = marks_are (2 * l + 1) (omega arith) in ap has_mark (high_passed l) ∙ m.1.1 ∙ h.closes (2 * l + 1) m.0 m.1.0;
    unlacked = λ i lt. let f = processor i lt in
        subst (λ (x : List (Deed K.RuleCause (Arrival K))). Each (λ (d : Deed K.RuleCause (Arrival K)). LacksNothing d.end) x) (sym (read_is (λ (p : Processor K). p.log) w.processors i f.0 f.1)) (h.processors i f.0 f.1).0.ample;
    unlacked_slow = h.slow.0.ample;
  }

pub composes : (K : Kinds) → Composes K
composes K R w closed h = has_ended R w closed h
