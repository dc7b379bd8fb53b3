-- The running theorem, as far as it speaks of lists.
use Rattle.std.proofs.Common.{◌≡◌, ◌⊎◌, inl, inr, ℕ, zero, suc, ◌+◌, ◌*◌, ◌<◌, ◌≤◌, Bool, true, false, cond, List, [], ◌∷◌, ◌++◌, map, length, Some, slice_get, refl, sym, ap, ap₂, subst, ◌∙◌, arith}
use Rattle.std.proofs.lemmas.Bool.{cases_lt}
use Rattle.ruled_pipe.specs.Producer.{Sender}
use Rattle.ruled_pipe.specs.Consumer.{Taker}
use Rattle.order_laws.specs.Counts.{total, count}
use Rattle.order_laws.specs.Item.{Arrival, Outgoing}
use Rattle.order_laws.specs.Rules.{Rules, IsLawful}
use Rattle.order_laws.specs.Cause.Cause.{Closed}
use Rattle.order_laws.specs.Deeds.{Pushed, payloads, from_mark, Each, Deed, done_items}
use Rattle.order_laws.specs.Settled.{SlowPathRequest, In, IsTold}
use Rattle.order_laws.proofs.Sums.{count-total, total-append}
use Rattle.process_packet.specs.declared.cause.Cause.{Cause}
use Rattle.process_packet.specs.declared.config.Config.{Config}
use Rattle.packet_ledger.specs.Share.{Held, forwarded}
use Rattle.router_rules.specs.Laws.{AreLawful, CausesAreApart, LinksStandInOrder}
use Rattle.router_rules.specs.Links.{interface_at, link_count, link_index}
use Rattle.router_rules.specs.Rules.{kinds, rules, Arrives}
use Rattle.worker_laws.specs.Ends.{pushes}
use Rattle.worker_laws.specs.Receives.{lacks}
use Rattle.worker_laws.specs.Forwards.{Handed, refusals_of}
use Rattle.worker_laws.specs.Counting.{Count, Dropped, handed_count, swept_counts, counted_receiving, counted_working, counted_forwarding}
use Rattle.worker_laws.specs.Gathers.{TookAll}
use Rattle.worker_laws.specs.Ended.{Ended}
use Rattle.worker_laws.specs.Sums.{all_raised}
use Rattle.worker_laws.specs.Workers.{Receiver, Processor, SlowPath, Forwarder, Workers, IsColumn, read_at, taken_at, slow_ends, processor_ends, link_ends, passed_at, went_at, views_of, slow_views, HaveEnded}
use Rattle.worker_laws.proofs.Composed.{there, read_is, passed_low, passed_high, composes}
use Rattle.worker_laws.proofs.Settling.{ends}
use Rattle.worker_laws.proofs.Places.{stands_each}
use Rattle.worker_laws.proofs.Reasons.{gives_reasons, merges_bands}
use Rattle.worker_laws.proofs.Causes.{counts_each_cause}
use Rattle.worker_laws.proofs.Sums.{adds_up}
use Rattle.worker_order.specs.Shares.{counts_at, Counts}
use Rattle.worker_order.specs.Totals.{AreCounted}
use Rattle.worker_order.specs.Returned.{ReceiverBack, ProcessorBack, ForwarderBack, Returned, IsBackReceiver, IsBackProcessor, IsBackForwarder, link_rows, shares_of, HaveReturned, IsReceiverOf, IsProcessorOf, IsSlowOf, IsForwarderOf, Pairs, AreWorkersOf, WorkersHaveRun, RunsAsTold}
use Rattle.worker_order.proofs.Totals.{has_totals}
use Rattle.worker_order.proofs.Pairs.{choose, pairs_long, left, right, pairs_map}

-- ---- a log for each

receiver_of : (c : Config) (a : ℕ) (r : ReceiverBack) → IsBackReceiver c a r → (x : Receiver kinds) × IsReceiverOf c a x r
receiver_of c a r is = (
  record { log = is.0.log; senders = r.senders },
  record { senders = refl; law = (is.0.law, is.1); stands = is.0.stands; tells = is.0.tells; count = is.0.count; lacked = is.0.lacked; counts = is.0.counts },
)

processor_of : (c : Config) (i : ℕ) (p : ProcessorBack) → IsBackProcessor c i p → (x : Processor kinds) × IsProcessorOf c i x p
processor_of c i p is = (
  record { log = is.0.log; taker = p.taker; links = p.links; slow = p.slow },
  record { taker = refl; links = refl; slow = refl; law = (is.0.law, is.1); counts = is.0.counts },
)

forwarder_of : {T : Type 0} (shows : Handed kinds → T) (l : ℕ) (f : ForwarderBack T) → IsBackForwarder shows l f → (x : Forwarder kinds) × IsForwarderOf shows l x f
forwarder_of shows l f is = (
  record { went = is.went; low = f.low; high = f.high },
  record { low = refl; high = refl; law = is.law; counts = is.counts },
)

-- two of each
halves : (j n : ℕ) → j < 2 * n → (l : ℕ) × ((l < n) × ((j ≡ 2 * l) ⊎ (j ≡ 2 * l + 1)))
halves zero n lt = (0, (omega arith, inl refl))
halves (suc zero) n lt = (0, (omega arith, inr refl))
halves (suc (suc j)) zero lt = absurd (omega arith)
halves (suc (suc j)) (suc n) lt = let r = halves j n (omega arith) in (suc r.0, (let a = r.1.0 in omega arith, go r.0 r.1.1))
  where
    go : (l : ℕ) → (j ≡ 2 * l) ⊎ (j ≡ 2 * l + 1) → (suc (suc j) ≡ 2 * suc l) ⊎ (suc (suc j) ≡ 2 * suc l + 1)
    go l (inl e) = inl (omega arith)
    go l (inr e) = inr (omega arith)

-- of nobody nothing is read
read_past : {A B : Type 0} (f : A → List B) (xs : List A) (k : ℕ) → length xs ≤ k → read_at f xs k ≡ []
read_past f [] k ge = refl
read_past f (x ∷ xs) zero ge = absurd (omega arith)
read_past f (x ∷ xs) (suc k) ge = read_past f xs k (omega arith)

in_each : (P : Arrival kinds → Type 0) (log : List (Deed Cause (Arrival kinds))) (x : Arrival kinds) → Each (λ (d : Deed Cause (Arrival kinds)). P d.item) log → In x (done_items log) → P x
in_each P [] x all at = absurd at
in_each P (d ∷ log) x all (inl e) = subst P e all.0
in_each P (d ∷ log) x all (inr at) = in_each P log x all.1 at

-- ---- what a forwarder's share counts as sent or answered

took_all : (went : List (Handed kinds)) → total (counts_at 1) (map handed_count went) + total (counts_at 2) (map handed_count went) ≡ count (λ (h : Handed kinds). h.took) went
took_all went = go went ∙ sym (count-total (λ (h : Handed kinds). h.took) went)
  where
    one : (took answer : Bool) (h : Handed kinds) → h.took ≡ took → h.item.answer ≡ answer → counts_at 1 (handed_count h) + counts_at 2 (handed_count h) ≡ cond h.took 1 0
    one true true h t a = rw (t, a) refl
    one true false h t a = rw (t, a) refl
    one false answer h t a = rw (t) refl

    go : (xs : List (Handed kinds)) → total (counts_at 1) (map handed_count xs) + total (counts_at 2) (map handed_count xs) ≡ total (λ h. cond h.took 1 0) xs
    go [] = refl
    go (h ∷ xs) = let r = go xs in let o = one h.took h.item.answer h refl refl in omega arith

swept_none : (i : ℕ) → i ≤ 2 → (os : List (Outgoing kinds)) → total (counts_at i) (map {A = Outgoing kinds} {B = Count kinds} (λ o. Dropped Closed) os) ≡ 0
swept_none i le [] = refl
swept_none zero le (o ∷ os) = let r = swept_none zero le os in omega arith
swept_none (suc zero) le (o ∷ os) = let r = swept_none 1 le os in omega arith
swept_none (suc (suc zero)) le (o ∷ os) = let r = swept_none 2 le os in omega arith
swept_none (suc (suc (suc i))) le (o ∷ os) = absurd (omega arith)

forwarded_is : (share : Held) (went : List (Handed kinds)) (low high : List (Pushed (Outgoing kinds))) → Counts share (counted_forwarding went low high) → forwarded share ≡ count (λ (h : Handed kinds). h.took) went
forwarded_is share went low high is =
    let a = is.each 1 in
    let b = is.each 2 in
    let c = total-append (counts_at 1) (map handed_count went) (swept_counts low ++ swept_counts high) in
    let d = total-append (counts_at 2) (map handed_count went) (swept_counts low ++ swept_counts high) in
    let e = total-append (counts_at 1) (swept_counts low) (swept_counts high) in
    let f = total-append (counts_at 2) (swept_counts low) (swept_counts high) in
    let g = swept_none 1 (omega arith) (payloads (from_mark low)) in
    let h = swept_none 1 (omega arith) (payloads (from_mark high)) in
    let k = swept_none 2 (omega arith) (payloads (from_mark low)) in
    let l = swept_none 2 (omega arith) (payloads (from_mark high)) in
    let m = took_all went in
    omega arith

-- ---- one worker's log beside the next

module _ {T : Type 0} (shows : Handed kinds → T) (c : Config) (b : Returned T) (closed : ℕ → Bool) (h : HaveReturned shows c b closed) (xs : List (Receiver kinds)) (ps : List (Processor kinds)) (sl : SlowPath kinds) (fs : List (Forwarder kinds)) (
    rs : Pairs (IsReceiverOf c) 0 xs b.receivers
    ) (pr : Pairs (IsProcessorOf c) 0 ps b.processors) (so : IsSlowOf c sl b.slow) (fo : Pairs (IsForwarderOf shows) 0 fs b.forwarders) where
  abbrev R : Rules kinds
  R = rules c

  abbrev w : Workers kinds
  w = record { receivers = xs; processors = ps; slow = sl; forwarders = fs; controller = b.controller }

  same_rows : processor_ends w ≡ map (λ (r : ReceiverBack). r.senders) b.receivers
  same_rows = pairs_map (IsReceiverOf c) (λ (r : Receiver kinds). r.senders) (λ (r : ReceiverBack). r.senders) (λ n x r is. is.senders) 0 xs b.receivers rs

  same_asks : slow_ends w ≡ map (λ (p : ProcessorBack). p.slow) b.processors
  same_asks = pairs_map (IsProcessorOf c) (λ (p : Processor kinds). p.slow) (λ (p : ProcessorBack). p.slow) (λ n x p is. is.slow) 0 ps b.processors pr

  same_links : link_ends w ≡ link_rows b
  same_links =
      ap₂ (λ (ls : List (List (Sender (Outgoing kinds)))) (s : List (Sender (Outgoing kinds))). ls ++ (s ∷ b.controller ∷ []))
      (pairs_map (IsProcessorOf c) (λ (p : Processor kinds). p.links) (λ (p : ProcessorBack). p.links) (λ n x p is. is.links) 0 ps b.processors pr) so.links

  row_of : (j : ℕ) (taken taken' : List (Pushed (Outgoing kinds))) → taken' ≡ taken → (row : List (Sender (Outgoing kinds))) × IsColumn j (link_rows b) row × TookAll row taken → (row : List (Sender (Outgoing kinds))) × IsColumn j (link_ends w) row × TookAll row taken'
  row_of j taken taken' e r =
      (r.0, subst (λ (l : List (List (Sender (Outgoing kinds)))). IsColumn j l r.0) (sym same_links) r.1, subst (λ (t : List (Pushed (Outgoing kinds))). TookAll r.0 t) (sym e) r.2)

  egress_packets : (j : ℕ) → j < 2 * link_count c → (row : List (Sender (Outgoing kinds))) × IsColumn j (link_ends w) row × TookAll row (passed_at fs j)
  egress_packets j lt = let k = halves j (link_count c) lt in by k.0 k.1.0 k.1.1
    where
      by : (l : ℕ) → l < link_count c → (j ≡ 2 * l) ⊎ (j ≡ 2 * l + 1) → (row : List (Sender (Outgoing kinds))) × IsColumn j (link_ends w) row × TookAll row (passed_at fs j)
      by l below (inl e) =
          let f = there b.forwarders l (let n = h.forwarder_count in omega arith) in
          let x = right (IsForwarderOf shows) fs b.forwarders fo l f.0 f.1 in
          let taken : passed_at fs (2 * l) ≡ pushes f.0.low.taken = passed_low fs l x.0 x.1.0 ∙ ap (λ (t : Taker (Outgoing kinds)). pushes t.taken) x.1.1.low in
          subst (λ (i : ℕ). (row : List (Sender (Outgoing kinds))) × IsColumn i (link_ends w) row × TookAll row (passed_at fs i)) (sym e) (row_of (2 * l) (pushes f.0.low.taken) (passed_at fs (2 * l)) taken (h.low l f.0 f.1))
      by l below (inr e) =
          let f = there b.forwarders l (let n = h.forwarder_count in omega arith) in
          let x = right (IsForwarderOf shows) fs b.forwarders fo l f.0 f.1 in
          let taken : passed_at fs (2 * l + 1) ≡ pushes f.0.high.taken = passed_high fs l x.0 x.1.0 ∙ ap (λ (t : Taker (Outgoing kinds)). pushes t.taken) x.1.1.high in
          subst (λ (i : ℕ). (row : List (Sender (Outgoing kinds))) × IsColumn i (link_ends w) row × TookAll row (passed_at fs i)) (sym e) (row_of (2 * l + 1) (pushes f.0.high.taken) (passed_at fs (2 * l + 1)) taken (h.high l f.0 f.1))

  packets : (i : ℕ) → i < c.processors → (row : List (Sender (Arrival kinds))) × IsColumn i (processor_ends w) row × TookAll row (taken_at w i)
  packets i lt =
      let p = there b.processors i (let n = h.processor_count in omega arith) in
      let x = right (IsProcessorOf c) ps b.processors pr i p.0 p.1 in
      let r = h.packets i p.0 p.1 in
      let taken : taken_at w i ≡ pushes p.0.taker.taken = read_is (λ (p : Processor kinds). pushes p.taker.taken) ps i x.0 x.1.0 ∙ ap (λ (t : Taker (Arrival kinds)). pushes t.taken) x.1.1.taker in
      (r.0, subst (λ (l : List (List (Sender (Arrival kinds)))). IsColumn i l r.0) (sym same_rows) r.1, subst (λ (t : List (Pushed (Arrival kinds))). TookAll r.0 t) (sym taken) r.2)

  requests : TookAll (slow_ends w) (pushes sl.taker.taken)
  requests =
      subst (λ (l : List (Sender (SlowPathRequest kinds))). TookAll l (pushes sl.taker.taken)) (sym same_asks)
      (subst (λ (t : Taker (SlowPathRequest kinds)). TookAll (map (λ (p : ProcessorBack). p.slow) b.processors) (pushes t.taken)) (sym so.taker) h.requests)

  have_ended : HaveEnded R w closed
  have_ended = record {
    receiver_count = pairs_long (IsReceiverOf c) 0 xs b.receivers rs ∙ h.receiver_count;
    processor_count = pairs_long (IsProcessorOf c) 0 ps b.processors pr ∙ h.processor_count;
    forwarder_count = pairs_long (IsForwarderOf shows) 0 fs b.forwarders fo ∙ h.forwarder_count;
    receivers = λ p r at. (left (IsReceiverOf c) xs b.receivers rs p r at).1.1.law;
    processors = λ i p at. (left (IsProcessorOf c) ps b.processors pr i p at).1.1.law;
    slow = so.law;
    forwarders = λ l f at. (left (IsForwarderOf shows) fs b.forwarders fo l f at).1.1.law.order;
    packets = packets;
    requests = requests;
    egress_packets = egress_packets;
    controller_count = h.controller_count;
    controller = h.marks;
    closes = h.closes;
    processors_close_none = λ i j p s at got. let q = left (IsProcessorOf c) ps b.processors pr i p at in h.processors_close_none i j q.0 s q.1.0 (ap (λ (l : List (Sender (Outgoing kinds))). slice_get l j) (sym q.1.1.links) ∙ got);
    slow_closes_none = λ j s got. h.slow_closes_none j s (ap (λ (l : List (Sender (Outgoing kinds))). slice_get l j) (sym so.links) ∙ got);
  }

  theirs : AreWorkersOf shows c w b
  theirs = record { receivers = rs; processors = pr; slow = so; forwarders = fo; controller = refl }

  -- ---- what arrives stands on its link

  arrives : LinksStandInOrder → (x : Arrival kinds) → IsTold (views_of R w) x → Arrives c x
  arrives links x is = go (cases_lt x.link (length xs))
    where
      go : (x.link < length xs) ⊎ (length xs ≤ x.link) → Arrives c x
      go (inr ge) = absurd (subst (λ (l : List (Deed Cause (Arrival kinds))). In x (done_items l)) (read_past (λ (r : Receiver kinds). r.log) xs x.link ge) is)
      go (inl lt) =
          let r = there xs x.link lt in
          let q = left (IsReceiverOf c) xs b.receivers rs x.link r.0 r.1 in
          let mine = subst (λ (l : List (Deed Cause (Arrival kinds))). In x (done_items l)) (read_is (λ (r : Receiver kinds). r.log) xs x.link r.0 r.1) is in
          let here = in_each (λ y. y.datagram.interface ≡ interface_at c x.link) r.0.log x q.1.1.stands mine in
          let below : x.link < link_count c = let n = pairs_long (IsReceiverOf c) 0 xs b.receivers rs in let m = h.receiver_count in omega arith in
          (ap (link_index c) here ∙ (links c).numbered x.link below, below)

  lawful_told : AreLawful → LinksStandInOrder → IsLawful R (IsTold (views_of R w))
  lawful_told rules_are links =
      let l = rules_are c in
      record {
        processors = l.processors;
        keys = l.keys;
        faults = λ x why at is. l.faults x why (arrives links x at) is;
        sends = λ x k y at is. l.sends x k y (arrives links x at) is;
        replies = λ x p k y at asks is. l.replies x p k y (arrives links x at) asks is;
        bands = λ x k y at is. l.bands x k y (arrives links x at) is;
      }

  -- ---- shares

  counted_front : {X Y : Type 0} (share : Y → Held) (raised : X → List (Count kinds)) (Q : ℕ → X → Y → Type 0) → ((n : ℕ) (x : X) (y : Y) → Q n x y → Counts (share y) (raised x)) → (n : ℕ) (us : List X) (vs : List Y) → Pairs Q n us vs
      → (shares : List Held) (rest : List (List (Count kinds))) → AreCounted shares rest → AreCounted (map share vs ++ shares) (map raised us ++ rest)
  counted_front share raised Q each n [] [] p shares rest all = all
  counted_front share raised Q each n [] (v ∷ vs) p shares rest all = absurd p
  counted_front share raised Q each n (u ∷ us) [] p shares rest all = absurd p
  counted_front share raised Q each n (u ∷ us) (v ∷ vs) p shares rest all = (each n u v p.0, counted_front share raised Q each (n + 1) us vs p.1 shares rest all)

  counted_last : {X Y : Type 0} (share : Y → Held) (raised : X → List (Count kinds)) (Q : ℕ → X → Y → Type 0) → ((n : ℕ) (x : X) (y : Y) → Q n x y → Counts (share y) (raised x)) → (n : ℕ) (us : List X) (vs : List Y) → Pairs Q n us vs → AreCounted (map share vs) (map raised us)
  counted_last share raised Q each n [] [] p = tt
  counted_last share raised Q each n [] (v ∷ vs) p = absurd p
  counted_last share raised Q each n (u ∷ us) [] p = absurd p
  counted_last share raised Q each n (u ∷ us) (v ∷ vs) p = (each n u v p.0, counted_last share raised Q each (n + 1) us vs p.1)

  counted : AreCounted (shares_of b) (all_raised R w)
  counted =
      counted_front (λ (r : ReceiverBack). r.share) (λ (r : Receiver kinds). counted_receiving {K = kinds} r.log) (IsReceiverOf c) (λ n x r is. is.counts) 0 xs b.receivers rs _ _
      (counted_front (λ (p : ProcessorBack). p.share) (λ (p : Processor kinds). counted_working R p.log) (IsProcessorOf c) (λ n x p is. is.counts) 0 ps b.processors pr _ _
      (so.counts, counted_last (λ (f : ForwarderBack T). f.share) (λ (f : Forwarder kinds). counted_forwarding f.went (pushes f.low.taken) (pushes f.high.taken)) (IsForwarderOf shows) (λ n x f is. is.counts) 0 fs b.forwarders fo))

  -- ---- all of it

  went_is : (l : ℕ) (f : ForwarderBack T) → slice_get b.forwarders l ≡ Some f → (x : Forwarder kinds) × ((went_at w l ≡ x.went) × IsForwarderOf shows l x f)
  went_is l f at = let x = right (IsForwarderOf shows) fs b.forwarders fo l f at in (x.0, (read_is (λ (f : Forwarder kinds). f.went) fs l x.0 x.1.0, x.1.1))

  received_is : (a : ℕ) (r : ReceiverBack) → slice_get b.receivers a ≡ Some r → (x : Receiver kinds) × (((views_of R w).received a ≡ x.log) × IsReceiverOf c a x r)
  received_is a r at = let x = right (IsReceiverOf c) xs b.receivers rs a r at in (x.0, (read_is (λ (r : Receiver kinds). r.log) xs a x.0 x.1.0, x.1.1))

  pub has_run : AreLawful → LinksStandInOrder → CausesAreApart → WorkersHaveRun shows c b closed
  has_run rules_are links causes =
      let v = views_of R w in
      let s = slow_views R w in
      let went : ℕ → List (Handed kinds) = went_at w in
      let lawful = lawful_told rules_are links in
      let e : Ended R v s went closed = composes kinds R w closed have_ended in
      let reasons = gives_reasons kinds R v s went closed lawful e in
      record {
        workers = w;
        theirs = theirs;
        lawful = lawful;
        keeps = e;
        ended = ends kinds R v s went closed lawful e;
        once = stands_each kinds R v s went closed lawful e;
        reasons = reasons;
        bands = merges_bands kinds R v s went closed lawful e;
        totals = has_totals c v s causes reasons went (counts_each_cause kinds R v s went closed lawful e) (shares_of b) (all_raised R w) counted (adds_up kinds R w closed have_ended);
        sources = λ a r at hs is. let x = received_is a r at in x.1.1.tells hs is ∙ ap (λ (l : List (Deed Cause (Arrival kinds))). done_items l) (sym x.1.0);
        sinks = λ l f at ts is. let x = went_is l f at in x.1.1.law.tells ts is ∙ ap (λ (hs : List (Handed kinds)). map shows hs) (sym x.1.0);
        failed = λ l f at. let x = went_is l f at in x.1.1.law.failures ∙ ap (λ (hs : List (Handed kinds)). f.began + refusals_of hs) (sym x.1.0);
        sent = λ l f at. let x = went_is l f at in forwarded_is f.share x.0.went (pushes x.0.low.taken) (pushes x.0.high.taken) x.1.1.counts ∙ ap (λ (hs : List (Handed kinds)). count (λ (h : Handed kinds). h.took) hs) (sym x.1.0);
        looks = λ a r at. let x = received_is a r at in ap (λ (l : List (Deed Cause (Arrival kinds))). lacks l) x.1.0 ∙ x.1.1.lacked;
      }

pub runs_as_told : {T : Type 0} → AreLawful → LinksStandInOrder → CausesAreApart → RunsAsTold T
runs_as_told rules_are links causes shows c b closed h =
    let rs = choose (IsReceiverOf c) (IsBackReceiver c) (receiver_of c) 0 b.receivers h.receivers in
    let ps = choose (IsProcessorOf c) (IsBackProcessor c) (processor_of c) 0 b.processors h.processors in
    let fs = choose (IsForwarderOf shows) (IsBackForwarder shows) (forwarder_of shows) 0 b.forwarders h.forwarders in
    let sl : SlowPath kinds = record { log = h.slow.0.log; taker = b.slow.taker; links = b.slow.links } in
    has_run shows c b closed h rs.0 ps.0 sl fs.0 rs.1 ps.1 (record { taker = refl; links = refl; law = (h.slow.0.law, h.slow.1); counts = h.slow.0.counts }) fs.1 rules_are links causes
