-- A possible step is one of these moves, each with what it needs.
use Rattle.std.proofs.Common.{◌≡◌, ◌⊎◌, inl, inr, ℕ, Bool, true, false, not, ◌&&◌, ◌+◌, ◌<◌, ◌≤◌, List, refl, subst, ltb-true, arith}
use Rattle.std.specs.Prelude.{Option, Some, None, slice_set, nat_lt}
use Rattle.std.proofs.lemmas.Bool.{and_parts, not-true}
use Rattle.order_laws.specs.Item.{Arrival, Arrived, Request, Close, End, Item, Out, Outgoing, Packet}
use Rattle.order_laws.specs.Kinds.{Kinds}
use Rattle.replay_laws.specs.Next.{decided, replied, Outcome, ended, feeds, forgotten, guarded, hand_after, is_free, is_out, is_over, may_close, may_end, next, next_answer, next_lack, next_look, next_no_buffer, next_offer, next_receive, next_refuse, next_route, next_send, next_sweep, next_take, offered, received, taken_from, turned_away}
use Rattle.replay_laws.specs.Pipe.{front, has_end_of, has_room, is_marked, is_shut, pushed}
use Rattle.order_laws.specs.Rules.{Rules}
use Rattle.replay_laws.specs.Step.{Step}
use Rattle.replay_laws.specs.Worker.{Controller, Forwarder, High, Of, Processor, Queue, Receiver, Slow, Worker, consumer}
use Rattle.order_laws.specs.Pipes.{link_pipe, home, slow_seat}
use Rattle.order_laws.specs.Cause.{Cause}
use Rattle.replay_laws.specs.World.{Empty, Got, Hand, Owes, World, hand, has_queue, pipe, pipe_of, seat_count, seat_of, sent_with, with_fate, with_hand, with_looks, with_pipe}

pub data Act : Type 0 where
  Took : ℕ → Act
  Swept : ℕ → Act
  Other : Act

module _ {K : Kinds} where
  -- what Route and Answer make of an item
  abbrev pub work : Rules K → Item K → Option (Outcome K)
  work R (Packet x) = Some (decided x (R.decide x))
  work R (Request x n) = Some (replied x (R.reply x n))
  work R (Arrived x) = None
  work R (Out o) = None
  work R Close = None
  work R End = None

  abbrev pub is_work : Item K → Bool
  is_work (Packet x) = true
  is_work (Request x n) = true
  is_work (Arrived x) = false
  is_work (Out o) = false
  is_work Close = false
  is_work End = false

  abbrev pub is_mark : Item K → Bool
  is_mark Close = true
  is_mark End = true
  is_mark (Arrived x) = false
  is_mark (Packet x) = false
  is_mark (Request x n) = false
  is_mark (Out o) = false

  -- a link's forwarder and one of its pipes
  abbrev pub OfLink : Rules K → ℕ → ℕ → Type 0
  OfLink R q j = (l : ℕ) × (b : Bool) × (q ≡ link_pipe R b l) × (j ≡ slow_seat R + 1 + l)

  -- the seat takes from the pipe: its own, or a forwarder from one of a link
  abbrev pub Serves : Rules K → ℕ → ℕ → Type 0
  Serves R q j = ((j ≡ q) × (j ≤ slow_seat R)) ⊎ ((slow_seat R < j) × (slow_seat R < q) × (j < seat_count R) × OfLink R q j)

  pub data Move (R : Rules K) (w : World K) : World K → Type 0 where
    Receives : (a : ℕ) (x : Arrival K) (c : Option K.RuleCause) → a < R.links → hand w a ≡ Empty → front (pipe w a) ≡ Some (Arrived x) → R.inspect x ≡ c → Move R w (received w a x c)
    Starves : (a : ℕ) (x : Item K) → hand w a ≡ Owes x → Move R w (with_fate (with_hand w a Empty) x Cause.NoBuffer)
    Offers : (from : Worker) (j : ℕ) (x : Item K) → hand w j ≡ Owes x → has_room (pipe w (home R x)) ≡ true → Move R w (offered w from j (home R x) x)
    Refuses : (j : ℕ) (x : Item K) → hand w j ≡ Owes x → has_room (pipe w (home R x)) ≡ false → Move R w (turned_away w j (home R x) x)
    Takes : (q j : ℕ) (x : Item K) (ls : List Bool) → Serves R q j → R.links ≤ q → is_shut (pipe w q) ≡ false → hand w j ≡ Empty → front (pipe w q) ≡ Some x → Move R w (taken_from (with_looks w ls) q j (hand_after x))
    Looks : (ls : List Bool) → Move R w (with_looks w ls)
    Works : (j : ℕ) (x : Item K) (e : Outcome K) → hand w j ≡ Got x → work R x ≡ Some e → Move R w (ended w j x e)
    Lacks : (j : ℕ) (x : Item K) → hand w j ≡ Got x → is_work x ≡ true → Move R w (with_fate (with_hand w j Empty) x Cause.NoMemory)
    Marks : (q : ℕ) (from : Worker) (x : Item K) → R.links ≤ q → is_mark x ≡ true → has_room (pipe w q) ≡ true → Move R w (with_pipe w q (pushed (pipe w q) from x))
    Sends : (l j : ℕ) (o : Outgoing K) → l < R.links → j ≡ slow_seat R + 1 + l → hand w j ≡ Got (Out o) → Move R w (sent_with (with_hand w j Empty) l o)
    Fails : (j : ℕ) (o : Outgoing K) → hand w j ≡ Got (Out o) → Move R w (with_fate (with_hand w j Empty) (Out o) Cause.SendFailed)
    Sweeps : (q j : ℕ) (x : Item K) (ls : List Bool) → Serves R q j → slow_seat R < q → is_shut (pipe w q) ≡ true → hand w j ≡ Empty → front (pipe w q) ≡ Some x → Move R w (with_fate (taken_from (with_looks w ls) q j Empty) x Cause.Closed)

  -- which of them take from a pipe, and from which
  abbrev pub act : {R : Rules K} {w v : World K} → Move R w v → Act
  act (Receives a x c i h f q) = Other
  act (Starves a x h) = Other
  act (Offers from j x h r) = Other
  act (Refuses j x h r) = Other
  act (Takes q j x ls s i u h f) = Took q
  act (Looks ls) = Other
  act (Works j x e h k) = Other
  act (Lacks j x h k) = Other
  act (Marks q from x i m r) = Other
  act (Sends l j o i s h) = Other
  act (Fails j o h) = Other
  act (Sweeps q j x ls s i u h f) = Swept q

  abbrev pub act_of : Rules K → Step → Act
  act_of R (Step.Take q) = Took (pipe_of R q)
  act_of R (Step.Sweep q) = Swept (pipe_of R q)
  act_of R _ = Other

  -- a guard that let something through held
  guarded-some : (b : Bool) (o : Option (World K)) (v : World K) → guarded b o ≡ Some v → (b ≡ true) × (o ≡ Some v)
  guarded-some true o v e = (refl, e)
  guarded-some false o v e = cc

  module _ (R : Rules K) where
    serves : (q : Queue) → has_queue R q ≡ true → Serves R (pipe_of R q) (seat_of R (consumer q))
    serves (Of (Receiver a)) h = cc
    serves (Of (Processor i)) h = let k = ltb-true _ _ h in inl (refl, omega arith)
    serves (Of Slow) h = inl (refl, omega arith)
    serves (Of (Forwarder l)) h = let k = ltb-true _ _ h in inr (omega arith, omega arith, omega arith, (l, false, refl, refl))
    serves (Of Controller) h = cc
    serves (High l) h = let k : l < R.links = ltb-true l R.links (and_parts (nat_lt l R.links) (R.two_bands l) h).0 in inr (omega arith, omega arith, omega arith, (l, true, refl, refl))

    inner : (q : Queue) → has_queue R q ≡ true → R.links ≤ pipe_of R q
    inner (Of (Receiver a)) h = cc
    inner (Of (Processor i)) h = omega arith
    inner (Of Slow) h = omega arith
    inner (Of (Forwarder l)) h = omega arith
    inner (Of Controller) h = cc
    inner (High l) h = omega arith

    outer : (q : Queue) → is_out q ≡ true → slow_seat R < pipe_of R q
    outer (Of (Receiver a)) h = cc
    outer (Of (Processor i)) h = cc
    outer (Of Slow) h = cc
    outer (Of (Forwarder l)) h = omega arith
    outer (Of Controller) h = cc
    outer (High l) h = omega arith

  module _ (R : Rules K) (w v : World K) where
    Done : Act → Type 0
    Done c = (m : Move R w v) × (act m ≡ c)

    to : (u : World K) (m : Move R w u) → u ≡ v → Done (act m)
    unfolding Done
    to u m e = let P : World K → Type 0 = λ z. (n : Move R w z) × (act n ≡ act m) in subst P e (m, refl)

    same_some : (u : World K) → Some u ≡ Some v → u ≡ v
    same_some u e = cc

    receive_moves : (a : ℕ) → a < R.links → (h : Hand K) (o : Option (Item K)) → hand w a ≡ h → front (pipe w a) ≡ o → next_receive R w a h o ≡ Some v → Done Other
    receive_moves a i Empty (Some (Arrived x)) h f e = to _ (Receives a x _ i h f refl) (same_some _ e)
    receive_moves a i Empty None h f e = cc
    receive_moves a i Empty (Some (Packet x)) h f e = cc
    receive_moves a i Empty (Some (Request x n)) h f e = cc
    receive_moves a i Empty (Some (Out o)) h f e = cc
    receive_moves a i Empty (Some Close) h f e = cc
    receive_moves a i Empty (Some End) h f e = cc
    receive_moves a i (Got x) o h f e = cc
    receive_moves a i (Owes x) o h f e = cc

    no_buffer_moves : (a : ℕ) (h : Hand K) → hand w a ≡ h → next_no_buffer w a h ≡ Some v → Done Other
    no_buffer_moves a Empty h e = cc
    no_buffer_moves a (Got x) h e = cc
    no_buffer_moves a (Owes x) h e = to _ (Starves a x h) (same_some _ e)

    offer_moves : (W : Worker) (j : ℕ) (h : Hand K) → hand w j ≡ h → next_offer R w W j h ≡ Some v → Done Other
    offer_moves W j Empty h e = cc
    offer_moves W j (Got x) h e = cc
    offer_moves W j (Owes x) h e = let g = guarded-some _ _ _ e in to _ (Offers W j x h g.0) (same_some _ g.1)

    refuse_moves : (j : ℕ) (h : Hand K) → hand w j ≡ h → next_refuse R w j h ≡ Some v → Done Other
    refuse_moves j Empty h e = cc
    refuse_moves j (Got x) h e = cc
    refuse_moves j (Owes x) h e = let g = guarded-some _ _ _ e in to _ (Refuses j x h (not-true _ g.0)) (same_some _ g.1)

    take_moves : (q j : ℕ) (ls : List Bool) → Serves R q j → R.links ≤ q → is_shut (pipe w q) ≡ false → (h : Hand K) (o : Option (Item K)) → hand w j ≡ h → front (pipe w q) ≡ o → next_take (with_looks w ls) q j h o ≡ Some v → Done (Took q)
    take_moves q j ls s i u Empty (Some x) h f e = to _ (Takes q j x ls s i u h f) (same_some _ e)
    take_moves q j ls s i u Empty None h f e = cc
    take_moves q j ls s i u (Got x) o h f e = cc
    take_moves q j ls s i u (Owes x) o h f e = cc

    look_moves : (l : ℕ) (h : Hand K) (o : Option (Item K)) → next_look w l h o ≡ Some v → Done Other
    look_moves l Empty None e = to _ (Looks (slice_set w.looks l true)) (same_some _ e)
    look_moves l Empty (Some x) e = cc
    look_moves l (Got x) o e = cc
    look_moves l (Owes x) o e = cc

    route_moves : (j : ℕ) (h : Hand K) → hand w j ≡ h → next_route R w j h ≡ Some v → Done Other
    route_moves j (Got (Packet x)) h e = to _ (Works j (Packet x) _ h refl) (same_some _ e)
    route_moves j (Got (Arrived x)) h e = cc
    route_moves j (Got (Request x n)) h e = cc
    route_moves j (Got (Out o)) h e = cc
    route_moves j (Got Close) h e = cc
    route_moves j (Got End) h e = cc
    route_moves j Empty h e = cc
    route_moves j (Owes x) h e = cc

    answer_moves : (j : ℕ) (h : Hand K) → hand w j ≡ h → next_answer R w j h ≡ Some v → Done Other
    answer_moves j (Got (Request x n)) h e = to _ (Works j (Request x n) _ h refl) (same_some _ e)
    answer_moves j (Got (Arrived x)) h e = cc
    answer_moves j (Got (Packet x)) h e = cc
    answer_moves j (Got (Out o)) h e = cc
    answer_moves j (Got Close) h e = cc
    answer_moves j (Got End) h e = cc
    answer_moves j Empty h e = cc
    answer_moves j (Owes x) h e = cc

    lack_moves : (j : ℕ) (W : Worker) (h : Hand K) → hand w j ≡ h → next_lack w j W h ≡ Some v → Done Other
    lack_moves j (Processor i) (Got (Packet x)) h e = to _ (Lacks j (Packet x) h refl) (same_some _ e)
    lack_moves j Slow (Got (Request x n)) h e = to _ (Lacks j (Request x n) h refl) (same_some _ e)
    lack_moves j (Processor i) (Got (Arrived x)) h e = cc
    lack_moves j (Processor i) (Got (Request x n)) h e = cc
    lack_moves j (Processor i) (Got (Out o)) h e = cc
    lack_moves j (Processor i) (Got Close) h e = cc
    lack_moves j (Processor i) (Got End) h e = cc
    lack_moves j (Processor i) Empty h e = cc
    lack_moves j (Processor i) (Owes x) h e = cc
    lack_moves j Slow (Got (Arrived x)) h e = cc
    lack_moves j Slow (Got (Packet x)) h e = cc
    lack_moves j Slow (Got (Out o)) h e = cc
    lack_moves j Slow (Got Close) h e = cc
    lack_moves j Slow (Got End) h e = cc
    lack_moves j Slow Empty h e = cc
    lack_moves j Slow (Owes x) h e = cc
    lack_moves j (Receiver a) g h e = cc
    lack_moves j (Forwarder l) g h e = cc
    lack_moves j Controller g h e = cc

    send_moves : (l j : ℕ) → l < R.links → j ≡ slow_seat R + 1 + l → (ok : Bool) (h : Hand K) → hand w j ≡ h → next_send w l j ok h ≡ Some v → Done Other
    send_moves l j i s true (Got (Out o)) h e = to _ (Sends l j o i s h) (same_some _ e)
    send_moves l j i s false (Got (Out o)) h e = to _ (Fails j o h) (same_some _ e)
    send_moves l j i s true (Got (Arrived a)) h e = cc
    send_moves l j i s true (Got (Packet a)) h e = cc
    send_moves l j i s true (Got (Request a n)) h e = cc
    send_moves l j i s true (Got Close) h e = cc
    send_moves l j i s true (Got End) h e = cc
    send_moves l j i s false (Got (Arrived a)) h e = cc
    send_moves l j i s false (Got (Packet a)) h e = cc
    send_moves l j i s false (Got (Request a n)) h e = cc
    send_moves l j i s false (Got Close) h e = cc
    send_moves l j i s false (Got End) h e = cc
    send_moves l j i s true Empty h e = cc
    send_moves l j i s true (Owes x) h e = cc
    send_moves l j i s false Empty h e = cc
    send_moves l j i s false (Owes x) h e = cc

    sweep_moves : (q j : ℕ) (ls : List Bool) → Serves R q j → slow_seat R < q → is_shut (pipe w q) ≡ true → (h : Hand K) (o : Option (Item K)) → hand w j ≡ h → front (pipe w q) ≡ o → next_sweep (with_looks w ls) q j h o ≡ Some v → Done (Swept q)
    sweep_moves q j ls s i u Empty (Some x) h f e = to _ (Sweeps q j x ls s i u h f) (same_some _ e)
    sweep_moves q j ls s i u Empty None h f e = cc
    sweep_moves q j ls s i u (Got x) o h f e = cc
    sweep_moves q j ls s i u (Owes x) o h f e = cc

    third : (b c d : Bool) → (b && (c && d)) ≡ true → d ≡ true
    third b c d h = (and_parts c d (and_parts b (c && d) h).1).1

    close_room : (q : Queue) → may_close R w q ≡ true → has_room (pipe w (pipe_of R q)) ≡ true
    close_room q h = third (not (is_marked (pipe w (pipe_of R q)))) (not (has_end_of Controller (pipe w (pipe_of R q)))) (has_room (pipe w (pipe_of R q))) h

    end_room : (W : Worker) (q : Queue) → may_end R w W q ≡ true → has_room (pipe w (pipe_of R q)) ≡ true
    end_room W q h =
        let d = and_parts (is_over R w W) (is_free (hand w (seat_of R W)) && (not (has_end_of W (pipe w (pipe_of R q))) && has_room (pipe w (pipe_of R q)))) h in
        third (is_free (hand w (seat_of R W))) (not (has_end_of W (pipe w (pipe_of R q)))) (has_room (pipe w (pipe_of R q))) d.1

    done : (s : Step) → next R w s ≡ Some v → Done (act_of R s)
    done (Step.Receive a) e = let g = guarded-some _ _ _ e in receive_moves a (ltb-true _ _ g.0) _ _ refl refl g.1
    done (Step.NoBuffer a) e = let g = guarded-some _ _ _ e in no_buffer_moves a _ refl g.1
    done (Step.Offer W) e = let g = guarded-some _ _ _ e in offer_moves W (seat_of R W) _ refl g.1
    done (Step.Refuse W) e = let g = guarded-some _ _ _ e in refuse_moves (seat_of R W) _ refl g.1
    done (Step.Take q) e =
        let g = guarded-some _ _ _ e in
        let b = and_parts _ _ g.0 in
        let c = and_parts _ _ b.1 in
        take_moves (pipe_of R q) (seat_of R (consumer q)) (forgotten q w.looks) (serves R q b.0) (inner R q b.0) (not-true _ c.1) _ _ refl refl g.1
    done (Step.Look l) e = let g = guarded-some _ _ _ e in look_moves l _ _ g.1
    done (Step.Route i) e = let g = guarded-some _ _ _ e in route_moves (R.links + i) _ refl g.1
    done Step.Answer e = answer_moves (slow_seat R) _ refl e
    done (Step.Lack W) e = let g = guarded-some _ _ _ e in lack_moves (seat_of R W) W _ refl g.1
    done (Step.Close q) e =
        let g = guarded-some _ _ _ e in
        let b = and_parts _ _ g.0 in
        let c = and_parts (is_out q) (may_close R w q) b.1 in
        to _ (Marks (pipe_of R q) Controller Close (inner R q b.0) refl (close_room q c.1)) (same_some _ g.1)
    done (Step.End W q) e =
        let g = guarded-some _ _ _ e in
        let b = and_parts _ _ g.0 in
        let c = and_parts _ _ b.1 in
        let d = and_parts (feeds W q) (may_end R w W q) c.1 in
        to _ (Marks (pipe_of R q) W End (inner R q c.0) refl (end_room W q d.1)) (same_some _ g.1)
    done (Step.Send l ok) e = let g = guarded-some _ _ _ e in send_moves l (seat_of R (Forwarder l)) (ltb-true _ _ g.0) refl ok _ refl g.1
    done (Step.Sweep q) e =
        let g = guarded-some _ _ _ e in
        let b = and_parts _ _ g.0 in
        let c = and_parts _ _ b.1 in
        let d = and_parts _ _ c.1 in
        sweep_moves (pipe_of R q) (seat_of R (consumer q)) (forgotten q w.looks) (serves R q b.0) (outer R q c.0) d.1 _ _ refl refl g.1

    pub moves : (s : Step) → next R w s ≡ Some v → Move R w v
    unfolding Done
    moves s e = (done s e).0

    pub moves-act : (s : Step) (e : next R w s ≡ Some v) → act (moves s e) ≡ act_of R s
    unfolding Done moves
    moves-act s e = (done s e).1
