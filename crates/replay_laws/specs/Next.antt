-- Which steps are possible, and what they do.
use Rattle.std.specs.Prelude.{ℕ, Bool, true, false, ◌&&◌, ◌||◌, not, ◌==◌, ◌+◌, nat_lt, if◌then◌else◌, List, slice_set, Option, Some, None}
use Rattle.order_laws.specs.Kinds.{Kinds}
use Rattle.order_laws.specs.Item.{Arrival, Item, Arrived, Packet, Request, Out, Close, End}
use Rattle.replay_laws.specs.Marks.{ends}
use Rattle.replay_laws.specs.Worker.{Worker, Receiver, Processor, Slow, Forwarder, Controller, Queue, Of, High, consumer}
use Rattle.replay_laws.specs.Pipe.{gone, front, has_room, pushed, one_taken, refused, refusal_of, is_marked, is_shut, has_end_of}
use Rattle.order_laws.specs.Rules.{Rules, Decision, Sends, Asks, Drops, Reply, Replies, Withholds}
use Rattle.replay_laws.specs.World.{World, Hand, Empty, Got, Owes, seat_of, has_worker, pipe_of, has_queue, hand, pipe, has_looked, with_hand, with_pipe, with_looks, with_fate, sent_with}
use Rattle.order_laws.specs.Cause.{Cause}
use Rattle.order_laws.specs.Pipes.{slow_seat, link_pipe, home}
use Rattle.replay_laws.specs.Step.{Step}

-- Which worker feeds which pipe: receivers the processors', these the slow path's and the links', the slow path and the
-- controller the links'.

abbrev pub is_out : Queue → Bool
is_out (Of (Forwarder l)) = true
is_out (High l) = true
is_out (Of (Receiver a)) = false
is_out (Of (Processor i)) = false
is_out (Of Slow) = false
is_out (Of Controller) = false

abbrev pub is_processor : Queue → Bool
is_processor (Of (Processor i)) = true
is_processor (High l) = false
is_processor (Of (Receiver a)) = false
is_processor (Of (Forwarder l)) = false
is_processor (Of Slow) = false
is_processor (Of Controller) = false

abbrev pub is_slow : Queue → Bool
is_slow (Of Slow) = true
is_slow (High l) = false
is_slow (Of (Receiver a)) = false
is_slow (Of (Forwarder l)) = false
is_slow (Of (Processor i)) = false
is_slow (Of Controller) = false

abbrev pub feeds : Worker → Queue → Bool
feeds (Receiver a) q = is_processor q
feeds (Processor i) q = is_slow q || is_out q
feeds Slow q = is_out q
feeds (Forwarder l) q = false
feeds Controller q = is_out q

-- a note that the high pipe was seen empty is used up by the next take or sweep of its link
abbrev pub forgotten : Queue → List Bool → List Bool
forgotten (High l) ls = slice_set ls l false
forgotten (Of (Forwarder l)) ls = slice_set ls l false
forgotten (Of (Receiver a)) ls = ls
forgotten (Of (Processor i)) ls = ls
forgotten (Of Slow) ls = ls
forgotten (Of Controller) ls = ls

-- What a worker makes of an item: another item, or the end of it.
pub data Outcome (K : Kinds) : Type 0 where
  Makes : Item K → Outcome K
  Ends : Cause K → Outcome K

module _ {K : Kinds} where
  abbrev pub decided : Arrival K → Decision K → Outcome K
  decided x (Sends l y) = Makes (Out (record { arrived = x.link; number = x.number; answer = false; link = l; parcel = y }))
  decided x (Asks p) = Makes (Request x p)
  decided x (Drops c) = Ends (Cause.Ruled c)

  abbrev pub replied : Arrival K → Reply K → Outcome K
  replied x (Replies l y) = Makes (Out (record { arrived = x.link; number = x.number; answer = true; link = l; parcel = y }))
  replied x (Withholds c) = Ends (Cause.Ruled c)

  -- the cause of a refusal
  abbrev pub full_of : Item K → Cause K
  full_of (Arrived x) = Cause.ProcessorFull
  full_of (Packet x) = Cause.ProcessorFull
  full_of (Request x p) = Cause.AnswerFull
  full_of (Out o) = Cause.LinkFull
  full_of Close = Cause.LinkFull
  full_of End = Cause.LinkFull

  -- What a step does where it is possible.

  -- offer and refuse: what the hand owes goes to its home, or is noted there
  abbrev pub offered : World K → Worker → ℕ → ℕ → Item K → World K
  offered w from j q x = with_hand (with_pipe w q (pushed (pipe w q) from x)) j Empty

  abbrev pub turned_away : World K → ℕ → ℕ → Item K → World K
  turned_away w j q x = with_fate (with_hand (with_pipe w q (refused (pipe w q) (refusal_of x (pipe w q)))) j Empty) x (full_of x)

  -- a mark that is taken leaves the hand empty
  abbrev pub hand_after : Item K → Hand K
  hand_after (Arrived x) = Got (Arrived x)
  hand_after (Packet x) = Got (Packet x)
  hand_after (Request x p) = Got (Request x p)
  hand_after (Out o) = Got (Out o)
  hand_after Close = Empty
  hand_after End = Empty

  -- the front of pipe q is taken, and the hand of seat j is h
  abbrev pub taken_from : World K → ℕ → ℕ → Hand K → World K
  taken_from w q j h = with_hand (with_pipe w q (one_taken (pipe w q))) j h

  -- a receiver drops a faulty arrival, and owes any other to a processor
  abbrev pub received : World K → ℕ → Arrival K → Option K.RuleCause → World K
  received w a x None = taken_from w a a (Owes (Packet x))
  received w a x (Some c) = with_fate (taken_from w a a Empty) (Arrived x) (Cause.Ruled c)

  abbrev pub ended : World K → ℕ → Item K → Outcome K → World K
  ended w j x (Makes y) = with_hand w j (Owes y)
  ended w j x (Ends c) = with_fate (with_hand w j Empty) x c

  abbrev pub forgets : World K → Queue → World K
  forgets w q = with_looks w (forgotten q w.looks)

  -- Where a step is possible.

  abbrev pub guarded : Bool → Option (World K) → Option (World K)
  guarded b o = if b then o else None

  -- the lower pipe of a link with two bands needs the note
  abbrev pub may_take : Rules K → World K → Queue → Bool
  may_take R w (Of (Forwarder l)) = not (R.two_bands l) || has_looked w l
  may_take R w (High l) = true
  may_take R w (Of (Receiver a)) = true
  may_take R w (Of (Processor i)) = true
  may_take R w (Of Slow) = true
  may_take R w (Of Controller) = true

  abbrev pub is_some : Option (Item K) → Bool
  is_some (Some x) = true
  is_some None = false

  abbrev pub is_free : Hand K → Bool
  is_free Empty = true
  is_free _ = false

  -- the worker will push nothing but its end marks: a receiver has no arrival left, a processor took the end marks of all
  -- receivers, the slow path those of all processors
  abbrev pub is_over : Rules K → World K → Worker → Bool
  is_over R w (Receiver a) = not (is_some (front (pipe w a)))
  is_over R w (Processor i) = ends (gone (pipe w (R.links + i))) == R.links
  is_over R w Slow = ends (gone (pipe w (slow_seat R))) == R.processors
  is_over R w (Forwarder l) = false
  is_over R w Controller = true

  abbrev pub may_end : Rules K → World K → Worker → Queue → Bool
  may_end R w W q = is_over R w W && (is_free (hand w (seat_of R W)) && (not (has_end_of W (pipe w (pipe_of R q))) && has_room (pipe w (pipe_of R q))))

  abbrev pub may_close : Rules K → World K → Queue → Bool
  may_close R w q = not (is_marked (pipe w (pipe_of R q))) && (not (has_end_of Controller (pipe w (pipe_of R q))) && has_room (pipe w (pipe_of R q)))

  abbrev pub next_receive : Rules K → World K → ℕ → Hand K → Option (Item K) → Option (World K)
  next_receive R w a Empty (Some (Arrived x)) = Some (received w a x (R.inspect x))
  next_receive R w a _ _ = None

  abbrev pub next_no_buffer : World K → ℕ → Hand K → Option (World K)
  next_no_buffer w a (Owes x) = Some (with_fate (with_hand w a Empty) x Cause.NoBuffer)
  next_no_buffer w a _ = None

  abbrev pub next_offer : Rules K → World K → Worker → ℕ → Hand K → Option (World K)
  next_offer R w W j (Owes x) = guarded (has_room (pipe w (home R x))) (Some (offered w W j (home R x) x))
  next_offer R w W j _ = None

  abbrev pub next_refuse : Rules K → World K → ℕ → Hand K → Option (World K)
  next_refuse R w j (Owes x) = guarded (not (has_room (pipe w (home R x)))) (Some (turned_away w j (home R x) x))
  next_refuse R w j _ = None

  abbrev pub next_take : World K → ℕ → ℕ → Hand K → Option (Item K) → Option (World K)
  next_take w q j Empty (Some x) = Some (taken_from w q j (hand_after x))
  next_take w q j _ _ = None

  abbrev pub next_look : World K → ℕ → Hand K → Option (Item K) → Option (World K)
  next_look w l Empty None = Some (with_looks w (slice_set w.looks l true))
  next_look w l _ _ = None

  abbrev pub next_route : Rules K → World K → ℕ → Hand K → Option (World K)
  next_route R w j (Got (Packet x)) = Some (ended w j (Packet x) (decided x (R.decide x)))
  next_route R w j _ = None

  abbrev pub next_answer : Rules K → World K → ℕ → Hand K → Option (World K)
  next_answer R w j (Got (Request x p)) = Some (ended w j (Request x p) (replied x (R.reply x p)))
  next_answer R w j _ = None

  -- want of memory, for a packet or a problem in hand
  abbrev pub next_lack : World K → ℕ → Worker → Hand K → Option (World K)
  next_lack w j (Processor i) (Got (Packet x)) = Some (with_fate (with_hand w j Empty) (Packet x) Cause.NoMemory)
  next_lack w j Slow (Got (Request x p)) = Some (with_fate (with_hand w j Empty) (Request x p) Cause.NoMemory)
  next_lack w j _ _ = None

  abbrev pub next_send : World K → ℕ → ℕ → Bool → Hand K → Option (World K)
  next_send w l j true (Got (Out o)) = Some (sent_with (with_hand w j Empty) l o)
  next_send w l j false (Got (Out o)) = Some (with_fate (with_hand w j Empty) (Out o) Cause.SendFailed)
  next_send w l j _ _ = None

  abbrev pub next_sweep : World K → ℕ → ℕ → Hand K → Option (Item K) → Option (World K)
  next_sweep w q j Empty (Some x) = Some (with_fate (taken_from w q j Empty) x Cause.Closed)
  next_sweep w q j _ _ = None

  -- The world after a step, or None where the step isn't possible.
  abbrev pub next : Rules K → World K → Step → Option (World K)
  next R w (Step.Receive a) = guarded (nat_lt a R.links) (next_receive R w a (hand w a) (front (pipe w a)))
  next R w (Step.NoBuffer a) = guarded (nat_lt a R.links) (next_no_buffer w a (hand w a))
  next R w (Step.Offer W) = guarded (has_worker R W) (next_offer R w W (seat_of R W) (hand w (seat_of R W)))
  next R w (Step.Refuse W) = guarded (has_worker R W) (next_refuse R w (seat_of R W) (hand w (seat_of R W)))
  next R w (Step.Take q) =
      guarded (has_queue R q && (may_take R w q && not (is_shut (pipe w (pipe_of R q)))))
      (next_take (forgets w q) (pipe_of R q) (seat_of R (consumer q)) (hand w (seat_of R (consumer q))) (front (pipe w (pipe_of R q))))
  next R w (Step.Look l) = guarded (has_queue R (High l)) (next_look w l (hand w (seat_of R (Forwarder l))) (front (pipe w (link_pipe R true l))))
  next R w (Step.Route i) = guarded (nat_lt i R.processors) (next_route R w (R.links + i) (hand w (R.links + i)))
  next R w Step.Answer = next_answer R w (slow_seat R) (hand w (slow_seat R))
  next R w (Step.Lack W) = guarded (has_worker R W) (next_lack w (seat_of R W) W (hand w (seat_of R W)))
  next R w (Step.Close q) = guarded (has_queue R q && (is_out q && may_close R w q)) (Some (with_pipe w (pipe_of R q) (pushed (pipe w (pipe_of R q)) Controller Close)))
  next R w (Step.End W q) = guarded (has_worker R W && (has_queue R q && (feeds W q && may_end R w W q))) (Some (with_pipe w (pipe_of R q) (pushed (pipe w (pipe_of R q)) W End)))
  next R w (Step.Send l ok) = guarded (nat_lt l R.links) (next_send w l (seat_of R (Forwarder l)) ok (hand w (seat_of R (Forwarder l))))
  next R w (Step.Sweep q) =
      guarded (has_queue R q && (is_out q && (may_take R w q && is_shut (pipe w (pipe_of R q)))))
      (next_sweep (forgets w q) (pipe_of R q) (seat_of R (consumer q)) (hand w (seat_of R (consumer q))) (front (pipe w (pipe_of R q))))
