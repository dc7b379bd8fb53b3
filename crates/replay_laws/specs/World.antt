-- The world of the pipeline at one moment.
use Rattle.std.specs.Prelude.{ℕ, Bool, true, false, ◌&&◌, ◌+◌, nat_lt, List, [], ◌∷◌, ◌++◌, slice_set, slice_index_or}
use Rattle.order_laws.specs.Kinds.{Kinds}
use Rattle.order_laws.specs.Item.{Outgoing, Item, Arrived, Packet, Request, Out, Close, End}
use Rattle.replay_laws.specs.Worker.{Worker, Receiver, Processor, Slow, Forwarder, Controller, Queue, Of, High}
use Rattle.replay_laws.specs.Pipe.{Pipe, empty_pipe}
use Rattle.order_laws.specs.Cause.{Cause}
use Rattle.order_laws.specs.Fate.{Fate}
use Rattle.order_laws.specs.Pipes.{slow_seat, pipe_count, link_pipe}
use Rattle.order_laws.specs.Rules.{Rules}

pub data Hand (K : Kinds) : Type 0 where
  Empty : Hand K
  Got : Item K → Hand K  -- to be worked on
  Owes : Item K → Hand K  -- to be pushed

-- A packet, or the answer to it, that ended without being sent.
pub record World (K : Kinds) : Type 0 where
  pub hands : List (Hand K)  -- of receivers, processors, the slow path, forwarders
  pub pipes : List (Pipe K)  -- arrivals of each link, processors' pipes, the slow path's, two of each link
  pub looks : List Bool  -- of each link: its high pipe was seen empty
  pub fates : List (Fate K)
  pub sent : List (List (Outgoing K))  -- of each link

module _ {K : Kinds} where
  -- Seats, the places of hands in their list: the slow path's is that of its pipe. The controller has none.

  abbrev pub seat_count : Rules K → ℕ
  seat_count R = slow_seat R + 1 + R.links

  abbrev pub seat_of : Rules K → Worker → ℕ
  seat_of R (Receiver a) = a
  seat_of R (Processor i) = R.links + i
  seat_of R Slow = slow_seat R
  seat_of R (Forwarder l) = slow_seat R + 1 + l
  seat_of R Controller = seat_count R

  abbrev pub has_worker : Rules K → Worker → Bool
  has_worker R (Receiver a) = nat_lt a R.links
  has_worker R (Processor i) = nat_lt i R.processors
  has_worker R Slow = true
  has_worker R (Forwarder l) = nat_lt l R.links
  has_worker R Controller = true

  -- Places of pipes in their list. A receiver's pipe is the list of its link's arrivals.

  abbrev pub pipe_of : Rules K → Queue → ℕ
  pipe_of R (Of (Receiver a)) = a
  pipe_of R (Of (Processor i)) = R.links + i
  pipe_of R (Of Slow) = slow_seat R
  pipe_of R (Of (Forwarder l)) = link_pipe R false l
  pipe_of R (Of Controller) = pipe_count R
  pipe_of R (High l) = link_pipe R true l

  -- a pipe that workers push to and take from
  abbrev pub has_queue : Rules K → Queue → Bool
  has_queue R (Of (Receiver a)) = false
  has_queue R (Of (Processor i)) = nat_lt i R.processors
  has_queue R (Of Slow) = true
  has_queue R (Of (Forwarder l)) = nat_lt l R.links
  has_queue R (Of Controller) = false
  has_queue R (High l) = nat_lt l R.links && R.two_bands l

  -- Reading and changing one part of a world.

  abbrev pub hand : World K → ℕ → Hand K
  hand w j = slice_index_or w.hands j Empty

  abbrev pub pipe : World K → ℕ → Pipe K
  pipe w q = slice_index_or w.pipes q (empty_pipe 0)

  abbrev pub has_looked : World K → ℕ → Bool
  has_looked w l = slice_index_or w.looks l false

  abbrev pub with_hand : World K → ℕ → Hand K → World K
  with_hand w j h = record w { hands = slice_set w.hands j h }

  abbrev pub with_pipe : World K → ℕ → Pipe K → World K
  with_pipe w q p = record w { pipes = slice_set w.pipes q p }

  abbrev pub with_looks : World K → List Bool → World K
  with_looks w ls = record w { looks = ls }

  abbrev pub sent_with : World K → ℕ → Outgoing K → World K
  sent_with w l o = record w { sent = slice_set w.sent l (slice_index_or w.sent l [] ++ o ∷ []) }

  -- the fate of a packet or its answer; a mark has none
  abbrev pub fate_of : Item K → Cause K → List (Fate K)
  fate_of (Arrived x) c = record { link = x.link; number = x.number; cause = c } ∷ []
  fate_of (Packet x) c = record { link = x.link; number = x.number; cause = c } ∷ []
  fate_of (Request x p) c = record { link = x.link; number = x.number; cause = c } ∷ []
  fate_of (Out o) c = record { link = o.arrived; number = o.number; cause = c } ∷ []
  fate_of Close c = []
  fate_of End c = []

  abbrev pub with_fate : World K → Item K → Cause K → World K
  with_fate w x c = record w { fates = w.fates ++ fate_of x c }
