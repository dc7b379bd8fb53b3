-- What a forwarder sent.
use Rattle.std.specs.Prelude.{◌≡◌, ◌<◌, ℕ, Bool, true, false, ◌&&◌, not, List, [], ◌∷◌, ◌++◌, slice_index_or}
use Rattle.std.specs.List.{flat_map, filter, list_any}
use Rattle.order_laws.specs.Kinds.{Kinds}
use Rattle.order_laws.specs.Item.{Outgoing, Item, Out, is_one}
use Rattle.replay_laws.specs.Worker.{Forwarder}
use Rattle.replay_laws.specs.Pipe.{passed}
use Rattle.order_laws.specs.Merge.{IsMerge}
use Rattle.order_laws.specs.Rules.{Rules}
use Rattle.order_laws.specs.Fate.{Fate}
use Rattle.replay_laws.specs.World.{World, Hand, Got, hand, pipe, seat_of}
use Rattle.order_laws.specs.Cause.{Cause}
use Rattle.order_laws.specs.Pipes.{link_pipe}
use Rattle.replay_laws.specs.Step.{Step}
use Rattle.replay_laws.specs.Next.{next}
use Rattle.replay_laws.specs.Run.{or_same}
use Rattle.replay_laws.specs.Start.{Reached, IsLawfulFor}
use Rattle.replay_laws.specs.Close.{took_by}

module _ {K : Kinds} where
  abbrev pub outgoing : Item K → List (Outgoing K)
  outgoing (Out o) = o ∷ []
  outgoing _ = []

  -- less marks
  abbrev pub outs : List (Item K) → List (Outgoing K)
  outs xs = flat_map outgoing xs

  abbrev pub to_send : Hand K → List (Outgoing K)
  to_send (Got x) = outgoing x
  to_send _ = []

  -- what a list of steps takes for sending of the two pipes of a link, in order
  abbrev pub link_took : Rules K → World K → List Step → (l : ℕ) → List (Item K)
  link_took R w [] l = []
  link_took R w (s ∷ ss) l = took_by R w s (link_pipe R false l) ++ (took_by R w s (link_pipe R true l) ++ link_took R (or_same w (next R w s)) ss l)

  abbrev pub is_send_failed : Cause K → Bool
  is_send_failed Cause.SendFailed = true
  is_send_failed _ = false

  -- the sink refused it
  abbrev pub has_failed : List (Fate K) → Outgoing K → Bool
  has_failed F o = list_any (λ f. is_one o.arrived o.number f.link f.number && is_send_failed f.cause) F

  abbrev pub less_failed : List (Fate K) → List (Outgoing K) → List (Outgoing K)
  less_failed F os = filter (λ o. not (has_failed F o)) os

-- What forwarder l sent, on the way from the start s to the world w, is what it took for sending, in order, less marks, what
-- is in its hand, and what its sink refused.
pub record IsSent {K : Kinds} (R : Rules K) (s w : World K) (ss : List Step) (l : ℕ) : Type 0 where
  pub handed : List (Outgoing K)
  pub in_hand : outs (link_took R s ss l) ≡ handed ++ to_send (hand w (seat_of R (Forwarder l)))
  pub sent : slice_index_or w.sent l [] ≡ less_failed w.fates handed
  -- of each of the link's pipes it took all that was taken for sending there, in order
  pub merged : IsMerge (outs (passed (pipe w (link_pipe R false l)))) (outs (passed (pipe w (link_pipe R true l)))) (outs (link_took R s ss l))
  -- on a link with one band that is all
  pub one_band : R.two_bands l ≡ false → outs (link_took R s ss l) ≡ outs (passed (pipe w (link_pipe R false l)))

abbrev pub KeepsSent : Kinds → Type 0
KeepsSent K = (R : Rules K) (w : World K) (r : Reached R w) → IsLawfulFor R w r → (l : ℕ) → l < R.links → IsSent R r.start w r.steps l
