-- What a processor and the slow path do with what they made of a packet.
use Rattle.std.specs.Prelude.{◌≡◌, ◌⊎◌, ◌+◌, ◌*◌, ◌&&◌, ℕ, Bool, true, false, List, if◌then◌else◌}
use Rattle.packet_ledger.specs.Share.{Held, counting, with_fate}
use Rattle.order_laws.specs.Item.{Outgoing}
use Rattle.process_packet.specs.declared.cause.Cause.{Cause}
use Rattle.process_packet.specs.declared.cause.Cause.TheVariants as cause
use Rattle.process_packet.specs.declared.config.Config.{Config}
use Rattle.router_rules.specs.Links.{has_two_bands}
use Rattle.router_rules.specs.Rules.{is_urgent, kinds}
use Rattle.ruled_pipe.specs.Producer.{Sender}
use Rattle.worker_parts.specs.GivingBack.{GaveBack}
use Rattle.worker_parts.specs.Outlet.{Offering}
use Rattle.worker_parts.specs.Outlets.{GaveAt, KeptAt, TriedAt}

-- the ends of the links' pipes, two of each link, and of the links' pipes of free buffers, and the counts
pub record Leaving : Type 0 where
  pub config : Config
  pub links : List (Offering (Outgoing kinds))
  pub free : List (Sender (List ℕ))
  pub share : Held

abbrev pub with_links : List (Offering (Outgoing kinds)) → Leaving → Leaving
with_links links s = record { config = s.config; links = links; free = s.free; share = s.share }

abbrev pub with_share : Held → Leaving → Leaving
with_share share s = record { config = s.config; links = s.links; free = s.free; share = share }

-- the place of the pipe for what leaves: two of each link, the high band's after the low one's
abbrev pub pipe_for : Config → Outgoing kinds → ℕ
pipe_for c o = 2 * o.link + (if has_two_bands c o.link && is_urgent o.parcel.bytes then 1 else 0)

-- it is dropped for a cause: its buffer goes back to the link by which its packet came, and the drop is counted
abbrev pub DroppedAs : ℕ → Cause → Leaving → Leaving → Type 0
DroppedAs link why old new =
    ((buffer : List ℕ) × GaveBack link buffer old.free new.free) × (new ≡ record { config = old.config; links = old.links; free = new.free; share = counting old.share (with_fate why old.share.counts) })

-- it is offered to its pipe alone; where that is refused, it is dropped
abbrev pub SentAs : Outgoing kinds → Leaving → Leaving → Type 0
SentAs o old new =
    (GaveAt (pipe_for old.config o) o old.links new.links × (new ≡ with_links new.links old))
    ⊎ (KeptAt (pipe_for old.config o) o old.links new.links × DroppedAs o.arrived cause.LinkFull (with_links new.links old) new)

module _ {T : Type 0} where
  -- the high band's pipe first, where there are two
  abbrev pub TriedLink : ℕ → Bool → List (Offering T) → List (Offering T) → Bool → Type 0
  TriedLink link false old new there = TriedAt (2 * link) old new there
  TriedLink link true old new there = (mid : List (Offering T)) × (high : Bool) × (low : Bool) × TriedAt (2 * link + 1) old mid high × TriedAt (2 * link) mid new low × (there ≡ (high && low))
