-- What contracts see of a forwarder, and what a turn does.
use Rattle.std.specs.Prelude.{◌≡◌, ◌⊎◌, ◌+◌, ◌-◌, ◌^◌, ◌<◌, ◌≤◌, ◌||◌, ℕ, Bool, true, false, List, Option, Some, None, if◌then◌else◌}
use Rattle.packet_ledger.specs.Share.{Held}
use Rattle.order_laws.specs.Item.{Outgoing}
use Rattle.order_laws.specs.Cause.{Cause as Fate}
use Rattle.process_packet.specs.declared.config.Config.{Config}
use Rattle.ruled_pipe.specs.declared.entry.Load.TheVariants.{Payload, Marked}
use Rattle.ruled_pipe.specs.declared.entry.Mark.{Mark}
use Rattle.ruled_pipe.specs.declared.entry.Mark.TheVariants as mark
use Rattle.ruled_pipe.specs.Consumer.{Taker, looked, took}
use Rattle.ruled_pipe.specs.Gathered.{ends_in}
use Rattle.ruled_pipe.specs.Producer.{Sender, entry}
use Rattle.worker_order.specs.Keeping.{IsForwarding}
use Rattle.worker_order.specs.Shares.{raise}
use Rattle.router_rules.specs.Links.{has_two_bands}
use Rattle.router_rules.specs.Rules.{kinds}
use Rattle.worker_laws.specs.Counting.{Count, Sent, Replied, Dropped, handed_count}
use Rattle.worker_laws.specs.Forwards.{AddsTo, Handed}
use Rattle.worker_forwarder.specs.declared.band.Taken.{Taken}
use Rattle.worker_forwarder.specs.declared.band.Taken.TheVariants as taken
use Rattle.worker_parts.specs.Told.{Told, told_of}
use Rattle.worker_parts.specs.GivingBack.{GaveBack}
use Rattle.worker_parts.specs.declared.turn.Turn.{Turn}
use Rattle.worker_parts.specs.declared.turn.Turn.TheVariants.{Did, Quiet, Ended}

-- one of the pipes of a link: what was taken, and whether a closing mark was
pub record Band : Type 0 where
  pub taker : Taker (Outgoing kinds)
  pub shut : Bool

abbrev pub band : Taker (Outgoing kinds) → Bool → Band
band taker shut = record { taker = taker; shut = shut }

abbrev pub closes : Mark → Bool
closes mark.Close = true
closes mark.End = false

abbrev pub end_mark : Mark → ℕ
end_mark mark.Close = 0
end_mark mark.End = 1

-- where there are two bands, the high one's pipe was seen empty
abbrev pub looks_first : Bool → Band → Band
looks_first true b = band (looked b.taker) b.shut
looks_first false b = b

-- the same after an empty look, a mark and a packet
abbrev pub after_look : Band → Band
after_look b = band (looked b.taker) b.shut

abbrev pub after_mark : ℕ → Mark → Band → Band
after_mark from m b = band (took b.taker (entry from (Marked m))) (b.shut || closes m)

abbrev pub after_egress_packet : ℕ → Outgoing kinds → Band → Band
after_egress_packet from o b = band (took b.taker (entry from (Payload o))) b.shut

-- each producer's end mark was taken
abbrev pub IsOver : Band → Type 0
IsOver b = b.taker.producers ≤ ends_in b.taker.taken

-- what a take from a pipe met
abbrev pub Met : Option (Taken (Outgoing kinds)) → Band → Band → Type 0
Met None old new = new ≡ after_look old
Met (Some taken.Mark) old new = (from : ℕ) × (m : Mark) × (new ≡ after_mark from m old)
Met (Some (taken.Packet o)) old new = (from : ℕ) × (new ≡ after_egress_packet from o old)

-- a take that is made only where there are two bands
abbrev pub MetIf : Bool → Option (Taken (Outgoing kinds)) → Band → Band → Type 0
MetIf two None old new = new ≡ looks_first two old
MetIf two (Some met) old new = (two ≡ true) × Met (Some met) old new

-- the sink, the ends of the links' pipes of free buffers, and the counts
pub record Delivery (K : Type 0) : Type 0 where
  pub config : Config
  pub sink : K
  pub free : List (Sender (List ℕ))
  pub share : Held

abbrev pub handed : Outgoing kinds → Bool → Handed kinds
handed o took = record { item = o; took = took }

-- what is counted of what was handed to the sink
abbrev pub count_of : Bool → Bool → Count kinds
count_of took answer = if took then (if answer then Replied else Sent) else Dropped Fate.SendFailed

module _ {K : Type 0} (told : K → Option (List Told)) (failed : K → ℕ) (same : K → K → Type 0) where
  -- it was handed to the sink, which took it or failed
  abbrev pub HandedOn : Outgoing kinds → Delivery K → Delivery K → Type 0
  HandedOn o old new =
      (took : Bool) × AddsTo (told old.sink) (told_of (handed o took)) (told new.sink) × (failed new.sink ≡ failed old.sink + (if took then 0 else 1)) × ((buffer : List ℕ) × GaveBack o.arrived buffer old.free new.free)
      × (new ≡ record { config = old.config; sink = new.sink; free = new.free; share = raise (handed_count (handed o took)) old.share }) × same old.sink new.sink

module _ {K : Type 0} where
  -- it was swept
  abbrev pub Swept : Outgoing kinds → Delivery K → Delivery K → Type 0
  Swept o old new = ((buffer : List ℕ) × GaveBack o.arrived buffer old.free new.free) × (new ≡ record { config = old.config; sink = old.sink; free = new.free; share = raise (Dropped Fate.Closed) old.share })

  module _ (told : K → Option (List Told)) (failed : K → ℕ) (same : K → K → Type 0) where
    -- before the closing mark of its pipe it is handed on, after that it is swept
    abbrev pub Delivered : Bool → Outgoing kinds → Delivery K → Delivery K → Type 0
    Delivered true o old new = Swept o old new
    Delivered false o old new = HandedOn told failed same o old new

    -- what was met is passed on
    abbrev pub PassedMet : Bool → Taken (Outgoing kinds) → Delivery K → Delivery K → Type 0
    PassedMet shut taken.Mark old new = new ≡ old
    PassedMet shut (taken.Packet o) old new = Delivered shut o old new

    -- a mark or a packet was taken from a pipe
    abbrev pub TookOf : Band → Band → Delivery K → Delivery K → Type 0
    TookOf b b' old new = (met : Taken (Outgoing kinds)) × Met (Some met) b b' × PassedMet b'.shut met old new

-- its link, its pipes, how often its sink had failed when it began, and its sink, buffers and counts
pub record Forwarding (K : Type 0) : Type 0 where
  pub link : ℕ
  pub low : Band
  pub high : Band
  pub began : ℕ
  pub side : Delivery K

module _ {K : Type 0} where
  abbrev pub is_two : Forwarding K → Bool
  is_two f = has_two_bands f.side.config f.link

  abbrev pub with_bands : Band → Band → Delivery K → Forwarding K → Forwarding K
  with_bands low high side f = record { link = f.link; low = low; high = high; began = f.began; side = side }

  -- at least as many end marks were taken of each pipe that it uses as that has producers
  abbrev pub ForwarderEnded : Forwarding K → Type 0
  ForwarderEnded f = IsOver f.low × (is_two f ≡ true → IsOver f.high)

  -- an end mark is still to come, and the sink can be asked
  abbrev pub AwaitsPush : (K → ℕ) → Forwarding K → Type 0
  AwaitsPush failed f = (ForwarderEnded f → ⊥) × (failed f.side.sink < 2 ^ 64 - 1)

  abbrev pub with_share : Held → Delivery K → Delivery K
  with_share share d = record { config = d.config; sink = d.sink; free = d.free; share = share }

  abbrev pub first_delivery : Config → K → List (Sender (List ℕ)) → Held → Delivery K
  first_delivery c sink free share = record { config = c; sink = sink; free = free; share = share }

  abbrev pub first_forwarding : ℕ → Band → Band → ℕ → Delivery K → Forwarding K
  first_forwarding link low high began side = record { link = link; low = low; high = high; began = began; side = side }

  -- its counts are posted, which leaves this share
  abbrev pub posted : Held → Forwarding K → Forwarding K
  posted share f = with_bands f.low f.high (with_share share f.side) f

  module _ (told : K → Option (List Told)) (failed : K → ℕ) (same : K → K → Type 0) where
    -- one entry is taken of the high band, or, where that was seen empty, of the low one
    abbrev pub Forwards : Turn → Forwarding K → Forwarding K → Type 0
    Forwards turn old new =
        ((is_two old ≡ true) × (turn ≡ Did) × TookOf told failed same old.high new.high old.side new.side × (new ≡ with_bands old.low new.high new.side old))
        ⊎ ((turn ≡ Quiet) × (new ≡ with_bands (after_look old.low) (looks_first (is_two old) old.high) old.side old))
        ⊎ ((turn ≡ Did) × TookOf told failed same old.low new.low old.side new.side × (new ≡ with_bands new.low (looks_first (is_two old) old.high) new.side old))

    -- one turn
    abbrev pub Forwarded : Turn → Forwarding K → Forwarding K → Type 0
    Forwarded turn old new =
        (ForwarderEnded old × (turn ≡ Ended) × (new ≡ old))
        ⊎ ((ForwarderEnded old → ⊥) × (failed old.side.sink ≡ 2 ^ 64 - 1) × (turn ≡ Quiet) × (new ≡ old))
        ⊎ ((ForwarderEnded old → ⊥) × (failed old.side.sink < 2 ^ 64 - 1) × Forwards turn old new)

-- the law of a forwarder
abbrev pub KeepsForwarding : {K : Type 0} → (K → Option (List Told)) → (K → ℕ) → Band → Band → ℕ → Delivery K → Type 0
KeepsForwarding told failed low high began side = IsForwarding told_of low.taker high.taker low.shut high.shut (told side.sink) began (failed side.sink) side.share
