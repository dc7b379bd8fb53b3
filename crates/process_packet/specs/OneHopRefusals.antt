-- For which cause a refused packet on a path of one hop is dropped: reason by reason, in the order in which they count.
use Rattle.std.specs.Prelude.{ℕ, ◌≡◌, ◌≢◌, ◌≤◌, ◌<◌, ◌+◌, List, length, Some, None}
use Rattle.scion_header.specs.declared.domain.Domain.{Domain}
use Rattle.scion_packet.specs.Fault.{Fault}
use Rattle.scion_packet.specs.Header.{header_fault_as, one_hop_path}
use Rattle.scion_packet.specs.OneHop.{one_hop_fault, one_hop_path_fault}
use Rattle.scion_packet.specs.Packet.{path_bytes}
use Rattle.process_packet.specs.declared.cause.Cause.{Cause}
use Rattle.process_packet.specs.declared.cause.Cause.TheVariants as cause
use Rattle.process_packet.specs.declared.neighbours.Link.{Link}
use Rattle.process_packet.specs.declared.underlay.Underlay.{Underlay}
use Rattle.process_packet.specs.Conditions.{AsksByBfd, CarriesMac, IsFarEnd, IsHere, IsInTime}
use Rattle.process_packet.specs.Hosts.{IsDeliveredAt}
use Rattle.process_packet.specs.Network.{Network, own_link}
use Rattle.process_packet.specs.OneHopLaws.{LeadsTo}
use Rattle.process_packet.specs.OneHopRows.{Dropped, OneHopVerdict}
use Rattle.process_packet.specs.OneHopState.{OneHopState, first, info, one_hop_arrives}
use Rattle.process_packet.specs.OneHopTable.{one_hop_verdict}
use Rattle.process_packet.specs.Refusals.{IsCauseOf}

-- ---- what a packet shows

-- from outside: it is for this AS, from the one at the other end of its link
abbrev pub IsForThisAs : OneHopState → Type 0
IsForThisAs s = IsHere s.network s.packet.header.destination × LeadsTo s.network s.link s.packet.header.source

-- The link is one of this router, and the configuration says which AS is at its other end.
pub record HasNeighbor (n : Network) (link : ℕ) : Type 0 where
  pub own : Link
  pub listed : own_link n link ≡ Some own
  pub there : Domain
  pub named : own.neighbor ≡ Some there

-- from inside: its first hop field leads from nowhere to such a link
abbrev pub BeginsHere : OneHopState → Type 0
BeginsHere s = HasNeighbor s.network (first s).construction_egress × ((first s).construction_ingress ≡ 0)

-- its first hop field is within its time, which began at most 300 seconds after the moment
abbrev pub IsOnTime : OneHopState → Type 0
IsOnTime s = IsInTime (info s) (first s) s.moment × ((info s).timestamp ≤ s.moment + 300)

-- its host or service is reached nowhere
abbrev pub IsUnreached : OneHopState → Type 0
IsUnreached s = (to : Underlay) → IsDeliveredAt s.network s.packet.header s.packet.payload to → ⊥

-- ---- step by step, each with those before

-- no longer than any link carries, and without a fault; as long as it tells
abbrev pub IsRead : OneHopState → Type 0
IsRead s = (length s.bytes ≤ 9216) × (one_hop_fault s.bytes ≡ None)

abbrev pub IsWhole : OneHopState → Type 0
IsWhole s = IsRead s × (s.packet.header.payload_length ≡ length s.packet.payload)

-- from outside: from the router at the other end of its link; for this AS; no message of BFD (203); in time
abbrev pub IsFromItsRouter : OneHopState → Type 0
IsFromItsRouter s = IsWhole s × IsFarEnd s.network s.link s.source

abbrev pub IsBetweenItsEnds : OneHopState → Type 0
IsBetweenItsEnds s = IsFromItsRouter s × IsForThisAs s

abbrev pub IsForAHost : OneHopState → Type 0
IsForAHost s = IsBetweenItsEnds s × (s.packet.header.next_header ≢ 203)

abbrev pub IsTimelyFromOutside : OneHopState → Type 0
IsTimelyFromOutside s = IsForAHost s × IsOnTime s

-- from inside: from this AS; with a first hop field that begins here; for the AS to which that leads; in time
abbrev pub IsFromThisAs : OneHopState → Type 0
IsFromThisAs s = IsWhole s × IsHere s.network s.packet.header.source

abbrev pub HasItsExit : OneHopState → Type 0
HasItsExit s = IsFromThisAs s × BeginsHere s

abbrev pub IsForItsNeighbor : OneHopState → Type 0
IsForItsNeighbor s = HasItsExit s × LeadsTo s.network (first s).construction_egress s.packet.header.destination

abbrev pub IsTimelyFromInside : OneHopState → Type 0
IsTimelyFromInside s = IsForItsNeighbor s × IsOnTime s

-- ---- from either side

pub record IsRefusedFromOutside (s : OneHopState) (v : OneHopVerdict) : Type 0 where
  pub other_router : IsWhole s → (IsFarEnd s.network s.link s.source → ⊥) → v ≡ Dropped cause.UnderlaySource
  pub other_ends : IsFromItsRouter s → (IsForThisAs s → ⊥) → v ≡ Dropped cause.OneHopEnds
  pub link_control : IsBetweenItsEnds s → s.packet.header.next_header ≡ 203 → (AsksByBfd s.network s.link s.packet.header.flow_id s.packet.payload → ⊥)
      → v ≡ Dropped cause.OneHopHost
  pub other_time : IsForAHost s → (IsOnTime s → ⊥) → v ≡ Dropped cause.OneHopField
  pub no_host : IsTimelyFromOutside s → IsUnreached s → v ≡ Dropped cause.OneHopHost

pub record IsRefusedFromInside (s : OneHopState) (v : OneHopVerdict) : Type 0 where
  pub other_source : IsWhole s → (IsHere s.network s.packet.header.source → ⊥) → v ≡ Dropped cause.OneHopEnds
  pub other_exit : IsFromThisAs s → (BeginsHere s → ⊥) → v ≡ Dropped cause.OneHopField
  pub other_destination : HasItsExit s → (LeadsTo s.network (first s).construction_egress s.packet.header.destination → ⊥) → v ≡ Dropped cause.OneHopEnds
  pub other_time : IsForItsNeighbor s → (IsOnTime s → ⊥) → v ≡ Dropped cause.OneHopField
  pub other_mac : IsTimelyFromInside s → (CarriesMac s.network.key (info s).segment_id (info s) (first s) → ⊥) → v ≡ Dropped cause.OneHopField

-- ---- the law

pub record IsOneHopRefusedSo (s : OneHopState) (v : OneHopVerdict) : Type 0 where
  pub too_long : 9216 < length s.bytes → v ≡ Dropped cause.TooLong
  pub faulty_header : (f : Fault) (c : Cause) → length s.bytes ≤ 9216 → header_fault_as one_hop_path s.bytes ≡ Some f → IsCauseOf f c → v ≡ Dropped c
  pub faulty_path : (f : Fault) (c : Cause) → length s.bytes ≤ 9216 → header_fault_as one_hop_path s.bytes ≡ None → one_hop_path_fault (path_bytes s.bytes) ≡ Some f → IsCauseOf f c
      → v ≡ Dropped c
  pub not_whole : IsRead s → s.packet.header.payload_length ≢ length s.packet.payload → v ≡ Dropped cause.Header
  pub from_outside : s.link ≢ 0 → IsRefusedFromOutside s v
  pub from_inside : s.link ≡ 0 → IsRefusedFromInside s v

abbrev pub OneHopsAreRefusedSo : Type 0
OneHopsAreRefusedSo =
    (n : Network) (link : ℕ) (source : Underlay) (moment : ℕ) (bytes : List ℕ)
    → IsOneHopRefusedSo (one_hop_arrives n link source moment bytes) (one_hop_verdict n link source moment bytes)
