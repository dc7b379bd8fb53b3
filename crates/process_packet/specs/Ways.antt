-- The ways by which a packet is sent: the other half of what an authorised packet is sent by.
use Rattle.std.specs.Prelude.{ℕ, ◌≡◌, true, false, List, Option, Some, None, is_some, option_map}
use Rattle.scion_packet.specs.Packet.{Packet}
use Rattle.process_packet.specs.declared.underlay.Underlay.{Underlay}
use Rattle.process_packet.specs.Decide.{verdict}
use Rattle.process_packet.specs.Hosts.{IsSentToHost}
use Rattle.process_packet.specs.Neighbours.{sibling_at}
use Rattle.process_packet.specs.Network.{Network, own_link, sibling}
use Rattle.process_packet.specs.Conditions.{HasItsPair}
use Rattle.process_packet.specs.Rows.{Sent}
use Rattle.process_packet.specs.Shown.{StandsToLeave, is_for_us, sent_along, turned}
use Rattle.process_packet.specs.PacketState.{PacketState, arrives, egress, is_last_of_path, packet}

-- It is for this AS, and goes to its host as it stands.
pub record IsDeliveredSo (s : PacketState) (out : ℕ) (to : Option Underlay) (p : Packet) : Type 0 where
  pub for_us : is_for_us s ≡ true
  pub host : IsSentToHost s.network s.header s.payload out to
  pub packet : packet (turned s) ≡ p

-- It leaves by the egress interface of the hop at which it stands: a link of this router, where the path goes on.
pub record LeavesByLink (s u : PacketState) (out : ℕ) (to : Option Underlay) (p : Packet) : Type 0 where
  pub others : is_for_us s ≡ false
  pub leaves : StandsToLeave (turned s) u
  pub pair : HasItsPair u
  pub own : is_some (own_link u.network (egress u)) ≡ true
  pub more : is_last_of_path u ≡ false
  pub link : egress u ≡ out
  pub address : None ≡ to
  pub packet : sent_along u ≡ p

-- Or the router that has the interface takes it over, as it stands.
pub record LeavesBySibling (s u : PacketState) (out : ℕ) (to : Option Underlay) (p : Packet) : Type 0 where
  pub others : is_for_us s ≡ false
  pub leaves : StandsToLeave (turned s) u
  pub pair : HasItsPair u
  pub own : own_link u.network (egress u) ≡ None
  pub at : Underlay
  pub listed : option_map sibling_at (sibling u.network (egress u)) ≡ Some at
  pub link : 0 ≡ out
  pub address : Some at ≡ to
  pub packet : packet u ≡ p

pub data IsSentBy (s : PacketState) (out : ℕ) (to : Option Underlay) (p : Packet) : Type 0 where
  to_host : IsDeliveredSo s out to p → IsSentBy s out to p
  by_link : (u : PacketState) → LeavesByLink s u out to p → IsSentBy s out to p
  by_sibling : (u : PacketState) → LeavesBySibling s u out to p → IsSentBy s out to p

abbrev pub SentByThreeWays : Type 0
SentByThreeWays =
    (n : Network) (link : ℕ) (source : Underlay) (moment : ℕ) (bytes : List ℕ) (out : ℕ) (to : Option Underlay) (p : Packet)
    → verdict n link source moment bytes ≡ Sent out to p → IsSentBy (arrives n link source moment bytes) out to p
