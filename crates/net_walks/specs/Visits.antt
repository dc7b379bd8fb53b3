-- The stops of a walk, as datagrams, and its end.
use Rattle.std.specs.Prelude.{◌≡◌, ◌≤◌, ℕ, List, [], ◌∷◌, length, Some}
use Rattle.scion_packet.specs.Header.{HostAddress}
use Rattle.scion_packet.specs.Packet.{IsPacket, Packet, spelling}
use Rattle.process_packet.specs.Decide.{decide, moved}
use Rattle.net_laws.specs.Net.{Net, Router, router_at}
use Rattle.process_packet.specs.declared.arrival.Arrival.{Arrival}
use Rattle.process_packet.specs.declared.decision.Decision.TheVariants as decision
use Rattle.process_packet.specs.declared.underlay.Underlay.{Underlay}
use Rattle.net_laws.specs.Domain.{domain_of}
use Rattle.process_packet.specs.HostPort.{host_port_of}
use Rattle.process_packet.specs.Hosts.{IsReachedAt}
use Rattle.net_laws.specs.Stands.{IsHostOf, PacketAt}
use Rattle.net_walks.specs.Stops.{Came}

-- the datagram of a packet
abbrev pub came_of : PacketAt → Came
came_of b = record { router = b.router; link = b.link; source = b.source; bytes = spelling b.packet }

-- a packet that comes first so
abbrev pub starts_at : ℕ → Arrival → Packet → PacketAt
starts_at router a p = record { router = router; link = a.link; source = a.source; packet = p }

-- The datagrams are those of packets each of which is such; this one is the last of them.
pub data Visits (such : PacketAt → Type 0) : List Came → PacketAt → Type 0 where
  last : {a : PacketAt} → such a → Visits such (came_of a ∷ []) a
  more : {a z : PacketAt} {cs : List Came} → such a → Visits such cs z → Visits such (came_of a ∷ cs) z

-- A router of the host's AS sends the packet, on link 0, to the host's address and the port of the application that it is for, with
-- the header and the payload with which it set out.
pub record IsDeliveredAt (net : Net) (moment : ℕ) (start end : PacketAt) (host : HostAddress) : Type 0 where
  pub here : Router
  pub here_is : router_at net end.router ≡ Some here
  pub home : IsHostOf host (domain_of here)
  pub to : Underlay
  pub address : IsReachedAt here.network (host_port_of here.network start.packet.header.next_header start.packet.payload) host to
  pub decision : decide here.network end.link end.source moment (spelling end.packet) ≡ decision.Send 0 (Some to)
  pub sent : Packet
  pub bytes : moved here.network end.link end.source moment (spelling end.packet) ≡ spelling sent
  pub header : sent.header ≡ start.packet.header
  pub payload : sent.payload ≡ start.packet.payload

-- In at most 128 stops, each with a lawful packet, it is delivered to this host at the last one.
pub record ReturnsTo (net : Net) (moment : ℕ) (start : PacketAt) (host : HostAddress) (stops : List Came) : Type 0 where
  pub end : PacketAt
  pub visits : Visits (λ (b : PacketAt). IsPacket b.packet) stops end
  pub few : length stops ≤ 128
  pub delivery : IsDeliveredAt net moment start end host
