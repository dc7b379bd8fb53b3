-- A lawful start: a packet that sets out on a path over beaconed segments, and what becomes of it.
use Rattle.std.specs.Prelude.{true, ◌≡◌, ◌≤◌, ◌<◌, ◌⊎◌, ◌-◌, ℕ, suc, false, List, length, Option, Some, if◌then◌else◌}
use Rattle.scion_packet.specs.Header.{HostAddress, host_code}
use Rattle.scion_packet.specs.Packet.{IsPacket, Packet, spelling}
use Rattle.scion_packet.specs.Path.{Place, count_hops, place_at}
use Rattle.process_packet.specs.declared.underlay.Underlay.{Underlay}
use Rattle.process_packet.specs.Request.{is_request}
use Rattle.process_packet.specs.Underlay.{longest_datagram}
use Rattle.process_packet.specs.Rows.{Sent}
use Rattle.net_laws.specs.Stretch.{beta_met}
use Rattle.net_laws.specs.PathSegments.{AreUnexpired, HaveByteMacs, PathSegment, IsMet, IsPathOver, met, part, route_over, segments_of, stretch_of}
use Rattle.process_packet.specs.HostPort.{host_port_of}
use Rattle.process_packet.specs.Hosts.{IsReachedAt}
use Rattle.net_laws.specs.Net.{Agrees, Net, Router, router_at}
use Rattle.net_laws.specs.Configured.{AreNumbered}
use Rattle.net_laws.specs.Domain.{IsOf}
use Rattle.net_laws.specs.Domain.{domain_of}
use Rattle.net_laws.specs.Route.{IsRoute}
use Rattle.net_laws.specs.Start.{outset}
use Rattle.net_laws.specs.Stands.{PacketAt, IsHostOf}
use Rattle.process_packet.specs.Shown.{is_for_us}
use Rattle.net_laws.specs.Stop.{IsCarried, packet_state, verdict_at}
use Rattle.net_laws.specs.Walk.{Walks}

-- ---- the hosts

-- an IPv4 or an IPv6 host
pub data IsIpHost : HostAddress → Type 0 where
  ip_4 : {a : HostAddress} → a.kind ≡ 0 → host_code a ≡ 0 → IsIpHost a
  ip_6 : {a : HostAddress} → a.kind ≡ 0 → host_code a ≡ 3 → IsIpHost a

-- The router knows where the host is reached, by the port at which it listens: an IPv4 or IPv6 host at its own address and this port,
-- a service at the address that the AS configures.
pub record IsKnown (x : Router) (a : HostAddress) : Type 0 where
  pub at : ℕ → Underlay
  pub reached : (port : ℕ) → IsReachedAt x.network port a (at port)

-- ---- the start

abbrev pub last_met : List PathSegment → Place
last_met ss = place_at (length ss - 1) (length (part ss (length ss - 1)).made - 1)

-- One to three stretches of beaconed segments, no hop expired. The packet has the segments of this path, each with the
-- identifier of the hop that is travelled first, and the cursor at the first hop. It is from a host of the first AS and for a
-- host or service of the last one, has the length that it tells, and is no longer than any link carries. It comes from inside,
-- on link 0, to the router with the first interface by which it leaves.
pub record SetsOutOn (net : Net) (ss : List PathSegment) (moment : ℕ) (a : PacketAt) : Type 0 where
  pub path : IsPathOver net ss
  pub unexpired : (k : ℕ) → k < length ss → AreUnexpired (part ss k) moment
  pub segments : a.packet.path.segments ≡ segments_of ss
  pub identifiers : (k : ℕ) → k < length ss → (part ss k).info.segment_id ≡ beta_met (stretch_of (part ss k)) 0
  pub cursor : a.packet.path.place ≡ outset
  pub lawful : IsPacket a.packet
  pub whole : a.packet.header.payload_length ≡ length a.packet.payload
  pub short : length (spelling a.packet) ≤ longest_datagram
  pub source : IsHostOf a.packet.header.source (met ss outset).home
  pub destination : IsHostOf a.packet.header.destination (met ss (last_met ss)).home
  pub from_host : IsIpHost a.packet.header.source
  pub to_host : (r : ℕ) (x : Router) → router_at net r ≡ Some x → IsOf x (met ss (last_met ss)).home → IsKnown x a.packet.header.destination
  pub link : a.link ≡ 0
  pub router : a.router ≡ (if (part ss 0).info.along then (met ss outset).sent_by else (met ss outset).taken_by)

-- No hop field's flag asks for an answer, or no request follows the header.
abbrev pub AsksNothing : List PathSegment → Packet → Type 0
AsksNothing ss p =
    ((at : Place) → IsMet ss at → ((met ss at).field.ingress_alert ≡ false) × ((met ss at).field.egress_alert ≡ false))
    ⊎ (is_request p.header.next_header p.payload ≡ false)

pub record LawfulStart (net : Net) (ss : List PathSegment) (moment : ℕ) (a : PacketAt) : Type 0 where
  pub sets_out : SetsOutOn net ss moment a
  pub quiet : AsksNothing ss a.packet

-- ---- what becomes of it

-- The walk ends in delivery: the packet comes from outside to a router of the host's AS, which sends it, on link 0, to the
-- host's address and the port of the application that it is for, with the header and the payload that it had.
pub record ReachesHost (net : Net) (moment n : ℕ) (a : PacketAt) (host : HostAddress) : Type 0 where
  pub end : PacketAt
  pub walk : Walks net moment n a end
  pub here : Router
  pub here_is : router_at net end.router ≡ Some here
  pub home : IsHostOf host (domain_of here)
  pub lawful : IsPacket end.packet
  pub for_us : is_for_us (packet_state here.network end moment (spelling end.packet)) ≡ true
  pub to : Underlay
  pub address : IsReachedAt here.network (host_port_of here.network a.packet.header.next_header a.packet.payload) host to
  pub sent : Packet
  pub delivery : verdict_at here end moment ≡ Sent 0 (Some to) sent
  pub header : sent.header ≡ a.packet.header
  pub payload : sent.payload ≡ a.packet.payload

-- a walk each of whose stops is such; what goes on isn't for the router's own AS
pub data WalksBy (net : Net) (moment : ℕ) (such : PacketAt → Type 0) : ℕ → PacketAt → PacketAt → Type 0 where
  is_there : {n : ℕ} {a : PacketAt} → such a → WalksBy net moment such n a a
  goes : {n : ℕ} {a b z : PacketAt} (x : Router) (out : ℕ) (to : Option Underlay) → such a → router_at net a.router ≡ Some x
      → is_for_us (packet_state x.network a moment (spelling a.packet)) ≡ false → verdict_at x a moment ≡ Sent out to b.packet → IsCarried net a.router x out to b → WalksBy net moment such n b z → WalksBy net moment such (suc n) a z

-- ---- the laws

-- A path over segments whose AS entries are wired one to the next, no AS met twice, is a route, where links are numbered from 1
-- and MACs are bytes.
abbrev pub HopsMakeRoutes : Type 0
HopsMakeRoutes =
    (net : Net) (ss : List PathSegment) (moment : ℕ) → Agrees net → AreNumbered net → HaveByteMacs ss → IsPathOver net ss → ((k : ℕ) → k < length ss → AreUnexpired (part ss k) moment)
    → count_hops (segments_of ss) ≤ 64 → IsRoute net (route_over ss) moment
