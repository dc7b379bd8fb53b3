-- What becomes of a packet that sets out lawfully on a path of one hop, and of the replies to it.
use Rattle.std.specs.Prelude.{◌≡◌, ◌≢◌, ◌⊎◌, ◌≤◌, ◌<◌, ◌^◌, ℕ, false, List, [], ◌∷◌, length, Some, None}
use Rattle.field_rows.specs.Place.{IsBytes}
use Rattle.hop_check.specs.Beaconing.{AreBeaconed}
use Rattle.hop_check.specs.Expiry.{is_expired}
use Rattle.scion_packet.specs.OneHop.{IsOneHopPacket, OneHopPacket, one_hop_spelling}
use Rattle.scion_packet.specs.Packet.{IsPacket, spelling}
use Rattle.segment_switch.specs.declared.kind.LinkKind.TheVariants.{Core, Child}
use Rattle.process_packet.specs.declared.arrival.Arrival.{Arrival}
use Rattle.process_packet.specs.declared.decision.Decision.TheVariants as decision
use Rattle.process_packet.specs.declared.neighbours.Link.{Link}
use Rattle.process_packet.specs.declared.underlay.Underlay.{Underlay}
use Rattle.process_packet.specs.Decide.{decide, moved}
use Rattle.process_packet.specs.HostPort.{host_port_of}
use Rattle.process_packet.specs.Hosts.{IsReachedAt}
use Rattle.process_packet.specs.Network.{own_link}
use Rattle.process_packet.specs.Underlay.{longest_datagram}
use Rattle.net_laws.specs.Configured.{AreNumbered}
use Rattle.net_laws.specs.Domain.{IsOf, domain_of}
use Rattle.net_laws.specs.LawfulStart.{IsIpHost, IsKnown, SetsOutOn}
use Rattle.net_laws.specs.Net.{Agrees, Joined, Net, Router, end_at, router_at}
use Rattle.net_laws.specs.OneHopStart.{IsOpenPath, LawfulOneHopStart, OneHopAt, exit_of, info_of, second_of, segment_back}
use Rattle.net_laws.specs.PathSegments.{PathSegment, segments_of}
use Rattle.net_laws.specs.Stands.{IsHostOf, PacketAt}
use Rattle.net_laws.specs.Start.{outset}
use Rattle.net_walks.specs.Stops.{Came, most_stops, stops_from}

-- the datagram of a packet
abbrev pub one_hop_came_of : OneHopAt → Came
one_hop_came_of a = record { router = a.router; link = a.link; source = a.source; bytes = one_hop_spelling a.packet }

-- a packet that comes first so
abbrev pub one_hop_starts_at : ℕ → Arrival → OneHopPacket → OneHopAt
one_hop_starts_at router a p = record { router = router; link = a.link; source = a.source; packet = p }

-- ---- beacons cross

-- In two stops. At the first one the packet leaves by the link that its first hop field names, and comes over its wire to a router
-- of another AS. That one sends it, on link 0, to its service or host, at the port of the application that it is for, with the
-- header and the payload with which it set out. Both
-- hop fields are beaconed then, with the keys of both ASes, from the identifier on with which it set out. And over a core link or
-- one from parent to child they are a path back between two ASes, for as long as the first one is good.
pub record Crosses (net : Net) (moment : ℕ) (start : OneHopAt) (stops : List Came) : Type 0 where
  pub near : Router
  pub near_is : router_at net start.router ≡ Some near
  pub out : Link
  pub listed : own_link near.network (exit_of start).link ≡ Some out
  pub leaves : decide near.network start.link start.source moment (one_hop_spelling start.packet) ≡ decision.Send (exit_of start).link None
  pub crossing : OneHopAt
  pub left : moved near.network start.link start.source moment (one_hop_spelling start.packet) ≡ one_hop_spelling crossing.packet
  pub wire : Joined net (exit_of start) (end_at crossing.router crossing.link)
  pub stops_are : stops ≡ one_hop_came_of start ∷ one_hop_came_of crossing ∷ []
  pub far : Router
  pub far_is : router_at net crossing.router ≡ Some far
  pub home : IsHostOf start.packet.header.destination (domain_of far)
  pub to : Underlay
  pub address : IsReachedAt far.network (host_port_of far.network start.packet.header.next_header start.packet.payload) start.packet.header.destination to
  pub enters : decide far.network crossing.link crossing.source moment (one_hop_spelling crossing.packet) ≡ decision.Send 0 (Some to)
  pub delivered : OneHopPacket
  pub entered : moved far.network crossing.link crossing.source moment (one_hop_spelling crossing.packet) ≡ one_hop_spelling delivered
  pub lawful : IsOneHopPacket delivered
  pub header : delivered.header ≡ start.packet.header
  pub payload : delivered.payload ≡ start.packet.payload
  pub beaconed : AreBeaconed (near.network.key ∷ far.network.key ∷ []) (info_of start).segment_id delivered.path.info
      (delivered.path.first ∷ second_of delivered ∷ [])
  pub opens : (out.kind ≡ Core) ⊎ (out.kind ≡ Child) → domain_of near ≢ domain_of far → (later : ℕ)
      → is_expired delivered.path.info delivered.path.first later ≡ false
      → IsOpenPath net (segment_back out.kind (info_of start).segment_id start.router near crossing.router far delivered ∷ []) later

-- In a net whose links are numbered from 1 to 65,535, as in each net of configurations.
abbrev pub BeaconsCross : Type 0
BeaconsCross =
    (net : Net) (moment : ℕ) (a : OneHopAt) → Agrees net → AreNumbered net → IsBytes (one_hop_spelling a.packet) → (s : LawfulOneHopStart net moment a) → s.entry.link < 2 ^ 16
    → Crosses net moment a (stops_from net moment most_stops (Some (one_hop_came_of a)))

-- ---- replies

-- A packet on this path from an IP host of the one router's AS to a host or service of the other one's, as its host hands it to
-- the router that begins the path: what `SetsOutOn` asks, but for the path itself.
pub record IsReplyOver (net : Net) (s : PathSegment) (from to : Router) (q : PacketAt) : Type 0 where
  pub segments : q.packet.path.segments ≡ segments_of (s ∷ [])
  pub cursor : q.packet.path.place ≡ outset
  pub lawful : IsPacket q.packet
  pub whole : q.packet.header.payload_length ≡ length q.packet.payload
  pub short : length (spelling q.packet) ≤ longest_datagram
  pub source : IsHostOf q.packet.header.source (domain_of from)
  pub destination : IsHostOf q.packet.header.destination (domain_of to)
  pub from_host : IsIpHost q.packet.header.source
  pub to_host : (r : ℕ) (x : Router) → router_at net r ≡ Some x → IsOf x (domain_of to) → IsKnown x q.packet.header.destination
  pub link : q.link ≡ 0

-- the path back over the link
abbrev pub path_back : {net : Net} {moment : ℕ} {start : OneHopAt} {stops : List Came} → Crosses net moment start stops → PathSegment
path_back {start = start} c = segment_back c.out.kind (info_of start).segment_id start.router c.near c.crossing.router c.far c.delivered

-- Once a beacon has crossed a link to a core AS or a child, whoever replies over its path from the router that it came to sets out
-- lawfully, for as long as the first hop field is good.
abbrev pub RepliesSetOut : Type 0
RepliesSetOut =
    (net : Net) (moment later : ℕ) (start : OneHopAt) (stops : List Came) (c : Crosses net moment start stops) (q : PacketAt)
    → (c.out.kind ≡ Core) ⊎ (c.out.kind ≡ Child) → domain_of c.near ≢ domain_of c.far → is_expired c.delivered.path.info c.delivered.path.first later ≡ false
    → q.router ≡ c.crossing.router → IsReplyOver net (path_back c) c.far c.near q → SetsOutOn net (path_back c ∷ []) later q
