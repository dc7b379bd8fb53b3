-- A lawful start on a path of one hop: a control service sends a beacon over a link to the AS at its other end. And the path that
-- both hop fields make once it is there.
use Rattle.std.specs.Prelude.{◌≡◌, ◌≢◌, ◌≤◌, ◌<◌, ◌+◌, ℕ, Bool, true, false, List, [], ◌∷◌, length, Some}
use Rattle.hop_check.specs.Expiry.{is_expired}
use Rattle.hop_check.specs.Mac.{mac6}
use Rattle.scion_header.specs.declared.domain.Domain.{Domain}
use Rattle.scion_packet.specs.OneHop.{IsOneHopPacket, OneHopPacket, one_hop_spelling}
use Rattle.scion_packet.specs.Path.{HopField, InfoField, hop_at}
use Rattle.segment_switch.specs.declared.kind.LinkKind.{LinkKind}
use Rattle.segment_switch.specs.declared.kind.LinkKind.TheVariants.{Core, Parent, Child}
use Rattle.process_packet.specs.declared.neighbours.Link.{Link}
use Rattle.process_packet.specs.declared.underlay.Underlay.{Underlay}
use Rattle.process_packet.specs.Network.{own_link}
use Rattle.process_packet.specs.Underlay.{longest_datagram}
use Rattle.net_laws.specs.declared.net.End.{End}
use Rattle.net_laws.specs.Domain.{domain_of}
use Rattle.net_laws.specs.LawfulStart.{IsKnown}
use Rattle.net_laws.specs.Net.{Joined, Net, Router, end_at, router_at}
use Rattle.net_laws.specs.PathSegments.{AreUnexpired, AsEntry, IsPathOver, PathSegment, part, stretch_of}
use Rattle.net_laws.specs.Stands.{IsHostOf}
use Rattle.net_laws.specs.Stretch.{beta_met}

-- ---- the start

-- a packet on a path of one hop at a router: which one, by which link it came, and from where
pub record OneHopAt : Type 0 where
  pub router : ℕ
  pub link : ℕ
  pub source : Underlay
  pub packet : OneHopPacket

abbrev pub info_of : OneHopAt → InfoField
info_of a = a.packet.path.info

-- the hop field of the AS from which it comes
abbrev pub first_of : OneHopAt → HopField
first_of a = a.packet.path.first

-- the end of the link by which this hop field has it leave
abbrev pub exit_of : OneHopAt → End
exit_of a = end_at a.router (first_of a).construction_egress

-- A router of the net has the link, and its configuration names the AS at the other end: one-hop paths are carried over it.
pub record IsNeighbored (net : Net) (e : End) : Type 0 where
  pub router : Router
  pub there : router_at net e.router ≡ Some router
  pub link : Link
  pub listed : own_link router.network e.link ≡ Some link
  pub end : Domain
  pub named : link.neighbor ≡ Some end

-- The packet comes from inside, on link 0, to the router with the link that its first hop field names by ConsEgress. A wire leads
-- from there to a router of another AS, and both links are neighboured. The first hop field begins the segment, carries the MAC of
-- its AS's key for the packet's identifier, and is within its time, which began at most 300 seconds after the moment. The packet
-- is from this AS and for a host or service of the other one, no message of BFD (203), has the length that it tells, and is no
-- longer than any link carries.
pub record LawfulOneHopStart (net : Net) (moment : ℕ) (a : OneHopAt) : Type 0 where
  pub lawful : IsOneHopPacket a.packet
  pub whole : a.packet.header.payload_length ≡ length a.packet.payload
  pub short : length (one_hop_spelling a.packet) ≤ longest_datagram
  pub link : a.link ≡ 0
  pub near : IsNeighbored net (exit_of a)
  pub entry : End
  pub far : IsNeighbored net entry
  pub wire : Joined net (exit_of a) entry
  pub begins : (first_of a).construction_ingress ≡ 0
  pub mac : (first_of a).mac ≡ mac6 near.router.network.key (info_of a).segment_id (info_of a) (first_of a)
  pub unexpired : is_expired (info_of a) (first_of a) moment ≡ false
  pub begun : (info_of a).timestamp ≤ moment + 300
  pub source : IsHostOf a.packet.header.source (domain_of near.router)
  pub destination : IsHostOf a.packet.header.destination (domain_of far.router)
  pub known : IsKnown far.router a.packet.header.destination
  pub other : a.packet.header.next_header ≢ 203

-- ---- the path back

-- the second hop field, read from its twelve bytes
abbrev pub second_of : OneHopPacket → HopField
second_of p = hop_at p.path.second 0

-- the AS entry of a router's AS, both of whose interfaces are this router's
abbrev pub entry_of : ℕ → Router → HopField → AsEntry
entry_of r x field = record { home = domain_of x; key = x.network.key; field = field; taken_by = r; sent_by = r }

abbrev pub is_core_kind : LinkKind → Bool
is_core_kind Core = true
is_core_kind Parent = false
is_core_kind Child = false

-- Both hop fields of a delivered packet, from the one router to the other over a link of this kind, as a segment that is
-- travelled against the direction of its construction, with the identifier that the packet has.
abbrev pub segment_back : LinkKind → ℕ → ℕ → Router → ℕ → Router → OneHopPacket → PathSegment
segment_back kind beta r near q far p = record {
  info = record p.path.info { along = false };
  beta = beta;
  is_core = is_core_kind kind;
  made = entry_of r near p.path.first ∷ entry_of q far (second_of p) ∷ [];
}

-- What a packet that sets out at this moment asks of its path.
pub record IsOpenPath (net : Net) (ss : List PathSegment) (moment : ℕ) : Type 0 where
  pub path : IsPathOver net ss
  pub unexpired : (k : ℕ) → k < length ss → AreUnexpired (part ss k) moment
  pub identifiers : (k : ℕ) → k < length ss → (part ss k).info.segment_id ≡ beta_met (stretch_of (part ss k)) 0
