-- The walk of any datagram through a net, whoever made it, from whatever router it comes to first.
use Rattle.std.specs.Prelude.{◌≡◌, ◌≢◌, ◌<◌, ◌+◌, ℕ, suc, List, length, Option, Some, slice_index}
use Rattle.std.specs.List.{slice_get}
use Rattle.field_rows.specs.Place.{IsBytes}
use Rattle.scion_packet.specs.Header.{one_hop_path}
use Rattle.scion_packet.specs.Packet.{packet_of}
use Rattle.scion_packet.specs.Path.{hops_in}
use Rattle.process_packet.specs.declared.decision.Decision.TheVariants as decision
use Rattle.process_packet.specs.declared.underlay.Underlay.{Underlay}
use Rattle.process_packet.specs.Chaining as chaining
use Rattle.process_packet.specs.Decide.{decide, moved}
use Rattle.process_packet.specs.PacketState.{PacketState}
use Rattle.net_laws.specs.Net.{Net, Router, router_at}
use Rattle.net_laws.specs.Stands.{PacketAt}
use Rattle.net_laws.specs.Stop.{IsCarried}

-- A datagram that comes to a router by a link from an underlay address, at a moment, and that the router sends by this link, or on
-- link 0 to this address within its AS.
pub record Sending : Type 0 where
  pub router : ℕ
  pub here : Router
  pub link : ℕ
  pub source : Underlay
  pub moment : ℕ
  pub bytes : List ℕ
  pub out : ℕ
  pub to : Option Underlay

-- the bytes that leave
abbrev pub left : Sending → List ℕ
left s = moved s.here.network s.link s.source s.moment s.bytes

-- The router is one of the net, and this is its decision.
pub record IsSending (net : Net) (s : Sending) : Type 0 where
  pub here_is : router_at net s.router ≡ Some s.here
  pub are : IsBytes s.bytes
  pub decision : decide s.here.network s.link s.source s.moment s.bytes ≡ decision.Send s.out s.to

-- where it comes, how, and what
abbrev pub arrival : Sending → PacketAt
arrival s = record { router = s.router; link = s.link; source = s.source; packet = packet_of s.bytes }

-- What comes to the one is what the other one sent: over the wire of the link by which it left, or within the AS to the router that
-- has the address.
pub record ComesFrom (net : Net) (s t : Sending) : Type 0 where
  pub carried : IsCarried net s.router s.here s.out s.to (arrival t)
  pub bytes : t.bytes ≡ left s

-- Each router sends what comes to it, and to each but the first comes what the one before sent. Nothing is asked of the first
-- datagram, nor of the link, the address and the moment at which it comes; the moments of the others may be any too.
pub record IsWalk (net : Net) (walk : List Sending) : Type 0 where
  pub sent : (i : ℕ) (s : Sending) → slice_get walk i ≡ Some s → IsSending net s
  pub next : (i : ℕ) (s t : Sending) → slice_get walk i ≡ Some s → slice_get walk (suc i) ≡ Some t → ComesFrom net s t

-- its path isn't one of one hop
abbrev pub IsOnLongPath : Sending → Type 0
IsOnLongPath s = slice_index s.bytes 8 ≢ one_hop_path

-- The packet at the hop field that the router accepts where it comes, with that one's identifier; and at the one by which it leaves, which
-- is the same unless its segment ends here and another one follows.
abbrev pub at_entry : Sending → PacketState
at_entry s = chaining.at_entry s.here.network s.link s.source s.moment s.bytes

abbrev pub at_exit : Sending → PacketState
at_exit s = chaining.at_exit s.here.network s.link s.source s.moment s.bytes

-- Its segment goes on after the hop field at which it stands, or ends there and another one follows.
abbrev pub IsOnItsWay : PacketState → Type 0
IsOnItsWay u = u.path.place.position + 1 < hops_in u.path.segments u.path.place.segment

pub record ChangesSegment (u : PacketState) : Type 0 where
  pub ends : u.path.place.position + 1 ≡ hops_in u.path.segments u.path.place.segment
  pub followed : u.path.place.segment + 1 < length u.path.segments
