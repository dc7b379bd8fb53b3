-- One stop of a packet on a route: what the router there does with it, and where it stands then.
use Rattle.std.specs.Prelude.{◌⊎◌, ◌≡◌, ◌<◌, ◌+◌, ◌*◌, ◌==◌, if◌then◌else◌, ℕ, Bool, true, false, List, Option, Some, None}
use Rattle.scion_packet.specs.Packet.{spelling}
use Rattle.scion_packet.specs.Path.{Place, hop_number}
use Rattle.scion_packet.specs.Places.{is_last_of_path}
use Rattle.process_packet.specs.declared.neighbours.Link.{Link}
use Rattle.process_packet.specs.declared.underlay.Underlay.{Underlay}
use Rattle.process_packet.specs.Decide.{verdict}
use Rattle.process_packet.specs.Network.{Network, own_link}
use Rattle.process_packet.specs.Rows.{Sent, Verdict, delivered, traceroute_reply}
use Rattle.process_packet.specs.Request.{is_request}
use Rattle.process_packet.specs.PacketState.{PacketState, packet}
use Rattle.net_laws.specs.Net.{Agrees, AreOfOneAS, Joined, Net, Router, end_at, router_at}
use Rattle.net_laws.specs.Route.{IsOn, IsRoute, Route, hop_of}
use Rattle.process_packet.specs.Shown.{is_for_us, turned}
use Rattle.net_laws.specs.Stands.{PacketAt, Stands, place_of}

-- a packet that comes so, as the rows of the decision see it
abbrev pub packet_state : Network → PacketAt → ℕ → List ℕ → PacketState
packet_state n a moment bytes = record {
  network = n;
  link = a.link;
  source = a.source;
  moment = moment;
  bytes = bytes;
  header = a.packet.header;
  path = a.packet.path;
  payload = a.packet.payload;
  switched = false;
}

-- What leaves by a link comes to the router at the other end of its wire; what is sent to an address of this AS's network comes
-- to the router that has it.
pub data IsCarried (net : Net) (r : ℕ) (x : Router) : ℕ → Option Underlay → PacketAt → Type 0 where
  over_wire : {out : ℕ} {b : PacketAt} (l : Link) → own_link x.network out ≡ Some l → Joined net (end_at r out) (end_at b.router b.link) → b.source ≡ l.local
      → IsCarried net r x out None b
  within : {to : Underlay} {b : PacketAt} (y : Router) → router_at net b.router ≡ Some y → AreOfOneAS x y → y.internal ≡ to → b.link ≡ 0
      → b.source ≡ x.internal → IsCarried net r x 0 (Some to) b

-- How far it came: two for each hop, and one more once it is within the hop's AS.
abbrev pub progress : Route → PacketAt → ℕ
progress w a = 2 * hop_number w.segments (place_of a) + (if a.link == 0 then 1 else 0)

-- It isn't for this router's AS, is sent on, farther than it came so far, and stands on the route where it comes to.
pub record IsForwarded (net : Net) (w : Route) (r : ℕ) (x : Router) (so_far : ℕ) (for_us : Bool) (v : Verdict) (next : PacketAt → Type 0) : Type 0 where
  pub others : for_us ≡ false
  pub out : ℕ
  pub to : Option Underlay
  pub after : PacketAt
  pub verdict : v ≡ Sent out to after.packet
  pub carried : IsCarried net r x out to after
  pub farther : so_far < progress w after
  pub stands : next after

-- It is a request that a hop field of the route asks a router here to answer, and it is answered.
pub record IsAsked (w : Route) (next_header : ℕ) (payload : List ℕ) (v : Verdict) : Type 0 where
  pub interface : ℕ
  pub verdict : v ≡ traceroute_reply interface
  pub at : Place
  pub on : IsOn w at
  pub flag : ((hop_of w at).ingress_alert ≡ true) ⊎ ((hop_of w at).egress_alert ≡ true)
  pub request : is_request next_header payload ≡ true

-- what the router does with a packet that comes so
abbrev pub verdict_at : Router → PacketAt → ℕ → Verdict
verdict_at x a moment = verdict x.network a.link a.source moment (spelling a.packet)

-- ---- the law

-- A packet that stands on a route is delivered at the route's last hop. At any other one it is sent on, by the link or to the
-- router that leads to the next hop, and stands on the route where it comes to. Either way, unless it is a request that asks
-- this router.
pub record OneStop : Type 0 where
  pub ends : (net : Net) (w : Route) (from : Place) (moment : ℕ) (a : PacketAt) (x : Router)
      → Agrees net → IsRoute net w moment → Stands net w from a → router_at net a.router ≡ Some x → is_last_of_path w.segments (place_of a) ≡ true
      → (verdict_at x a moment ≡ delivered x.network (packet (turned (packet_state x.network a moment (spelling a.packet)))))
      ⊎ IsAsked w a.packet.header.next_header a.packet.payload (verdict_at x a moment)
  pub goes_on : (net : Net) (w : Route) (from : Place) (moment : ℕ) (a : PacketAt) (x : Router)
      → Agrees net → IsRoute net w moment → Stands net w from a → router_at net a.router ≡ Some x → is_last_of_path w.segments (place_of a) ≡ false
      → IsForwarded net w a.router x (progress w a) (is_for_us (packet_state x.network a moment (spelling a.packet))) (verdict_at x a moment) (Stands net w from)
      ⊎ IsAsked w a.packet.header.next_header a.packet.payload (verdict_at x a moment)

-- In a net that agrees a packet that is sent comes to one router only, the same way.
abbrev pub CarriedToOne : Type 0
CarriedToOne =
    (net : Net) (r : ℕ) (x : Router) (out : ℕ) (to : Option Underlay) (b c : PacketAt) → Agrees net → router_at net r ≡ Some x
    → IsCarried net r x out to b → IsCarried net r x out to c → b.packet ≡ c.packet → b ≡ c
