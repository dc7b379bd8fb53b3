-- A walk: stop after stop, each the decision of the router there about what the stop before sent.
use Rattle.std.specs.Prelude.{◌⊎◌, ◌≡◌, ℕ, suc, true, Option, Some}
use Rattle.scion_packet.specs.Packet.{spelling}
use Rattle.scion_packet.specs.Path.{Place}
use Rattle.scion_packet.specs.Places.{is_last_of_path}
use Rattle.process_packet.specs.declared.underlay.Underlay.{Underlay}
use Rattle.process_packet.specs.Rows.{Sent, delivered}
use Rattle.process_packet.specs.PacketState.{packet}
use Rattle.net_laws.specs.Net.{Agrees, Net, Router, router_at}
use Rattle.net_laws.specs.Route.{IsRoute, Route}
use Rattle.process_packet.specs.Shown.{turned}
use Rattle.net_laws.specs.Stands.{PacketAt, IsUnasked, Stands, place_of}
use Rattle.net_laws.specs.Stop.{IsAsked, IsCarried, packet_state, verdict_at}

-- from one stop to another one, over at most n others
pub data Walks (net : Net) (moment : ℕ) : ℕ → PacketAt → PacketAt → Type 0 where
  is_there : {n : ℕ} {a : PacketAt} → Walks net moment n a a
  goes : {n : ℕ} {a b z : PacketAt} (x : Router) (out : ℕ) (to : Option Underlay) → router_at net a.router ≡ Some x → verdict_at x a moment ≡ Sent out to b.packet
      → IsCarried net a.router x out to b → Walks net moment n b z → Walks net moment (suc n) a z

-- The walk ends in delivery, at the route's last hop.
pub record IsDelivered (net : Net) (w : Route) (from : Place) (moment n : ℕ) (a : PacketAt) : Type 0 where
  pub end : PacketAt
  pub walk : Walks net moment n a end
  pub header : end.packet.header ≡ a.packet.header
  pub payload : end.packet.payload ≡ a.packet.payload
  pub stands : Stands net w from end
  pub last : is_last_of_path w.segments (place_of end) ≡ true
  pub here : Router
  pub here_is : router_at net end.router ≡ Some here
  pub delivery : verdict_at here end moment ≡ delivered here.network (packet (turned (packet_state here.network end moment (spelling end.packet))))

-- The walk ends where a router is asked to answer a request, and answers it.
pub record EndsAsked (net : Net) (w : Route) (from : Place) (moment n : ℕ) (a : PacketAt) : Type 0 where
  pub end : PacketAt
  pub walk : Walks net moment n a end
  pub header : end.packet.header ≡ a.packet.header
  pub payload : end.packet.payload ≡ a.packet.payload
  pub stands : Stands net w from end
  pub here : Router
  pub here_is : router_at net end.router ≡ Some here
  pub asked : IsAsked w end.packet.header.next_header end.packet.payload (verdict_at here end moment)

-- From wherever it stands on a route, a packet is delivered or asks a router: 128 stops at most, the last one among them. What
-- doesn't ask is delivered.
pub record RoutesAreWalked : Type 0 where
  pub always : (net : Net) (w : Route) (from : Place) (moment : ℕ) (a : PacketAt) → Agrees net → IsRoute net w moment → Stands net w from a
      → IsDelivered net w from moment 127 a ⊎ EndsAsked net w from moment 127 a
  pub unasked : (net : Net) (w : Route) (from : Place) (moment : ℕ) (a : PacketAt) → Agrees net → IsRoute net w moment → Stands net w from a
      → IsUnasked w a.packet → IsDelivered net w from moment 127 a
