-- How a packet sets out on a route.
use Rattle.std.specs.Prelude.{◌≡◌, ◌<◌, ℕ, length, Some}
use Rattle.scion_packet.specs.Path.{Place, place_at}
use Rattle.scion_packet.specs.Places.{info_there}
use Rattle.net_laws.specs.Net.{Agrees, Net, Router, router_at}
use Rattle.net_laws.specs.Domain.{IsOf}
use Rattle.net_laws.specs.Route.{IsRoute, Route, info_of}
use Rattle.net_laws.specs.Stands.{PacketAt, IsOnItsWay, IsUnasked, Stands, hops_at, with_id_of}
use Rattle.net_laws.specs.Walk.{IsDelivered}

-- the route's first hop
abbrev pub outset : Place
outset = place_at 0 0

-- From inside, wherever from, it comes to the router with the interface by which its first hop is left; the cursor is there, and
-- each segment has the identifier of the hop that is travelled first.
pub record SetsOut (net : Net) (w : Route) (a : PacketAt) : Type 0 where
  pub link : a.link ≡ 0
  pub router : a.router ≡ w.left_by outset
  pub here : Router
  pub here_is : router_at net a.router ≡ Some here
  pub home : IsOf here (w.home outset)
  pub place : a.packet.path.place ≡ outset
  pub count : length a.packet.path.segments ≡ length w.segments
  pub hops : (k : ℕ) → hops_at a.packet.path.segments k ≡ hops_at w.segments k
  pub ids : (p : Place) → p.segment < length w.segments → info_there a.packet.path.segments p ≡ with_id_of (w.beta (place_at p.segment 0)) (info_of w p)
  pub way : IsOnItsWay net w outset a.packet

abbrev pub PathsAreWalked : Type 0
PathsAreWalked =
    (net : Net) (w : Route) (moment : ℕ) (a : PacketAt) → Agrees net → IsRoute net w moment → SetsOut net w a → IsUnasked w a.packet → Stands net w outset a × IsDelivered net w outset moment 127 a
