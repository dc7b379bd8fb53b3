-- The answer to a packet on a route: it stands on the route travelled back, so whatever is carried to its end there is carried
-- back.
use Rattle.std.specs.Prelude.{◌≡◌, false, ℕ, Some, None, if◌then◌else◌}
use Rattle.scion_packet.specs.Header.{HostAddress, IsAddress}
use Rattle.scion_packet.specs.Packet.{Packet, spelling}
use Rattle.scion_packet.specs.Path.{Place, place_at}
use Rattle.scion_packet.specs.Places.{mirrored}
use Rattle.process_packet.specs.declared.config.Config.{Config}
use Rattle.net_laws.specs.Net.{router_of}
use Rattle.scmp_answer.specs.Reply.{local_address, Sent, is_left_unanswered, reply}
use Rattle.scmp_answer.specs.WayBack.{is_external, way_back}
use Rattle.process_packet.specs.declared.decision.Problem.{Problem}
use Rattle.process_packet.specs.PacketState.{is_first_of_path}
use Rattle.net_laws.specs.Net.{Agrees, Net, Router, router_at}
use Rattle.net_laws.specs.Domain.{domain_of}
use Rattle.net_laws.specs.LawfulStart.{IsIpHost}
use Rattle.net_laws.specs.Route.{IsRoute, Route, reversed_route}
use Rattle.net_laws.specs.Stands.{PacketAt, IsHostOf, IsOnItsWay, IsUnasked, Stands, place_of}
use Rattle.net_laws.specs.Stop.{IsCarried}
use Rattle.net_laws.specs.Walk.{IsDelivered}

-- where on the way back the answer begins: at the hop of the router that answers
abbrev pub turning_point : PacketAt → Place
turning_point a =
    if is_external a.link then mirrored a.packet.path.segments (place_of a) else (way_back a.link a.packet.path).place

-- It is carried by the link by which the packet came, or to the router that took it in, and stands there on the way back.
pub record ReturnsOn (net : Net) (w : Route) (a : PacketAt) (x : Router) (q : Packet) : Type 0 where
  pub after : PacketAt
  pub packet : after.packet ≡ q
  pub carried : IsCarried net a.router x a.link (if is_external a.link then None else Some a.source) after
  pub stands : Stands net (reversed_route w) (turning_point a) after

-- it is not the route's first stop
abbrev pub IsUnderWay : PacketAt → Type 0
IsUnderWay a = is_first_of_path (place_of a) ≡ false

abbrev pub AnswersStandToo : Type 0
AnswersStandToo =
    (net : Net) (w : Route) (from : Place) (moment : ℕ) (a : PacketAt) (x : Router) (q : Packet) → Agrees net → IsRoute net w moment → Stands net w from a
    → router_at net a.router ≡ Some x → IsUnderWay a → q.path ≡ way_back a.link a.packet.path
    → IsOnItsWay net (reversed_route w) (turning_point a) q → ReturnsOn net w a x q

-- ---- the answer of a router

-- An IP address that a header has room for.
pub record CanAnswer (here : HostAddress) : Type 0 where
  pub address : IsAddress here
  pub ip : IsIpHost here

-- The router's answer is sent, stands on the way back, asks no router there, and is delivered.
pub record ComesBack (net : Net) (w : Route) (moment : ℕ) (a : PacketAt) (x : Router) (here : HostAddress) (problem : Problem) : Type 0 where
  pub answer : Packet
  pub sent : reply here a.link a.source (spelling a.packet) problem ≡ Sent a.link (if is_external a.link then None else Some a.source) answer
  pub for_source : answer.header.destination ≡ a.packet.header.source
  pub returns : ReturnsOn net w a x answer
  pub quiet : IsUnasked (reversed_route w) answer
  pub delivered : IsDelivered net (reversed_route w) (turning_point a) moment 127 returns.after

-- Wherever a packet stands that set out at the route's first hop, the answer of a router there comes back to its source, if it
-- may be answered at all.
abbrev pub AnswersComeBack : Type 0
AnswersComeBack =
    (net : Net) (w : Route) (moment : ℕ) (a : PacketAt) (c : Config) (problem : Problem) → Agrees net → IsRoute net w moment
    → Stands net w (place_at 0 0) a → router_at net a.router ≡ Some (router_of c) → IsUnderWay a
    → is_left_unanswered a.packet problem ≡ false → ComesBack net w moment a (router_of c) (local_address c) problem

-- ---- who answers

-- The address from which a router answers is of its AS, and an IP address that a header has room for.
pub record AnswersFromHome (c : Config) : Type 0 where
  pub home : IsHostOf (local_address c) (domain_of (router_of c))
  pub can : CanAnswer (local_address c)

abbrev pub RoutersAnswerFromHome : Type 0
RoutersAnswerFromHome = (c : Config) → AnswersFromHome c
