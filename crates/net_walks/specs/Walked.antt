-- What becomes of a packet that sets out lawfully, and of the answers to it.
use Rattle.std.specs.Prelude.{◌≡◌, ◌⊎◌, ℕ, false, List, Some, None, if◌then◌else◌}
use Rattle.field_rows.specs.Place.{IsBytes}
use Rattle.scion_packet.specs.Header.{HostAddress}
use Rattle.scion_packet.specs.Packet.{IsPacket, Packet, spelling}
use Rattle.process_packet.specs.declared.decision.Problem.{Problem}
use Rattle.process_packet.specs.declared.config.Config.{Config}
use Rattle.net_walks.specs.Stops.{most_stops, stops_from}
use Rattle.net_walks.specs.Visits.{ReturnsTo, came_of}
use Rattle.scmp_answer.specs.Reply.{is_left_unanswered, local_address, reply}
use Rattle.scmp_answer.specs.Reply as answers
use Rattle.scmp_answer.specs.WayBack.{is_external}
use Rattle.net_laws.specs.PathSegments.{PathSegment, route_over}
use Rattle.net_laws.specs.Configured.{AreNumbered}
use Rattle.net_laws.specs.LawfulStart.{LawfulStart, ReachesHost, SetsOutOn, WalksBy}
use Rattle.net_laws.specs.Net.{Agrees, Net, Router, router_at, router_of}
use Rattle.net_laws.specs.Stands.{PacketAt}
use Rattle.net_laws.specs.Stop.{IsAsked, IsCarried, verdict_at}

-- ---- answers

-- The answer is sent the way by which the packet came, comes to a router there, and from there to this host, stop by stop.
pub record IsCarriedBack (net : Net) (moment : ℕ) (b : PacketAt) (x : Router) (here : HostAddress) (problem : Problem) (host : HostAddress) : Type 0 where
  pub answer : Packet
  pub sent : reply here b.link b.source (spelling b.packet) problem ≡ answers.Sent b.link (if is_external b.link then None else Some b.source) answer
  pub first : PacketAt
  pub carried : IsCarried net b.router x b.link (if is_external b.link then None else Some b.source) first
  pub packet : first.packet ≡ answer
  pub reaches : ReachesHost net moment 127 first host
  pub returns : ReturnsTo net moment first host (stops_from net moment most_stops (Some (came_of first)))

-- From the first stop the answer goes straight to where the packet came from, from a later one to its source host.
pub data IsAnswered (net : Net) (moment : ℕ) (start : PacketAt) (x : Router) (here : HostAddress) (problem : Problem) : PacketAt → Type 0 where
  straight : (answer : Packet) → answer.header.destination ≡ start.packet.header.source
      → reply here start.link start.source (spelling start.packet) problem ≡ answers.Sent 0 (Some start.source) answer
      → IsAnswered net moment start x here problem start
  back : {b : PacketAt} → IsCarriedBack net moment b x here problem start.packet.header.source → IsAnswered net moment start x here problem b

-- At this stop, by the router there, for each problem, if it may be answered at all.
abbrev pub IsAnswerable : Net → ℕ → PacketAt → PacketAt → Type 0
IsAnswerable net moment start b =
    (c : Config) (problem : Problem) → router_at net b.router ≡ Some (router_of c) → is_left_unanswered b.packet problem ≡ false
    → IsAnswered net moment start (router_of c) (local_address c) problem b

-- ---- walks

-- the packet is lawful, and may be answered there
pub record IsLawfulStop (net : Net) (moment : ℕ) (start b : PacketAt) : Type 0 where
  pub lawful : IsPacket b.packet
  pub answers : IsAnswerable net moment start b

-- In at most 128 stops the packet is delivered to its destination, and an answer to it from any of them comes back.
pub record IsWalked (net : Net) (moment : ℕ) (a : PacketAt) : Type 0 where
  pub reaches : ReachesHost net moment 127 a a.packet.header.destination
  pub stops : WalksBy net moment (IsLawfulStop net moment a) 127 a reaches.end

-- Or it is a request, and the last stop's router answers it.
pub record IsAskedOnTheWay (net : Net) (ss : List PathSegment) (moment : ℕ) (a : PacketAt) : Type 0 where
  pub end : PacketAt
  pub stops : WalksBy net moment (IsLawfulStop net moment a) 127 a end
  pub here : Router
  pub here_is : router_at net end.router ≡ Some here
  pub asked : IsAsked (route_over ss) a.packet.header.next_header a.packet.payload (verdict_at here end moment)

-- ---- the laws, where links are numbered from 1, as in each net of configurations, and the datagram is bytes

abbrev pub LawfulStartsAreWalked : Type 0
LawfulStartsAreWalked =
    (net : Net) (ss : List PathSegment) (moment : ℕ) (a : PacketAt) → Agrees net → AreNumbered net → IsBytes (spelling a.packet)
    → LawfulStart net ss moment a → IsWalked net moment a

abbrev pub RequestsAreWalked : Type 0
RequestsAreWalked =
    (net : Net) (ss : List PathSegment) (moment : ℕ) (a : PacketAt) → Agrees net → AreNumbered net → IsBytes (spelling a.packet) → SetsOutOn net ss moment a
    → IsWalked net moment a ⊎ IsAskedOnTheWay net ss moment a
