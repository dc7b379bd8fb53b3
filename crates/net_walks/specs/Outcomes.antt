-- How a walk ends that sets out lawfully, and the walk of a reply to it.
use Rattle.std.specs.Prelude.{◌≡◌, ◌≢◌, ◌≤◌, ◌⊎◌, ℕ, true, List, length, Contains, Option, Some}
use Rattle.scion_packet.specs.Packet.{Packet, spelling}
use Rattle.process_packet.specs.Decide.{decide}
use Rattle.process_packet.specs.Request.{is_request}
use Rattle.process_packet.specs.declared.config.Config.{Config}
use Rattle.process_packet.specs.declared.decision.Decision.TheVariants as decision
use Rattle.process_packet.specs.declared.decision.Problem.{Problem}
use Rattle.process_packet.specs.declared.underlay.Underlay.{Underlay}
use Rattle.scmp_answer.specs.Reply.{local_address, reply}
use Rattle.scmp_answer.specs.Reply as answers
use Rattle.net_laws.specs.Net.{Net, Router, router_at, router_of}
use Rattle.net_laws.specs.PathSegments.{PathSegment, route_over}
use Rattle.net_laws.specs.Route.{IsOn, hop_of}
use Rattle.net_laws.specs.Stands.{PacketAt}
use Rattle.scion_packet.specs.Path.{Place}
use Rattle.net_walks.specs.Stops.{Came, carried, most_stops, stops_from}
use Rattle.net_walks.specs.Visits.{IsDeliveredAt, Visits, came_of}
use Rattle.net_walks.specs.Walked.{IsLawfulStop}

-- The last stop delivers the packet to its destination, and an answer to it from any of them comes back.
pub record IsDeliveredBy (net : Net) (moment : ℕ) (start : PacketAt) (stops : List Came) : Type 0 where
  pub end : PacketAt
  pub visits : Visits (IsLawfulStop net moment start) stops end
  pub few : length stops ≤ 128
  pub delivery : IsDeliveredAt net moment start end start.packet.header.destination

-- The packet is a request, and the last stop's router replies to it: a hop field of its path has a router alert flag set. An
-- answer to it from any of the stops comes back.
pub record IsRepliedTo (net : Net) (ss : List PathSegment) (moment : ℕ) (start : PacketAt) (stops : List Came) : Type 0 where
  pub end : PacketAt
  pub visits : Visits (IsLawfulStop net moment start) stops end
  pub few : length stops ≤ 128
  pub here : Router
  pub here_is : router_at net end.router ≡ Some here
  pub interface : ℕ
  pub decision : decide here.network end.link end.source moment (spelling end.packet) ≡ decision.Answer (record { kind = 131; code = 0; pointer = interface })
  pub request : is_request start.packet.header.next_header start.packet.payload ≡ true
  pub at : Place
  pub on : IsOn (route_over ss) at
  pub flag : ((hop_of (route_over ss) at).ingress_alert ≡ true) ⊎ ((hop_of (route_over ss) at).egress_alert ≡ true)

-- The datagram is where a router's answer comes to: the router of a stop of this walk after its first one, with its own address.
pub record IsReply (net : Net) (moment : ℕ) (start : PacketAt) (first : Came) : Type 0 where
  pub stop : Came
  pub met : Contains (stops_from net moment most_stops (Some (came_of start))) stop
  pub later : stop ≢ came_of start
  pub config : Config
  pub here_is : router_at net stop.router ≡ Some (router_of config)
  pub problem : Problem
  pub out : ℕ
  pub to : Option Underlay
  pub answer : Packet
  pub sent : reply (local_address config) stop.link stop.source stop.bytes problem ≡ answers.Sent out to answer
  pub carried : carried net (router_of config) stop to out (spelling answer) ≡ Some first
