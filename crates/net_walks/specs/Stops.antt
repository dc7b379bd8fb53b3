-- The stops of a packet on its way through a net.
use Rattle.std.specs.Prelude.{◌≡◌, ◌<◌, ◌^◌, ℕ, zero, suc, Bool, not, ◌&&◌, ◌||◌, ◌==◌, List, [], ◌∷◌, find, Option, Some, None, is_none, option_map, if◌then◌else◌}
use Rattle.std.specs.List.{position_from}
use Rattle.scion_packet.specs.Header.{header_fault, header_fault_as, header_of, one_hop_path}
use Rattle.net_laws.specs.Agreement.{are_of_one_as, same_end}
use Rattle.process_packet.specs.Decide.{decide, moved}
use Rattle.net_laws.specs.Net.{Net, Router, end_at, router_at}
use Rattle.process_packet.specs.Network.{Network, is_local, own_link}
use Rattle.process_packet.specs.Routed.{IsRouted, bytes_for, decision_for}
use Rattle.process_packet.specs.Underlay.{same_underlay}
use Rattle.process_packet.specs.declared.arrival.Arrival.{Arrival}
use Rattle.process_packet.specs.declared.decision.Decision.{Decision}
use Rattle.process_packet.specs.declared.decision.Decision.TheVariants as decision
use Rattle.process_packet.specs.declared.neighbours.Link.{Link}
use Rattle.net_laws.specs.declared.net.End.{End}
use Rattle.net_laws.specs.declared.net.Wire.{Wire}
use Rattle.process_packet.specs.declared.underlay.Underlay.{Underlay}
use Rattle.net_walks.specs.declared.stop.Stop.{Stop}

-- a datagram that came to a router by a link from an underlay address
pub record Came : Type 0 where
  pub router : ℕ
  pub link : ℕ
  pub source : Underlay
  pub bytes : List ℕ

abbrev pub came_to : ℕ → Arrival → Came
came_to router a = record { router = router; link = a.link; source = a.source; bytes = a.bytes.items }

abbrev pub came_by : Stop → Came
came_by s = came_to s.router s.arrival

-- ---- from one stop to the next

-- where the wire leads from one of its ends
abbrev pub has_end : End → Wire → Bool
has_end e w = same_end w.one e || same_end w.other e

abbrev pub other_end : End → Wire → End
other_end e w = if same_end w.one e then w.other else w.one

-- the end to which the wire of an end leads, if it has one
abbrev pub far_end : List Wire → End → Option End
far_end wires e = option_map (other_end e) (find (has_end e) wires)

-- a router of this one's AS with this address
abbrev pub has_address : Router → Underlay → Router → Bool
has_address x to y = are_of_one_as x.network y.network && same_underlay y.internal to

-- it comes so, with these bytes
abbrev pub came_so : List ℕ → (End × Underlay) → Came
came_so bytes p = record { router = p.0.router; link = p.0.link; source = p.1; bytes = bytes }

abbrev pub arrives_over : Underlay → List ℕ → Option End → Option Came
arrives_over source bytes None = None
arrives_over source bytes (Some e) = Some (record { router = e.router; link = e.link; source = source; bytes = bytes })

abbrev pub arrives_within : Underlay → List ℕ → Option ℕ → Option Came
arrives_within source bytes None = None
arrives_within source bytes (Some q) = Some (record { router = q; link = 0; source = source; bytes = bytes })

-- out by a link, from its local address
abbrev pub over_wire : List Wire → ℕ → ℕ → List ℕ → Option Link → Option Came
over_wire wires router out bytes None = None
over_wire wires router out bytes (Some l) = arrives_over l.local bytes (far_end wires (end_at router out))

-- the header has no fault, for a path of either kind
abbrev pub is_headed : List ℕ → Bool
is_headed bytes = is_none (header_fault bytes) || is_none (header_fault_as one_hop_path bytes)

-- it came from outside and is for this AS, so that it is delivered where it is sent at all
abbrev pub is_for_host : Network → ℕ → List ℕ → Bool
is_for_host n link bytes = not (link == 0) && (is_headed bytes && is_local n (header_of bytes).destination)

-- to another router of this AS, from this one's address
abbrev pub within : List Router → Router → Came → Underlay → List ℕ → Option Came
within routers x c to bytes =
    if is_for_host x.network c.link c.bytes then None else arrives_within x.internal bytes (position_from (has_address x to) 0 routers)

abbrev pub carried : Net → Router → Came → Option Underlay → ℕ → List ℕ → Option Came
carried net x c None out bytes = over_wire net.wires c.router out bytes (own_link x.network out)
carried net x c (Some to) out bytes = within net.routers x c to bytes

abbrev pub sent_from : Net → Came → Option Underlay → ℕ → List ℕ → Option Router → Option Came
sent_from net c to out bytes None = None
sent_from net c to out bytes (Some x) = carried net x c to out bytes

abbrev pub carried_on : Net → Came → Decision → List ℕ → Option Router → Option Came
carried_on net c (decision.Send out to) bytes x = sent_from net c to out bytes x
carried_on net c (decision.Answer problem) bytes x = None
carried_on net c (decision.Drop cause) bytes x = None

abbrev pub next_from : Net → ℕ → Came → Option Router → Option Came
next_from net moment c None = None
next_from net moment c (Some x) =
    carried_on net c (decide x.network c.link c.source moment c.bytes) (moved x.network c.link c.source moment c.bytes) (Some x)

-- where the router's decision takes it next, if anywhere
unfoldable pub next_stop : Net → ℕ → Came → Option Came
next_stop net moment c = next_from net moment c (router_at net c.router)

-- one stop after the other, at most n
abbrev pub stops_from : Net → ℕ → ℕ → Option Came → List Came
stops_from net moment zero c = []
stops_from net moment (suc n) None = []
stops_from net moment (suc n) (Some c) = c ∷ stops_from net moment n (next_stop net moment c)

abbrev pub most_stops : ℕ
most_stops = 128

-- what is done there is the router's decision, with the bytes that leave; its link's number is one of 16 bits
pub record IsStop (net : Net) (moment : ℕ) (s : Stop) : Type 0 where
  pub here : Router
  pub here_is : router_at net s.router ≡ Some here
  pub routed : IsRouted (decision_for here.network s.arrival) (bytes_for here.network s.arrival) s.routed
  pub moment_is : s.arrival.now ≡ moment
  pub link_fits : s.arrival.link < 2 ^ 16
