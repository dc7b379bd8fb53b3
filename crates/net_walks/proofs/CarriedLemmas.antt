-- Where a stop's packet is carried to: in a net that agrees a router of the net.
use Rattle.std.proofs.Common.{◌≡◌, ◌<◌, ℕ, Bool, true, false, List, [], length, find, option_map, Option, Some, None, Contains, refl, subst, ◌∙◌, if◌then◌else◌}
use Rattle.std.specs.List.{position_from}
use Rattle.std.proofs.lemmas.Iterator.Adapters.{position_from-zero}
use Rattle.std.proofs.lemmas.List.Quantifiers.{position-Some}
use Rattle.std.proofs.lemmas.Option.{slice_get_within}
use Rattle.net_laws.specs.Agreement.{same_end}
use Rattle.process_packet.specs.Decide.{decide, moved}
use Rattle.net_laws.specs.Net.{Agrees, IsWire, Net, Router, end_at, router_at}
use Rattle.process_packet.specs.Network.{own_link}
use Rattle.process_packet.specs.declared.decision.Decision.{Decision}
use Rattle.process_packet.specs.declared.decision.Decision.TheVariants as decision
use Rattle.process_packet.specs.declared.neighbours.Link.{Link}
use Rattle.net_laws.specs.declared.net.End.{End}
use Rattle.net_laws.specs.declared.net.Wire.{Wire}
use Rattle.process_packet.specs.declared.underlay.Underlay.{Underlay}
use Rattle.net_walks.specs.Stops.{Came, arrives_over, arrives_within, carried_on, has_address, has_end, is_for_host, next_from, next_stop, other_end, over_wire, sent_from}
use Rattle.net_laws.proofs.NetLemmas.{found}

-- ---- a router of the net

end_there : (net : Net) → Agrees net → (e : End) (w : Wire) → Contains net.wires w → (b : Bool) → (if b then w.other else w.one).router < length net.routers
end_there net agrees e w there true = let is : IsWire net w = agrees.wires w there in slice_get_within net.routers w.other.router is.other is.other_is
end_there net agrees e w there false = let is : IsWire net w = agrees.wires w there in slice_get_within net.routers w.one.router is.one is.one_is

arrives_there : (net : Net) → Agrees net → (e : End) (source : Underlay) (bytes : List ℕ) (d : Came) (o : Option Wire) → find (has_end e) net.wires ≡ o
    → arrives_over source bytes (option_map (other_end e) o) ≡ Some d → d.router < length net.routers
arrives_there net agrees e source bytes d None at comes = absurd cc
arrives_there net agrees e source bytes d (Some w) at comes =
    let f = found (has_end e) net.wires w at in
    let made : Came = record { router = (other_end e w).router; link = (other_end e w).link; source = source; bytes = bytes } in
    let same : made ≡ d = let is : Some made ≡ Some d = comes in cc in
    subst (λ (c : Came). c.router < length net.routers) same (end_there net agrees e w f.there (same_end w.one e))

over_there : (net : Net) → Agrees net → (router out : ℕ) (bytes : List ℕ) (d : Came) (o : Option Link) → over_wire net.wires router out bytes o ≡ Some d → d.router < length net.routers
over_there net agrees router out bytes d None comes = absurd cc
over_there net agrees router out bytes d (Some l) comes = arrives_there net agrees (end_at router out) l.local bytes d (find (has_end (end_at router out)) net.wires) refl comes

place_there : (net : Net) (p : Router → Bool) (source : Underlay) (bytes : List ℕ) (d : Came) (o : Option ℕ) → position_from p 0 net.routers ≡ o
    → arrives_within source bytes o ≡ Some d → d.router < length net.routers
place_there net p source bytes d None at comes = absurd cc
place_there net p source bytes d (Some q) at comes =
    let x : Router = record { network = record { isd = 0; autonomous_system = 0; key = []; host_port = 0; dispatched_ports = None; links = []; siblings = []; services = [] }; internal = source } in
    let below = (position-Some p net.routers q x (position_from-zero p net.routers ∙ at)).0 in
    let made : Came = record { router = q; link = 0; source = source; bytes = bytes } in
    let same : made ≡ d = let is : Some made ≡ Some d = comes in cc in
    subst (λ (c : Came). c.router < length net.routers) same below

within_there : (net : Net) (x : Router) (to : Underlay) (bytes : List ℕ) (d : Came) (b : Bool)
    → (if b then None else arrives_within x.internal bytes (position_from (has_address x to) 0 net.routers)) ≡ Some d → d.router < length net.routers
within_there net x to bytes d true comes = absurd cc
within_there net x to bytes d false comes = place_there net (has_address x to) x.internal bytes d (position_from (has_address x to) 0 net.routers) refl comes

sent_there : (net : Net) → Agrees net → (c : Came) (to : Option Underlay) (out : ℕ) (bytes : List ℕ) (d : Came) (x : Option Router) → sent_from net c to out bytes x ≡ Some d
    → d.router < length net.routers
sent_there net agrees c to out bytes d None comes = absurd cc
sent_there net agrees c None out bytes d (Some x) comes = over_there net agrees c.router out bytes d (own_link x.network out) comes
sent_there net agrees c (Some to) out bytes d (Some x) comes = within_there net x to bytes d (is_for_host x.network c.link c.bytes) comes

carried_there : (net : Net) → Agrees net → (c : Came) (bytes : List ℕ) (d : Came) (x : Option Router) (e : Decision) → carried_on net c e bytes x ≡ Some d → d.router < length net.routers
carried_there net agrees c bytes d x (decision.Send out to) comes = sent_there net agrees c to out bytes d x comes
carried_there net agrees c bytes d x (decision.Answer problem) comes = absurd cc
carried_there net agrees c bytes d x (decision.Drop cause) comes = absurd cc

from_there : (net : Net) → Agrees net → (moment : ℕ) (c d : Came) (o : Option Router) → next_from net moment c o ≡ Some d → d.router < length net.routers
from_there net agrees moment c d None comes = absurd cc
from_there net agrees moment c d (Some x) comes =
    carried_there net agrees c (moved x.network c.link c.source moment c.bytes) d (Some x) (decide x.network c.link c.source moment c.bytes) comes

pub next_there : (net : Net) → Agrees net → (moment : ℕ) (c d : Came) → next_stop net moment c ≡ Some d → d.router < length net.routers
unfolding next_stop
next_there net agrees moment c d comes = from_there net agrees moment c d (router_at net c.router) comes
