use Rattle.std.proofs.Common.{None, Option, Some, ap, ap₂, sym, ◌∙◌}
use Rattle.std.proofs.lemmas.Option.{slice_get_past}
use Rattle.net_laws.specs.Net.{Router, net_of}
use Rattle.process_packet.specs.declared.underlay.Underlay.{Underlay}
use Rattle.net_walks.specs.Stops.{came_to, sent_from}
use Rattle.net_walks.proofs.StopsLemmas.{at_router, looked_up}
use Rattle.net_walks.proofs.walking.way_on.Goals as goal

pub returns-in-Some-to : goal.returns-in-Some-to
returns-in-Some-to c bytes =
    let net = c.args.net.now in
    let xs = c.deref.result.now in
    let here = at_router net.configs.items xs net.wires.items c.args.router (Some c.in-Some.config.now) (looked_up xs c.args.router c.in-Some.config.now c.in-Some.ensures.lookup.3.0 (c.in-Some.ensures.lookup.3.1 c.in-Some.config.now)) c.deref.ensures.value in
    c.within.ensures c.args.router bytes
    ∙ sym (ap₂ (λ (x : Option Router) (t : Option Underlay). sent_from (net_of net) (came_to c.args.router c.args.arrival.now) t c.args.link bytes x) here c.in-Some-to.is)

pub returns-in-None : goal.returns-in-None
returns-in-None c bytes =
    let net = c.args.net.now in
    let xs = c.deref.result.now in
    let none = at_router net.configs.items xs net.wires.items c.args.router None (sym (slice_get_past xs c.args.router c.in-None.ensures.lookup.3)) c.deref.ensures.value in
    sym (ap (sent_from (net_of net) (came_to c.args.router c.args.arrival.now) c.args.to.now c.args.link bytes) none)
