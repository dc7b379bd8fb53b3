use Rattle.std.proofs.Common.{None, Some, sym}
use Rattle.net_walks.proofs.StopsLemmas.{found_is}
use Rattle.net_walks.proofs.carrying.within.Goals as goal

pub returns-in-Some : goal.returns-in-Some
returns-in-Some c router bytes =
    sym (found_is c.args.net.now.configs.items c.as_slice-2.result.now c.args.config.now router c.args.arrival.now c.as_slice.result.now c.args.to.now bytes
    c.is_for_host.result c.router_with.result (Some c.in-Some.router) c.is_for_host.ensures c.as_slice.ensures.value c.if-is_for_host.false
    c.router_with.ensures c.as_slice-2.ensures.value c.in-Some.is)

pub returns-in-None : goal.returns-in-None
returns-in-None c router bytes =
    sym (found_is c.args.net.now.configs.items c.as_slice-2.result.now c.args.config.now router c.args.arrival.now c.as_slice.result.now c.args.to.now bytes
    c.is_for_host.result c.router_with.result None c.is_for_host.ensures c.as_slice.ensures.value c.if-is_for_host.false
    c.router_with.ensures c.as_slice-2.ensures.value c.in-None.is)
