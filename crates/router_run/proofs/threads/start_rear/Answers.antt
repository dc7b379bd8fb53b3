use Rattle.std.proofs.Common.{length, ◌∙◌, ap, arith}
use Rattle.worker_threads.specs.Teams.{Seated}
use Rattle.run_workers.specs.Kits.{forwarding_over}
use Rattle.router_run.proofs.Lists.{paired_long}
use Rattle.router_run.proofs.threads.start_rear.Goals as goal

pub invariant_of-forwarders : goal.invariant_of-forwarders
invariant_of-forwarders g c =
    let long = ap length c.over_each-forwarders.ensures ∙ paired_long (forwarding_over g.K.Sink.failed) c.args.forwarders.items c.args.sinks.items c.requires.count in
    let room = ap (λ (t : Seated _). t.handles) c.forwarding.view_is in
    let fits = c.requires.forwarding.2 in
    (c.forwarding.invariant.0, omega arith)

pub returns : goal.returns
returns g c = λ all. let forwarders = c.start_each-forwarders.ensures all in (forwarders.0, forwarders.1 ∙ c.over_each-forwarders.ensures)
