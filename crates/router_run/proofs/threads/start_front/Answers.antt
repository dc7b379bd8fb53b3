use Rattle.std.proofs.Common.{length, ◌∙◌, ap, arith}
use Rattle.worker_threads.specs.Teams.{Seated}
use Rattle.run_workers.specs.Kits.{receiving_over}
use Rattle.router_run.proofs.Lists.{paired_long}
use Rattle.router_run.proofs.threads.start_front.Goals as goal

pub invariant_of-receivers : goal.invariant_of-receivers
invariant_of-receivers g c =
    let long = ap length c.over_each-receivers.ensures ∙ paired_long receiving_over c.args.receivers.items c.args.sources.items c.requires.count in
    let room = ap (λ (t : Seated _). t.handles) c.receiving.view_is in
    let fits = c.requires.receiving.2 in
    (c.receiving.invariant.0, omega arith)

pub invariant_of-processors : goal.invariant_of-processors
invariant_of-processors g c =
    let room = ap (λ (t : Seated _). t.handles) c.working.view_is in
    let fits = c.requires.working.2 in
    (c.working.invariant.0, omega arith)

pub returns : goal.returns
returns g c = λ all.
    let processors = c.start_each-processors.ensures all in
    let receivers = c.start_each-receivers.ensures processors.0 in
    (receivers.1 ∙ c.over_each-receivers.ensures, processors.1)
