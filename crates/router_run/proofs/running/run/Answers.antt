use Rattle.std.proofs.Common.{length, refl, arith}
use Rattle.std.specs.Arc.{arc_value}
use Rattle.run_pipes.specs.Pipes.{piping_of}
use Rattle.router_run.proofs.TeamLemmas.{for_as}
use Rattle.router_run.proofs.Begin.{begins, crew_by, is_crew}
use Rattle.router_run.proofs.running.run.Goals as goal

pub start_front-receivers-requires-clause-count : goal.start_front-receivers-requires-clause-count
start_front-receivers-requires-clause-count g c = let a = c.requires.sources.1 in let b = c.requires.prepared.bare_workers.entering.count in omega arith

pub start_front-receivers-requires-clause-untold : goal.start_front-receivers-requires-clause-untold
start_front-receivers-requires-clause-untold g c κs within = c.requires.sources.0

pub start_front-receivers-requires-clause-receiving : goal.start_front-receivers-requires-clause-receiving
start_front-receivers-requires-clause-receiving g c κs within = for_as _ (length c.args.prepared.bare_workers.receivers.items) _ c.requires.prepared.teams.0 (let n = c.requires.prepared.bare_workers.entering.count in omega arith)

pub start_front-receivers-requires-clause-working : goal.start_front-receivers-requires-clause-working
start_front-receivers-requires-clause-working g c κs within = for_as _ (length c.args.prepared.bare_workers.processors.items) _ c.requires.prepared.teams.1 (let n = c.requires.prepared.bare_workers.after.working.count in omega arith)

pub start_rear-forwarders-requires-clause-count : goal.start_rear-forwarders-requires-clause-count
start_rear-forwarders-requires-clause-count g c = let a = c.requires.sinks.1 in let b = c.requires.prepared.bare_workers.after.leaving.count in omega arith

pub start_rear-forwarders-requires-clause-untold : goal.start_rear-forwarders-requires-clause-untold
start_rear-forwarders-requires-clause-untold g c κs within = c.requires.sinks.0

pub start_rear-forwarders-requires-clause-forwarding : goal.start_rear-forwarders-requires-clause-forwarding
start_rear-forwarders-requires-clause-forwarding g c κs within = for_as _ (length c.args.prepared.bare_workers.forwarders.items) _ c.requires.prepared.teams.2 (let n = c.requires.prepared.bare_workers.after.leaving.count in omega arith)

pub invariant_of-result : goal.invariant_of-result
invariant_of-result g c =
    let made = c.args.prepared.bare_workers in
    let rear = c.start_rear-forwarders.ensures c.if-are_all.true in
    let front = c.start_front-receivers.ensures rear.0 in (
      c.requires.workers,
      crew_by (arc_value c.args.prepared.base.common.shared).config (piping_of made.pipes) _ _ _ _ _ _ _ _ made.shutters.items
          front.0 front.1 c.in-Some.ensures rear.1
          (is_crew g.K.Sink.failed _ made c.args.sources.items c.args.sinks.items c.requires.prepared.bare_workers c.requires.sources.1 c.requires.sinks.1),
      c.requires.prepared.bare_workers.made,
      c.requires.prepared.room,
    )

pub returns-in-Some : goal.returns-in-Some
returns-in-Some g c =
    let made = c.args.prepared.bare_workers in
    let config = (arc_value c.args.prepared.base.common.shared).config in
    let rear = c.start_rear-forwarders.ensures c.if-are_all.true in
    let front = c.start_front-receivers.ensures rear.0 in
    begins g.K.Sink.failed config _ made.receivers.items made.forwarders.items c.args.sources.items c.args.sinks.items
    refl
    front.0
    rear.1
    (let b = c.requires.prepared.bare_workers.entering.count in omega arith)
    (let b = c.requires.prepared.bare_workers.after.leaving.count in omega arith)
    (c.requires.sources.1, c.requires.sinks.1)
    (crew_by config (piping_of made.pipes) _ _ _ _ _ _ _ _ made.shutters.items
    front.0 front.1 c.in-Some.ensures rear.1
    (is_crew g.K.Sink.failed _ made c.args.sources.items c.args.sinks.items c.requires.prepared.bare_workers c.requires.sources.1 c.requires.sinks.1))
    c.requires.prepared.bare_workers.after.shutting
    c.requires.prepared.bare_workers.filled
