use Rattle.std.proofs.Common.{◌+◌, ◌*◌, refl, sym, ◌∙◌, ap, subst}
use Rattle.process_packet.specs.declared.config.Config.{Config}
use Rattle.router_rules.specs.Links.{link_count}
use Rattle.router_run.specs.Prepared.{IsPrepared}
use Rattle.router_run.proofs.Begin.{starts}
use Rattle.router_run.proofs.running.start.Goals as goal

pub prepare-requires-clause-name : goal.prepare-requires-clause-name
prepare-requires-clause-name g c = c.requires.name

pub prepare-requires-clause-config : goal.prepare-requires-clause-config
prepare-requires-clause-config g c = c.requires.config

pub prepare-requires-clause-workers : goal.prepare-requires-clause-workers
prepare-requires-clause-workers g c = c.requires.workers

pub run-requires-clause-prepared : goal.run-requires-clause-prepared
run-requires-clause-prepared g c κs within =
    let p = c.in-Ok.prepared in
    subst (λ (k : Config). IsPrepared k p.bare_workers p.teams.receivers p.teams.processors p.teams.forwarders p.space) (sym c.in-Ok.ensures.shared) c.in-Ok.ensures.prepared

pub run-requires-clause-sources : goal.run-requires-clause-sources
run-requires-clause-sources g c κs within = (c.requires.sources, c.if-not-is_one_a_link.ensures.0 ∙ ap link_count (sym c.in-Ok.ensures.shared))

pub run-requires-clause-sinks : goal.run-requires-clause-sinks
run-requires-clause-sinks g c κs within = (c.requires.sinks, c.if-not-is_one_a_link.ensures.1 ∙ ap link_count (sym c.in-Ok.ensures.shared))

pub run-requires-clause-workers : goal.run-requires-clause-workers
run-requires-clause-workers g c κs within = c.requires.workers ∙ ap (λ (k : Config). 2 * link_count k + k.processors + 1) (sym c.in-Ok.ensures.shared)

pub returns-in-Ok : goal.returns-in-Ok
returns-in-Ok g c = starts g.K.Sink.failed _ _ _ _ _ c.in-Ok.ensures.shared c.if-not-is_one_a_link.ensures c.run.ensures

pub returns-in-Err : goal.returns-in-Err
returns-in-Err g c = (refl, refl, c.if-not-is_one_a_link.ensures)
