use Rattle.std.proofs.Common.{◌∙◌}
use Rattle.udp_router.proofs.Led.{lacked, not_bound}
use Rattle.udp_router.proofs.run.run_router.Goals as goal

pub returns-in_default-clause-ran : goal.returns-in_default-clause-ran
returns-in_default-clause-ran g c = lacked c.args.config (g.I.Read.remaining c.args.reader.now) (g.O.Write.contents c.args.writer.now)

pub returns-in_default-new-clause-ran : goal.returns-in_default-new-clause-ran
returns-in_default-new-clause-ran g c = lacked c.args.config (g.I.Read.remaining c.args.reader.now) (g.O.Write.contents c.args.writer.now)

pub start_and_lead-requires-clause-sources : goal.start_and_lead-requires-clause-sources
start_and_lead-requires-clause-sources g c κs within = c.in-Ok-bind_links.ensures.sources

pub start_and_lead-requires-clause-sinks : goal.start_and_lead-requires-clause-sinks
start_and_lead-requires-clause-sinks g c κs within = c.in-Ok-bind_links.ensures.sinks

pub start_and_lead-requires-clause-links : goal.start_and_lead-requires-clause-links
start_and_lead-requires-clause-links g c κs within = c.as_slice.ensures.value ∙ c.in-Ok.ensures

pub returns-in-Ok-bind_links-clause-ran : goal.returns-in-Ok-bind_links-clause-ran
returns-in-Ok-bind_links-clause-ran g c = c.start_and_lead.ensures.ran

pub returns-in-Ok-bind_links-clause-fault : goal.returns-in-Ok-bind_links-clause-fault
returns-in-Ok-bind_links-clause-fault g c = c.start_and_lead.ensures.fault

pub returns-in-Ok-bind_links-clause-untouched : goal.returns-in-Ok-bind_links-clause-untouched
returns-in-Ok-bind_links-clause-untouched g c = c.start_and_lead.ensures.untouched

pub returns-in-Err-clause-ran : goal.returns-in-Err-clause-ran
returns-in-Err-clause-ran g c = not_bound c.args.config c.in-Err.fault c.unbound.result (g.I.Read.remaining c.args.reader.now) (g.O.Write.contents c.args.writer.now) c.unbound.ensures
