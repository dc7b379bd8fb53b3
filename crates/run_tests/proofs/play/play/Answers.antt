use Rattle.worker_order.specs.Heard.{Heard}
use Rattle.worker_parts.specs.Told.{Told}
use Rattle.run_tests.proofs.UntoldLemmas.{untold_silent}
use Rattle.run_tests.proofs.play.play.Goals as goal

pub start-requires-clause-sources : goal.start-requires-clause-sources
start-requires-clause-sources g c κs lives = untold_silent Heard c.args.setup.devices.sources.items

pub start-requires-clause-sinks : goal.start-requires-clause-sinks
start-requires-clause-sinks g c κs lives = untold_silent Told c.args.setup.devices.sinks.items
