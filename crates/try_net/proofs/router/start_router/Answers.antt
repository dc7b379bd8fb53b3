use Rattle.udp_devices.specs.Devices.{Reading, Sending}
use Rattle.try_net.proofs.Untold.{untold}
use Rattle.try_net.proofs.router.start_router.Goals as goal

pub start-started-requires-clause-name : goal.start-started-requires-clause-name
start-started-requires-clause-name g c κs within = c.requires.name

pub start-started-requires-clause-config : goal.start-started-requires-clause-config
start-started-requires-clause-config g c κs within = c.requires.config_is

pub start-started-requires-clause-workers : goal.start-started-requires-clause-workers
start-started-requires-clause-workers g c κs within = c.requires.workers_are

pub start-started-requires-clause-sources : goal.start-started-requires-clause-sources
start-started-requires-clause-sources g c κs within = untold Reading _ c.args.plan.devices.sources.items

pub start-started-requires-clause-sinks : goal.start-started-requires-clause-sinks
start-started-requires-clause-sinks g c κs within = untold Sending _ c.args.plan.devices.sinks.items
