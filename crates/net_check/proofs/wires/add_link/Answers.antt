use Rattle.std.proofs.Common.{ap}
use Rattle.std.proofs.lemmas.Option.{slice_get_past}
use Rattle.net_check.specs.Wires.{placed}
use Rattle.net_check.proofs.Added.{none_added}
use Rattle.net_check.proofs.wires.add_link.Goals as goal

pub returns-in-None : goal.returns-in-None
returns-in-None c = none_added c.args.list.now.items _ (ap (placed c.args.router) (slice_get_past c.args.links.now c.args.index c.in-None.ensures.lookup.3))
