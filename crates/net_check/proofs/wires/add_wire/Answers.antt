use Rattle.std.proofs.Common.{ap}
use Rattle.std.specs.List.{slice_get}
use Rattle.std.proofs.lemmas.Option.{slice_get_past}
use Rattle.net_check.specs.Wires.{between}
use Rattle.net_check.proofs.Added.{none_added}
use Rattle.net_check.proofs.wires.add_wire.Goals as goal

pub returns-in-None : goal.returns-in-None
returns-in-None c = none_added c.args.list.now.items _ (ap (λ found. between found (slice_get c.args.links.now c.args.other)) (slice_get_past c.args.links.now c.args.one c.in-None.ensures.lookup.3))
