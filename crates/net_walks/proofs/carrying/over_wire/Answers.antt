use Rattle.std.proofs.Common.{rules}
use Rattle.net_walks.proofs.carrying.over_wire.Goals as goal

pub returns-in-Some : goal.returns-in-Some
returns-in-Some c = search rules
