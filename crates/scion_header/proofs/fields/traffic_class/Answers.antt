use Rattle.std.proofs.Common.{rules}
use Rattle.scion_header.proofs.fields.traffic_class.Goals as goal

pub returns : goal.returns
returns c = search rules
