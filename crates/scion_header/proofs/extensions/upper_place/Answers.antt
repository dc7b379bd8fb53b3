use Rattle.std.proofs.Common.{rules}
use Rattle.scion_header.proofs.extensions.upper_place.Goals as goal

pub returns-clause-layer : goal.returns-clause-layer
returns-clause-layer c = search rules
