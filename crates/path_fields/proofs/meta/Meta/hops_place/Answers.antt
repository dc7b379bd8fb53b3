use Rattle.std.proofs.Common.{rules}
use Rattle.path_fields.proofs.meta.Meta.hops_place.Goals as goal

pub returns : goal.returns
returns c = search rules
