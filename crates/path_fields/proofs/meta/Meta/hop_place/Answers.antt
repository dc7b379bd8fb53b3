use Rattle.std.proofs.Common.{rules}
use Rattle.path_fields.proofs.meta.Meta.hop_place.Goals as goal

pub returns : goal.returns
returns c = search rules
