use Rattle.std.proofs.Common.{rules}
use Rattle.path_fields.proofs.meta.Meta.path_len.Goals as goal

pub returns : goal.returns
returns c = search rules
