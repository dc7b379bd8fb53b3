use Rattle.std.proofs.Common.{rules}
use Rattle.path_fields.proofs.lengths.hop_count.Goals as goal

pub returns : goal.returns
returns c = search rules
