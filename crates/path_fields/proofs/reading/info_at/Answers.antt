use Rattle.std.proofs.Common.{rules}
use Rattle.path_fields.proofs.reading.info_at.Goals as goal

pub returns : goal.returns
returns c = search rules
