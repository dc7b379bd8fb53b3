use Rattle.std.proofs.Common.{rules}
use Rattle.path_fields.proofs.writing.write_meta.Goals as goal

pub with_six-reserved-requires-clause-bits : goal.with_six-reserved-requires-clause-bits
with_six-reserved-requires-clause-bits c = search rules

pub returns : goal.returns
returns c = search rules
