use Rattle.std.proofs.Common.{rules}
use Rattle.text_values.proofs.address.high.Goals as goal

pub returns : goal.returns
returns c = search rules
