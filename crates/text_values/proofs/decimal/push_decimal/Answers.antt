use Rattle.std.proofs.Common.{rules}
use Rattle.text_values.proofs.decimal.push_decimal.Goals as goal

pub returns : goal.returns
returns g c = search rules
