use Rattle.std.proofs.Common.{rules}
use Rattle.text_values.proofs.shown.hex_digit.Goals as goal

pub returns-else-digit-lt10 : goal.returns-else-digit-lt10
returns-else-digit-lt10 c = search rules
