use Rattle.std.proofs.Common.{rules}
use Rattle.text_values.proofs.pieces.split_once.Goals as goal

pub returns : goal.returns
returns c = search rules
