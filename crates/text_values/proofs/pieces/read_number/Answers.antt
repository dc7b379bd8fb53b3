use Rattle.std.proofs.Common.{arith}
use Rattle.text_values.proofs.NumberLemmas.{number_is}
use Rattle.text_values.proofs.pieces.read_number.Goals as goal

pub returns-clause-value : goal.returns-clause-value
returns-clause-value c =
    number_is c.args.limit c.args.text.now c.read_decimal.result (omega arith) c.read_decimal.ensures.found c.read_decimal.ensures.none
