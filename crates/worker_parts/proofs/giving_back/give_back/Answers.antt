use Rattle.std.proofs.lemmas.Grind.{elements}
use Rattle.std.proofs.Common.{arith}
use Rattle.worker_parts.proofs.giving_back.give_back.Goals as goal

pub returns : goal.returns
returns g c = grind (arith, elements)
