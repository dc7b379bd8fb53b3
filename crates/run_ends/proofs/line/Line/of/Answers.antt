use Rattle.std.proofs.Common.{rules}
use Rattle.std.proofs.lemmas.List.{reverse-reverse}
use Rattle.run_ends.proofs.line.Line.of.Goals as goal

pub returns : goal.returns
returns g c = search (rules, reverse-reverse)
