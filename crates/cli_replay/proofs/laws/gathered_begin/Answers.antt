use Rattle.cli_replay.proofs.GatheredLemmas.{arrivals_are, begins}
use Rattle.cli_replay.proofs.laws.gathered_begin.Goals as goal

pub returns : goal.returns
returns c = λ k ds lists gathered. (arrivals_are k ds lists gathered, begins k ds lists gathered)
