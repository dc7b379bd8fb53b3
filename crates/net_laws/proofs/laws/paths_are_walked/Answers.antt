use Rattle.net_laws.proofs.StartLemmas.{paths_walked}
use Rattle.net_laws.proofs.laws.paths_are_walked.Goals as goal

pub returns : goal.returns
returns c net w moment a agrees route s quiet = paths_walked net w moment a agrees route s quiet
