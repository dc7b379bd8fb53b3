use Rattle.process_packet.proofs.ProblemLemmas.{problems_lawful}
use Rattle.process_packet.proofs.laws.problems_are_lawful.Goals as goal

pub returns : goal.returns
returns c = problems_lawful
