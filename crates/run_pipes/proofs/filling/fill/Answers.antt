use Rattle.run_pipes.proofs.FillingLemmas.{filled}
use Rattle.run_pipes.proofs.filling.fill.Goals as goal

pub returns-clause-ends : goal.returns-clause-ends
returns-clause-ends g c = λ k ss is. filled k c.args.buffers 0 ss _ (c.in_ok-ends.ensures.ends k ss is)
