use Rattle.run_ends.proofs.OpenedLemmas.{same_ends}
use Rattle.run_ends.proofs.making.next_producers.Goals as goal

pub returns-clause-ends : goal.returns-clause-ends
returns-clause-ends g c = λ k ss is. same_ends 0 _ _ (c.in_ok-ends.ensures.ends k ss is)
