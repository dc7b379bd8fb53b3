use Rattle.stages_tests.proofs.EndLemmas.{all_new}
use Rattle.stages_tests.proofs.new_ends.ends_of.Goals as goal

pub returns-clause-ends : goal.returns-clause-ends
returns-clause-ends g c = all_new _ _ _ _ c.in_ok-ends.ensures.producers
