use Rattle.bfd_control.proofs.SessionLemmas.{bring_up}
use Rattle.bfd_control.proofs.laws.answers_bring_up.Goals as goal

pub returns : goal.returns
returns c = bring_up
