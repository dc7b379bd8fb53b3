use Rattle.bfd_control.proofs.SessionLemmas.{tell_states}
use Rattle.bfd_control.proofs.laws.answers_tell_states.Goals as goal

pub returns : goal.returns
returns c = tell_states
