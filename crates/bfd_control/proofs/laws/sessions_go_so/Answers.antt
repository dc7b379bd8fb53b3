use Rattle.bfd_control.proofs.SessionLemmas.{go_so}
use Rattle.bfd_control.proofs.laws.sessions_go_so.Goals as goal

pub returns : goal.returns
returns c = go_so
