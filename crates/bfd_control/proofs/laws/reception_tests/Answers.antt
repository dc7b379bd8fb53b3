use Rattle.bfd_control.proofs.ReceptionLemmas.{tests_so}
use Rattle.bfd_control.proofs.laws.reception_tests.Goals as goal

pub returns : goal.returns
returns c = tests_so
