use Rattle.std.proofs.Common.{refl}
use Rattle.bfd_control.proofs.answering.is_final.Goals as goal

pub returns : goal.returns
returns c = λ own. refl
