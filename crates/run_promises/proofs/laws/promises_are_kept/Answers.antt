use Rattle.run_promises.proofs.Promises.{promises_are_kept}
use Rattle.run_promises.proofs.laws.promises_are_kept.Goals as goal

pub returns : goal.returns
returns g c = promises_are_kept
