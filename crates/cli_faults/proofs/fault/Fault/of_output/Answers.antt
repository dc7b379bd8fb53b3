use Rattle.std.proofs.Common.{refl}
use Rattle.cli_faults.proofs.fault.Fault.of_output.Goals as goal

pub returns : goal.returns
returns c = refl
