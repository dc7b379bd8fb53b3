use Rattle.std.proofs.Common.{rules}
use Rattle.cmac_core.proofs.Cmac.new.Goals as goal

pub returns : goal.returns
returns c = search rules
