use Rattle.std.proofs.Common.{refl}
use Rattle.net_check.proofs.words.Ends.flipped.Goals as goal

pub returns : goal.returns
returns c = refl
