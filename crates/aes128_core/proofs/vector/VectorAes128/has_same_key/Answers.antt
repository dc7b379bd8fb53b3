use Rattle.std.proofs.Common.{rules}
use Rattle.aes128_core.proofs.vector.VectorAes128.has_same_key.Goals as goal

pub returns : goal.returns
returns c = search rules
