use Rattle.std.proofs.Common.{ap, bit_xor, ℕ, List, replicate}
use lib.Lanes.{zip2}
use Rattle.aes128_core.proofs.round_keys.last_key.Goals as goal

pub returns : goal.returns
returns c = ap (λ (v : List ℕ). zip2 bit_xor v (replicate 16 0x63)) c.round_key.ensures
