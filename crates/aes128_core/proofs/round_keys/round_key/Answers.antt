use Rattle.std.proofs.Common.{arith, ◌∙◌}
use Rattle.aes128_core.proofs.RoundKeyLemmas.{round_key_is}
use Rattle.aes128_core.proofs.round_keys.round_key.Goals as goal

pub returns : goal.returns
returns c = c.block_of.ensures ∙ round_key_is c.args.words.now c.args.n (omega arith)
