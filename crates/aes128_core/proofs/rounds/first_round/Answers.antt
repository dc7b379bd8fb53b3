use Rattle.std.proofs.Common.{arith}
use Rattle.aes128_core.proofs.RoundLemmas.{first_round_is}
use Rattle.aes128_core.proofs.rounds.first_round.Goals as goal

pub returns : goal.returns
returns c =
    first_round_is c.args.words.now c.args.block.now _ _ _ _ (omega arith)
    c.word_at.ensures c.word_at-2.ensures c.word_at-3.ensures c.word_at-4.ensures
