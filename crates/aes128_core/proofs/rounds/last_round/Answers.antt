use Rattle.std.proofs.Common.{arith}
use Rattle.aes128_core.proofs.RoundLemmas.{last_round_is}
use Rattle.aes128_core.proofs.rounds.last_round.Goals as goal

pub returns : goal.returns
returns c =
    last_round_is c.args.words.now c.args.state _ _ _ _ _ _ _ _ (omega arith)
    c.to_le_bytes.ensures c.to_le_bytes-2.ensures c.to_le_bytes-3.ensures c.to_le_bytes-4.ensures
    c.plain_column.ensures c.plain_column-2.ensures c.plain_column-3.ensures c.plain_column-4.ensures
