use Rattle.std.proofs.Common.{arith}
use Rattle.aes128_core.proofs.RoundLemmas.{round_is}
use Rattle.aes128_core.proofs.rounds.round.Goals as goal

pub returns : goal.returns
returns c =
    round_is c.args.words.now c.args.state c.args.n _ _ _ _ _ _ _ _ (omega arith)
    c.to_le_bytes.ensures c.to_le_bytes-2.ensures c.to_le_bytes-3.ensures c.to_le_bytes-4.ensures
    c.mixed_column.ensures c.mixed_column-2.ensures c.mixed_column-3.ensures c.mixed_column-4.ensures
