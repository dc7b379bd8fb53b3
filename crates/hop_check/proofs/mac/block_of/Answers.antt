use Rattle.std.proofs.Common.{arith}
use Rattle.hop_check.proofs.BlockLemmas.{block_is}
use Rattle.hop_check.proofs.mac.block_of.Goals as goal

pub returns : goal.returns
returns c =
    block_is c.args.front c.args.back c.swap_bytes.result c.swap_bytes-2.result (omega arith) (omega arith)
    c.swap_bytes.ensures c.swap_bytes-2.ensures
