use Rattle.aes128_core.proofs.ColumnLemmas.{word_bytes-xor}
use Rattle.aes128_core.proofs.columns.plain_column.Goals as goal

pub returns : goal.returns
returns c = let e = word_bytes-xor c.word_of.result c.args.added in cc
