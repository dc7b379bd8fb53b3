use Rattle.std.proofs.Common.{ap, ◌∙◌, List, ℕ}
use Rattle.aes128_core.specs.State.{xor_words}
use Rattle.aes128_core.specs.Columns.{word_bytes, word_from}
use Rattle.aes128_core.proofs.ColumnLemmas.{word_bytes-xor}
use Rattle.aes128_core.proofs.lanes.substituted_word.Goals as goal

pub returns : goal.returns
returns c =
    word_bytes-xor c.word_at.result c.args.added
    ∙ ap (λ (w : List ℕ). xor_words w (word_bytes c.args.added)) (c.word_at.ensures ∙ ap (λ (v : List ℕ). word_from v 0) c.sub_bytes.ensures)
