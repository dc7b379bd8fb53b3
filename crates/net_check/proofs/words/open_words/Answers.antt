use Rattle.net_check.specs.Words as words
use Rattle.net_check.proofs.words.open_words.Goals as goal

pub returns : goal.returns
unfolding words.open_text
returns c = c.format.ensures.ok
