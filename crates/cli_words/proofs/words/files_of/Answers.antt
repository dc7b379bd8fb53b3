use Rattle.cli_words.proofs.WordsLemmas.{files_left, files_taken}
use Rattle.cli_words.proofs.words.files_of.Goals as goal

pub returns-then-are_net : goal.returns-then-are_net
returns-then-are_net c = files_taken c.args.command.now c.args.option.now c.args.files.now c.are_net.result c.are_net.ensures c.if-are_net.true

pub returns-else-are_net : goal.returns-else-are_net
returns-else-are_net c = files_left c.args.command.now c.args.option.now c.args.files.now c.are_net.result c.are_net.ensures c.if-are_net.false
