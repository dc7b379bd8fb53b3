use Rattle.std.proofs.Common.{codes, subst}
use Rattle.clap.specs.Simple.{App, with_rule}
use Rattle.clap.specs.Walk.{Rule}
use Rattle.cli_words.specs.Words.{IsGrammar, alone}
use Rattle.cli_words.proofs.words.run_grammar.Goals as goal

pub returns : goal.returns
returns c =
    let config : App = alone (codes "run") in
    subst (λ (r : Rule). IsGrammar (with_rule config r) c.with_option.result) c.offered.ensures.rule (c.with_option.ensures config c.alone_grammar-command.ensures)
