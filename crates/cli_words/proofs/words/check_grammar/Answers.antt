use Rattle.std.proofs.Common.{codes, subst}
use Rattle.clap.specs.Simple.{App, with_rule}
use Rattle.clap.specs.Walk.{Rule}
use Rattle.cli_words.specs.Words.{IsGrammar, alone, flag}
use Rattle.cli_words.proofs.words.check_grammar.Goals as goal

pub returns : goal.returns
returns c =
    let config : App = alone (codes "check") in
    let strict = with_rule config (flag (codes "strict")) in
    let first = subst (λ (r : Rule). IsGrammar (with_rule config r) c.with_option-command.result) c.flag.ensures.rule (c.with_option-command.ensures config c.alone_grammar-command.ensures) in
    subst (λ (r : Rule). IsGrammar (with_rule strict r) c.with_option.result) c.flag-2.ensures.rule (c.with_option.ensures strict first)
