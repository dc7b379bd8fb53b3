use Rattle.std.proofs.Common.{codes, rules, subst}
use Rattle.clap.specs.Simple.{App, new_app, with_rule}
use Rattle.clap.specs.Walk.{Rule}
use Rattle.cli_words.specs.Words.{IsGrammar, wanted}
use Rattle.cli_words.proofs.words.route_grammar.Goals as goal

pub returns : goal.returns
returns c =
    let none : App = new_app (codes "route") in
    let config = with_rule none (wanted (codes "config")) in
    let link = with_rule config (wanted (codes "link")) in
    let now = with_rule link (wanted (codes "now")) in
    let first = subst (λ (r : Rule). IsGrammar (with_rule none r) c.with_option-command.result) c.wanted.ensures.rule (c.with_option-command.ensures none (search rules, search rules)) in
    let second = subst (λ (r : Rule). IsGrammar (with_rule config r) c.with_option-command-2.result) c.wanted-2.ensures.rule (c.with_option-command-2.ensures config first) in
    let third = subst (λ (r : Rule). IsGrammar (with_rule link r) c.with_option-command-3.result) c.wanted-3.ensures.rule (c.with_option-command-3.ensures link second) in
    subst (λ (r : Rule). IsGrammar (with_rule now r) c.with_option.result) c.offered.ensures.rule (c.with_option.ensures now third)
