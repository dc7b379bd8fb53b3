use Rattle.std.proofs.Common.{codes, rules, subst}
use Rattle.clap.specs.Simple.{App, new_app, with_rule}
use Rattle.clap.specs.Walk.{Rule}
use Rattle.cli_words.specs.Words.{IsGrammar, flag, offered, wanted}
use Rattle.cli_words.proofs.import_words.import_grammar.Goals as goal

pub returns : goal.returns
returns c =
    let none : App = new_app (codes "import") in
    let topology = with_rule none (wanted (codes "topology")) in
    let router = with_rule topology (wanted (codes "router")) in
    let keys = with_rule router (wanted (codes "keys")) in
    let out = with_rule keys (offered (codes "out")) in
    let ports = with_rule out (flag (codes "port-range")) in
    let first = subst (λ (r : Rule). IsGrammar (with_rule none r) c.with_option-command.result) c.wanted.ensures.rule (c.with_option-command.ensures none (search rules, search rules)) in
    let second = subst (λ (r : Rule). IsGrammar (with_rule topology r) c.with_option-command-2.result) c.wanted-2.ensures.rule (c.with_option-command-2.ensures topology first) in
    let third = subst (λ (r : Rule). IsGrammar (with_rule router r) c.with_option-command-3.result) c.wanted-3.ensures.rule (c.with_option-command-3.ensures router second) in
    let fourth = subst (λ (r : Rule). IsGrammar (with_rule keys r) c.with_option-command-4.result) c.offered.ensures.rule (c.with_option-command-4.ensures keys third) in
    let fifth = subst (λ (r : Rule). IsGrammar (with_rule out r) c.with_option-command-5.result) c.flag.ensures.rule (c.with_option-command-5.ensures out fourth) in
    subst (λ (r : Rule). IsGrammar (with_rule ports r) c.with_option.result) c.flag-2.ensures.rule (c.with_option.ensures ports fifth)
