use Rattle.std.proofs.Common.{◌≡◌, codes, rules, true}
use Rattle.clap.specs.Simple.{App, app_of, new_app, on_top}
use Rattle.cli_words.specs.Words.{alone, check, importing, route, run}
use Rattle.cli_words.proofs.WordsLemmas.{named_alike}
use Rattle.cli_words.proofs.words.grammar.Goals as goal

pub returns : goal.returns
returns c =
    let top : App = on_top (λ top. record top { has_version = true; no_binary_name = true; subcommand_required = true }) (new_app (codes "router")) in
    let plain : app_of c.subcommand_required.result ≡ top = search rules in
    let first = named_alike c.bin_name-program.result c.subcommand_required.result top plain c.bin_name-program.ensures in
    let routes = c.with_order-program.ensures _ route first c.route_grammar.ensures in
    let replays = c.with_order-program-2.ensures _ (alone (codes "replay")) routes c.alone_grammar.ensures in
    let runs = c.with_order-program-3.ensures _ run replays c.run_grammar.ensures in
    let checks = c.with_order-program-4.ensures _ check runs c.check_grammar.ensures in
    c.with_order.ensures _ importing checks c.import_grammar.ensures
