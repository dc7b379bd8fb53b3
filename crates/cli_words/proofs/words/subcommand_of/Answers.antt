use Rattle.std.proofs.Common.{◌≡◌, ◌∙◌, Some, codes, refl}
use Rattle.std.proofs.lemmas.Bool.{false≢true}
use Rattle.clap.specs.Matches.{found_of}
use Rattle.clap.specs.Simple.{subcommand_rows_of}
use Rattle.clap.specs.Walk.{rows_of}
use Rattle.clap.specs.declared.parser.matches.ArgMatches.TheViews.{out-ArgMatches}
use Rattle.cli_words.proofs.WordsLemmas.{asks_found, check_none, entered, import_none, name_read, no_order, replay_none, route_none, run_none}
use Rattle.cli_words.proofs.words.subcommand_of.Goals as goal

pub returns-in-Some : goal.returns-in-Some
returns-in-Some c =
    let s = subcommand_rows_of c.args.matches.now in
    let rows = rows_of (found_of c.in-Some.route.now) in
    let named = name_read (out-ArgMatches c.args.matches.now).subcommand ∙ c.in-Some.ensures.found.0 refl in
    let same : s ≡ Some (codes "route", rows) = entered s (codes "route") rows named c.in-Some.ensures.rows in
    record {
      found = asks_found s (codes "route", rows) c.route_of.result same c.route_of.ensures.found;
      none = route_none s rows c.route_of.result same c.route_of.ensures.none;
    }

pub returns-in-Some-subcommand_matches : goal.returns-in-Some-subcommand_matches
returns-in-Some-subcommand_matches c =
    let s = subcommand_rows_of c.args.matches.now in
    let rows = rows_of (found_of c.in-Some-subcommand_matches.replay.now) in
    let named = name_read (out-ArgMatches c.args.matches.now).subcommand ∙ c.in-Some-subcommand_matches.ensures.found.0 refl in
    let same : s ≡ Some (codes "replay", rows) = entered s (codes "replay") rows named c.in-Some-subcommand_matches.ensures.rows in
    record {
      found = asks_found s (codes "replay", rows) c.replay_of.result same c.replay_of.ensures.found;
      none = replay_none s rows c.replay_of.result same c.replay_of.ensures.none;
    }

pub returns-in-Some-subcommand_matches-2 : goal.returns-in-Some-subcommand_matches-2
returns-in-Some-subcommand_matches-2 c =
    let s = subcommand_rows_of c.args.matches.now in
    let rows = rows_of (found_of c.in-Some-subcommand_matches-2.run'.now) in
    let named = name_read (out-ArgMatches c.args.matches.now).subcommand ∙ c.in-Some-subcommand_matches-2.ensures.found.0 refl in
    let same : s ≡ Some (codes "run", rows) = entered s (codes "run") rows named c.in-Some-subcommand_matches-2.ensures.rows in
    record {
      found = asks_found s (codes "run", rows) c.run_of.result same c.run_of.ensures.found;
      none = run_none s rows c.run_of.result same c.run_of.ensures.none;
    }

pub returns-in-Some-subcommand_matches-3 : goal.returns-in-Some-subcommand_matches-3
returns-in-Some-subcommand_matches-3 c =
    let s = subcommand_rows_of c.args.matches.now in
    let rows = rows_of (found_of c.in-Some-subcommand_matches-3.check.now) in
    let named = name_read (out-ArgMatches c.args.matches.now).subcommand ∙ c.in-Some-subcommand_matches-3.ensures.found.0 refl in
    let same : s ≡ Some (codes "check", rows) = entered s (codes "check") rows named c.in-Some-subcommand_matches-3.ensures.rows in
    record {
      found = asks_found s (codes "check", rows) c.check_of.result same c.check_of.ensures.found;
      none = check_none s rows c.check_of.result same c.check_of.ensures.none;
    }

pub returns-in-Some-subcommand_matches-4 : goal.returns-in-Some-subcommand_matches-4
returns-in-Some-subcommand_matches-4 c =
    let s = subcommand_rows_of c.args.matches.now in
    let rows = rows_of (found_of c.in-Some-subcommand_matches-4.import.now) in
    let named = name_read (out-ArgMatches c.args.matches.now).subcommand ∙ c.in-Some-subcommand_matches-4.ensures.found.0 refl in
    let same : s ≡ Some (codes "import", rows) = entered s (codes "import") rows named c.in-Some-subcommand_matches-4.ensures.rows in
    record {
      found = asks_found s (codes "import", rows) c.import_of.result same c.import_of.ensures.found;
      none = import_none s rows c.import_of.result same c.import_of.ensures.none;
    }

pub returns : goal.returns
returns c =
    let s = subcommand_rows_of c.args.matches.now in
    record {
      found = tt;
      none = no_order s _ (name_read (out-ArgMatches c.args.matches.now).subcommand) (λ named. false≢true (c.in_default.ensures.found.1 named))
          (λ named. false≢true (c.in_default-subcommand_matches.ensures.found.1 named))
          (λ named. false≢true (c.in_default-subcommand_matches-2.ensures.found.1 named))
          (λ named. false≢true (c.in_default-subcommand_matches-3.ensures.found.1 named))
          (λ named. false≢true (c.in_default-subcommand_matches-4.ensures.found.1 named));
    }
