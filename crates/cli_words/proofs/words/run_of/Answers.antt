use Rattle.std.proofs.Common.{◌≡◌, ◌∙◌, ap, codes, refl, sym}
use Rattle.clap.specs.Matches.{found_of}
use Rattle.cli_words.specs.Words.{address_of}
use Rattle.cli_words.proofs.WordsLemmas.{no_run, other_metrics, text_read}
use Rattle.cli_words.proofs.words.run_of.Goals as goal

pub returns-in_err-config-clause-none : goal.returns-in_err-config-clause-none
returns-in_err-config-clause-none c =
    let read = text_read (found_of c.args.run.now) (codes "config") c.get_str.result c.get_str.ensures in
    rw c.from_residual.ensures (λ config metrics asks. no_run _ config metrics (rw c.in_err-config.was at read) asks)

pub returns-in_err-metrics-clause-none : goal.returns-in_err-metrics-clause-none
returns-in_err-metrics-clause-none c =
    let read = text_read (found_of c.args.run.now) (codes "metrics") c.get_str-2.result c.get_str-2.ensures in
    let none = sym (rw c.in_err-metrics.was at c.read_address.ensures) in
    rw c.from_residual-in_err-metrics.ensures (λ config metrics asks. other_metrics _ config metrics _ read none asks)

pub returns-clause-found : goal.returns-clause-found
returns-clause-found c =
    let config = text_read (found_of c.args.run.now) (codes "config") c.get_str.result c.get_str.ensures in
    let metrics = text_read (found_of c.args.run.now) (codes "metrics") c.get_str-2.result c.get_str-2.ensures in (
      refl,
      record {
        config_is = rw c.in_ok-config.was at config;
        metrics_is = rw c.in_ok-metrics.was at (ap address_of metrics ∙ sym c.read_address.ensures);
      },
    )
