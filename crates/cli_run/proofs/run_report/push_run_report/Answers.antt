use Rattle.std.proofs.Common.{◌≡◌, ◌++◌, refl, length, min}
use Rattle.std.specs.List.{flat_map, range_with_len}
use Rattle.cli_io.specs.Counts.{drops_text}
use Rattle.cli_run.specs.RunReport.{run_report, sent_line, totals_text}
use Rattle.cli_io.proofs.ReportLemmas.{reported}
use Rattle.cli_run.proofs.run_report.push_run_report.Goals as goal

pub returns : goal.returns
unfolding run_report
returns c =
    let ids = c.args.links.now in
    let sent = c.args.sent.now in
    let t = c.args.totals.now in
    let lines = flat_map (sent_line ids sent) (range_with_len 0 (min (length ids) (length sent))) in
    let links : c.push_all_sent.new.text.items ≡ c.args.text.now.items ++ lines = c.in_ok-push_all_sent.ensures in
    let counts : c.push_totals.new.text.items ≡ c.push_all_sent.new.text.items ++ totals_text t = c.in_ok-push_totals.ensures in
    reported c.push_drops.result c.args.text.now.items c.push_all_sent.new.text.items c.push_totals.new.text.items c.push_drops.new.text.items lines (totals_text t) (drops_text 1 t.dropped)
    (run_report ids sent t) links counts refl c.push_drops.ensures
