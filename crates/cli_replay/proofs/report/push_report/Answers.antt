use Rattle.std.proofs.Common.{◌≡◌, ◌++◌, refl}
use Rattle.std.specs.List.{flat_map, range_with_len}
use Rattle.router_rules.specs.Links.{link_count}
use Rattle.cli_replay.specs.Report.{counts_text, link_line, report}
use Rattle.cli_io.specs.Counts.{drops_text}
use Rattle.cli_io.proofs.ReportLemmas.{reported}
use Rattle.cli_replay.proofs.report.push_report.Goals as goal

pub returns : goal.returns
unfolding report
returns c =
    let p = c.args.world.now in
    let t = c.totals-totals.result in
    let lines = flat_map (link_line p) (range_with_len 0 (link_count p.config)) in
    let links : c.push_links.new.text.items ≡ c.args.text.now.items ++ lines = c.in_ok-push_links.ensures in
    let counts : c.push_counts.new.text.items ≡ c.push_links.new.text.items ++ counts_text t c.waiting.result = c.in_ok-push_counts.ensures in
    let whole : report p ≡ lines ++ (counts_text t c.waiting.result ++ drops_text 1 t.dropped) = rw (c.totals-totals.ensures.counts, c.waiting.ensures) refl in
    reported c.push_drops.result c.args.text.now.items c.push_links.new.text.items c.push_counts.new.text.items c.push_drops.new.text.items lines (counts_text t c.waiting.result) (drops_text 1 t.dropped)
    (report p) links counts whole c.push_drops.ensures
