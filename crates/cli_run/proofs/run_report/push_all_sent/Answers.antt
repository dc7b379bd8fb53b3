use Rattle.std.proofs.Common.{◌≡◌, ◌++◌, rules, refl}
use Rattle.cli_run.specs.RunReport.{sent_line}
use Rattle.cli_io.proofs.ReportLemmas.{one_more_line}
use Rattle.cli_run.proofs.run_report.push_all_sent.Goals as goal

pub loop-index-preserved : goal.loop-index-preserved
loop-index-preserved c =
    let f = sent_line c.args.links.now c.args.sent.now in
    let wrote : c.push_sent.new.text.items ≡ c.loop-index.text.items ++ f c.loop-index.index = search rules in
    one_more_line f c.args.text.now.items c.loop-index.text.items c.push_sent.new.text.items (f c.loop-index.index) c.loop-index.index
    c.loop-index.invariant refl wrote

pub loop-index-init : goal.loop-index-init
loop-index-init c = search rules

pub returns : goal.returns
returns c = search rules
