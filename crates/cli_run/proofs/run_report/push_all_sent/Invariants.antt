use Rattle.std.proofs.Common.{◌≡◌, ◌++◌}
use Rattle.std.specs.List.{flat_map, range_with_len}
use Rattle.cli_run.specs.RunReport.{sent_line}
use Rattle.cli_run.proofs.run_report.push_all_sent.Given as goal

abbrev pub invariant-loop-index : goal.invariant-loop-index
invariant-loop-index l = l.text.items ≡ l.fn.text.items ++ flat_map (sent_line l.links l.sent) (range_with_len 0 l.index)
