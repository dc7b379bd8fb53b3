use Rattle.std.proofs.Common.{◌≡◌, ◌++◌, drop}
use Rattle.cli_replay.specs.Report.{names_text}
use Rattle.cli_replay.proofs.report.push_names.Given as goal

abbrev pub invariant-loop-pair : goal.invariant-loop-pair
invariant-loop-pair l = l.text.items ++ names_text (drop l.pair-index l.sent) ≡ l.fn.text.items ++ names_text l.sent
