use Rattle.std.proofs.Common.{◌≡◌, ◌++◌}
use Rattle.config_warnings.specs.Warnings.{of_siblings}
use Rattle.config_warnings.proofs.warnings.add_of_siblings.Given as goal

abbrev pub invariant-loop-index : goal.invariant-loop-index
invariant-loop-index l = l.list.items ≡ l.initial.list.items ++ of_siblings l.config l.index
