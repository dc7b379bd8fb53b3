use Rattle.std.proofs.Common.{◌≡◌, ◌++◌}
use Rattle.net_check.specs.Wires.{of_links}
use Rattle.net_check.proofs.wires.add_links.Given as goal

abbrev pub invariant-loop-index : goal.invariant-loop-index
invariant-loop-index l = l.list.items ≡ l.initial.list.items ++ of_links l.router l.links l.index
