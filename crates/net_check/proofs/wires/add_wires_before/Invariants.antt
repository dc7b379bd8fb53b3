use Rattle.std.proofs.Common.{◌≡◌, ◌++◌}
use Rattle.net_check.specs.Wires.{below}
use Rattle.net_check.proofs.wires.add_wires_before.Given as goal

abbrev pub invariant-loop-before : goal.invariant-loop-before
invariant-loop-before l = l.list.items ≡ l.initial.list.items ++ below l.links l.place l.before
