use Rattle.std.proofs.Common.{◌≡◌}
use Rattle.net_check.specs.Wires.{among}
use Rattle.net_check.proofs.wires.wires_among.Given as goal

abbrev pub invariant-loop-place : goal.invariant-loop-place
invariant-loop-place l = l.list.items ≡ among l.links l.place
