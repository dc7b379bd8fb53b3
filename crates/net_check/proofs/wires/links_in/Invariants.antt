use Rattle.std.proofs.Common.{◌≡◌}
use Rattle.net_check.specs.Wires.{links_in}
use Rattle.net_check.proofs.wires.links_in.Given as goal

abbrev pub invariant-loop-router : goal.invariant-loop-router
invariant-loop-router l = l.list.items ≡ links_in l.configs l.router
