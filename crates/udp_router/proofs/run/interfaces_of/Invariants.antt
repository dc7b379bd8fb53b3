use Rattle.std.proofs.Common.{◌≡◌, map}
use Rattle.std.specs.List.{range_with_len}
use Rattle.router_rules.specs.Links.{interface_at}
use Rattle.udp_router.proofs.run.interfaces_of.Given as goal

abbrev pub invariant-loop-index : goal.invariant-loop-index
invariant-loop-index l = l.interfaces.items ≡ map (interface_at l.config) (range_with_len 0 l.index)
