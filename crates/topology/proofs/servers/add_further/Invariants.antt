use Rattle.std.proofs.Common.{◌≡◌, ◌++◌, map}
use Rattle.serde_json.specs.View.{members_view}
use Rattle.topology.specs.LeftOut.{left}
use Rattle.topology.specs.Servers.{after_first, further_in}
use Rattle.topology.proofs.servers.add_further.Given as goal

abbrev pub invariant-loop-name : goal.invariant-loop-name
invariant-loop-name l =
    map left l.left_out.items ++ further_in l.kind (members_view l.name-iterator) ≡ map left l.fn.left_out.items ++ further_in l.kind (after_first (members_view l.servers.entries))
