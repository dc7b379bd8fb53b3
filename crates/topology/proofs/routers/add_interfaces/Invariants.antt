use Rattle.std.proofs.Common.{◌≡◌, ◌++◌, Some, map}
use Rattle.serde_json.specs.View.{members_view}
use Rattle.topology.specs.LeftOut.{left}
use Rattle.topology.specs.Outcome.{joined}
use Rattle.topology.specs.Routers.{peers_in, siblings_in}
use Rattle.topology.proofs.routers.add_interfaces.Given as goal

abbrev pub invariant-loop-key : goal.invariant-loop-key
invariant-loop-key l =
    (joined (Some l.siblings.items) (siblings_in l.at (members_view l.key-iterator)) ≡ joined (Some l.fn.siblings.items) (siblings_in l.at (members_view l.members.entries)))
    × (map left l.left_out.items ++ peers_in l.router (members_view l.key-iterator) ≡ map left l.fn.left_out.items ++ peers_in l.router (members_view l.members.entries))
