use Rattle.std.proofs.Common.{◌≡◌, ◌++◌, Some, map}
use Rattle.serde_json.specs.View.{members_view}
use Rattle.topology.specs.LeftOut.{left}
use Rattle.topology.specs.Outcome.{joined}
use Rattle.topology.specs.Routers.{peers_beside, siblings_beside}
use Rattle.topology.proofs.routers.siblings_beside.Given as goal

abbrev pub invariant-loop-key : goal.invariant-loop-key
invariant-loop-key l =
    (joined (Some l.siblings.items) (siblings_beside l.own (members_view l.key-iterator)) ≡ siblings_beside l.own (members_view l.routers.entries))
    × (map left l.left_out.items ++ peers_beside l.own (members_view l.key-iterator) ≡ map left l.fn.left_out.items ++ peers_beside l.own (members_view l.routers.entries))
