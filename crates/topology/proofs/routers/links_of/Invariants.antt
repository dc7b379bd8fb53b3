use Rattle.std.proofs.Common.{◌≡◌, ◌++◌, Some, map}
use Rattle.serde_json.specs.View.{members_view}
use Rattle.topology.specs.Interface.{link_values}
use Rattle.topology.specs.LeftOut.{left}
use Rattle.topology.specs.Outcome.{joined}
use Rattle.topology.specs.Routers.{left_in, links_in}
use Rattle.topology.proofs.routers.links_of.Given as goal

abbrev pub invariant-loop-key : goal.invariant-loop-key
invariant-loop-key l =
    (joined (Some (map link_values l.links.items)) (links_in l.router (members_view l.key-iterator)) ≡ links_in l.router (members_view l.members.entries))
    × (map left l.left_out.items ++ left_in l.router (members_view l.key-iterator) ≡ map left l.fn.left_out.items ++ left_in l.router (members_view l.members.entries))
