use Rattle.std.proofs.Common.{◌≡◌, [], length, drop, map}
use Rattle.std.specs.Prelude.{IsTrue}
use Rattle.std.specs.List.{list_all}
use Rattle.toml.specs.View.{items_view}
use Rattle.process_packet.specs.Neighbours.{are_distinct, is_sibling, link_id}
use Rattle.router_config.specs.Neighbours.{members_from, sibling_of, taken}
use Rattle.router_config.proofs.lists.read_siblings.Given as goal

abbrev pub invariant-loop-member : goal.invariant-loop-member
invariant-loop-member l = record {
  rest : members_from (sibling_of (map link_id l.links)) [] (items_view l.members.items) ≡ members_from (sibling_of (map link_id l.links)) l.siblings.items (items_view (drop l.member-index l.members.items));
  count : length l.siblings.items ≡ l.member-index;
  whole : IsTrue (list_all is_sibling l.siblings.items);
  distinct : IsTrue (are_distinct (taken l.links l.siblings.items));
}
