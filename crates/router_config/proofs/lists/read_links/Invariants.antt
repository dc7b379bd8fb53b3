use Rattle.std.proofs.Common.{◌≡◌, [], length, drop, map}
use Rattle.std.specs.Prelude.{IsTrue}
use Rattle.std.specs.List.{list_all}
use Rattle.toml.specs.View.{items_view}
use Rattle.process_packet.specs.Neighbours.{are_distinct, is_link}
use Rattle.router_config.specs.Neighbours.{link_after, link_values, members_from, taken}
use Rattle.router_config.proofs.lists.read_links.Given as goal

abbrev pub invariant-loop-member : goal.invariant-loop-member
invariant-loop-member l = record {
  rest : members_from (link_after l.version l.own) [] (items_view l.members.items) ≡ members_from (link_after l.version l.own) (map link_values l.links.items) (items_view (drop l.member-index l.members.items));
  count : length l.links.items ≡ l.member-index;
  whole : IsTrue (list_all is_link l.links.items);
  distinct : IsTrue (are_distinct (taken l.links.items []));
}
