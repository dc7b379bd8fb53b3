use Rattle.std.proofs.Common.{◌≡◌, [], length, drop, map}
use Rattle.std.specs.Prelude.{IsTrue}
use Rattle.std.specs.List.{list_all}
use Rattle.toml.specs.View.{items_view}
use Rattle.process_packet.specs.Neighbours.{are_distinct, is_service, service_number}
use Rattle.router_config.specs.Neighbours.{members_from, service_of}
use Rattle.router_config.proofs.lists.read_services.Given as goal

abbrev pub invariant-loop-member : goal.invariant-loop-member
invariant-loop-member l = record {
  rest : members_from (service_of) [] (items_view l.members.items) ≡ members_from (service_of) l.services.items (items_view (drop l.member-index l.members.items));
  count : length l.services.items ≡ l.member-index;
  whole : IsTrue (list_all is_service l.services.items);
  distinct : IsTrue (are_distinct (map service_number l.services.items));
}
