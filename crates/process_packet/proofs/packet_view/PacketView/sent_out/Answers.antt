use Rattle.std.proofs.Common.{None, refl, sym, ◌∙◌}
use Rattle.process_packet.specs.PacketState.{is_along, next_place}
use Rattle.process_packet.proofs.LeavingLemmas.{departs, id_for, out_is, path_ends}
use Rattle.process_packet.proofs.packet_view.PacketView.sent_out.Goals as goal

pub returns-then-is_last_of_path : goal.returns-then-is_last_of_path
returns-then-is_last_of_path c s p shows keeps =
    path_ends (is_along s) s _ (sym (c.is_last_of_path.ensures.shows s shows) ∙ c.if-is_last_of_path.true)

pub returns : goal.returns
returns c s p shows keeps =
    departs _ c.args.self.now s p _ None (id_for (is_along s) s) (next_place s.path.segments s.path.place) _ shows keeps (record {
      link_is = c.egress.ensures s shows;
      to_is = refl;
      entered_is = refl;
      turned_is = refl;
      left_is = refl;
      chained_is = c.chained_id.ensures s shows;
    }) (c.next_hop-segment.ensures.next s shows) (out_is (is_along s) s _ (sym (c.is_last_of_path.ensures.shows s shows) ∙ c.if-is_last_of_path.false))
