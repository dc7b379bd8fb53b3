use Rattle.std.proofs.Common.{None, refl}
use Rattle.process_packet.proofs.LeavingLemmas.{departs}
use Rattle.process_packet.proofs.packet_view.PacketView.unchanged.Goals as goal

pub returns : goal.returns
returns c s p shows keeps =
    departs _ c.args.self.now s p c.args.link c.args.to None s.path.place _ shows keeps (record {
      link_is = refl;
      to_is = refl;
      entered_is = refl;
      turned_is = refl;
      left_is = refl;
      chained_is = refl;
    }) (record { segment_is = shows.current.place.segment; number_is = shows.current.place.number }) refl
