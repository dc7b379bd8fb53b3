use Rattle.std.proofs.Common.{refl, sym, ◌∙◌}
use Rattle.process_packet.proofs.TurningLemmas.{shows_turned}
use Rattle.process_packet.proofs.packet_view.PacketView.turn_back_segment_id.Goals as goal

pub returns-then-came_against_construction-clause-shows : goal.returns-then-came_against_construction-clause-shows
returns-then-came_against_construction-clause-shows c s shows =
    shows_turned c.args.self.now _ s c.chain-segment_id.result shows (record {
      link = refl;
      moment = refl;
      begin = refl;
      payload = refl;
      segments = refl;
      switched = refl;
      segment = refl;
      position = refl;
      hops = refl;
      number = refl;
      hop = refl;
    }) c.chain-segment_id.ensures refl (sym (c.came_against_construction.ensures s shows) ∙ c.if-came_against_construction.true)
