use Rattle.std.proofs.Common.{◌≡◌, [], ◌∷◌, refl, sym, subst, ◌∙◌}
use Rattle.process_packet.specs.Rows.{RowResult, GoesOn, expired, then_rows, wrong_destination, wrong_ingress, wrong_payload_length, wrong_source, wrong_underlay_source}
use Rattle.process_packet.specs.PacketView.{TellsRow}
use Rattle.process_packet.proofs.RowLemmas.{one_more}
use Rattle.process_packet.proofs.packet_view.PacketView.check_arrival.Goals as goal

pub returns : goal.returns
returns c s shows same source header segments =
    let one : then_rows (GoesOn s) (expired ∷ []) ≡ GoesOn s = one_more s [] expired refl ∙ c.in_ok-expired.ensures s shows in
    let two : then_rows (GoesOn s) (expired ∷ wrong_ingress ∷ []) ≡ GoesOn s = one_more s (expired ∷ []) wrong_ingress one ∙ c.in_ok-wrong_ingress.ensures s shows in
    let three : then_rows (GoesOn s) (expired ∷ wrong_ingress ∷ wrong_payload_length ∷ []) ≡ GoesOn s =
    one_more s (expired ∷ wrong_ingress ∷ []) wrong_payload_length two ∙ c.in_ok-wrong_payload_length.ensures s shows header in
    let four : then_rows (GoesOn s) (expired ∷ wrong_ingress ∷ wrong_payload_length ∷ wrong_underlay_source ∷ []) ≡ GoesOn s =
    one_more s (expired ∷ wrong_ingress ∷ wrong_payload_length ∷ []) wrong_underlay_source three ∙ c.in_ok-wrong_underlay_source.ensures s shows same source segments in
    let rows = expired ∷ wrong_ingress ∷ wrong_payload_length ∷ wrong_underlay_source ∷ wrong_source ∷ [] in
    let five : then_rows (GoesOn s) rows ≡ GoesOn s =
    one_more s (expired ∷ wrong_ingress ∷ wrong_payload_length ∷ wrong_underlay_source ∷ []) wrong_source four ∙ c.in_ok-wrong_source.ensures s shows same header in
    subst (λ (t : RowResult). TellsRow t s c.wrong_destination.result) (sym (one_more s rows wrong_destination five)) (c.wrong_destination.ensures s shows same header)
