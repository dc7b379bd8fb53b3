use Rattle.std.proofs.Common.{List, Option, [], ◌∷◌, ◌++◌, refl, sym, subst, ◌∙◌}
use Rattle.scion_packet.specs.OneHop.{one_hop_packet_of}
use Rattle.process_packet.specs.Network.{network}
use Rattle.process_packet.specs.OneHopRows.{OneHopRow, OneHopVerdict, complete, leave, link_control, wrong_ends, wrong_exit, wrong_far_end, wrong_mac, wrong_payload_length, wrong_time, wrong_underlay_source}
use Rattle.process_packet.specs.OneHopState.{one_hop_arrives}
use Rattle.process_packet.specs.OneHopView.{TellsOneHopDeparture}
use Rattle.process_packet.proofs.OneHopLemmas.{departure_refused, some_end, some_passed}
use Rattle.scion_packet.proofs.Parts.{rest_of}
use Rattle.process_packet.proofs.one_hop.depart.Goals as goal

-- the rows of how it came, of its first hop field, and of how it leaves
abbrev arrival_rows : List OneHopRow
arrival_rows = wrong_payload_length ∷ wrong_underlay_source ∷ wrong_ends ∷ link_control ∷ []

abbrev field_rows : List OneHopRow
field_rows = wrong_exit ∷ wrong_far_end ∷ wrong_time ∷ wrong_mac ∷ []

abbrev leaving_rows : List OneHopRow
leaving_rows = leave ∷ complete ∷ []

pub returns-in_err-check_arrival : goal.returns-in_err-check_arrival
returns-in_err-check_arrival c =
    let bytes = c.args.bytes.now in
    let n = network c.args.config.now in
    let s = one_hop_arrives n c.args.link c.args.source.now c.args.now bytes in
    let shows = c.arrives-view.ensures n c.args.source.now in
    departure_refused _ (one_hop_packet_of bytes) _ _ c.from_residual.ensures.1 (some_end s arrival_rows (field_rows ++ leaving_rows) _ (c.in_err-check_arrival.ensures s shows refl refl (rest_of bytes _ _ c.requires.ends.header)))

pub returns-in_err-check_first_hop : goal.returns-in_err-check_first_hop
returns-in_err-check_first_hop c =
    let bytes = c.args.bytes.now in
    let n = network c.args.config.now in
    let s = one_hop_arrives n c.args.link c.args.source.now c.args.now bytes in
    let shows = c.arrives-view.ensures n c.args.source.now in
    departure_refused _ (one_hop_packet_of bytes) _ _ c.from_residual-in_err-check_first_hop.ensures.1
    (some_passed s arrival_rows (field_rows ++ leaving_rows) (c.in_ok-check_arrival.ensures s shows refl refl (rest_of bytes _ _ c.requires.ends.header))
    ∙ some_end s field_rows leaving_rows _ (c.in_err-check_first_hop.ensures s shows refl))

pub returns : goal.returns
returns c =
    let bytes = c.args.bytes.now in
    let n = network c.args.config.now in
    let s = one_hop_arrives n c.args.link c.args.source.now c.args.now bytes in
    let shows = c.arrives-view.ensures n c.args.source.now in
    let past = some_passed s arrival_rows (field_rows ++ leaving_rows) (c.in_ok-check_arrival.ensures s shows refl refl (rest_of bytes _ _ c.requires.ends.header))
    ∙ some_passed s field_rows leaving_rows (c.in_ok-check_first_hop.ensures s shows refl) in
    subst (λ (o : Option OneHopVerdict). TellsOneHopDeparture o (one_hop_packet_of bytes) c.leave.result) (sym past) (c.leave.ensures s shows refl (rest_of bytes _ _ c.requires.ends.header))
