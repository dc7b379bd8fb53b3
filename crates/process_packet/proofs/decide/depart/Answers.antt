use Rattle.std.proofs.Common.{◌<◌, List, [], ◌∷◌, ◌++◌, refl, sym, ap, subst, ◌∙◌, length, arith}
use Rattle.scion_packet.specs.Packet.{packet_of, path_bytes}
use Rattle.scion_packet.specs.Path.{path_of}
use Rattle.process_packet.specs.Departure.{TellsVerdict}
use Rattle.process_packet.specs.Network.{network}
use Rattle.process_packet.specs.Rows.{Row, Verdict, delivery, egress_request, expired, ingress_request, leave, switch, turn_back_segment_id, unknown_egress, wrong_destination, wrong_ingress, wrong_mac, wrong_pair, wrong_payload_length, wrong_source, wrong_underlay_source}
use Rattle.process_packet.specs.PacketView.{IsAlike}
use Rattle.process_packet.specs.PacketState.{arrives, turned_back}
use Rattle.process_packet.proofs.RowLemmas.{passed, refusal_told, stopped}
use Rattle.process_packet.proofs.TurningLemmas.{alike_turned, keeps_turned, turned_stays}
use Rattle.scion_packet.proofs.Parts.{path_between, rest_of}
use Rattle.process_packet.proofs.decide.depart.Goals as goal

-- the rows before the identifier is turned back, those of its MAC, and those after
abbrev arrival_rows : List Row
arrival_rows = expired ∷ wrong_ingress ∷ wrong_payload_length ∷ wrong_underlay_source ∷ wrong_source ∷ wrong_destination ∷ []

abbrev authority_rows : List Row
authority_rows = wrong_mac ∷ ingress_request ∷ []

abbrev leaving_rows : List Row
leaving_rows = delivery ∷ switch ∷ unknown_egress ∷ wrong_pair ∷ egress_request ∷ leave ∷ []

pub returns-in_err-check_arrival : goal.returns-in_err-check_arrival
returns-in_err-check_arrival c =
    let bytes = c.args.bytes.now in
    let f = c.args.headers.now in
    let n = network c.args.config.now in
    let s = arrives n c.args.link c.args.source.now c.args.now bytes in
    let same = path_between bytes f.path_begin f.path_end c.requires.headers.begin c.requires.headers.end in
    refusal_told _ (packet_of bytes) _ _ c.from_residual.ensures.1 (stopped s _ arrival_rows (turn_back_segment_id ∷ authority_rows ++ leaving_rows)
    (c.in_err-check_arrival.ensures s (c.arrives-view.ensures.shows n c.args.source.now) refl refl refl (sym (ap (λ t. (path_of t).segments) same))))

pub returns-in_err-check_authority : goal.returns-in_err-check_authority
returns-in_err-check_authority c =
    let bytes = c.args.bytes.now in
    let f = c.args.headers.now in
    let n = network c.args.config.now in
    let s = arrives n c.args.link c.args.source.now c.args.now bytes in
    let shows = c.arrives-view.ensures.shows n c.args.source.now in
    let same = path_between bytes f.path_begin f.path_end c.requires.headers.begin c.requires.headers.end in
    let stays = turned_stays s in
    let past = passed s s arrival_rows (turn_back_segment_id ∷ authority_rows ++ leaving_rows)
    (c.in_ok-check_arrival.ensures s shows refl refl refl (sym (ap (λ t. (path_of t).segments) same))) in
    let payload = rest_of bytes _ _ c.requires.headers.end ∙ sym stays.payload in
    refusal_told _ (packet_of bytes) _ _ c.from_residual-in_err-check_authority.ensures.1 (past ∙ stopped (turned_back s) _ authority_rows leaving_rows
    (c.in_err-check_authority.ensures (turned_back s) (c.turn_back_segment_id.ensures.shows s shows) (sym stays.network) (sym stays.header) payload))

pub returns : goal.returns
returns c =
    let bytes = c.args.bytes.now in
    let f = c.args.headers.now in
    let n = network c.args.config.now in
    let s = arrives n c.args.link c.args.source.now c.args.now bytes in
    let p = packet_of bytes in
    let first = c.arrives-view in
    let turned = c.turn_back_segment_id in
    let shows = first.ensures.shows n c.args.source.now in
    let same = path_between bytes f.path_begin f.path_end c.requires.headers.begin c.requires.headers.end in
    let stays = turned_stays s in
    let past = passed s s arrival_rows (turn_back_segment_id ∷ authority_rows ++ leaving_rows)
    (c.in_ok-check_arrival.ensures s shows refl refl refl (sym (ap (λ t. (path_of t).segments) same))) in
    let payload = rest_of bytes _ _ c.requires.headers.end ∙ sym stays.payload in
    let through = passed (turned_back s) (turned_back s) authority_rows leaving_rows
    (c.in_ok-check_authority.ensures (turned_back s) (turned.ensures.shows s shows) (sym stays.network) (sym stays.header) payload) in
    let entered = first.ensures.entered ∙ shows.current.place.segment in
    let segments = turned.ensures.turned s shows first.ensures.turned entered in
    let v = turned.new.self in
    let inside : v.entered < length p.path.segments = omega (arith, turned.ensures.entered, first.ensures.entered, first.ensures.current.there) in
    let keeps = keeps_turned v s p refl refl refl segments inside in
    let alike = alike_turned v s (path_of (path_bytes bytes)).segments (turned.ensures.entered ∙ entered) segments in
    subst (λ (w : Verdict). TellsVerdict w p c.deliver_or_forward.result) (sym (past ∙ through))
    (c.deliver_or_forward.ensures (turned_back s) p (turned.ensures.shows s shows) (sym stays.network) (sym stays.header) payload keeps
    (subst (λ ss. IsAlike (turned_back s).path.place.segment ss (turned_back s).path.segments) (sym (ap (λ t. (path_of t).segments) same)) alike))
