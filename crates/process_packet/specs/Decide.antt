-- The decision table for packets on a SCION path, and what is decided for a datagram of either kind.
use Rattle.std.specs.Prelude.{ℕ, Bool, ◌&&◌, ◌==◌, List, [], ◌∷◌, slice_index, if◌then◌else◌}
use Rattle.scion_packet.specs.Header.{one_hop_path}
use Rattle.scion_packet.specs.Packet.{spelling}
use Rattle.process_packet.specs.declared.cause.Cause.TheVariants as cause
use Rattle.process_packet.specs.declared.decision.Decision.{Decision}
use Rattle.process_packet.specs.declared.decision.Decision.TheVariants as decision
use Rattle.process_packet.specs.declared.underlay.Underlay.{Underlay}
use Rattle.process_packet.specs.Network.{Network, takes_one_hop}
use Rattle.process_packet.specs.OneHopTable.{one_hop_decision_of, one_hop_moved_by, one_hop_verdict}
use Rattle.process_packet.specs.PacketState.{PacketState, arrives}
use Rattle.process_packet.specs.Rows.{Verdict, Sent, Answered, Dropped, RowResult, GoesOn, Ends, Row, then_rows, too_long, faulty_header, faulty_path, expired, wrong_ingress, wrong_payload_length, wrong_underlay_source, wrong_source, wrong_destination, turn_back_segment_id, wrong_mac, ingress_request, delivery, switch, unknown_egress, wrong_pair, egress_request, leave}

-- tried in order; the first that ends the decision decides
abbrev pub decision_table : List Row
decision_table =
    too_long ∷ faulty_header ∷ faulty_path
    ∷ expired ∷ wrong_ingress ∷ wrong_payload_length ∷ wrong_underlay_source ∷ wrong_source ∷ wrong_destination
    ∷ turn_back_segment_id ∷ wrong_mac ∷ ingress_request
    ∷ delivery
    ∷ switch ∷ unknown_egress ∷ wrong_pair ∷ egress_request ∷ leave ∷ []

-- the last row always ends the decision
abbrev pub verdict_of : RowResult → Verdict
verdict_of (Ends v) = v
verdict_of (GoesOn s) = Dropped cause.PathEnd

-- what becomes of a packet that stands before these rows
abbrev pub ends_as : PacketState → List Row → Verdict
ends_as s rows = verdict_of (then_rows (GoesOn s) rows)

unfoldable pub verdict : Network → ℕ → Underlay → ℕ → List ℕ → Verdict
verdict n link source moment bytes = ends_as (arrives n link source moment bytes) decision_table

abbrev pub decision_of : Verdict → Decision
decision_of (Sent link to p) = decision.Send link to
decision_of (Answered problem) = decision.Answer problem
decision_of (Dropped c) = decision.Drop c

-- the datagram as it leaves; one that isn't sent is as it came
abbrev pub moved_by : Verdict → List ℕ → List ℕ
moved_by (Sent link to p) bytes = spelling p
moved_by (Answered problem) bytes = bytes
moved_by (Dropped c) bytes = bytes

-- what is done with a datagram on a SCION path, and its bytes afterwards
abbrev pub scion_decide : Network → ℕ → Underlay → ℕ → List ℕ → Decision
scion_decide n link source moment bytes = decision_of (verdict n link source moment bytes)

abbrev pub scion_moved : Network → ℕ → Underlay → ℕ → List ℕ → List ℕ
scion_moved n link source moment bytes = moved_by (verdict n link source moment bytes) bytes

-- ---- datagrams of both kinds

-- the datagram is on a path of one hop, by its path type, and such paths are taken from this link
unfoldable pub is_one_hop : Network → ℕ → List ℕ → Bool
is_one_hop n link bytes = slice_index bytes 8 == one_hop_path && takes_one_hop n link

-- what is done with a datagram, and its bytes afterwards
abbrev pub decide : Network → ℕ → Underlay → ℕ → List ℕ → Decision
decide n link source moment bytes =
    if is_one_hop n link bytes then one_hop_decision_of (one_hop_verdict n link source moment bytes) else scion_decide n link source moment bytes

abbrev pub moved : Network → ℕ → Underlay → ℕ → List ℕ → List ℕ
moved n link source moment bytes =
    if is_one_hop n link bytes then one_hop_moved_by (one_hop_verdict n link source moment bytes) bytes else scion_moved n link source moment bytes
