-- The decision table for packets on a path of one hop, and what it gives for a datagram.
use Rattle.std.specs.Prelude.{ℕ, List, [], ◌∷◌, Option, Some, None}
use Rattle.scion_packet.specs.OneHop.{one_hop_spelling}
use Rattle.process_packet.specs.declared.cause.Cause.TheVariants as cause
use Rattle.process_packet.specs.declared.decision.Decision.{Decision}
use Rattle.process_packet.specs.declared.decision.Decision.TheVariants as decision
use Rattle.process_packet.specs.declared.underlay.Underlay.{Underlay}
use Rattle.process_packet.specs.Network.{Network}
use Rattle.process_packet.specs.OneHopRows.{OneHopRow, OneHopVerdict, Sent, Answered, Dropped, too_long, faulty_header, faulty_path, wrong_payload_length, wrong_underlay_source, wrong_ends, link_control, wrong_exit, wrong_far_end, wrong_time, wrong_mac, leave, complete}
use Rattle.process_packet.specs.OneHopState.{OneHopState, one_hop_arrives}

-- tried in order; the first that ends the decision decides
abbrev pub one_hop_table : List OneHopRow
one_hop_table =
    too_long ∷ faulty_header ∷ faulty_path
    ∷ wrong_payload_length ∷ wrong_underlay_source ∷ wrong_ends ∷ link_control
    ∷ wrong_exit ∷ wrong_far_end ∷ wrong_time ∷ wrong_mac
    ∷ leave ∷ complete ∷ []

-- rows in order: the first that ends the decision decides
abbrev pub or_rows : Option OneHopVerdict → OneHopState → List OneHopRow → Option OneHopVerdict
or_rows (Some v) s rows = Some v
or_rows None s [] = None
or_rows None s (r ∷ rows) = or_rows (r s) s rows

abbrev pub tried : OneHopState → List OneHopRow → Option OneHopVerdict
tried s rows = or_rows None s rows

-- the last row always ends the decision
abbrev pub one_hop_ends_as : Option OneHopVerdict → OneHopVerdict
one_hop_ends_as (Some v) = v
one_hop_ends_as None = Dropped cause.OneHopHost

unfoldable pub one_hop_verdict : Network → ℕ → Underlay → ℕ → List ℕ → OneHopVerdict
one_hop_verdict n link source moment bytes = one_hop_ends_as (tried (one_hop_arrives n link source moment bytes) one_hop_table)

abbrev pub one_hop_decision_of : OneHopVerdict → Decision
one_hop_decision_of (Sent link to p) = decision.Send link to
one_hop_decision_of (Answered problem) = decision.Answer problem
one_hop_decision_of (Dropped c) = decision.Drop c

-- the datagram as it leaves; one that isn't sent is as it came
abbrev pub one_hop_moved_by : OneHopVerdict → List ℕ → List ℕ
one_hop_moved_by (Sent link to p) bytes = one_hop_spelling p
one_hop_moved_by (Answered problem) bytes = bytes
one_hop_moved_by (Dropped c) bytes = bytes
