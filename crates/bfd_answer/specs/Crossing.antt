-- An answer at the neighbour.
use Rattle.std.specs.Prelude.{◌≡◌, ◌≢◌, ◌≤◌, ◌<◌, ◌^◌, ℕ, true, List, [], ◌∷◌, Some, None, drop}
use Rattle.scion_header.specs.declared.domain.Domain.{Domain}
use Rattle.scion_packet.specs.Header.{header_end, header_of}
use Rattle.scion_packet.specs.OneHop.{OneHopPacket, one_hop_spelling}
use Rattle.field_rows.specs.Place.{IsBytes}
use Rattle.bfd_control.specs.Answer.{answer_text}
use Rattle.bfd_control.specs.ControlPacket.{control_packet_of}
use Rattle.bfd_control.specs.Reception.{is_taken}
use Rattle.process_packet.specs.declared.neighbours.Link.{Link}
use Rattle.process_packet.specs.Network.{Network, own_link}
use Rattle.process_packet.specs.OneHopRows.{faulty_header, faulty_path, too_long, wrong_ends, wrong_payload_length, wrong_underlay_source}
use Rattle.process_packet.specs.OneHopState.{one_hop_arrives}
use Rattle.process_packet.specs.OneHopTable.{tried}
use Rattle.bfd_answer.specs.Answer.{answer_packet, bfd_reply}
use Rattle.bfd_answer.specs.Good.{IsGoodAnswer}

abbrev pub ControlPacketsAreAnswered : Type 0
ControlPacketsAreAnswered =
    (n : Network) (link moment : ℕ) (bytes : List ℕ) (own : Link) (there : Domain) → own_link n link ≡ Some own → own.neighbor ≡ Some there
    → bfd_reply n link moment bytes ≡ Some (answer_packet n own there moment (drop (header_end bytes) bytes))

-- The link of the one router and that of the other are the ends of one wire: each names the other's AS, and the other's is sent to
-- where the one sends from.
pub record AreEnds (n : Network) (own : Link) (m : Network) (other : Link) : Type 0 where
  pub there : Domain
  pub there_is : own.neighbor ≡ Some there
  pub there_isd : there.isd ≡ m.isd
  pub there_as : there.autonomous_system ≡ m.autonomous_system
  pub here : Domain
  pub here_is : other.neighbor ≡ Some here
  pub here_isd : here.isd ≡ n.isd
  pub here_as : here.autonomous_system ≡ n.autonomous_system
  pub wire : other.remote ≡ own.local

-- At the other end, and at any moment there, no row before that for BFD ends the decision; and it is a message of BFD, in the flow of
-- answers, that carries the control packet. Where the packet that is answered was taken here, the session there that sent it takes
-- the answer.
pub record Crosses (n : Network) (own : Link) (m : Network) (end moment : ℕ) (received : List ℕ) (p : OneHopPacket) : Type 0 where
  pub passes : tried (one_hop_arrives m end own.local moment (one_hop_spelling p))
      (too_long ∷ faulty_header ∷ faulty_path ∷ wrong_payload_length ∷ wrong_underlay_source ∷ wrong_ends ∷ []) ≡ None
  pub protocol : (header_of (one_hop_spelling p)).next_header ≡ 203
  pub flow : (header_of (one_hop_spelling p)).flow_id ≡ 0xbfda0
  pub carries : drop (header_end (one_hop_spelling p)) (one_hop_spelling p) ≡ answer_text own.id received
  pub heard : IsBytes received → 1 ≤ own.id → own.id < 2 ^ 32 → is_taken own.id received ≡ true
      → is_taken (control_packet_of received).my_discriminator (drop (header_end (one_hop_spelling p)) (one_hop_spelling p)) ≡ true

abbrev pub AnswersCross : Type 0
AnswersCross =
    (n : Network) (link moment : ℕ) (bytes : List ℕ) (own : Link) (p : OneHopPacket) (m : Network) (end later : ℕ) (other : Link)
    → own_link n link ≡ Some own → bfd_reply n link moment bytes ≡ Some p → IsGoodAnswer p
    → end ≢ 0 → own_link m end ≡ Some other → AreEnds n own m other
    → Crosses n own m end later (drop (header_end bytes) bytes) p
