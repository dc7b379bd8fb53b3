-- What an answer that is sent tells, said of its fields.
use Rattle.std.specs.Prelude.{◌≡◌, ◌≢◌, ◌⊎◌, ◌<◌, ◌^◌, ℕ, List, Option, Some, None, drop, slice_index, take}
use Rattle.field_rows.specs.Place.{number_at}
use Rattle.scion_packet.specs.Header.{HostAddress}
use Rattle.scion_packet.specs.Packet.{Packet, packet_of}
use Rattle.process_packet.specs.declared.decision.Problem.{Problem}
use Rattle.process_packet.specs.declared.underlay.Underlay.{Underlay}
use Rattle.scmp_answer.specs.Reply.{Sent, reply}

-- It goes back by the link by which the packet came, within the AS to the router or host that sent it, and to the packet's source,
-- with its traffic class and its flow.
pub record GoesBack (here : HostAddress) (link : ℕ) (source : Underlay) (bytes : List ℕ) (out : ℕ) (to : Option Underlay) (answer : Packet) : Type 0 where
  pub link_is : out ≡ link
  pub outside : link ≢ 0 → to ≡ None
  pub within : link ≡ 0 → to ≡ Some source
  pub sender : answer.header.source ≡ here
  pub receiver : answer.header.destination ≡ (packet_of bytes).header.source
  pub traffic_class : answer.header.traffic_class ≡ (packet_of bytes).header.traffic_class
  pub flow : answer.header.flow_id ≡ (packet_of bytes).header.flow_id

-- It is an SCMP message (protocol 202) of the problem's type, with its code; a parameter problem has its pointer; both error
-- messages quote the datagram from its first byte on.
pub record TellsProblem (bytes : List ℕ) (problem : Problem) (answer : Packet) : Type 0 where
  pub scmp : answer.header.next_header ≡ 202
  pub kind : slice_index answer.payload 0 ≡ problem.kind
  pub code : problem.kind ≢ 131 → problem.code < 2 ^ 8 → slice_index answer.payload 1 ≡ problem.code
  pub pointer : problem.kind ≡ 4 → problem.pointer < 2 ^ 16 → number_at answer.payload 6 2 ≡ problem.pointer
  pub quoted : ℕ
  pub quote : problem.kind ≢ 131 → drop 8 answer.payload ≡ take quoted bytes

abbrev pub AnswersTellProblems : Type 0
AnswersTellProblems =
    (here : HostAddress) (link : ℕ) (source : Underlay) (bytes : List ℕ) (problem : Problem) (out : ℕ) (to : Option Underlay) (answer : Packet)
    → reply here link source bytes problem ≡ Sent out to answer → (problem.kind ≡ 1) ⊎ ((problem.kind ≡ 4) ⊎ (problem.kind ≡ 131))
    → GoesBack here link source bytes out to answer × TellsProblem bytes problem answer
