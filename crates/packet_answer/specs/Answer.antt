-- What becomes of a datagram that the decision answers: the answer by BFD (RFC 5880) or by SCMP (SCMP specification).
use Rattle.std.specs.Prelude.{◌≡◌, ◌≢◌, ◌≤◌, ℕ, Bool, true, false, ◌==◌, List, drop, length, Option, Some, None, if◌then◌else◌}
use Rattle.bfd_answer.specs.Answer.{answer_packet, bfd_reply}
use Rattle.bfd_answer.specs.Good.{IfAnswered, IsGoodAnswer}
use Rattle.process_packet.specs.declared.cause.Cause.TheVariants.{NoAnswer}
use Rattle.process_packet.specs.declared.config.Config.{Config}
use Rattle.process_packet.specs.declared.decision.Problem.{Problem}
use Rattle.process_packet.specs.declared.neighbours.Link.{Link}
use Rattle.process_packet.specs.declared.underlay.Underlay.{Underlay}
use Rattle.process_packet.specs.LinkControl.{bfd_protocol}
use Rattle.process_packet.specs.Network.{network, own_link}
use Rattle.scion_header.specs.declared.domain.Domain.{Domain}
use Rattle.scion_packet.specs.Header.{header_end}
use Rattle.scion_packet.specs.OneHop.{OneHopPacket, one_hop_fault, one_hop_spelling}
use Rattle.scion_packet.specs.Packet.{first_fault}
use Rattle.scmp_answer.specs.Outcome as scmp
use Rattle.scmp_answer.specs.Outcome.{IfSent, Leaves, Outcome, Stays, outcome}
use Rattle.scmp_answer.specs.Reply.{local_address, reply}

-- ---- what is answered

-- a control packet of 24 bytes or more, on a path of one hop and without a fault
pub record IsWholeControl (bytes : List ℕ) : Type 0 where
  pub sound : one_hop_fault bytes ≡ None
  pub whole : 24 ≤ length (drop (header_end bytes) bytes)

-- By BFD such a packet, and by SCMP a packet on a SCION path without a fault: as much of what the decision answers as its answer is
-- made of.
pub record IsAnswerable (bytes : List ℕ) (q : Problem) : Type 0 where
  pub by_bfd : q.kind ≡ bfd_protocol → IsWholeControl bytes
  pub by_scmp : q.kind ≢ bfd_protocol → first_fault bytes ≡ None

-- ---- the answer

-- by the link by which the packet came, to its other end
abbrev pub bfd_outcome : ℕ → Option OneHopPacket → Outcome
bfd_outcome link None = Stays NoAnswer
bfd_outcome link (Some p) = Leaves link None (one_hop_spelling p)

-- to a datagram that came by the link from the underlay's source at a moment, in seconds of Unix time
unfoldable pub answered : Config → ℕ → Underlay → ℕ → List ℕ → Problem → Outcome
answered c link source moment bytes q =
    if q.kind == bfd_protocol then bfd_outcome link (bfd_reply (network c) link moment bytes)
    else outcome (reply (local_address c) link source bytes q)

abbrev pub leaves : Outcome → Bool
leaves (Leaves link to bytes) = true
leaves (Stays cause) = false

-- ---- what holds of each answer

-- by BFD or by SCMP
pub record IsGood (c : Config) (link : ℕ) (source : Underlay) (moment : ℕ) (bytes : List ℕ) (q : Problem) : Type 0 where
  pub by_bfd : q.kind ≡ bfd_protocol → IfAnswered (bfd_reply (network c) link moment bytes) IsGoodAnswer
  pub by_scmp : q.kind ≢ bfd_protocol → IfSent (reply (local_address c) link source bytes q) scmp.IsGood

-- ---- the law

-- by the link's neighbour as the configuration has it
abbrev pub ControlPacketsAreAnswered : Type 0
ControlPacketsAreAnswered =
    (c : Config) (link : ℕ) (source : Underlay) (moment : ℕ) (bytes : List ℕ) (q : Problem) (own : Link) (there : Domain)
    → q.kind ≡ bfd_protocol → own_link (network c) link ≡ Some own → own.neighbor ≡ Some there
    → answered c link source moment bytes q ≡ Leaves link None (one_hop_spelling (answer_packet (network c) own there moment (drop (header_end bytes) bytes)))
