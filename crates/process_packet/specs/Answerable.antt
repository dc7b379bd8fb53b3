-- What a datagram shows that the decision answers: as much as its answer is made of.
use Rattle.std.specs.Prelude.{◌≡◌, ◌≢◌, ℕ, List, drop, Some, None}
use Rattle.scion_header.specs.declared.domain.Domain.{Domain}
use Rattle.scion_packet.specs.Header.{header_end, header_of}
use Rattle.scion_packet.specs.OneHop.{one_hop_fault}
use Rattle.scion_packet.specs.Packet.{first_fault}
use Rattle.process_packet.specs.declared.decision.Decision.TheVariants as decision
use Rattle.process_packet.specs.declared.decision.Problem.{Problem}
use Rattle.process_packet.specs.declared.underlay.Underlay.{Underlay}
use Rattle.process_packet.specs.Conditions.{AsksByBfd}
use Rattle.process_packet.specs.Decide.{decide}
use Rattle.process_packet.specs.Network.{Network}

-- On a path of one hop and without a fault, it came by a link that leads to a neighbour, and asks for an answer by BFD.
pub record IsControl (n : Network) (link : ℕ) (bytes : List ℕ) : Type 0 where
  pub sound : one_hop_fault bytes ≡ None
  pub outside : link ≢ 0
  pub asks : AsksByBfd n link (header_of bytes).flow_id (drop (header_end bytes) bytes)
  pub there : Domain
  pub named : asks.own.neighbor ≡ Some there

-- A control packet of BFD for an answer of kind 203; else a datagram on a SCION path without a fault, for one by SCMP.
pub record IsAnswerable (n : Network) (link : ℕ) (bytes : List ℕ) (q : Problem) : Type 0 where
  pub by_bfd : q.kind ≡ 203 → IsControl n link bytes
  pub by_scmp : q.kind ≢ 203 → first_fault bytes ≡ None

abbrev pub AnswersAreSound : Type 0
AnswersAreSound =
    (n : Network) (link : ℕ) (source : Underlay) (moment : ℕ) (bytes : List ℕ) (q : Problem)
    → decide n link source moment bytes ≡ decision.Answer q → IsAnswerable n link bytes q
