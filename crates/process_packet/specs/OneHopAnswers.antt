-- Which packets on a path of one hop are answered: control packets of BFD, between the routers at both ends of a link (RFC 5880).
use Rattle.std.specs.Prelude.{◌≡◌, ◌≢◌, ℕ, List}
use Rattle.process_packet.specs.declared.decision.Decision.TheVariants as decision
use Rattle.process_packet.specs.declared.decision.Problem.{Problem}
use Rattle.process_packet.specs.declared.underlay.Underlay.{Underlay}
use Rattle.process_packet.specs.Conditions.{AsksByBfd}
use Rattle.process_packet.specs.Decide.{decide}
use Rattle.process_packet.specs.Network.{Network}
use Rattle.process_packet.specs.OneHopLaws.{IsOneHop}
use Rattle.process_packet.specs.OneHopRefusals.{IsBetweenItsEnds}
use Rattle.process_packet.specs.OneHopState.{OneHopState, one_hop_arrives}

-- It has no fault, and came from the router at the other end of its link, from the AS there for this one; it is a control packet of
-- BFD (203), and asks for an answer.
pub record IsToBeAnswered (s : OneHopState) : Type 0 where
  pub outside : s.link ≢ 0
  pub between : IsBetweenItsEnds s
  pub protocol : s.packet.header.next_header ≡ 203
  pub asks : AsksByBfd s.network s.link s.packet.header.flow_id s.packet.payload

-- the answer by BFD, over the link by which the packet came
abbrev pub IsByBfd : ℕ → Problem → Type 0
IsByBfd link q = q ≡ record { kind = 203; code = 0; pointer = link }

-- What is to be answered is, by BFD; no other packet on a path of one hop is answered, and no other datagram by BFD.
pub record ControlIsAnswered : Type 0 where
  pub every : (n : Network) (link : ℕ) (source : Underlay) (moment : ℕ) (bytes : List ℕ) (q : Problem) → IsToBeAnswered (one_hop_arrives n link source moment bytes) → IsByBfd link q
      → decide n link source moment bytes ≡ decision.Answer q
  pub only : (n : Network) (link : ℕ) (source : Underlay) (moment : ℕ) (bytes : List ℕ) (q : Problem) → decide n link source moment bytes ≡ decision.Answer q → IsOneHop bytes
      → IsByBfd link q × IsToBeAnswered (one_hop_arrives n link source moment bytes)
  pub by_bfd : (n : Network) (link : ℕ) (source : Underlay) (moment : ℕ) (bytes : List ℕ) (q : Problem) → decide n link source moment bytes ≡ decision.Answer q → q.kind ≡ 203
      → IsOneHop bytes
