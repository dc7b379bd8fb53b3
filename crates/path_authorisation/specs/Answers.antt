-- What a datagram that isn't sent on makes a router send: one answer at most, back by the way that it came.
use Rattle.std.specs.Prelude.{◌≡◌, ℕ, List, drop, Option, Some, None}
use Rattle.bfd_answer.specs.Answer as bfd
use Rattle.scion_header.specs.declared.domain.Domain.{Domain}
use Rattle.scion_packet.specs.Header.{header_end}
use Rattle.scion_packet.specs.OneHop.{one_hop_spelling}
use Rattle.scion_packet.specs.Packet.{Packet, spelling}
use Rattle.process_packet.specs.declared.config.Config.{Config}
use Rattle.process_packet.specs.declared.decision.Decision.TheVariants as decision
use Rattle.process_packet.specs.declared.decision.Problem.{Problem}
use Rattle.process_packet.specs.declared.neighbours.Link.{Link}
use Rattle.process_packet.specs.declared.underlay.Underlay.{Underlay}
use Rattle.process_packet.specs.Decide.{decide}
use Rattle.process_packet.specs.Network.{network, own_link}
use Rattle.packet_answer.specs.Answer.{answered}
use Rattle.scmp_answer.specs.Outcome.{Leaves}
use Rattle.scmp_answer.specs.Reply.{local_address}
use Rattle.scmp_answer.specs.Telling.{GoesBack, TellsProblem}

-- By SCMP it goes to the source that the datagram claims, from the router's own address, by the link by which the datagram came, or
-- within the AS to the underlay address from which it came; it tells the problem, and quotes the datagram and nothing else. By BFD it
-- goes over the link by which the control packet came, to the neighbour that the configuration names there.
pub data IsAnswerTo (c : Config) (link : ℕ) (source : Underlay) (moment : ℕ) (bytes : List ℕ) (q : Problem) (out : ℕ) (to : Option Underlay) (left : List ℕ) : Type 0 where
  by_scmp : (p : Packet) → left ≡ spelling p → GoesBack (local_address c) link source bytes out to p → TellsProblem bytes q p
      → IsAnswerTo c link source moment bytes q out to left
  by_bfd : (own : Link) (there : Domain) → own_link (network c) link ≡ Some own → own.neighbor ≡ Some there → out ≡ link → to ≡ None
      → left ≡ one_hop_spelling (bfd.answer_packet (network c) own there moment (drop (header_end bytes) bytes)) → IsAnswerTo c link source moment bytes q out to left

-- Of whatever the decision answers, for whoever sent it.
abbrev pub AnswersGoBack : Type 0
AnswersGoBack =
    (c : Config) (link : ℕ) (source : Underlay) (moment : ℕ) (bytes : List ℕ) (q : Problem) (out : ℕ) (to : Option Underlay) (left : List ℕ)
    → decide (network c) link source moment bytes ≡ decision.Answer q → answered c link source moment bytes q ≡ Leaves out to left
    → IsAnswerTo c link source moment bytes q out to left
