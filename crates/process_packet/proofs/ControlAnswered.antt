-- A control packet of BFD that asks for an answer gets one.
use Rattle.std.proofs.Common.{◌≡◌, ℕ, Bool, List, Some, sym, ap, ◌∙◌, if◌then◌else◌}
use Rattle.process_packet.specs.declared.cause.Cause.TheVariants as cause
use Rattle.process_packet.specs.declared.decision.Decision.TheVariants as decision
use Rattle.process_packet.specs.declared.decision.Problem.{Problem}
use Rattle.process_packet.specs.declared.underlay.Underlay.{Underlay}
use Rattle.process_packet.specs.Decide.{decide}
use Rattle.process_packet.specs.LinkControl.{control_answer}
use Rattle.process_packet.specs.Network.{Network}
use Rattle.process_packet.specs.OneHopAnswers.{ControlIsAnswered, IsByBfd, IsToBeAnswered}
use Rattle.process_packet.specs.OneHopRows as row
use Rattle.process_packet.specs.OneHopRows.{Answered, Dropped, OneHopVerdict, controlled}
use Rattle.process_packet.specs.OneHopState.{OneHopState, one_hop_arrives}
use Rattle.process_packet.specs.OneHopTable.{one_hop_decision_of, one_hop_ends_as, one_hop_table, one_hop_verdict, tried}
use Rattle.process_packet.proofs.ControlLemmas.{bfd_alone, only_control}
use Rattle.process_packet.proofs.KindLemmas.{decided_as_one_hop}
use Rattle.process_packet.proofs.OneHopConditionLemmas.{asks_by_bfd, outside_takes}
use Rattle.process_packet.proofs.OneHopLawLemmas.{ends_so, is_of_its_table}
use Rattle.process_packet.proofs.OneHopLemmas.{one_ends}
use Rattle.process_packet.proofs.OneHopRefusalLemmas.{between, rest}
use Rattle.process_packet.proofs.OneHopTestLemmas.{ends, host_asked, is_link_control}

controls : (s : OneHopState) → IsToBeAnswered s → tried s one_hop_table ≡ Some (Answered (control_answer s.link))
controls s is =
    let h = s.packet.header in
    let answers : controlled s ≡ Answered (control_answer s.link) =
    ap (λ (b : Bool). if b then Answered (control_answer s.link) else Dropped cause.OneHopHost) ((asks_by_bfd s.network s.link h.flow_id s.packet.payload).1 is.asks) in
    let applies = ends (is_link_control s) (controlled s) (host_asked s is.outside) (λ other. other is.protocol) in
    between s is.outside is.between ∙ one_ends s row.link_control (rest 7) (Answered (control_answer s.link)) (applies ∙ ap Some answers)

every_control : (n : Network) (link : ℕ) (source : Underlay) (moment : ℕ) (bytes : List ℕ) (q : Problem) → IsToBeAnswered (one_hop_arrives n link source moment bytes) → IsByBfd link q
    → decide n link source moment bytes ≡ decision.Answer q
every_control n link source moment bytes q is same =
    let s = one_hop_arrives n link source moment bytes in
    let takes = outside_takes n link s.packet.header.source is.outside is.between.1.1 in
    let decided = decided_as_one_hop n link source moment bytes (is_of_its_table n link bytes is.between.0.0.0.1 takes) in
    decided.decision
    ∙ ap one_hop_decision_of (ends_so n link source moment bytes (Answered (control_answer link)) (controls s is))
    ∙ ap (λ (x : Problem). decision.Answer x) (sym same)

pub control_answered : ControlIsAnswered
control_answered = record { every = every_control; only = only_control; by_bfd = bfd_alone }
