-- Which of both answers it is.
use Rattle.std.proofs.Common.{◌≡◌, ◌≢◌, ◌==◌, ℕ, Bool, true, List, Option, Some, None, option_map, refl, ap, ◌∙◌}
use Rattle.std.proofs.lemmas.Bool.{cond-false, cond-true, eq-eqb, ne_eqb}
use Rattle.bfd_answer.specs.Answer.{bfd_reply}
use Rattle.bfd_answer.proofs.CrossingLemmas as crossing
use Rattle.process_packet.specs.declared.cause.Cause.TheVariants.{NoAnswer}
use Rattle.process_packet.specs.declared.config.Config.{Config}
use Rattle.process_packet.specs.declared.decision.Problem.{Problem}
use Rattle.process_packet.specs.declared.underlay.Underlay.{Underlay}
use Rattle.process_packet.specs.LinkControl.{bfd_protocol}
use Rattle.process_packet.specs.Network.{network}
use Rattle.scion_packet.specs.OneHop.{OneHopPacket, one_hop_spelling}
use Rattle.scmp_answer.specs.Outcome.{Leaves, Outcome, Stays, outcome}
use Rattle.scmp_answer.specs.Reply.{local_address, reply}
use Rattle.packet_answer.specs.Answer.{ControlPacketsAreAnswered, answered, bfd_outcome, leaves}

pub by_bfd : (c : Config) (link : ℕ) (source : Underlay) (moment : ℕ) (bytes : List ℕ) (q : Problem) → q.kind ≡ bfd_protocol
    → answered c link source moment bytes q ≡ bfd_outcome link (bfd_reply (network c) link moment bytes)
unfolding answered
by_bfd c link source moment bytes q is = cond-true _ _ _ (eq-eqb q.kind bfd_protocol is)

pub by_scmp : (c : Config) (link : ℕ) (source : Underlay) (moment : ℕ) (bytes : List ℕ) (q : Problem) → q.kind ≢ bfd_protocol
    → answered c link source moment bytes q ≡ outcome (reply (local_address c) link source bytes q)
unfolding answered
by_scmp c link source moment bytes q other = cond-false _ _ _ (ne_eqb q.kind bfd_protocol other)

pub are_answered : ControlPacketsAreAnswered
are_answered c link source moment bytes q own there is listed named =
    by_bfd c link source moment bytes q is ∙ ap (bfd_outcome link) (crossing.answered (network c) link moment bytes own there listed named)

-- the bytes of an answer by BFD leave by the link
pub control_sent : (link : ℕ) (reply : Option OneHopPacket) (bytes : List ℕ) → Some bytes ≡ option_map one_hop_spelling reply → Leaves link None bytes ≡ bfd_outcome link reply
control_sent link None bytes is = absurd cc
control_sent link (Some p) bytes is = cc

pub control_kept : (link : ℕ) (reply : Option OneHopPacket) → None ≡ option_map one_hop_spelling reply → Stays NoAnswer ≡ bfd_outcome link reply
control_kept link None is = refl
control_kept link (Some p) is = absurd cc

-- what leaves was to leave
pub was_left : (o : Outcome) (link : ℕ) (to : Option Underlay) (bytes : List ℕ) → Leaves link to bytes ≡ o → leaves o ≡ true
was_left (Leaves l t b) link to bytes is = refl
was_left (Stays cause) link to bytes is = absurd cc
