-- Which of its three ends a reply has.
use Rattle.std.proofs.Common.{◌≡◌, ℕ, true, false, Option, List, refl, ◌∙◌}
use Rattle.std.proofs.lemmas.Bool.{cond-true, cond-false}
use Rattle.process_packet.specs.declared.cause.Cause.TheVariants.{NoAnswer, NoWayBack}
use Rattle.process_packet.specs.declared.decision.Problem.{Problem}
use Rattle.process_packet.specs.declared.underlay.Underlay.{Underlay}
use Rattle.scion_packet.specs.Header.{HostAddress}
use Rattle.scion_packet.specs.Packet.{packet_of}
use Rattle.scmp_answer.specs.Outcome.{Leaves, is_sent, outcome}
use Rattle.scmp_answer.specs.Reply.{Dropped, Reply, Sent, answer_packet, is_left_unanswered, reply, sent_back}
use Rattle.scmp_answer.specs.WayBack.{has_no_way_back, way_back}

pub unanswered : (here : HostAddress) (link : ℕ) (source : Underlay) (bytes : List ℕ) (problem : Problem)
    → is_left_unanswered (packet_of bytes) problem ≡ true → reply here link source bytes problem ≡ Dropped NoAnswer
unfolding reply
unanswered here link source bytes problem is = cond-true _ _ _ is

pub no_way : (here : HostAddress) (link : ℕ) (source : Underlay) (bytes : List ℕ) (problem : Problem)
    → is_left_unanswered (packet_of bytes) problem ≡ false → has_no_way_back link (packet_of bytes).path ≡ true → reply here link source bytes problem ≡ Dropped NoWayBack
unfolding reply
no_way here link source bytes problem answered is = cond-false _ _ _ answered ∙ cond-true _ _ _ is

pub sent : (here : HostAddress) (link : ℕ) (source : Underlay) (bytes : List ℕ) (problem : Problem)
    → is_left_unanswered (packet_of bytes) problem ≡ false → has_no_way_back link (packet_of bytes).path ≡ false
    → reply here link source bytes problem ≡ sent_back link source (answer_packet here (packet_of bytes) (way_back link (packet_of bytes).path) bytes problem)
unfolding reply
sent here link source bytes problem answered back = cond-false _ _ _ answered ∙ cond-false _ _ _ back

-- what leaves was sent
pub was_sent : (r : Reply) (link : ℕ) (to : Option Underlay) (bytes : List ℕ) → Leaves link to bytes ≡ outcome r → is_sent r ≡ true
was_sent (Sent l t p) link to bytes is = refl
was_sent (Dropped cause) link to bytes is = absurd cc
