-- A packet that is answered.
use Rattle.std.proofs.Common.{◌≡◌, ◌≤◌, ◌&&◌, ℕ, true, List, length, drop, refl, sym, subst, ◌∙◌}
use Rattle.std.specs.Prelude.{nat_le}
use Rattle.std.proofs.lemmas.Bool.{leb-true}
use Rattle.bfd_control.specs.ControlPacket.{control_packet_of}
use Rattle.bfd_control.specs.Reception.{is_for, is_sound, is_taken}
use Rattle.packet_answer.specs.Answer.{IsAnswerable}
use Rattle.process_packet.specs.Answerable.{AnswersAreSound}
use Rattle.process_packet.specs.Decide.{decide, moved}
use Rattle.process_packet.specs.Network.{Network}
use Rattle.process_packet.specs.declared.decision.Decision.{Decision}
use Rattle.process_packet.specs.declared.decision.Decision.TheVariants as decision
use Rattle.process_packet.specs.declared.decision.Problem.{Problem}
use Rattle.process_packet.specs.declared.underlay.Underlay.{Underlay}
use Rattle.process_packet.proofs.KindLemmas.{answered_unchanged}
use Rattle.process_packet.proofs.PassingLemmas.{both_true}
use Rattle.scion_packet.specs.Header.{header_end}

-- a control packet that is taken is whole
taken_whole : (own : ℕ) (bytes : List ℕ) → is_taken own bytes ≡ true → 24 ≤ length bytes
taken_whole own bytes is =
    let p = control_packet_of bytes in
    leb-true 24 (length bytes) (both_true (nat_le 24 (length bytes)) (is_sound (length bytes) p && is_for own p) is).0

-- what the decision answers shows what its answer is made of
asked_soundly : AnswersAreSound → (n : Network) (link : ℕ) (source : Underlay) (now : ℕ) (bytes : List ℕ) (p : Problem) → decide n link source now bytes ≡ decision.Answer p
    → IsAnswerable bytes p
asked_soundly sound n link source now bytes p answer =
    let shown = sound n link source now bytes p answer in
    record {
      by_bfd = λ bfd. let control = shown.by_bfd bfd in record { sound = control.sound; whole = taken_whole link (drop (header_end bytes) bytes) control.asks.taken };
      by_scmp = shown.by_scmp;
    }

-- and its bytes are as they came
pub answered_soundly :
    AnswersAreSound → (n : Network) (link : ℕ) (source : Underlay) (now : ℕ) (came left : List ℕ) (d : Decision) → d ≡ decide n link source now came → left ≡ moved n link source now came
    → (p : Problem) → d ≡ decision.Answer p → IsAnswerable left p × (left ≡ came)
answered_soundly sound n link source now came left d decided moves p e =
    let answer : decide n link source now came ≡ decision.Answer p = sym decided ∙ e in
    let same : left ≡ came = moves ∙ answered_unchanged n link source now came p answer in
    (subst (λ (t : List ℕ). IsAnswerable t p) (sym same) (asked_soundly sound n link source now came p answer), same)
