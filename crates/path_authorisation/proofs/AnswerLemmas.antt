-- Answers go back by the way that the datagram came.
use Rattle.std.proofs.Common.{◌≡◌, ◌≢◌, ◌⊎◌, ◌==◌, ℕ, Bool, true, false, List, slice_index, drop, Option, None, sym, ap, ◌∙◌, if◌then◌else◌, inl, inr}
use Rattle.std.proofs.lemmas.Bool.{cases_Bool, cases_eq, eq-eqb, eqb-true, ne_eqb}
use Rattle.bfd_answer.specs.Answer as bfd
use Rattle.bfd_answer.proofs.CrossingLemmas as crossing
use Rattle.scion_packet.specs.Header.{header_end, one_hop_path}
use Rattle.scion_packet.specs.OneHop.{one_hop_spelling}
use Rattle.scion_packet.specs.Packet.{Packet, spelling}
use Rattle.process_packet.specs.declared.config.Config.{Config}
use Rattle.process_packet.specs.declared.decision.Decision.TheVariants as decision
use Rattle.process_packet.specs.declared.decision.Problem.{Problem}
use Rattle.process_packet.specs.declared.underlay.Underlay.{Underlay}
use Rattle.process_packet.specs.Answerable.{IsControl}
use Rattle.process_packet.specs.Decide.{decide, decision_of, is_one_hop, verdict}
use Rattle.process_packet.specs.Network.{Network, network, takes_one_hop}
use Rattle.process_packet.specs.Problems.{IsProblem}
use Rattle.process_packet.specs.Rows.{Answered, Dropped, Sent, Verdict}
use Rattle.process_packet.specs.PacketState.{arrives}
use Rattle.process_packet.proofs.ControlAnswered.{control_answered}
use Rattle.process_packet.proofs.ControlLemmas.{answers_sound_for_each}
use Rattle.process_packet.proofs.KindLemmas.{decided_as_scion}
use Rattle.process_packet.proofs.PassingLemmas.{both_true}
use Rattle.process_packet.proofs.ProblemLemmas.{problems_lawful}
use Rattle.packet_answer.specs.Answer.{answered, bfd_outcome}
use Rattle.scmp_answer.specs.Outcome.{Leaves, outcome}
use Rattle.scmp_answer.specs.Reply as answers
use Rattle.scmp_answer.specs.Reply.{Reply, local_address, reply}
use Rattle.scmp_answer.proofs.TellingLemmas.{answers_tell}
use Rattle.path_authorisation.specs.Answers.{AnswersGoBack, IsAnswerTo}

-- which of both answers it is
answer_by : (c : Config) (link : ℕ) (source : Underlay) (moment : ℕ) (bytes : List ℕ) (q : Problem) (b : Bool) → (q.kind == 203) ≡ b
    → answered c link source moment bytes q ≡ (if b then bfd_outcome link (bfd.bfd_reply (network c) link moment bytes) else outcome (reply (local_address c) link source bytes q))
unfolding answered
answer_by c link source moment bytes q b is =
    ap (λ (x : Bool). if x then bfd_outcome link (bfd.bfd_reply (network c) link moment bytes) else outcome (reply (local_address c) link source bytes q)) is

on_one_hop : (n : Network) (link : ℕ) (bytes : List ℕ) → is_one_hop n link bytes ≡ true → slice_index bytes 8 ≡ one_hop_path
unfolding is_one_hop
on_one_hop n link bytes is = eqb-true (slice_index bytes 8) one_hop_path (both_true (slice_index bytes 8 == one_hop_path) (takes_one_hop n link) is).0

was_answered : (v : Verdict) (q : Problem) → decision_of v ≡ decision.Answer q → v ≡ Answered q
was_answered (Sent link to p) q is = absurd cc
was_answered (Answered r) q is = let same : r ≡ q = cc in ap Answered same
was_answered (Dropped c) q is = absurd cc

kind_of : (n : Network) (link : ℕ) (source : Underlay) (moment : ℕ) (bytes : List ℕ) (q : Problem) → IsProblem (arrives n link source moment bytes) q
    → (q.kind ≡ 1) ⊎ ((q.kind ≡ 4) ⊎ (q.kind ≡ 131))
kind_of n link source moment bytes q (IsProblem.unreachable is) = inl is
kind_of n link source moment bytes q (IsProblem.parameter is) = inr (inl is)
kind_of n link source moment bytes q (IsProblem.reply_at_entry is code asked) = inr (inr is)
kind_of n link source moment bytes q (IsProblem.reply_at_exit u is code asked) = inr (inr is)

record LeavesSo (r : Reply) (out : ℕ) (to : Option Underlay) (left : List ℕ) : Type 0 where
  answer : Packet
  sent : r ≡ answers.Sent out to answer
  text : left ≡ spelling answer

leaves_so : (r : Reply) (out : ℕ) (to : Option Underlay) (left : List ℕ) → outcome r ≡ Leaves out to left → LeavesSo r out to left
leaves_so (answers.Sent link at p) out to left is = record { answer = p; sent = (let one : link ≡ out = cc in let other : at ≡ to = cc in cc); text = cc }
leaves_so (answers.Dropped cause) out to left is = absurd cc

module _ (c : Config) (link : ℕ) (source : Underlay) (moment : ℕ) (bytes : List ℕ) (q : Problem) (out : ℕ) (to : Option Underlay) (left : List ℕ)
    (says : decide (network c) link source moment bytes ≡ decision.Answer q) (leaves : answered c link source moment bytes q ≡ Leaves out to left) where
  by_bfd : q.kind ≡ 203 → IsAnswerTo c link source moment bytes q out to left
  by_bfd is =
      let control : IsControl (network c) link bytes = (answers_sound_for_each (network c) link source moment bytes q says).by_bfd is in
      let text = one_hop_spelling (bfd.answer_packet (network c) control.asks.own control.there moment (drop (header_end bytes) bytes)) in
      let same : Leaves out to left ≡ Leaves link None text =
      sym leaves ∙ answer_by c link source moment bytes q true (eq-eqb q.kind 203 is)
      ∙ ap (bfd_outcome link) (crossing.answered (network c) link moment bytes control.asks.own control.there control.asks.listed control.named) in
      let link_is : out ≡ link = cc in
      let address : to ≡ None = cc in
      let text_is : left ≡ text = cc in
      IsAnswerTo.by_bfd control.asks.own control.there control.asks.listed control.named link_is address text_is

  lawful : q.kind ≢ 203 → (q.kind ≡ 1) ⊎ ((q.kind ≡ 4) ⊎ (q.kind ≡ 131))
  lawful other = elim (cases_Bool (is_one_hop (network c) link bytes)) [
    | inl once ↦
        let by = (control_answered.only (network c) link source moment bytes q says (on_one_hop (network c) link bytes once)).0 in
        absurd (other (ap (λ (p : Problem). p.kind) by))
    | inr long ↦
        let told : verdict (network c) link source moment bytes ≡ Answered q =
        was_answered (verdict (network c) link source moment bytes) q (sym (decided_as_scion (network c) link source moment bytes long).decision ∙ says) in
        kind_of (network c) link source moment bytes q (problems_lawful (network c) link source moment bytes q told)
  ]

  by_message : q.kind ≢ 203 → IsAnswerTo c link source moment bytes q out to left
  by_message other =
      let l : LeavesSo (reply (local_address c) link source bytes q) out to left =
      leaves_so (reply (local_address c) link source bytes q) out to left (sym (answer_by c link source moment bytes q false (ne_eqb q.kind 203 other)) ∙ leaves) in
      let tells = answers_tell (local_address c) link source bytes q out to l.answer l.sent (lawful other) in
      IsAnswerTo.by_scmp l.answer l.text tells.0 tells.1

  pub goes_back : IsAnswerTo c link source moment bytes q out to left
  goes_back = elim (cases_eq q.kind 203) [ inl is ↦ by_bfd is | inr other ↦ by_message other ]

pub answers_back : AnswersGoBack
answers_back c link source moment bytes q out to left says leaves = goes_back c link source moment bytes q out to left says leaves
