-- Row after row of what the table of one-hop paths answers: it is a control packet of BFD that asks for an answer.
use Rattle.std.proofs.Common.{◌≡◌, ◌≢◌, ◌⊎◌, ◌&&◌, ◌==◌, ℕ, Bool, true, false, List, [], ◌∷◌, drop, Option, Some, None, slice_index, refl, sym, ap, subst, ◌∙◌, arith, inl, inr, if◌then◌else◌}
use Rattle.std.proofs.lemmas.Bool.{cases_Bool, eqb-true}
use Rattle.scion_header.specs.declared.domain.Domain.{Domain}
use Rattle.scion_packet.specs.Fault.{Fault}
use Rattle.scion_packet.specs.Header.{header_fault_as, header_of, one_hop_path}
use Rattle.scion_packet.specs.OneHop.{OneHopPacket, one_hop_fault, one_hop_path_fault}
use Rattle.scion_packet.specs.Packet.{first_fault, path_bytes}
use Rattle.scion_packet.proofs.HeaderSpelled.{header_type}
use Rattle.scion_packet.proofs.OneHopLaws.{one_hop_both_pass, one_hop_pass_both}
use Rattle.process_packet.specs.declared.cause.Cause.{Cause}
use Rattle.process_packet.specs.declared.cause.Cause.TheVariants as cause
use Rattle.process_packet.specs.declared.decision.Decision.{Decision}
use Rattle.process_packet.specs.declared.decision.Decision.TheVariants as decision
use Rattle.process_packet.specs.declared.decision.Problem.{Problem}
use Rattle.process_packet.specs.declared.neighbours.Link.{Link}
use Rattle.process_packet.specs.declared.underlay.Underlay.{Underlay}
use Rattle.process_packet.specs.Answerable.{AnswersAreSound, IsAnswerable, IsControl}
use Rattle.process_packet.specs.Conditions.{AsksByBfd}
use Rattle.process_packet.specs.Decide.{decide, decision_of, is_one_hop, scion_decide, verdict}
use Rattle.process_packet.specs.LinkControl.{bfd_protocol, control_answer, is_answered}
use Rattle.process_packet.specs.Network.{Network, own_link}
use Rattle.process_packet.specs.OneHopAnswers.{IsByBfd, IsToBeAnswered}
use Rattle.process_packet.specs.OneHopLaws.{IsOneHop}
use Rattle.process_packet.specs.OneHopRows as row
use Rattle.process_packet.specs.OneHopRows.{Answered, Dropped, OneHopRow, OneHopVerdict, Sent, complete, controlled, delivered, dropped_where, ends_where, faulty}
use Rattle.process_packet.specs.OneHopState.{OneHopState, chained, completed, exit, is_external, one_hop_arrives}
use Rattle.process_packet.specs.OneHopTable.{one_hop_decision_of, one_hop_ends_as, one_hop_table, one_hop_verdict, or_rows, tried}
use Rattle.process_packet.specs.PacketState.{PacketState, arrives}
use Rattle.process_packet.specs.Problems.{IsProblem}
use Rattle.process_packet.specs.Routed.{IsAnswer}
use Rattle.process_packet.specs.Rows as scion
use Rattle.process_packet.specs.Rows.{Verdict, cause_of}
use Rattle.process_packet.proofs.KindLemmas.{decided_as_one_hop, decided_as_scion, has_scion_path}
use Rattle.process_packet.proofs.LawLemmas.{answers_sound}
use Rattle.process_packet.proofs.OneHopConditionLemmas.{asks_by_bfd}
use Rattle.process_packet.proofs.OneHopTestLemmas.{ends_asked_outside, has_other_ends, inside, is_from_other, is_not_whole, is_too_long, router_asked, short_asked, shown, whole_asked}
use Rattle.process_packet.proofs.PassingLemmas.{both_true}
use Rattle.process_packet.proofs.ProblemLemmas.{problems_lawful}

abbrev rest : ℕ → List OneHopRow
rest k = drop k one_hop_table

-- rows, begun with what one of them says, end in an answer
abbrev Answers : Option OneHopVerdict → OneHopState → List OneHopRow → Problem → Type 0
Answers o s rows q = one_hop_ends_as (or_rows o s rows) ≡ Answered q

abbrev IsAnswered : OneHopVerdict → Type 0
IsAnswered (Sent out to p) = ⊥
IsAnswered (Answered q) = Unit {0}
IsAnswered (Dropped why) = ⊥

dropped_not_answered : (why : Cause) (q : Problem) → Dropped why ≡ Answered q → ⊥
dropped_not_answered why q e = subst IsAnswered (sym e) tt

sent_not_answered : (out : ℕ) (to : Option Underlay) (p : OneHopPacket) (q : Problem) → Sent out to p ≡ Answered q → ⊥
sent_not_answered out to p q e = subst IsAnswered (sym e) tt

-- what a row says that answers nothing
data AnswersNothing : Option OneHopVerdict → Type 0 where
  goes_on : AnswersNothing None
  drops : (why : Cause) → AnswersNothing (Some (Dropped why))
  sends : (out : ℕ) (to : Option Underlay) (p : OneHopPacket) → AnswersNothing (Some (Sent out to p))

dropping : (t : Bool) (why : Cause) → AnswersNothing (dropped_where t why)
dropping true why = AnswersNothing.drops why
dropping false why = AnswersNothing.goes_on

at_fault : (f : Option Fault) → AnswersNothing (faulty f)
at_fault None = AnswersNothing.goes_on
at_fault (Some f) = AnswersNothing.drops (cause_of f)

leaving : (b : Bool) (s : OneHopState) → AnswersNothing (if b then None else Some (Sent (exit s) None (chained s)))
leaving true s = AnswersNothing.goes_on
leaving false s = AnswersNothing.sends (exit s) None (chained s)

delivering : (p : OneHopPacket) (o : Option Underlay) → AnswersNothing (Some (delivered p o))
delivering p None = AnswersNothing.drops cause.OneHopHost
delivering p (Some at) = AnswersNothing.sends 0 (Some at) p

-- such a row let go on what was answered
passed : (o : Option OneHopVerdict) → AnswersNothing o → (s : OneHopState) (rows : List OneHopRow) (q : Problem) → Answers o s rows q → (o ≡ None) × Answers None s rows q
passed _ AnswersNothing.goes_on s rows q told = (refl, told)
passed _ (AnswersNothing.drops why) s rows q told = absurd (dropped_not_answered why q told)
passed _ (AnswersNothing.sends out to p) s rows q told = absurd (sent_not_answered out to p q told)

none_later : (s : OneHopState) (q : Problem) → Answers None s (rest 7) q → ⊥
none_later s q told =
    let begins = passed (row.wrong_exit s) (dropping _ _) s (rest 8) q told in
    let far = passed (row.wrong_far_end s) (dropping _ _) s (rest 9) q begins.1 in
    let timely = passed (row.wrong_time s) (dropping _ _) s (rest 10) q far.1 in
    let authentic = passed (row.wrong_mac s) (dropping _ _) s (rest 11) q timely.1 in
    let external = passed (row.leave s) (leaving (is_external s) s) s (rest 12) q authentic.1 in
    let delivers = passed (complete s) (delivering (completed s) _) s [] q external.1 in
    dropped_not_answered cause.OneHopHost q delivers.1

by_control : (o : Option OneHopVerdict) (s : OneHopState) (q : Problem) → row.link_control s ≡ o → Answers o s (rest 7) q → row.link_control s ≡ Some (Answered q)
by_control None s q is told = absurd (none_later s q told)
by_control (Some v) s q is told = is ∙ ap Some told

-- The rows before it let it go on, and it is the row for control packets that answers.
record IsControlled (s : OneHopState) (q : Problem) : Type 0 where
  short : row.too_long s ≡ None
  header : row.faulty_header s ≡ None
  path : row.faulty_path s ≡ None
  whole : row.wrong_payload_length s ≡ None
  sender : row.wrong_underlay_source s ≡ None
  ends : row.wrong_ends s ≡ None
  control : row.link_control s ≡ Some (Answered q)

is_controlled : (s : OneHopState) (q : Problem) → Answers None s one_hop_table q → IsControlled s q
is_controlled s q told =
    let short = passed (row.too_long s) (dropping _ _) s (rest 1) q told in
    let header = passed (row.faulty_header s) (at_fault _) s (rest 2) q short.1 in
    let path = passed (row.faulty_path s) (at_fault _) s (rest 3) q header.1 in
    let whole = passed (row.wrong_payload_length s) (dropping _ _) s (rest 4) q path.1 in
    let sender = passed (row.wrong_underlay_source s) (dropping _ _) s (rest 5) q whole.1 in
    let ends = passed (row.wrong_ends s) (dropping _ _) s (rest 6) q sender.1 in
    record {
      short = short.0;
      header = header.0;
      path = path.0;
      whole = whole.0;
      sender = sender.0;
      ends = ends.0;
      control = by_control (row.link_control s) s q refl ends.1;
    }

-- ---- what that row says

record SaysSo (t b : Bool) (p q : Problem) : Type 0 where
  applies : t ≡ true
  asked : b ≡ true
  told : p ≡ q

says_so : (t b : Bool) (p q : Problem) (why : Cause) → ends_where t (if b then Answered p else Dropped why) ≡ Some (Answered q) → SaysSo t b p q
says_so true true p q why e = record { applies = refl; asked = refl; told = cc }
says_so true false p q why e = absurd cc
says_so false b p q why e = absurd cc

no_fault : (f : Option Fault) → faulty f ≡ None → f ≡ None
no_fault None none = refl
no_fault (Some f) none = absurd cc

from_outside : (s : OneHopState) → is_external s ≡ true → s.link ≢ 0
from_outside s external zero = let never : false ≡ true = sym (inside s zero) ∙ external in absurd cc

to_be_answered : (s : OneHopState) (q : Problem) → IsControlled s q → IsByBfd s.link q × IsToBeAnswered s
to_be_answered s q is =
    let h = s.packet.header in
    let says = says_so (is_external s && h.next_header == bfd_protocol) (is_answered s.network s.link h.flow_id s.packet.payload) (control_answer s.link) q cause.OneHopHost is.control in
    let applies = both_true (is_external s) (h.next_header == bfd_protocol) says.applies in
    let other = from_outside s applies.0 in
    let sound = one_hop_pass_both s.bytes (no_fault (header_fault_as one_hop_path s.bytes) is.header) (no_fault (one_hop_path_fault (path_bytes s.bytes)) is.path) in
    let short = shown (is_too_long s) _ (short_asked s) is.short in
    let whole = shown (is_not_whole s) _ (whole_asked s) is.whole in
    let sender = shown (is_from_other s) _ (router_asked s other) is.sender in
    let ends = shown (has_other_ends s) _ (ends_asked_outside s other) is.ends in (
      sym says.told,
      record {
        outside = other;
        between = ((((short, sound), whole), sender), ends);
        protocol = eqb-true h.next_header 203 applies.1;
        asks = (asks_by_bfd s.network s.link h.flow_id s.packet.payload).0 says.asked;
      },
    )

-- ---- decisions

of_decision : (v : OneHopVerdict) (q : Problem) → one_hop_decision_of v ≡ decision.Answer q → v ≡ Answered q
of_decision (Sent out to p) q says = absurd cc
of_decision (Answered r) q says = let same : r ≡ q = cc in ap (λ (x : Problem). Answered x) same
of_decision (Dropped why) q says = absurd cc

of_scion : (v : Verdict) (q : Problem) → decision_of v ≡ decision.Answer q → v ≡ scion.Answered q
of_scion (scion.Sent out to p) q says = absurd cc
of_scion (scion.Answered r) q says = let same : r ≡ q = cc in ap (λ (x : Problem). scion.Answered x) same
of_scion (scion.Dropped c) q says = absurd cc

one_hop_told : (n : Network) (link : ℕ) (source : Underlay) (moment : ℕ) (bytes : List ℕ) (q : Problem)
    → one_hop_verdict n link source moment bytes ≡ Answered q → Answers None (one_hop_arrives n link source moment bytes) one_hop_table q
unfolding one_hop_verdict
one_hop_told n link source moment bytes q told = told

-- an answer by SCMP is of one of these types
not_bfd : {s : PacketState} (q : Problem) → IsProblem s q → q.kind ≢ 203
not_bfd q (IsProblem.unreachable one) bfd = absurd (omega (arith, one, bfd))
not_bfd q (IsProblem.parameter four) bfd = absurd (omega (arith, four, bfd))
not_bfd q (IsProblem.reply_at_entry kind code asked) bfd = absurd (omega (arith, kind, bfd))
not_bfd q (IsProblem.reply_at_exit u kind code asked) bfd = absurd (omega (arith, kind, bfd))

-- Of an answered datagram by either table.
pub record AnsweredAsOneHop (n : Network) (link : ℕ) (source : Underlay) (moment : ℕ) (bytes : List ℕ) (q : Problem) : Type 0 where
  pub problem : IsByBfd link q
  pub control : IsToBeAnswered (one_hop_arrives n link source moment bytes)

pub record AnsweredAsScion (n : Network) (link : ℕ) (source : Underlay) (moment : ℕ) (bytes : List ℕ) (q : Problem) : Type 0 where
  pub says : scion_decide n link source moment bytes ≡ decision.Answer q
  pub sound : first_fault bytes ≡ None
  pub kind : q.kind ≢ 203

pub answered_so : (n : Network) (link : ℕ) (source : Underlay) (moment : ℕ) (bytes : List ℕ) (q : Problem) → decide n link source moment bytes ≡ decision.Answer q
    → AnsweredAsOneHop n link source moment bytes q ⊎ AnsweredAsScion n link source moment bytes q
answered_so n link source moment bytes q says =
    elim (cases_Bool (is_one_hop n link bytes)) [
      | inl is ↦
          let v = one_hop_verdict n link source moment bytes in
          let told = of_decision v q (sym (decided_as_one_hop n link source moment bytes is).decision ∙ says) in
          let s = one_hop_arrives n link source moment bytes in
          let both = to_be_answered s q (is_controlled s q (one_hop_told n link source moment bytes q told)) in
          inl (record { problem = both.0; control = both.1 })
      | inr other ↦
          let as-scion : scion_decide n link source moment bytes ≡ decision.Answer q = sym (decided_as_scion n link source moment bytes other).decision ∙ says in
          inr (record {
            says = as-scion;
            sound = answers_sound n link source moment bytes (subst IsAnswer (sym as-scion) tt);
            kind = not_bfd q (problems_lawful n link source moment bytes q (of_scion (verdict n link source moment bytes) q as-scion));
          })
    ]

-- what is answered otherwise than by BFD is on a SCION path
pub answered_as_scion : (n : Network) (link : ℕ) (source : Underlay) (moment : ℕ) (bytes : List ℕ) (q : Problem) → decide n link source moment bytes ≡ decision.Answer q → q.kind ≢ 203
    → scion_decide n link source moment bytes ≡ decision.Answer q
answered_as_scion n link source moment bytes q says other =
    elim (answered_so n link source moment bytes q says) [
      | inl control ↦ absurd (other (ap (λ (x : Problem). x.kind) control.problem))
      | inr scmp ↦ scmp.says
    ]

-- ---- the laws

-- one link of the router has that number
one_link : (n : Network) (link : ℕ) (l m : Link) → own_link n link ≡ Some l → own_link n link ≡ Some m → l ≡ m
one_link n link l m first second = let is : Some l ≡ Some m = sym first ∙ second in cc

is_control : (n : Network) (link : ℕ) (source : Underlay) (moment : ℕ) (bytes : List ℕ) → IsToBeAnswered (one_hop_arrives n link source moment bytes) → IsControl n link bytes
is_control n link source moment bytes is =
    let leads = is.between.1.1 in
    let one : is.asks.own ≡ leads.own =
    one_link n link is.asks.own leads.own is.asks.listed leads.listed in
    record {
      sound = is.between.0.0.0.1;
      outside = is.outside;
      asks = is.asks;
      there = leads.end;
      named = ap (λ (l : Link). l.neighbor) one ∙ leads.named;
    }

pub answers_sound_for_each : AnswersAreSound
answers_sound_for_each n link source moment bytes q says =
    elim (answered_so n link source moment bytes q says) [
      | inl control ↦
          let kind : q.kind ≡ 203 = ap (λ (x : Problem). x.kind) control.problem in
          record { by_bfd = λ is. is_control n link source moment bytes control.control; by_scmp = λ other. absurd (other kind) }
      | inr scmp ↦ record { by_bfd = λ is. absurd (scmp.kind is); by_scmp = λ other. scmp.sound }
    ]

pub only_control : (n : Network) (link : ℕ) (source : Underlay) (moment : ℕ) (bytes : List ℕ) (q : Problem) → decide n link source moment bytes ≡ decision.Answer q → IsOneHop bytes
    → IsByBfd link q × IsToBeAnswered (one_hop_arrives n link source moment bytes)
only_control n link source moment bytes q says one =
    elim (answered_so n link source moment bytes q says) [
      | inl control ↦ (control.problem, control.control)
      | inr scmp ↦ absurd (has_scion_path bytes scmp.sound one)
    ]

pub bfd_alone : (n : Network) (link : ℕ) (source : Underlay) (moment : ℕ) (bytes : List ℕ) (q : Problem) → decide n link source moment bytes ≡ decision.Answer q → q.kind ≡ 203
    → IsOneHop bytes
bfd_alone n link source moment bytes q says kind =
    elim (answered_so n link source moment bytes q says) [
      | inl control ↦ header_type one_hop_path bytes (one_hop_both_pass bytes control.control.between.0.0.0.1).0
      | inr scmp ↦ absurd (scmp.kind kind)
    ]
