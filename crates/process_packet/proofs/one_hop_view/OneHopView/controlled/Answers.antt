use Rattle.std.proofs.Common.{◌≡◌, ℕ, Bool, true, false, sym, ap, ◌∙◌, if◌then◌else◌}
use Rattle.scion_packet.specs.Header.{HeaderFields}
use Rattle.process_packet.specs.declared.cause.Cause.TheVariants as cause
use Rattle.process_packet.specs.LinkControl.{control_answer, is_answered}
use Rattle.process_packet.specs.OneHopRows.{Answered, Dropped}
use Rattle.process_packet.specs.OneHopView.{one_hop_refused}
use Rattle.process_packet.proofs.OneHopLemmas.{same_control}
use Rattle.process_packet.proofs.one_hop_view.OneHopView.controlled.Goals as goal

pub returns-then-is_answered : goal.returns-then-is_answered
returns-then-is_answered c s shows network payload =
    let flow = c.flow_id.ensures ∙ ap (λ (h : HeaderFields). h.flow_id) shows.header in
    let asked : is_answered s.network s.link s.packet.header.flow_id s.packet.payload ≡ true = sym (same_control network shows.link flow payload) ∙ sym c.is_answered.ensures ∙ c.if-is_answered.true in
    ap one_hop_refused c.control_answer.ensures
    ∙ ap (λ (link : ℕ). Answered (control_answer link)) shows.link
    ∙ sym (ap (λ (b : Bool). if b then Answered (control_answer s.link) else Dropped cause.OneHopHost) asked)

pub returns-else-is_answered : goal.returns-else-is_answered
returns-else-is_answered c s shows network payload =
    let flow = c.flow_id.ensures ∙ ap (λ (h : HeaderFields). h.flow_id) shows.header in
    let quiet : is_answered s.network s.link s.packet.header.flow_id s.packet.payload ≡ false = sym (same_control network shows.link flow payload) ∙ sym c.is_answered.ensures ∙ c.if-is_answered.false in
    sym (ap (λ (b : Bool). if b then Answered (control_answer s.link) else Dropped cause.OneHopHost) quiet)
