use Rattle.std.proofs.Common.{◌≡◌, ◌&&◌, not, ℕ, Bool, sym, ap, ap₂, ◌∙◌}
use Rattle.std.proofs.lemmas.Bool.{ne_eqb}
use Rattle.bfd_control.specs.Reception.{is_taken}
use Rattle.process_packet.specs.LinkControl.{bfd_answer_flow, is_answered}
use Rattle.process_packet.proofs.link_control.is_answered.Goals as goal

pub returns-then-flow-ne-BFD_ANSWER_FLOW : goal.returns-then-flow-ne-BFD_ANSWER_FLOW
unfolding is_answered
returns-then-flow-ne-BFD_ANSWER_FLOW c =
    let payload = c.args.payload.now in
    let passed = c.if-flow-ne-BFD_ANSWER_FLOW.true in
    c.is_taken.ensures
    ∙ ap (λ (own : ℕ). is_taken own payload) c.from.ensures
    ∙ sym (ap₂ (λ (x y : Bool). x && y && is_taken c.args.link payload) (sym c.answers_bfd.ensures ∙ passed.0) (ap not (ne_eqb c.args.flow bfd_answer_flow passed.1)))
