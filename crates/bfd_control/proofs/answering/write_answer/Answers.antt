use Rattle.std.proofs.Common.{◌≡◌, ◌+◌, List, ℕ, refl, ap, ap₂, ◌∙◌, subst, arith}
use Rattle.field_rows.specs.Place.{Puts}
use Rattle.field_rows.proofs.Rows.{Puts-next}
use Rattle.bfd_control.specs.Answer.{answer, min_tx}
use Rattle.bfd_control.specs.ControlPacket.{control_packet_of}
use Rattle.bfd_control.specs.Session.{answered_state}
use Rattle.bfd_control.proofs.AnswerLemmas.{answer_rows, rows_are}
use Rattle.bfd_control.proofs.answering.write_answer.Goals as goal

pub returns : goal.returns
returns c =
    let at = c.args.at in
    let own = c.args.own in
    let p = control_packet_of c.args.received.now in
    let state = c.answered-state.result in
    let final = c.is_final.result in
    let mine = c.args.own in
    let yours = c.u32_at.result in
    let tx = c.min_tx.result in
    let state-is : state ≡ (answer own p).state = c.answered-state.ensures ∙ ap answered_state c.state_at.ensures in
    let final-is : final ≡ (answer own p).final = c.is_final.ensures own in
    let mine-is : mine ≡ (answer own p).my_discriminator = refl in
    let yours-is : yours ≡ (answer own p).your_discriminator = c.u32_at.ensures in
    let tx-is : tx ≡ (answer own p).desired_min_tx = c.min_tx.ensures ∙ ap₂ min_tx state-is c.u32_at-2.ensures in
    let puts : Puts c.args.out.now c.put_u32-5.new.out at (answer_rows state final mine yours tx) =
    Puts-next _ _ _ at (at + 1) _ _ c.put_u8.ensures (Puts-next _ _ _ (at + 1) (at + 2) _ _ (rw c.state_byte.ensures at c.put_u8-2.ensures)
    (Puts-next _ _ _ (at + 2) (at + 3) _ _ c.put_u8-3.ensures (Puts-next _ _ _ (at + 3) (at + 4) _ _ c.put_u8-4.ensures
    (Puts-next _ _ _ (at + 4) (at + 8) _ _ c.put_u32.ensures (Puts-next _ _ _ (at + 8) (at + 12) _ _ c.put_u32-2.ensures
    (Puts-next _ _ _ (at + 12) (at + 16) _ _ c.put_u32-3.ensures (Puts-next _ _ _ (at + 16) (at + 20) _ _ c.put_u32-4.ensures c.put_u32-5.ensures
    (omega arith)) (omega arith)) (omega arith)) (omega arith)) (omega arith)) (omega arith)) (omega arith)) (omega arith) in
    subst (λ (t : List ℕ). Puts c.args.out.now c.put_u32-5.new.out at t) (rows_are own p state final mine yours tx state-is final-is mine-is yours-is tx-is) puts
