use Rattle.std.proofs.Common.{◌≡◌, ◌==◌, ℕ, false, sym, ap, ◌∙◌}
use Rattle.std.proofs.lemmas.Bool.{cond-false, ne_eqb}
use Rattle.bfd_control.specs.ControlPacket.{control_packet_of}
use Rattle.bfd_control.specs.Session.{is_down}
use Rattle.bfd_control.proofs.reception.is_for.Goals as goal

pub returns-else-yours-eq0 : goal.returns-else-yours-eq0
returns-else-yours-eq0 c =
    let p = control_packet_of c.args.bytes.now in
    let is : c.u32_at-yours.result ≡ p.your_discriminator = c.u32_at-yours.ensures in
    let named : (p.your_discriminator == 0) ≡ false = ne_eqb p.your_discriminator 0 (λ zero. c.if-yours-eq0.false (is ∙ zero)) in
    ap (λ (n : ℕ). n == c.args.own) is ∙ sym (cond-false (p.your_discriminator == 0) (is_down p.state) (p.your_discriminator == c.args.own) named)
