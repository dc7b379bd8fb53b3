use Rattle.std.proofs.Common.{◌≡◌, ◌&&◌, Bool, true, Option, Some, None, Result, Ok, Err, MatchOption, MatchResult, refl, sym, ap, ◌∙◌}
use Rattle.process_packet.specs.declared.refusal.Refusal.{Refusal}
use Rattle.process_packet.specs.declared.underlay.Underlay.{Underlay}
use Rattle.process_packet.specs.Network.{is_local}
use Rattle.process_packet.specs.PacketView.{refused}
use Rattle.process_packet.specs.Rows.{Ends, GoesOn, Sent, delivered, delivery, ends_where}
use Rattle.process_packet.specs.PacketState.{PacketState, is_external, packet}
use Rattle.process_packet.proofs.packet_view.PacketView.delivery.Goals as goal

delivered_here : (s : PacketState) → (is_external s && is_local s.network s.header.destination) ≡ true → delivery s ≡ Ends (delivered s.network (packet s))
delivered_here s here = ap (λ (b : Bool). ends_where b (delivered s.network (packet s)) s) here

told_here : (s : PacketState) (r : Result (Option Underlay) Refusal) → (is_external s && is_local s.network s.header.destination) ≡ true
    → MatchResult r (λ o. MatchOption o ⊥ (λ to. delivered s.network (packet s) ≡ Sent 0 (Some to) (packet s))) (λ q. delivered s.network (packet s) ≡ refused q)
    → MatchResult r (λ o. MatchOption o (delivery s ≡ GoesOn s) (λ to. delivery s ≡ Ends (Sent 0 (Some to) (packet s)))) (λ q. delivery s ≡ Ends (refused q))
told_here s (Ok None) here told = absurd told
told_here s (Ok (Some to)) here told = delivered_here s here ∙ ap Ends told
told_here s (Err q) here told = delivered_here s here ∙ ap Ends told

pub returns : goal.returns
returns c s shows same header payload =
    told_here s c.deliver.result (sym (c.is_for_here.ensures s shows same header) ∙ c.if-not-is_for_here.false) (c.deliver.ensures s (packet s) same header refl payload)
