use Rattle.std.proofs.Common.{take, ap, ◌∙◌}
use Rattle.order_laws.specs.Item.{Arrival}
use Rattle.process_packet.specs.Network.{network}
use Rattle.router_rules.specs.Rules.{kinds}
use Rattle.router_rules.proofs.AnsweredLemmas.{answered_soundly}
use Rattle.worker_parts.specs.declared.buffer.Storage.{Storage}
use Rattle.worker_parts.proofs.packet.Packet.decide.Goals as goal

pub returns-clause-sound : goal.returns-clause-sound
returns-clause-sound g c = λ p e.
    let s = c.deref_mut-storage.result.now in
    let told = answered_soundly c.answers_are_sound.ensures (network c.args.config.now) s.interface s.source s.moment (take s.len c.as_mut_slice.result.now) (take s.len c.decide_at_front.new.bytes) c.decide_at_front.result c.decide_at_front.ensures.decision c.decide_at_front.ensures.bytes p e in
    let came = ap (take s.len) c.as_mut_slice.ensures.value ∙ ap (λ (t : Storage). take t.len t.bytes) c.deref_mut-storage.ensures.value ∙ ap (λ (a : Arrival kinds). a.datagram.bytes) c.self.view_is in
    (told.0, told.1 ∙ came)
