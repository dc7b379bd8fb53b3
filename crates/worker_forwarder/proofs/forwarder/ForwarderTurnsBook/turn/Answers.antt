use Rattle.std.proofs.Common.{Bool, ◌∙◌, ap, sym, subst, rules}
use Rattle.packet_ledger.specs.Share.{HasRoom}
use Rattle.worker_forwarder.specs.Forwarding.{Forwarding, KeepsForwarding, PassedMet}
use Rattle.worker_parts.proofs.RoomLemmas.{may_raise}
use Rattle.process_packet.specs.declared.config.Config.{Config}
use Rattle.router_rules.specs.Links.{has_two_bands}
use Rattle.worker_forwarder.proofs.ForwardingLemmas.{passed_config, took_low, took_high, looked_first}
use Rattle.worker_forwarder.proofs.forwarder.ForwarderTurnsBook.turn.Goals as goal

pub pass-requires-clause-room : goal.pass-requires-clause-room
pass-requires-clause-room g c = may_raise c.self.inside.delivery.share.counts (subst (λ (f : Forwarding g.row.K.Denot). HasRoom f.side.share.counts) (sym c.self.view_is) c.requires)

pub pass-requires-in-Some-take-clause-room : goal.pass-requires-in-Some-take-clause-room
pass-requires-in-Some-take-clause-room g c = may_raise c.self.inside.delivery.share.counts (subst (λ (f : Forwarding g.row.K.Denot). HasRoom f.side.share.counts) (sym c.self.view_is) c.requires)

pub invariant_of-self : goal.invariant_of-self
invariant_of-self g c =
    let s = c.self.inside in
    let T = g.K.Sink.told in
    let F = g.K.Sink.failed in
    let passed = subst (λ (b : Bool). PassedMet T F g.K.Sink.same b c.in-Some.met s.delivery c.pass.new.self) c.is_shut.ensures c.pass.ensures in
    let config = passed_config T F g.K.Sink.same c.take_if.new.self.shut c.in-Some.met s.delivery c.pass.new.self passed in (
      c.self.invariant.0 ∙ sym (ap (λ (x : Config). has_two_bands x s.link) config),
      took_high T F g.K.Sink.same s.low s.high s.began s.delivery c.pass.new.self c.self.invariant.1 c.in-Some.met c.take_if.new.self c.in-Some.ensures.1 passed,
    )

pub invariant_of-self-in-Some-take : goal.invariant_of-self-in-Some-take
invariant_of-self-in-Some-take g c =
    let s = c.self.inside in
    let T = g.K.Sink.told in
    let F = g.K.Sink.failed in
    let two = s.two_bands in
    let looked = looked_first T F s.low s.high s.began s.delivery c.self.invariant.1 two c.take_if.new.self c.in_default.ensures in
    let passed = subst (λ (b : Bool). PassedMet T F g.K.Sink.same b c.in-Some-take.met s.delivery c.pass-in-Some-take.new.self) c.is_shut-in-Some-take.ensures c.pass-in-Some-take.ensures in
    let k : KeepsForwarding T F c.take.new.self c.take_if.new.self s.began c.pass-in-Some-take.new.self =
    took_low T F g.K.Sink.same s.low c.take_if.new.self s.began s.delivery c.pass-in-Some-take.new.self looked c.in-Some-take.met c.take.new.self c.in-Some-take.ensures passed in
    let config = passed_config T F g.K.Sink.same c.take.new.self.shut c.in-Some-take.met s.delivery c.pass-in-Some-take.new.self passed in
    (c.self.invariant.0 ∙ sym (ap (λ (x : Config). has_two_bands x s.link) config), k)

pub returns-in-None : goal.returns-in-None
returns-in-None g c = search rules
