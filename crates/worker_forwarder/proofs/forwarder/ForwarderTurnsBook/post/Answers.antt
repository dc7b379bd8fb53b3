use Rattle.std.proofs.Common.{ap, sym, ◌∙◌}
use Rattle.router_rules.specs.Links.{has_two_bands}
use Rattle.worker_forwarder.proofs.ForwardingLemmas.{keeps_posted}
use Rattle.worker_forwarder.proofs.forwarder.ForwarderTurnsBook.post.Goals as goal

pub invariant_of-self : goal.invariant_of-self
invariant_of-self g c =
    let s = c.self.inside in (
      c.self.invariant.0 ∙ sym (ap (λ d. has_two_bands d.config s.link) c.post.ensures.same),
      keeps_posted g.K.Sink.told g.K.Sink.failed s.low s.high s.began s.delivery c.self.invariant.1 c.post.new.self c.post.ensures.share c.post.ensures.same,
    )
