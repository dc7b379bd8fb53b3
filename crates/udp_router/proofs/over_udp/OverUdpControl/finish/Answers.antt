use Rattle.std.proofs.Common.{◌≡◌, None, subst}
use Rattle.router_run.specs.Run.{RouterHasRun}
use Rattle.udp_router.specs.OverUdp.{Router}
use Rattle.udp_router.proofs.over_udp.OverUdpControl.finish.Goals as goal

pub returns : goal.returns
returns g c =
    let P : Router → Type 0 = λ r. RouterHasRun (λ s. None) (λ k. None) (λ k. k.failed) (λ a b. b.local ≡ a.local) (λ a b. b.ends ≡ a.ends) r c.finish-sent.result.totals c.finish-sent.result.sent.items c.finish-sent.result.sources.items c.finish-sent.result.sinks.items in
    (c.finish-sent.result.sources.items, c.finish-sent.result.sinks.items, subst P c.self.view_is c.finish-sent.ensures.run)
