use Rattle.std.proofs.Common.{◌<◌, ◌^◌, ℕ, Some, refl, subst}
use Rattle.net_laws.specs.Net.{router_of}
use Rattle.net_walks.proofs.StopsLemmas.{at_router, looked_up}
use Rattle.net_walks.proofs.walking.stop_at.Goals as goal

pub returns-clause-stop : goal.returns-clause-stop
returns-clause-stop c =
    let net = c.args.net.now in
    let there = c.requires in
    record {
      here = router_of c.index.result.now;
      here_is = at_router net.configs.items net.configs.items net.wires.items c.args.coming.router (Some c.index.result.now)
          (looked_up net.configs.items c.args.coming.router c.index.result.now there c.index.ensures) refl;
      routed = c.in_ok-routed.ensures;
      moment_is = refl;
      link_fits = subst (λ (n : ℕ). n < 2 ^ 16) c.link_of-link.ensures.link c.link_of-link.ensures.fits;
    }
