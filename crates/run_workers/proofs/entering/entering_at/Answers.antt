use Rattle.std.proofs.Common.{◌≡◌, ◌<◌, Some, length, sym, ◌∙◌, ap, subst}
use Rattle.router_rules.specs.Links.{link_count}
use Rattle.router_rules.specs.declared.shared.Shared.{Shared}
use Rattle.run_pipes.proofs.OkLemmas.{of_ok}
use Rattle.run_workers.proofs.entering.entering_at.Goals as goal

pub invariant_of-result : goal.invariant_of-result
invariant_of-result g c =
    let own = of_ok _ c.try_clone-shared.result c.in_ok-shared.shared c.in_ok-shared.ensures.0 c.try_clone-shared.ensures in (
      c.requires.config ∙ ap (λ (s : Shared). Some s.config) (sym own),
      subst (λ (s : Shared). c.args.link < link_count s.config) (sym own) c.requires.link,
      subst (λ (s : Shared). length c.args.processors.items ≡ s.config.processors) (sym own) c.requires.processors.1,
      c.requires.processors.0,
      c.requires.free,
      c.requires.share,
    )
