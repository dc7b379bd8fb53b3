use Rattle.std.proofs.Common.{sym, ap, ◌∙◌}
use Rattle.router_rules.specs.Links.{interface_at, or_zero}
use Rattle.router_rules.proofs.LinkLemmas.{or_zero_is, then_others, zero_first}
use Rattle.router_rules.proofs.links.interface_at.Goals as goal

pub returns-then-index-eq0 : goal.returns-then-index-eq0
returns-then-index-eq0 c = sym (ap (interface_at c.args.config.now) c.if-index-eq0.true ∙ zero_first c.args.config.now)

pub returns : goal.returns
returns c =
    c.unwrap_or.ensures ∙ or_zero_is c.external_interface_at.result
    ∙ ap or_zero c.external_interface_at.ensures ∙ sym (then_others c.args.config.now c.args.index c.if-index-eq0.false)
