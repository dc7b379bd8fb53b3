use Rattle.std.proofs.Common.{◌∙◌, ap}
use Rattle.router_rules.specs.declared.shared.Shared.{Shared}
use Rattle.router_run.proofs.preparing.common_for.Goals as goal

pub returns : goal.returns
returns c = ap (λ (s : Shared). s.config) c.in_ok-shared.ensures.ok ∙ c.new.ensures
