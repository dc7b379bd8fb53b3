use Rattle.std.proofs.Common.{◌∙◌, ap}
use Rattle.toml.specs.View.{items_view}
use Rattle.router_config.specs.Ports.{ports_of}
use Rattle.router_config.proofs.PortLemmas.{not_two, two_read}
use Rattle.router_config.proofs.ports.read_ports.Goals as goal

pub returns-then-values-ne2-clause-value : goal.returns-then-values-ne2-clause-value
returns-then-values-ne2-clause-value c = not_two c.as_slice-values.result.now c.if-values-ne2.true ∙ ap (λ vs. ports_of (items_view vs)) c.as_slice-values.ensures.value

pub returns-clause-value : goal.returns-clause-value
returns-clause-value c =
    c.read_ends.ensures.value
    ∙ two_read c.as_slice-values.result.now c.index-values-0.result c.index-values-1.result c.if-values-ne2.false c.index-values-0.is c.index-values-1.is
    ∙ ap (λ vs. ports_of (items_view vs)) c.as_slice-values.ensures.value
