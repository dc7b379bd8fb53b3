use Rattle.std.proofs.Common.{ap₂, ◌∙◌}
use Rattle.net_laws.specs.MisfitSearch.{of_net}
use Rattle.net_laws.proofs.MisfitLemmas.{none_where_it_agrees, told_is_first, told_refuses}
use Rattle.net_laws.proofs.misfit.misfit_of.Goals as goal

pub returns : goal.returns
returns c =
    let net = c.args.net.now in
    let is = c.of_net.ensures ∙ ap₂ of_net c.as_slice.ensures.value c.as_slice-2.ensures.value in
    record {
      none = none_where_it_agrees net.configs.items net.wires.items c.of_net.result is;
      first = told_is_first net.configs.items net.wires.items c.of_net.result is;
      refused = told_refuses net.configs.items net.wires.items c.of_net.result is;
    }
