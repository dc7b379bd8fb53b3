use Rattle.std.proofs.Common.{ap₂, ◌∙◌}
use Rattle.std.proofs.lemmas.Bool.Decides.{Decides-at}
use Rattle.net_laws.specs.Agreement.{are_net}
use Rattle.net_laws.proofs.AgreementLemmas.{configs_decide}
use Rattle.net_laws.proofs.agreement.agrees.Goals as goal

pub returns : goal.returns
returns c =
    let net = c.args.net.now in
    let same = c.are_net.ensures ∙ ap₂ are_net c.as_slice.ensures.value c.as_slice-2.ensures.value in
    Decides-at c.are_net.result (are_net net.configs.items net.wires.items) same (configs_decide net.configs.items net.wires.items)
