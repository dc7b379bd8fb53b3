use Rattle.std.proofs.Common.{◌≡◌, codes, rules}
use Rattle.metrics_server.proofs.Paths.{with_query}
use Rattle.metrics_server.proofs.request.is_page.Goals as goal

pub returns-else-eq : goal.returns-else-eq
returns-else-eq c =
    let plain : c.args.target.now ≡ codes "/metrics" → ⊥ = search rules in
    with_query c.args.target.now c.starts_with.result plain c.starts_with.ensures.value
