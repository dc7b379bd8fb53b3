use Rattle.std.proofs.Common.{◌≡◌, length, rules}
use Rattle.metrics_server.specs.Request.{most}
use Rattle.metrics_server.proofs.Heads.{none_within}
use Rattle.metrics_server.proofs.exchange.asked_within.Goals as goal

pub returns-in-Unfinished : goal.returns-in-Unfinished
returns-in-Unfinished c =
    let long : length c.args.bytes.now ≡ most = search rules in
    none_within c.args.bytes.now long c.in-Unfinished.ensures.0
