use Rattle.router_rules.proofs.DecisionLemmas.{drop_is_decided, refusal_is_inspected}
use Rattle.router_rules.proofs.ReplyLemmas.{reply_withholds}
use Rattle.router_rules.proofs.laws.causes_are_apart.Goals as goal

pub returns : goal.returns
returns c = λ r. record {
  inspection = λ d why is. refusal_is_inspected r d.interface d.bytes why is;
  decision = λ d why is. drop_is_decided r d why is;
  reply = λ d p why is. reply_withholds r d p why is;
}
