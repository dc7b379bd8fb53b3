use Rattle.router_rules.specs.Rules.{rules}
use Rattle.replay_places.proofs.ProducerLemmas.{numbered}
use Rattle.replay_places.proofs.laws.producers_are_numbered.Goals as goal

pub returns : goal.returns
returns c = λ r. numbered (rules r)
