use Rattle.std.proofs.Common.{rules, ◌∙◌}
use Rattle.ruled_pipe.proofs.Steps.{takes_from}
use Rattle.ruled_pipe.proofs.consumer.Consumer.take.Goals as goal

pub try_pop_as-requires-clause-rule : goal.try_pop_as-requires-clause-rule
try_pop_as-requires-clause-rule g c = takes_from _ _ _ _ (c.keep_apart.ensures.1 ∙ c.self.invariant.1)

pub returns-in-Some-clause-step : goal.returns-in-Some-clause-step
returns-in-Some-clause-step g c = search rules

pub returns-in-None-clause-step : goal.returns-in-None-clause-step
returns-in-None-clause-step g c = search rules
