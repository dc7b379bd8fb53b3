use Rattle.std.proofs.Common.{rules}
use Rattle.ruled_pipe.proofs.producer.Producer.mark.Goals as goal

pub returns-clause-step : goal.returns-clause-step
returns-clause-step g c = search rules

pub returns-clause-full : goal.returns-clause-full
returns-clause-full g c = search rules

pub returns-clause-alone : goal.returns-clause-alone
returns-clause-alone g c = search rules
