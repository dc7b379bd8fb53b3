use Rattle.std.proofs.Common.{rules}
use Rattle.ruled_pipe.proofs.producer.Producer.offer.Goals as goal

pub returns-in-Ok-clause-step : goal.returns-in-Ok-clause-step
returns-in-Ok-clause-step g c = search rules

pub returns-in-Err-Payload-clause-step : goal.returns-in-Err-Payload-clause-step
returns-in-Err-Payload-clause-step g c = search rules
