use Rattle.std.proofs.Common.{rules}
use Rattle.worker_receiver.proofs.pool.Pool.another.Goals as goal

pub returns-in-Some-clause-got : goal.returns-in-Some-clause-got
returns-in-Some-clause-got g c = search rules

pub returns-clause-got : goal.returns-clause-got
returns-clause-got g c = search rules
