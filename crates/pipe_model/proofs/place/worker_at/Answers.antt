use Rattle.std.proofs.Common.{rules}
use Rattle.pipe_model.proofs.place.worker_at.Goals as goal

pub returns-then-slow-seat : goal.returns-then-slow-seat
returns-then-slow-seat c = search rules
