use Rattle.std.proofs.Common.{rules}
use Rattle.worker_processor.proofs.slow_path.SlowPathTurnsBook.awaits_push.Goals as goal

pub returns : goal.returns
returns g c = search rules
