use Rattle.std.proofs.Common.{rules}
use Rattle.worker_threads.proofs.thread.work_once_told.Goals as goal

pub returns-then-may_begin : goal.returns-then-may_begin
returns-then-may_begin g c = search rules
