use Rattle.std.proofs.Common.{codes}
use Rattle.metrics_server.proofs.Paths.{is_method}
use Rattle.metrics_server.proofs.request.is_get.Goals as goal

pub returns : goal.returns
returns c = is_method (codes "GET") c.args.method.now c.eq.result (rw c.as_slice.ensures at c.eq.ensures)
