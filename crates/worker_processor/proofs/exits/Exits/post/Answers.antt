use Rattle.std.proofs.Common.{rules}
use Rattle.worker_processor.proofs.exits.Exits.post.Goals as goal

pub returns-clause-share : goal.returns-clause-share
returns-clause-share g c = search rules
