use Rattle.std.proofs.Common.{rules}
use Rattle.stages_tests.proofs.sample_router.router.Goals as goal

pub returns : goal.returns
returns c = search rules
