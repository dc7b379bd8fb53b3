use Rattle.std.proofs.Common.{arith}
use Rattle.run_pipes.proofs.handing.shutters.Goals as goal

pub next_ends-requires-clause-pipes : goal.next_ends-requires-clause-pipes
next_ends-requires-clause-pipes g c = c.requires.pipes

pub next_ends-requires-clause-fits : goal.next_ends-requires-clause-fits
next_ends-requires-clause-fits g c = λ j lt. let few = c.requires.few in omega arith
