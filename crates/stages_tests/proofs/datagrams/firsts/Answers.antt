use Rattle.std.proofs.Common.{rules}
use Rattle.stages_tests.proofs.datagrams.firsts.Goals as goal

pub loop-init : goal.loop-init
loop-init c = search rules

pub returns : goal.returns
returns c = search rules
