use Rattle.std.proofs.Common.{◌≡◌, length}
use Rattle.cmac_core.specs.Cmac.{tag, tag_from}
use Rattle.cmac_core.proofs.Cmac.tag.Given as goal

abbrev pub invariant-loop-rest : goal.invariant-loop-rest
invariant-loop-rest l = tag l.self l.message ≡ tag_from l.self l.chained l.rest

abbrev pub decreases-loop-rest : goal.decreases-loop-rest
decreases-loop-rest l = length l.rest
