use Rattle.std.proofs.Common.{◌≡◌}
use Rattle.key_derivation.specs.Pbkdf2.{chained, summed}
use Rattle.key_derivation.proofs.pbkdf2.derived_block.Given as goal

abbrev pub invariant-loop-turn : goal.invariant-loop-turn
invariant-loop-turn l =
    (l.link ≡ chained l.password l.salt l.index l._turn) × (l.block ≡ summed l.password l.salt l.index l._turn)
