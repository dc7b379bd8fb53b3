use Rattle.std.proofs.Common.{arith, sym, ap, ◌∙◌}
use Rattle.aes128_core.specs.KeyExpansion.{key_expansion}
use Rattle.aes128_core.proofs.KeyLemmas.{key_of-key_expansion}
use Rattle.aes128_core.proofs.Aes128.new.Goals as goal

pub invariant_of-result : goal.invariant_of-result
invariant_of-result c =
    c.expand.ensures
    ∙ ap key_expansion (sym (key_of-key_expansion c.args.key.now c.expand.result (omega arith) (omega arith) c.expand.ensures))

pub returns : goal.returns
returns c = key_of-key_expansion c.args.key.now c.expand.result (omega arith) (omega arith) c.expand.ensures
