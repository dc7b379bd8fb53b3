use Rattle.std.proofs.Common.{◌∙◌, ap}
use Rattle.aes128_core.specs.RoundKeys.{last_key}
use Rattle.aes128_core.proofs.RoundKeyLemmas.{inner_keys_are}
use Rattle.aes128_core.proofs.vector.VectorAes128.new.Goals as goal

pub invariant_of-result : goal.invariant_of-result
invariant_of-result c = (
  inner_keys_are _ _ _ _ _ _ _ _ _ _ _ c.expand-words.ensures
      c.inner_key.ensures c.inner_key-2.ensures c.inner_key-3.ensures c.inner_key-4.ensures c.inner_key-5.ensures
      c.inner_key-6.ensures c.inner_key-7.ensures c.inner_key-8.ensures c.inner_key-9.ensures,
  c.last_key.ensures ∙ ap last_key c.expand-words.ensures,
  c.fits-key,
)
