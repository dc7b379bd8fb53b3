-- The tag of one whole block is 16 bytes, for a key of bytes.
use Rattle.std.proofs.Common.{◌≡◌, ℕ, List, length, sym, ap, subst, ◌∙◌}
use Rattle.aes128_core.specs.State.{AreBytes}
use Rattle.aes128_core.proofs.CipherBytes.{cipher_are, cipher_len}
use Rattle.cmac_core.specs.Block.{xor_blocks}
use Rattle.cmac_core.specs.Cmac.{subkey_1, tag}
use Rattle.cmac_core.proofs.Chain.{tag_block}

pub tag_len : (key block : List ℕ) → length block ≡ 16 → length (tag key block) ≡ 16
tag_len key block whole = ap length (tag_block key block whole) ∙ cipher_len key (xor_blocks block (subkey_1 key))

pub tag-are : (key block : List ℕ) → length block ≡ 16 → AreBytes key → AreBytes (tag key block)
tag-are key block whole are = subst AreBytes (sym (tag_block key block whole)) (cipher_are key (xor_blocks block (subkey_1 key)) are)
