-- The examples of RFC 4493, section 4, computed from the definitions alone. The key is that of
-- FIPS 197's appendix B.
use Rattle.std.specs.Prelude.{◌≡◌, ℕ, List, [], ◌∷◌, refl, take}
use Rattle.aes128_core.specs.Field.{times, inverse}
use Rattle.aes128_core.specs.SBox.{s_box}
use Rattle.aes128_core.specs.Rounds.{sub_bytes, shift_rows, mix_column, mix_columns, add_round_key, rounds}
use Rattle.aes128_core.specs.KeyExpansion.{x_power, word_change, key_words}
use Rattle.aes128_core.specs.Aes128.{cipher}
use Rattle.cmac_core.proofs.Aes128Examples.{key_b}
use Rattle.cmac_core.specs.Block.{xor_blocks, doubled}
use Rattle.cmac_core.specs.Cmac.{subkey_1, subkey_2, last_block, first_blocks, tag_from, tag}

-- the message of 64 bytes; those of 16 and of 40 bytes are its beginnings
abbrev pub message_64 : List ℕ
message_64 =
    0x6b ∷ 0xc1 ∷ 0xbe ∷ 0xe2 ∷ 0x2e ∷ 0x40 ∷ 0x9f ∷ 0x96 ∷ 0xe9 ∷ 0x3d ∷ 0x7e ∷ 0x11 ∷ 0x73 ∷ 0x93 ∷ 0x17 ∷ 0x2a ∷ 0xae ∷ 0x2d ∷ 0x8a ∷ 0x57 ∷ 0x1e ∷ 0x03 ∷ 0xac ∷ 0x9c ∷ 0x9e ∷ 0xb7 ∷ 0x6f ∷ 0xac ∷ 0x45 ∷ 0xaf ∷ 0x8e ∷ 0x51 ∷ 0x30 ∷ 0xc8 ∷ 0x1c ∷ 0x46 ∷ 0xa3 ∷ 0x5c ∷ 0xe4 ∷ 0x11 ∷ 0xe5 ∷ 0xfb ∷ 0xc1 ∷ 0x19 ∷ 0x1a ∷ 0x0a ∷ 0x52 ∷ 0xef ∷ 0xf6 ∷ 0x9f ∷ 0x24 ∷ 0x45 ∷ 0xdf ∷ 0x4f ∷ 0x9b ∷ 0x17 ∷ 0xad ∷ 0x2b ∷ 0x41 ∷ 0x7b ∷ 0xe6 ∷ 0x6c ∷ 0x37 ∷ 0x10 ∷ []

-- K1 and K2
pub subkey_1_example : subkey_1 key_b ≡ 0xfb ∷ 0xee ∷ 0xd6 ∷ 0x18 ∷ 0x35 ∷ 0x71 ∷ 0x33 ∷ 0x66 ∷ 0x7c ∷ 0x85 ∷ 0xe0 ∷ 0x8f ∷ 0x72 ∷ 0x36 ∷ 0xa8 ∷ 0xde ∷ []
unfolding times inverse s_box x_power word_change key_words sub_bytes shift_rows mix_column mix_columns add_round_key rounds cipher doubled
subkey_1_example = refl

pub subkey_2_example : subkey_2 key_b ≡ 0xf7 ∷ 0xdd ∷ 0xac ∷ 0x30 ∷ 0x6a ∷ 0xe2 ∷ 0x66 ∷ 0xcc ∷ 0xf9 ∷ 0x0b ∷ 0xc1 ∷ 0x1e ∷ 0xe4 ∷ 0x6d ∷ 0x51 ∷ 0x3b ∷ []
unfolding times inverse s_box x_power word_change key_words sub_bytes shift_rows mix_column mix_columns add_round_key rounds cipher doubled
subkey_2_example = refl

-- the empty message
pub tag_example_0 : tag key_b [] ≡ 0xbb ∷ 0x1d ∷ 0x69 ∷ 0x29 ∷ 0xe9 ∷ 0x59 ∷ 0x37 ∷ 0x28 ∷ 0x7f ∷ 0xa3 ∷ 0x7d ∷ 0x12 ∷ 0x9b ∷ 0x75 ∷ 0x67 ∷ 0x46 ∷ []
unfolding times inverse s_box x_power word_change key_words sub_bytes shift_rows mix_column mix_columns add_round_key rounds cipher xor_blocks doubled last_block first_blocks tag_from
tag_example_0 = refl

-- one block
pub tag_example_16 : tag key_b (take 16 message_64) ≡ 0x07 ∷ 0x0a ∷ 0x16 ∷ 0xb4 ∷ 0x6b ∷ 0x4d ∷ 0x41 ∷ 0x44 ∷ 0xf7 ∷ 0x9b ∷ 0xdd ∷ 0x9d ∷ 0xd0 ∷ 0x4a ∷ 0x28 ∷ 0x7c ∷ []
unfolding times inverse s_box x_power word_change key_words sub_bytes shift_rows mix_column mix_columns add_round_key rounds cipher xor_blocks doubled last_block first_blocks tag_from
tag_example_16 = refl

-- two blocks and a half
pub tag_example_40 : tag key_b (take 40 message_64) ≡ 0xdf ∷ 0xa6 ∷ 0x67 ∷ 0x47 ∷ 0xde ∷ 0x9a ∷ 0xe6 ∷ 0x30 ∷ 0x30 ∷ 0xca ∷ 0x32 ∷ 0x61 ∷ 0x14 ∷ 0x97 ∷ 0xc8 ∷ 0x27 ∷ []
unfolding times inverse s_box x_power word_change key_words sub_bytes shift_rows mix_column mix_columns add_round_key rounds cipher xor_blocks doubled last_block first_blocks tag_from
tag_example_40 = refl

-- four blocks
pub tag_example_64 : tag key_b message_64 ≡ 0x51 ∷ 0xf0 ∷ 0xbe ∷ 0xbf ∷ 0x7e ∷ 0x3b ∷ 0x9d ∷ 0x92 ∷ 0xfc ∷ 0x49 ∷ 0x74 ∷ 0x17 ∷ 0x79 ∷ 0x36 ∷ 0x3c ∷ 0xfe ∷ []
unfolding times inverse s_box x_power word_change key_words sub_bytes shift_rows mix_column mix_columns add_round_key rounds cipher xor_blocks doubled last_block first_blocks tag_from
tag_example_64 = refl
