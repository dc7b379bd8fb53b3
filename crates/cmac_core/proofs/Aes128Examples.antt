-- The worked examples of FIPS 197, computed from the definitions alone.
use Rattle.std.specs.Prelude.{◌≡◌, ℕ, List, [], ◌∷◌, refl, slice_index_or, ◌+◌, map, replicate}
use Rattle.std.specs.List.{range_with_len}
use Rattle.aes128_core.specs.Field.{times, inverse}
use Rattle.aes128_core.specs.SBox.{s_box}
use Rattle.aes128_core.specs.Rounds.{sub_bytes, shift_rows, mix_column, mix_columns, add_round_key, rounds}
use Rattle.aes128_core.specs.KeyExpansion.{x_power, word_change, key_words, key_expansion}
use Rattle.aes128_core.specs.Aes128.{cipher}

-- 4.2: {57} * {13} = {fe}
pub times_example : times 0x57 0x13 ≡ 0xfe
unfolding times
times_example = refl

-- 5.1.1: {53} goes to {ed}
pub s_box_example : s_box 0x53 ≡ 0xed
unfolding times inverse s_box
s_box_example = refl

-- the key of appendices A.1 and B
abbrev pub key_b : List ℕ
key_b =
    0x2b ∷ 0x7e ∷ 0x15 ∷ 0x16 ∷ 0x28 ∷ 0xae ∷ 0xd2 ∷ 0xa6 ∷ 0xab ∷ 0xf7 ∷ 0x15 ∷ 0x88 ∷ 0x09 ∷ 0xcf ∷ 0x4f ∷ 0x3c ∷ []

-- appendix A.1: the last of its words
pub key_example : slice_index_or (key_expansion key_b) 43 [] ≡ 0xb6 ∷ 0x63 ∷ 0x0c ∷ 0xa6 ∷ []
unfolding times inverse s_box x_power word_change key_words
key_example = refl

-- appendix B
pub cipher_example_b : cipher key_b (0x32 ∷ 0x43 ∷ 0xf6 ∷ 0xa8 ∷ 0x88 ∷ 0x5a ∷ 0x30 ∷ 0x8d ∷ 0x31 ∷ 0x31 ∷ 0x98 ∷ 0xa2 ∷ 0xe0 ∷ 0x37 ∷ 0x07 ∷ 0x34 ∷ [])
    ≡ 0x39 ∷ 0x25 ∷ 0x84 ∷ 0x1d ∷ 0x02 ∷ 0xdc ∷ 0x09 ∷ 0xfb ∷ 0xdc ∷ 0x11 ∷ 0x85 ∷ 0x97 ∷ 0x19 ∷ 0x6a ∷ 0x0b ∷ 0x32 ∷ []
unfolding times inverse s_box x_power word_change key_words sub_bytes shift_rows mix_column mix_columns add_round_key rounds cipher
cipher_example_b = refl

-- appendix C.1 of the edition of 2001
pub cipher_example_c : cipher (0x00 ∷ 0x01 ∷ 0x02 ∷ 0x03 ∷ 0x04 ∷ 0x05 ∷ 0x06 ∷ 0x07 ∷ 0x08 ∷ 0x09 ∷ 0x0a ∷ 0x0b ∷ 0x0c ∷ 0x0d ∷ 0x0e ∷ 0x0f ∷ [])
    (0x00 ∷ 0x11 ∷ 0x22 ∷ 0x33 ∷ 0x44 ∷ 0x55 ∷ 0x66 ∷ 0x77 ∷ 0x88 ∷ 0x99 ∷ 0xaa ∷ 0xbb ∷ 0xcc ∷ 0xdd ∷ 0xee ∷ 0xff ∷ [])
    ≡ 0x69 ∷ 0xc4 ∷ 0xe0 ∷ 0xd8 ∷ 0x6a ∷ 0x7b ∷ 0x04 ∷ 0x30 ∷ 0xd8 ∷ 0xcd ∷ 0xb7 ∷ 0x80 ∷ 0x70 ∷ 0xb4 ∷ 0xc5 ∷ 0x5a ∷ []
unfolding times inverse s_box x_power word_change key_words sub_bytes shift_rows mix_column mix_columns add_round_key rounds cipher
cipher_example_c = refl

-- 4.4: each byte but 0 has an inverse
pub inverse_rule : map (λ b. times (b + 1) (inverse (b + 1))) (range_with_len 0 255) ≡ replicate 255 1
unfolding times inverse
inverse_rule = refl
