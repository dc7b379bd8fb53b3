-- A column of four table entries and a key word, against the matrix.
use Rattle.std.proofs.Common.{◌≡◌, ℕ, ◌/◌, ◌%◌, ◌^◌, ◌<◌, List, [], ◌∷◌, get_or, bit_xor, ap, ap₂, ◌∙◌}
use Rattle.std.proofs.lemmas.Nat.{xor_shr, xor_mod}
use Rattle.aes128_core.specs.SBox.{s_box}
use Rattle.aes128_core.specs.State.{xor_words}
use Rattle.aes128_core.specs.Rounds.{mix_column}
use Rattle.aes128_core.specs.Columns.{word_bytes}
use Rattle.aes128_core.specs.declared.tables.TheConstants.{T0, T1, T2, T3}
use Rattle.aes128_core.proofs.TableRules.{t0_at, t1_at, t2_at, t3_at}

byte_xor : (x y k : ℕ) → bit_xor x y / 2 ^ k % 2 ^ 8 ≡ bit_xor (x / 2 ^ k % 2 ^ 8) (y / 2 ^ k % 2 ^ 8)
byte_xor x y k = ap (λ (n : ℕ). n % 2 ^ 8) (xor_shr x y k) ∙ xor_mod (x / 2 ^ k) (y / 2 ^ k) 8

pub word_bytes-xor : (x y : ℕ) → word_bytes (bit_xor x y) ≡ xor_words (word_bytes x) (word_bytes y)
word_bytes-xor x y =
    let e0 : bit_xor x y % 256 ≡ bit_xor (x % 256) (y % 256) = xor_mod x y 8 in
    let e1 : bit_xor x y / 256 % 256 ≡ bit_xor (x / 256 % 256) (y / 256 % 256) = byte_xor x y 8 in
    let e2 : bit_xor x y / 65536 % 256 ≡ bit_xor (x / 65536 % 256) (y / 65536 % 256) = byte_xor x y 16 in
    let e3 : bit_xor x y / 16777216 % 256 ≡ bit_xor (x / 16777216 % 256) (y / 16777216 % 256) = byte_xor x y 24 in
    cc

pub column_is : (a b c d key : ℕ) → a < 256 → b < 256 → c < 256 → d < 256
    → word_bytes (bit_xor (bit_xor (bit_xor (bit_xor (get_or T0 a 0) (get_or T1 b 0)) (get_or T2 c 0)) (get_or T3 d 0)) key)
    ≡ xor_words (mix_column (s_box a ∷ s_box b ∷ s_box c ∷ s_box d ∷ [])) (word_bytes key)
unfolding mix_column
column_is a b c d key fa fb fc fd =
    word_bytes-xor (bit_xor (bit_xor (bit_xor (get_or T0 a 0) (get_or T1 b 0)) (get_or T2 c 0)) (get_or T3 d 0)) key
    ∙ ap (λ (w : List ℕ). xor_words w (word_bytes key))
    (word_bytes-xor (bit_xor (bit_xor (get_or T0 a 0) (get_or T1 b 0)) (get_or T2 c 0)) (get_or T3 d 0)
    ∙ ap₂ xor_words
    (word_bytes-xor (bit_xor (get_or T0 a 0) (get_or T1 b 0)) (get_or T2 c 0)
    ∙ ap₂ xor_words
    (word_bytes-xor (get_or T0 a 0) (get_or T1 b 0) ∙ ap₂ xor_words (t0_at a fa) (t1_at b fb))
    (t2_at c fc))
    (t3_at d fd))
