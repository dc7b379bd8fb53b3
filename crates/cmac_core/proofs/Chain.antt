-- The running block against the fold over the whole list of blocks.
use Rattle.std.proofs.Common.{◌≡◌, ℕ, suc, ◌+◌, ◌*◌, ◌<◌, ◌≤◌, List, [], ◌∷◌, ◌++◌, length, take, drop, refl, sym, ap, ◌∙◌, arith, length-drop}
use Rattle.std.proofs.lemmas.List.{drop-drop}
use Rattle.std.proofs.lemmas.Bool.{ne_eqb}
use Rattle.aes128_core.specs.Aes128.{cipher}
use Rattle.cmac_core.specs.Block.{zeros, xor_blocks, filled}
use Rattle.cmac_core.specs.Cmac.{subkey_1, subkey_2, last_block, first_blocks, blocks, blocks_after, count_before_last, tag_from, tag}

blocks_one : (key message : List ℕ) → length message ≤ 16 → blocks key message ≡ last_block key message ∷ []
unfolding first_blocks
blocks_one key message short =
    let none : count_before_last message ≡ 0 = omega arith in
    ap (λ (n : ℕ). blocks_after key n message) none

blocks_more : (key message : List ℕ) → 16 < length message
    → blocks key message ≡ take 16 message ∷ blocks key (drop 16 message)
unfolding first_blocks
blocks_more key message long =
    let n : ℕ = count_before_last (drop 16 message) in
    let one_more : count_before_last message ≡ suc n = omega (arith, length-drop 16 message) in
    let place : 16 * suc n ≡ 16 + 16 * n = omega arith in
    ap (λ (k : ℕ). blocks_after key k message) one_more
    ∙ ap (λ (rest : List ℕ). take 16 message ∷ (first_blocks n (drop 16 message) ++ last_block key rest ∷ []))
    (ap (λ (k : ℕ). drop k message) place ∙ sym (drop-drop (16 * n) 16 message))

pub tag_from_last : (key x message : List ℕ) → length message ≤ 16
    → tag_from key x message ≡ cipher key (xor_blocks x (last_block key message))
unfolding tag_from
tag_from_last key x message short = rw (blocks_one key message short) refl

pub tag_from_more : (key x message : List ℕ) → 16 < length message
    → tag_from key x message ≡ tag_from key (cipher key (xor_blocks x (take 16 message))) (drop 16 message)
unfolding tag_from
tag_from_more key x message long = rw (blocks_more key message long) refl

-- ---- the last block

pub last_whole : (key part : List ℕ) → length part ≡ 16 → last_block key part ≡ xor_blocks part (subkey_1 key)
unfolding last_block
last_whole key part whole = rw whole refl

pub last_filled : (key part : List ℕ) → (length part ≡ 16 → ⊥)
    → last_block key part ≡ xor_blocks (filled part) (subkey_2 key)
unfolding last_block
last_filled key part short = rw (ne_eqb (length part) 16 short) refl

pub xor_zeros : (a b : List ℕ) → xor_blocks zeros (xor_blocks a b) ≡ xor_blocks a b
unfolding xor_blocks
xor_zeros a b = refl

-- the tag of one whole block
pub tag_block : (key block : List ℕ) → length block ≡ 16
    → tag key block ≡ cipher key (xor_blocks block (subkey_1 key))
tag_block key block whole =
    tag_from_last key zeros block (omega arith)
    ∙ ap (λ (b : List ℕ). cipher key (xor_blocks zeros b)) (last_whole key block whole)
    ∙ ap (cipher key) (xor_zeros block (subkey_1 key))
