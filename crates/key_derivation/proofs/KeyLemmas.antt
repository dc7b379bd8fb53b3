-- The steps of the loops, and a key of half a block.
use Rattle.std.proofs.Common.{◌≡◌, ◌<◌, ◌+◌, ◌++◌, ℕ, List, add-one, arith, codes, drop, get_or, length, map, refl, set, take}
use Rattle.std.specs.Prelude.{bit_xor}
use Rattle.std.specs.Int.{w32, to_be_bytes}
use Rattle.std.proofs.lemmas.List.{get_or_default, length-append, length-drop, length-map, length-take}
use Rattle.std.proofs.lemmas.List.Edits.{map_over_more}
use Rattle.key_derivation.specs.Hmac.{hmac}
use Rattle.key_derivation.specs.Pbkdf2.{block, blocks, chained, derived_key, forwarding_key, summed, xor_digests}

-- one byte more has the mask added to it
pub masked_more : (mask : ℕ) (key ys : List ℕ) (i : ℕ) → i < length key → ys ≡ map (λ b. bit_xor b mask) (take i key) ++ drop i key
    → set ys i (bit_xor (get_or ys i 0) mask) ≡ map (λ b. bit_xor b mask) (take (i + 1) key) ++ drop (i + 1) key
masked_more mask key ys i here so_far =
    let f : ℕ → ℕ = λ b. bit_xor b mask in
    let long : i < length ys = rw so_far (simp (length-append, length-map, length-take, length-drop) (omega arith)) in
    map_over_more f key ys i (get_or ys i 0) here so_far (get_or_default ys i 0 (get_or ys i 0) long)

-- the first member, and one member more
pub first_link : (password salt : List ℕ) (index : ℕ) → hmac password (salt ++ to_be_bytes w32 index) ≡ chained password salt index 0
unfolding chained
first_link password salt index = refl

pub first_sum : (password salt : List ℕ) (index : ℕ) → hmac password (salt ++ to_be_bytes w32 index) ≡ summed password salt index 0
unfolding chained summed
first_sum password salt index = refl

pub next_link : (password salt : List ℕ) (index n : ℕ) → hmac password (chained password salt index n) ≡ chained password salt index (n + 1)
unfolding chained
next_link password salt index n = rw add-one refl

pub next_sum : (password salt : List ℕ) (index n : ℕ) → xor_digests (summed password salt index n) (chained password salt index (n + 1)) ≡ summed password salt index (n + 1)
unfolding summed
next_sum password salt index n = rw add-one refl

-- the first 16 bytes of the first block
pub first_half : (master : List ℕ) → take 16 (block master (codes "Derive OF Key") 1000 1) ≡ forwarding_key master
unfolding derived_key blocks
first_half master = refl
