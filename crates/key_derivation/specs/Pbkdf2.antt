-- PBKDF2 with HMAC-SHA256 (RFC 8018, section 5.2) of a password P and a salt S, lists of bytes.
use Rattle.std.specs.Prelude.{ℕ, zero, suc, ◌+◌, ◌-◌, ◌/◌, List, [], ◌++◌, map, take, slice_index, bit_xor, codes}
use Rattle.std.specs.Int.{w32, to_be_bytes}
use Rattle.std.specs.List.{range_with_len}
use Rattle.key_derivation.specs.Hmac.{hmac}

-- the sum of two digests
unfoldable pub xor_digests : List ℕ → List ℕ → List ℕ
xor_digests a b = map (λ i. bit_xor (slice_index a i) (slice_index b i)) (range_with_len 0 32)

-- U 1 = PRF (P, S || INT (i)), for 0; and from each the next one, U (n + 1) = PRF (P, U n)
unfoldable pub chained : List ℕ → List ℕ → ℕ → ℕ → List ℕ
chained password salt index zero = hmac password (salt ++ to_be_bytes w32 index)
chained password salt index (suc n) = hmac password (chained password salt index n)

-- U 1 xor .. xor U (n + 1)
unfoldable pub summed : List ℕ → List ℕ → ℕ → ℕ → List ℕ
summed password salt index zero = chained password salt index zero
summed password salt index (suc n) = xor_digests (summed password salt index n) (chained password salt index (suc n))

-- T i = F (P, S, c, i), the sum of c members
abbrev pub block : List ℕ → List ℕ → ℕ → ℕ → List ℕ
block password salt iterations index = summed password salt index (iterations - 1)

-- T 1 || .. || T n
unfoldable pub blocks : List ℕ → List ℕ → ℕ → ℕ → List ℕ
blocks password salt iterations zero = []
blocks password salt iterations (suc n) = blocks password salt iterations n ++ block password salt iterations (suc n)

-- DK: the first bytes of as many blocks as they take, 32 bytes each
unfoldable pub derived_key : List ℕ → List ℕ → ℕ → ℕ → List ℕ
derived_key password salt iterations length = take length (blocks password salt iterations ((length + 31) / 32))

-- the forwarding key of an AS, of its master key, as scionproto derives it
abbrev pub forwarding_key : List ℕ → List ℕ
forwarding_key master = derived_key master (codes "Derive OF Key") 1000 16
