-- Values from outside: of RFC 4231, section 4.3, and of PBKDF2 as OpenSSL derives them.
use Rattle.std.specs.Prelude.{◌≡◌, ℕ, List, [], ◌∷◌, codes, refl}
use Rattle.sha2.specs.Sha256.{compress, digest_bytes, first_words, hash_after, rounds, schedule, sha256}
use Rattle.key_derivation.specs.Hmac.{block_key, hmac, masked}
use Rattle.key_derivation.specs.Pbkdf2.{blocks, chained, derived_key, forwarding_key, summed, xor_digests}

pub code : hmac (codes "Jefe") (codes "what do ya want for nothing?") ≡
    0x5b ∷ 0xdc ∷ 0xc1 ∷ 0x46 ∷ 0xbf ∷ 0x60 ∷ 0x75 ∷ 0x4e ∷ 0x6a ∷ 0x04 ∷ 0x24 ∷ 0x26 ∷ 0x08 ∷ 0x95 ∷ 0x75 ∷ 0xc7
    ∷ 0x5a ∷ 0x00 ∷ 0x3f ∷ 0x08 ∷ 0x9d ∷ 0x27 ∷ 0x39 ∷ 0x83 ∷ 0x9d ∷ 0xec ∷ 0x58 ∷ 0xb9 ∷ 0x64 ∷ 0xec ∷ 0x38 ∷ 0x43 ∷ []
unfolding hmac block_key masked sha256 digest_bytes hash_after compress rounds schedule first_words
code = refl

-- two iterations, and a byte of the second block
pub key : derived_key (codes "password") (codes "salt") 2 33 ≡
    0xae ∷ 0x4d ∷ 0x0c ∷ 0x95 ∷ 0xaf ∷ 0x6b ∷ 0x46 ∷ 0xd3 ∷ 0x2d ∷ 0x0a ∷ 0xdf ∷ 0xf9 ∷ 0x28 ∷ 0xf0 ∷ 0x6d ∷ 0xd0
    ∷ 0x2a ∷ 0x30 ∷ 0x3f ∷ 0x8e ∷ 0xf3 ∷ 0xc2 ∷ 0x51 ∷ 0xdf ∷ 0xd6 ∷ 0xe2 ∷ 0xd8 ∷ 0x5a ∷ 0x95 ∷ 0x47 ∷ 0x4c ∷ 0x43
    ∷ 0x83 ∷ []
unfolding derived_key blocks summed chained xor_digests hmac block_key masked sha256 digest_bytes hash_after compress rounds schedule first_words
key = refl

-- 16 bytes, by 1,000 iterations with the salt `Derive OF Key`
pub forwarding : (master : List ℕ) → forwarding_key master ≡ derived_key master (68 ∷ 101 ∷ 114 ∷ 105 ∷ 118 ∷ 101 ∷ 32 ∷ 79 ∷ 70 ∷ 32 ∷ 75 ∷ 101 ∷ 121 ∷ []) 1000 16
forwarding master = refl
