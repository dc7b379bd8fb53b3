-- HMAC with SHA-256 (RFC 2104, section 2) of a key and a text, lists of bytes. A block of the hash has 64 bytes.
use Rattle.std.specs.Prelude.{ℕ, ◌-◌, nat_le, if◌then◌else◌, List, ◌++◌, map, length, replicate, bit_xor}
use Rattle.sha2.specs.Sha256.{sha256}

-- at most a block of bytes, with zeros at their end up to a block's length
abbrev pub padded : List ℕ → List ℕ
padded part = part ++ replicate (64 - length part) 0

-- the key K; one that is longer than a block is hashed first
unfoldable pub block_key : List ℕ → List ℕ
block_key key = if nat_le (length key) 64 then padded key else padded (sha256 key)

-- a block's key with a byte added to each of its bytes
unfoldable pub masked : ℕ → List ℕ → List ℕ
masked mask key = map (λ b. bit_xor b mask) key

-- H (K xor ipad, text)
abbrev pub inner_digest : List ℕ → List ℕ → List ℕ
inner_digest key text = sha256 (masked 0x36 (block_key key) ++ text)

-- H (K xor opad, H (K xor ipad, text))
unfoldable pub hmac : List ℕ → List ℕ → List ℕ
hmac key text = sha256 (masked 0x5c (block_key key) ++ inner_digest key text)
