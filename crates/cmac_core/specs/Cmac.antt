-- AES-CMAC (RFC 4493) of a key, a list of 16 bytes, and a message, a list of bytes. Section numbers
-- are those of the RFC.
use Rattle.std.specs.Prelude.{ℕ, zero, suc, ◌-◌, ◌*◌, ◌/◌, ◌==◌, if◌then◌else◌, List, [], ◌∷◌, ◌++◌, length, take, drop}
use Rattle.std.specs.List.{fold}
use Rattle.aes128_core.specs.Aes128.{cipher}
use Rattle.cmac_core.specs.Block.{zeros, xor_blocks, doubled, filled}

-- K1 and K2 (2.3)
abbrev pub subkey_1 : List ℕ → List ℕ
subkey_1 key = doubled (cipher key zeros)

abbrev pub subkey_2 : List ℕ → List ℕ
subkey_2 key = doubled (subkey_1 key)

-- the last block: whole, with K1, or filled up, with K2 (2.4)
unfoldable pub last_block : List ℕ → List ℕ → List ℕ
last_block key part =
    if length part == 16 then xor_blocks part (subkey_1 key)
    else xor_blocks (filled part) (subkey_2 key)

-- how many blocks stand before the last one, which has a byte at least unless the message is empty
abbrev pub count_before_last : List ℕ → ℕ
count_before_last message = (length message - 1) / 16

-- the first n blocks of a message
unfoldable pub first_blocks : ℕ → List ℕ → List (List ℕ)
first_blocks zero message = []
first_blocks (suc n) message = take 16 message ∷ first_blocks n (drop 16 message)

-- n blocks of the message, and then the last one
abbrev pub blocks_after : List ℕ → ℕ → List ℕ → List (List ℕ)
blocks_after key n message = first_blocks n message ++ last_block key (drop (16 * n) message) ∷ []

-- all blocks that are chained (2.4)
abbrev pub blocks : List ℕ → List ℕ → List (List ℕ)
blocks key message = blocks_after key (count_before_last message) message

-- one step of the chain: a block is added, and the sum encrypted (2.4)
abbrev pub chain_block : List ℕ → List ℕ → List ℕ → List ℕ
chain_block key x block = cipher key (xor_blocks x block)

-- the chain over a message's blocks, from the block x on
unfoldable pub tag_from : List ℕ → List ℕ → List ℕ → List ℕ
tag_from key x message = fold (chain_block key) x (blocks key message)

-- AES-CMAC (2.4)
abbrev pub tag : List ℕ → List ℕ → List ℕ
tag key message = tag_from key zeros message
