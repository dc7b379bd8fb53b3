-- The processor of a flow.
use Rattle.std.specs.Prelude.{ℕ, ◌*◌, ◌%◌, ◌^◌, bit_xor, List, ◌∷◌, ◌++◌}
use Rattle.std.specs.List.{fold}
use Rattle.byteorder.specs.Endian.{big_bytes}
use Rattle.flow_key.specs.Flow.{Flow}

-- the 32-bit FNV-1a hash: each byte is mixed in, and then the hash multiplied
abbrev pub fnv1a : ℕ → List ℕ → ℕ
fnv1a start bytes = fold (λ hash byte. bit_xor hash byte * 16777619 % 2 ^ 32) start bytes

-- what is hashed of a flow: not its band
abbrev pub flow_text : Flow → List ℕ
flow_text f = big_bytes 3 f.flow_id ++ (f.host_kinds ∷ f.addresses)

abbrev pub processor_of : Flow → ℕ → ℕ → ℕ
processor_of f seed n = fnv1a (bit_xor 2166136261 seed) (flow_text f) % n
