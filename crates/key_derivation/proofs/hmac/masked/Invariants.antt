use Rattle.std.proofs.Common.{◌≡◌, ◌++◌, drop, map, take}
use Rattle.std.specs.Prelude.{bit_xor}
use Rattle.key_derivation.proofs.hmac.masked.Given as goal

abbrev pub invariant-loop-byte : goal.invariant-loop-byte
invariant-loop-byte l = l.byte-items ≡ map (λ b. bit_xor b l.mask) (take l.byte-index l.key) ++ drop l.byte-index l.key
