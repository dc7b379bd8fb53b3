use Rattle.std.proofs.Common.{◌≡◌, ℕ, ◌<◌, length, get_or}
use Rattle.std.specs.Prelude.{bit_xor}
use Rattle.key_derivation.proofs.pbkdf2.xor_digests.Given as goal

abbrev pub invariant-loop-i : goal.invariant-loop-i
invariant-loop-i l = record {
  whole : length l.sum ≡ 32;
  written : (k : ℕ) → k < l.i → get_or l.sum k 0 ≡ bit_xor (get_or l.a k 0) (get_or l.b k 0);
}
