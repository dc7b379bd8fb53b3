-- The fields of a message, written one after the other, and its quote.
use Rattle.std.proofs.Common.{◌≡◌, ◌<◌, ℕ, ◌/◌, ◌%◌, [], ◌++◌, refl, arith}
use Rattle.byteorder.specs.Endian.{big_bytes}

-- an interface as a number of 64 bits
pub interface_bytes : (i : ℕ) → i < 65536 → big_bytes 6 0 ++ big_bytes 2 i ≡ big_bytes 8 i ++ []
interface_bytes i fits =
    let b7 : i / 72057594037927936 % 256 ≡ 0 = omega arith in
    let b6 : i / 281474976710656 % 256 ≡ 0 = omega arith in
    let b5 : i / 1099511627776 % 256 ≡ 0 = omega arith in
    let b4 : i / 4294967296 % 256 ≡ 0 = omega arith in
    let b3 : i / 16777216 % 256 ≡ 0 = omega arith in
    let b2 : i / 65536 % 256 ≡ 0 = omega arith in
    rw (b7, b6, b5, b4, b3, b2) refl
