-- A block of sixteen bytes as two numbers of eight.
use Rattle.std.proofs.Common.{◌≡◌, ◌<◌, ◌+◌, ◌*◌, ◌/◌, ◌%◌, ◌^◌, ℕ, zero, suc, List, [], ◌∷◌, ◌++◌, get_or, refl, ap₂, ◌∙◌, arith}
use Rattle.std.specs.Int.{from_le_bytes, swap_bytes, to_be_bytes, to_le_bytes, w64}
use Rattle.std.specs.Simd.Lanes.{digits_l, number_l}
use Rattle.std.proofs.lemmas.Nat.{le_bytes_8}

next : {a b : ℕ} {xs ys : List ℕ} → a ≡ b → xs ≡ ys → a ∷ xs ≡ b ∷ ys
next e f = ap₂ (λ (y : ℕ) (ys : List ℕ). y ∷ ys) e f

eight_at : (n i : ℕ) → get_or (to_be_bytes w64 n) i 0 < 256
eight_at n zero = omega arith
eight_at n (suc zero) = omega arith
eight_at n (suc (suc zero)) = omega arith
eight_at n (suc (suc (suc zero))) = omega arith
eight_at n (suc (suc (suc (suc zero)))) = omega arith
eight_at n (suc (suc (suc (suc (suc zero))))) = omega arith
eight_at n (suc (suc (suc (suc (suc (suc zero)))))) = omega arith
eight_at n (suc (suc (suc (suc (suc (suc (suc zero))))))) = omega arith
eight_at n (suc (suc (suc (suc (suc (suc (suc (suc i)))))))) = omega arith

swapped : (n : ℕ) → to_le_bytes w64 (swap_bytes w64 n) ≡ to_be_bytes w64 n
swapped n =
    let same : swap_bytes w64 n ≡ from_le_bytes w64 (to_be_bytes w64 n) = omega arith in
    le_bytes_8 (to_be_bytes w64 n) (swap_bytes w64 n) refl (eight_at n) same

lanes_are : (x y : ℕ) → x < 2 ^ 64 → y < 2 ^ 64 → digits_l 256 16 (number_l (2 ^ 64) (x ∷ y ∷ [])) ≡ to_le_bytes w64 x ++ to_le_bytes w64 y
lanes_are x y fx fy =
    next (omega arith) (next (omega arith) (next (omega arith) (next (omega arith)
    (next (omega arith) (next (omega arith) (next (omega arith) (next (omega arith)
    (next (omega arith) (next (omega arith) (next (omega arith) (next (omega arith)
    (next (omega arith) (next (omega arith) (next (omega arith) (next (omega arith) refl)))))))))))))))

pub block_is : (front back x y : ℕ) → x < 2 ^ 64 → y < 2 ^ 64 → x ≡ swap_bytes w64 front → y ≡ swap_bytes w64 back
    → digits_l 256 16 (number_l (2 ^ 64) (x ∷ y ∷ [])) ≡ to_be_bytes w64 front ++ to_be_bytes w64 back
block_is front back x y fx fy is_x is_y =
    lanes_are x y fx fy
    ∙ ap₂ (λ (m n : ℕ). to_le_bytes w64 m ++ to_le_bytes w64 n) is_x is_y
    ∙ ap₂ (λ (xs ys : List ℕ). xs ++ ys) (swapped front) (swapped back)

pub input_is : (s t e i o beta timestamp expiry ingress egress : ℕ) → s ≡ beta → t ≡ timestamp → e ≡ expiry → i ≡ ingress → o ≡ egress
    → beta < 2 ^ 16 → timestamp < 2 ^ 32 → expiry < 2 ^ 8 → ingress < 2 ^ 16 → egress < 2 ^ 16
    → to_be_bytes w64 (s * 2 ^ 32 + t) ++ to_be_bytes w64 (e * 2 ^ 48 + i * 2 ^ 32 + o * 2 ^ 16)
    ≡ 0 ∷ 0 ∷ beta / 256 % 256 ∷ beta % 256 ∷ timestamp / 16777216 % 256 ∷ timestamp / 65536 % 256 ∷ timestamp / 256 % 256 ∷ timestamp % 256
    ∷ 0 ∷ expiry % 256 ∷ ingress / 256 % 256 ∷ ingress % 256 ∷ egress / 256 % 256 ∷ egress % 256 ∷ 0 ∷ 0 ∷ []
input_is s t e i o beta timestamp expiry ingress egress is0 is1 is2 is3 is4 f0 f1 f2 f3 f4 =
    next (omega arith) (next (omega arith) (next (omega arith) (next (omega arith)
    (next (omega arith) (next (omega arith) (next (omega arith) (next (omega arith)
    (next (omega arith) (next (omega arith) (next (omega arith) (next (omega arith)
    (next (omega arith) (next (omega arith) (next (omega arith) (next (omega arith) refl)))))))))))))))
