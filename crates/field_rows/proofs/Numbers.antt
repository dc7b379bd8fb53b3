-- A number and its bytes: each gives the other back.
use Rattle.std.proofs.Common.{◌≡◌, ◌≤◌, ◌<◌, ℕ, zero, suc, ◌+◌, ◌-◌, ◌*◌, ◌/◌, ◌%◌, ◌^◌, List, [], ◌∷◌, ◌++◌, length, take, drop, refl, sym, ap, ap₂, ◌∙◌, arith, length-drop}
use Rattle.std.proofs.Math.Nat.{add-mul-div_left, div-eq_of_lt, div-one, mul-add-div_right, one-le-pow, pow-succ'}
use Rattle.std.proofs.lemmas.Nat.{pow-add}
use Rattle.std.proofs.lemmas.List.{get_or-drop, take-append-drop}
use Rattle.std.specs.Int.{byte_at, bytes_high_first}
use Rattle.byteorder.specs.Endian.{big_bytes, big_from, big_number}
use Rattle.byteorder.specs.Numbers.{big_number-reads_back, big_from-lt, big_from-cons, length-bytes_high_first}
use Rattle.field_rows.specs.Place.{IsBytes, StandsAt, number_at}

-- the number whose bytes stand at a place is read there
pub number_of_bytes : (bytes : List ℕ) (at n x : ℕ) → x < 256 ^ n → StandsAt bytes at (big_bytes n x) → number_at bytes at n ≡ x
number_of_bytes bytes at n x below stands =
    let len = length (big_bytes n x) in
    let parts : drop at bytes ≡ big_bytes n x ++ drop len (drop at bytes) =
    sym (take-append-drop len (drop at bytes)) ∙ ap (λ (t : List ℕ). t ++ drop len (drop at bytes)) stands.read in
    ap (big_number n) parts ∙ big_number-reads_back n x (drop len (drop at bytes)) below

-- a byte of a number, by its place
byte_at-pow : (k x : ℕ) → byte_at k x ≡ x / 256 ^ k % 256
byte_at-pow zero x = ap (λ (y : ℕ). y % 256) (sym (div-one x))
byte_at-pow (suc k) x = refl

pow_pos : (n : ℕ) → 0 < 256 ^ n
pow_pos n = omega (arith, one-le-pow n 256 (omega arith))

-- what stands above a byte does not change it
digit_below : (k d y r : ℕ) → (y * 256 ^ (k + suc d) + r) / 256 ^ k % 256 ≡ r / 256 ^ k % 256
digit_below k d y r =
    let power : 256 ^ (k + suc d) ≡ 256 ^ k * (256 * 256 ^ d) = pow-add 256 k (suc d) ∙ ap (λ (p : ℕ). 256 ^ k * p) (pow-succ' 256 d) in
    let p = 256 ^ k in
    let e = 256 ^ d in
    let parts : y * 256 ^ (k + suc d) + r ≡ r + p * (256 * (y * e)) = rw power (omega arith) in
    let up : (r + p * (256 * (y * e))) / p ≡ r / p + 256 * (y * e) = add-mul-div_left r (256 * (y * e)) (pow_pos k) in
    let low : (r / p + 256 * (y * e)) % 256 ≡ r / p % 256 = omega arith in
    ap (λ (n : ℕ). n / p % 256) parts ∙ ap (λ (n : ℕ). n % 256) up ∙ low

-- what stands above the lowest n bytes does not change them
bytes_below : (n m y r : ℕ) → n ≤ m → bytes_high_first n (y * 256 ^ m + r) ≡ bytes_high_first n r
bytes_below zero m y r le = refl
bytes_below (suc n) m y r le =
    let d = m - suc n in
    let place : m ≡ n + suc d = omega arith in
    let digit : byte_at n (y * 256 ^ m + r) ≡ byte_at n r =
    byte_at-pow n (y * 256 ^ m + r) ∙ ap (λ (k : ℕ). (y * 256 ^ k + r) / 256 ^ n % 256) place ∙ digit_below n d y r ∙ sym (byte_at-pow n r) in
    ap₂ (λ (b : ℕ) (bs : List ℕ). b ∷ bs) digit (bytes_below n m y r (omega arith))

-- the bytes of the number in the first bytes of a list are those bytes
bytes_of : (n : ℕ) (xs : List ℕ) → IsBytes xs → n ≤ length xs → bytes_high_first n (big_from 0 n xs) ≡ take n xs
bytes_of zero xs are inside = refl
bytes_of (suc n) [] are inside = absurd (omega arith)
bytes_of (suc n) (x ∷ xs) are inside =
    let r = big_from 0 n xs in
    let number : big_from 0 (suc n) (x ∷ xs) ≡ x * 256 ^ n + r = ap (λ (k : ℕ). x * 256 ^ n + k) (big_from-cons 0 n x xs) in
    let rest-are : IsBytes xs = λ i. are (suc i) in
    let none : r / 256 ^ n ≡ 0 = div-eq_of_lt (big_from-lt 0 n xs rest-are) in
    let up : (x * 256 ^ n + r) / 256 ^ n ≡ x + r / 256 ^ n = mul-add-div_right (pow_pos n) x r in
    let x-fits : x < 256 = are 0 in
    let first : byte_at n (x * 256 ^ n + r) ≡ x = byte_at-pow n (x * 256 ^ n + r) ∙ ap (λ (k : ℕ). k % 256) up ∙ omega (arith, none) in
    let rest : bytes_high_first n (x * 256 ^ n + r) ≡ take n xs = bytes_below n n x r (omega arith) ∙ bytes_of n xs rest-are (omega arith) in
    ap (bytes_high_first (suc n)) number ∙ ap₂ (λ (b : ℕ) (bs : List ℕ). b ∷ bs) first rest

-- a number that is read stands where it was read
pub bytes_of_number : (bytes : List ℕ) (at n : ℕ) → IsBytes bytes → at + n ≤ length bytes → StandsAt bytes at (big_bytes n (number_at bytes at n))
bytes_of_number bytes at n are inside =
    let rest-are : IsBytes (drop at bytes) = λ i. rw (get_or-drop at bytes i 0) (are (at + i)) in
    let len : length (big_bytes n (number_at bytes at n)) ≡ n = length-bytes_high_first n (number_at bytes at n) in
    record { read = rw len (sym (bytes_of n (drop at bytes) rest-are (omega (arith, length-drop at bytes)))) }
