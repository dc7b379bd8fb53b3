-- A sum of words in one's complement is the sum of the words, with its carries added at the low end.
use Rattle.std.proofs.Common.{◌≡◌, ◌≤◌, ◌<◌, ℕ, zero, suc, ◌+◌, ◌*◌, ◌-◌, ◌%◌, ◌/◌, List, [], ◌∷◌, ◌++◌, length, get_or, slice_index, drop, sum, refl, sym, subst, ap, ◌∙◌, arith, inl, inr, length-append, length-drop}
use Rattle.std.proofs.lemmas.Bool.{cases_eq, cases_lt, lt-ltb, le-ltb, cond-true, cond-false}
use Rattle.std.proofs.lemmas.List.Sums.{sum_by-cons}
use Rattle.std.proofs.lemmas.List.{drop_more}
use Rattle.byteorder.specs.Endian.{big_bytes, big_number}
use Rattle.field_rows.specs.Place.{IsBytes, number_at}
use Rattle.field_rows.specs.Row.{rows}
use Rattle.scmp_answer.specs.Checksum.{Carried, checksum, ones_complement_sum, plus, pseudo_table, words}

sum-cons : (w : ℕ) (ws : List ℕ) → sum (w ∷ ws) ≡ w + sum ws
sum-cons w ws = sum_by-cons (λ (n : ℕ). n) w ws

pub one_word : (a b total : ℕ) → Carried a total → Carried b total → a ≡ b
one_word a b total first second =
    let k = first.carries in
    let m = second.carries in
    elim (cases_eq a 0) [
      | inl none ↦ let zero-is : total ≡ 0 = first.zero_of_zero none in omega (arith, zero-is, none, first.parts, second.parts)
      | inr some ↦ elim (cases_eq b 0) [
        | inl none ↦ let zero-is : total ≡ 0 = second.zero_of_zero none in omega (arith, zero-is, none, first.parts, second.parts)
        | inr other ↦ omega (arith, some, other, first.parts, second.parts, first.fits, second.fits)
      ]
    ]

-- ---- the definition's sum

plus_carried : (w s total : ℕ) → w ≤ 65535 → Carried s total → Carried (plus w s) (w + total)
plus_carried w s total fits so =
    let k = so.carries in
    elim (cases_lt (w + s) 65536) [
      | inl small ↦
          let is : plus w s ≡ w + s = cond-true _ _ _ (lt-ltb _ _ small) in
          record { carries = k; parts = omega (arith, is, so.parts); fits = omega (arith, is); zero_of_zero = λ z. let none : s ≡ 0 = omega (arith, is, z) in omega (arith, is, z, so.zero_of_zero none) }
      | inr large ↦
          let is : plus w s ≡ w + s - 65535 = cond-false _ _ _ (le-ltb _ _ large) in
          record { carries = k + 1; parts = omega (arith, is, so.parts); fits = omega (arith, is, so.fits); zero_of_zero = λ z. absurd (omega (arith, is, z)) }
    ]

pub sum_carried : (bytes : List ℕ) → IsBytes bytes → Carried (ones_complement_sum (words bytes)) (sum (words bytes))
sum_carried [] are = record { carries = 0; parts = refl; fits = omega arith; zero_of_zero = λ z. refl }
sum_carried (a ∷ []) are =
    let a-fits : a < 256 = are 0 in
    let none : Carried 0 0 = record { carries = 0; parts = refl; fits = omega arith; zero_of_zero = λ z. refl } in
    subst (λ (n : ℕ). Carried (plus (a * 256) 0) n) (sym (sum-cons (a * 256) [])) (plus_carried (a * 256) 0 0 (omega arith) none)
sum_carried (a ∷ b ∷ bytes) are =
    let a-fits : a < 256 = are 0 in
    let b-fits : b < 256 = are 1 in
    let s = ones_complement_sum (words bytes) in
    subst (λ (n : ℕ). Carried (plus (a * 256 + b) s) n) (sym (sum-cons (a * 256 + b) (words bytes)))
    (plus_carried (a * 256 + b) s (sum (words bytes)) (omega arith) (sum_carried bytes (λ i. are (suc (suc i)))))

-- ---- the code's sum

-- two bytes more
pub one_more_word : (bytes : List ℕ) (k : ℕ) → 2 * k + 1 < length bytes
    → sum (words (drop (2 * k) bytes)) ≡ number_at bytes (2 * k) 2 + sum (words (drop (2 * (k + 1)) bytes))
one_more_word bytes k inside =
    let first = drop_more bytes (2 * k) 0 (omega arith) in
    let second = drop_more bytes (2 * k + 1) 0 inside in
    let place : 2 * k + 1 + 1 ≡ 2 * (k + 1) = omega arith in
    let both : drop (2 * k) bytes ≡ get_or bytes (2 * k) 0 ∷ get_or bytes (2 * k + 1) 0 ∷ drop (2 * (k + 1)) bytes =
    first ∙ ap (λ (t : List ℕ). get_or bytes (2 * k) 0 ∷ t) (second ∙ ap (λ (n : ℕ). get_or bytes (2 * k + 1) 0 ∷ drop n bytes) place) in
    let word : number_at bytes (2 * k) 2 ≡ get_or bytes (2 * k) 0 * 256 + get_or bytes (2 * k + 1) 0 = ap (big_number 2) both ∙ omega arith in
    ap (λ (t : List ℕ). sum (words t)) both
    ∙ sum-cons (get_or bytes (2 * k) 0 * 256 + get_or bytes (2 * k + 1) 0) (words (drop (2 * (k + 1)) bytes))
    ∙ ap (λ (n : ℕ). n + sum (words (drop (2 * (k + 1)) bytes))) (sym word)

no_words : (t : List ℕ) → length t ≡ 0 → sum (words t) ≡ 0
no_words [] len = refl
no_words (x ∷ t) len = absurd (omega arith)

one_byte : (t : List ℕ) (x : ℕ) (rest : List ℕ) → t ≡ x ∷ rest → length rest ≡ 0 → sum (words t) ≡ x * 256
one_byte t x [] is len = let value : sum (words (x ∷ [])) ≡ x * 256 = omega arith in ap (λ (u : List ℕ). sum (words u)) is ∙ value
one_byte t x (y ∷ rest) is len = absurd (omega arith)

pub odd_end : (bytes : List ℕ) (k : ℕ) → 2 * k + 1 ≡ length bytes → sum (words (drop (2 * k) bytes)) ≡ slice_index bytes (2 * k) * 256
odd_end bytes k is =
    let first = drop_more bytes (2 * k) 0 (omega arith) in
    one_byte (drop (2 * k) bytes) (get_or bytes (2 * k) 0) (drop (2 * k + 1) bytes) first (omega (arith, length-drop (2 * k + 1) bytes))

pub even_end : (bytes : List ℕ) (k : ℕ) → 2 * k ≡ length bytes → sum (words (drop (2 * k) bytes)) ≡ 0
even_end bytes k is = no_words (drop (2 * k) bytes) (omega (arith, length-drop (2 * k) bytes))

pub words-append : (k : ℕ) (a b : List ℕ) → length a ≡ 2 * k → sum (words (a ++ b)) ≡ sum (words a) + sum (words b)
words-append k [] b len = omega arith
words-append k (x ∷ []) b len = absurd (omega arith)
words-append zero (x ∷ y ∷ a) b len = absurd (omega arith)
words-append (suc k) (x ∷ y ∷ a) b len =
    omega (arith, words-append k a b (omega arith), sum-cons (x * 256 + y) (words (a ++ b)), sum-cons (x * 256 + y) (words a))

-- ---- what the checksum is taken over

pub bytes-cons : (x : ℕ) (a : List ℕ) → x < 256 → IsBytes a → IsBytes (x ∷ a)
bytes-cons x a fits are zero = fits
bytes-cons x a fits are (suc i) = are i

pub bytes-append : (a b : List ℕ) → IsBytes a → IsBytes b → IsBytes (a ++ b)
bytes-append [] b are-a are-b i = are-b i
bytes-append (x ∷ a) b are-a are-b zero = are-a 0
bytes-append (x ∷ a) b are-a are-b (suc i) = bytes-append a b (λ j. are-a (suc j)) are-b i

pub pseudo_bytes : (n : ℕ) (m : List ℕ) → IsBytes m → IsBytes (rows (pseudo_table n) ++ m)
pseudo_bytes n m are =
    let b0 : n / 16777216 % 256 < 256 = omega arith in
    let b1 : n / 65536 % 256 < 256 = omega arith in
    let b2 : n / 256 % 256 < 256 = omega arith in
    let b3 : n % 256 < 256 = omega arith in
    let none : 0 < 256 = omega arith in
    let t7 = 202 ∷ m in
    let t4 = 0 ∷ 0 ∷ 0 ∷ t7 in
    let a7 : IsBytes t7 = bytes-cons 202 m (omega arith) are in
    let a4 : IsBytes t4 = bytes-cons 0 (0 ∷ 0 ∷ t7) none (bytes-cons 0 (0 ∷ t7) none (bytes-cons 0 t7 none a7)) in
    let a2 : IsBytes (n / 256 % 256 ∷ n % 256 ∷ t4) = bytes-cons (n / 256 % 256) (n % 256 ∷ t4) b2 (bytes-cons (n % 256) t4 b3 a4) in
    bytes-cons (n / 16777216 % 256) (n / 65536 % 256 ∷ n / 256 % 256 ∷ n % 256 ∷ t4) b0 (bytes-cons (n / 65536 % 256) (n / 256 % 256 ∷ n % 256 ∷ t4) b1 a2)

pub summed_bytes : (a m : List ℕ) → IsBytes a → IsBytes m → IsBytes (a ++ (rows (pseudo_table (length m)) ++ m))
summed_bytes a m are-a are-m = bytes-append a (rows (pseudo_table (length m)) ++ m) are-a (pseudo_bytes (length m) m are-m)

pub all_summed : (a m : List ℕ) → length a % 2 ≡ 0 → length m ≤ 1232
    → sum (words (a ++ (rows (pseudo_table (length m)) ++ m))) ≡ sum (words a) + (length m + 202) + sum (words m)
all_summed a m even short =
    let k = length a / 2 in
    let halves : length a ≡ 2 * k = omega arith in
    let n = length m in
    let a0 = n / 16777216 % 256 * 256 + n / 65536 % 256 in
    let a1 = n / 256 % 256 * 256 + n % 256 in
    let pseudo : sum (words (rows (pseudo_table n) ++ m)) ≡ n + 202 + sum (words m) =
    omega (arith, sum-cons a0 (a1 ∷ 0 ∷ 202 ∷ words m), sum-cons a1 (0 ∷ 202 ∷ words m), sum-cons 0 (202 ∷ words m), sum-cons 202 (words m)) in
    words-append k a (rows (pseudo_table n) ++ m) halves ∙ omega (arith, pseudo)

-- ---- a checksum that is right

-- the checksum stands after the first two bytes of the message
pub message_sum : (f t : List ℕ) (c : ℕ) → length f ≡ 2 → c < 65536 → sum (words (f ++ (big_bytes 2 c ++ t))) ≡ sum (words f) + (c + sum (words t))
message_sum f t c two fits =
    let rest = big_bytes 2 c ++ t in
    let word : c / 256 % 256 * 256 + c % 256 ≡ c = omega arith in
    let later : sum (words rest) ≡ c + sum (words t) = sum-cons (c / 256 % 256 * 256 + c % 256) (words t) ∙ ap (λ (n : ℕ). n + sum (words t)) word in
    omega (arith, words-append 1 f rest two, later)

all_ones : (d e total : ℕ) → Carried d total → Carried e (total + (65535 - d)) → e ≡ 65535
all_ones d e total before after =
    let k = before.carries in
    let m = after.carries in
    elim (cases_eq e 0) [
      | inl none ↦ let zero-is : total + (65535 - d) ≡ 0 = after.zero_of_zero none in absurd (omega (arith, zero-is, before.parts, before.fits))
      | inr some ↦ omega (arith, some, before.parts, before.fits, after.parts, after.fits)
    ]

pub verifies : (a f t : List ℕ) (c : ℕ) → length a % 2 ≡ 0 → length f ≡ 2 → length f + 2 + length t ≤ 1232
    → (let m0 = f ++ (big_bytes 2 0 ++ t) in let mc = f ++ (big_bytes 2 c ++ t) in
    IsBytes (a ++ (rows (pseudo_table (length m0)) ++ m0)) → IsBytes (a ++ (rows (pseudo_table (length mc)) ++ mc))
    → c ≡ checksum (a ++ (rows (pseudo_table (length m0)) ++ m0))
    → ones_complement_sum (words (a ++ (rows (pseudo_table (length mc)) ++ mc))) ≡ 65535)
verifies a f t c even two short are-0 are-c c-is =
    let m0 = f ++ (big_bytes 2 0 ++ t) in
    let mc = f ++ (big_bytes 2 c ++ t) in
    let all0 = a ++ (rows (pseudo_table (length m0)) ++ m0) in
    let allc = a ++ (rows (pseudo_table (length mc)) ++ mc) in
    let d = ones_complement_sum (words all0) in
    let before = sum_carried all0 are-0 in
    let fits : c < 65536 = omega (arith, c-is) in
    let len0 : length m0 ≡ length f + (2 + length t) = omega (arith, length-append f (big_bytes 2 0 ++ t)) in
    let lenc : length mc ≡ length f + (2 + length t) = omega (arith, length-append f (big_bytes 2 c ++ t)) in
    let s0 = all_summed a m0 even (omega (arith, len0, short)) in
    let sc = all_summed a mc even (omega (arith, lenc, short)) in
    let more : sum (words allc) ≡ sum (words all0) + (65535 - d) =
    omega (arith, s0, sc, len0, lenc, message_sum f t 0 two (omega arith), message_sum f t c two fits, c-is) in
    all_ones d (ones_complement_sum (words allc)) (sum (words all0)) before (subst (λ (n : ℕ). Carried (ones_complement_sum (words allc)) n) more (sum_carried allc are-c))
