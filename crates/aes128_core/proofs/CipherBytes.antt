-- What the cipher gives for a key of bytes is 16 bytes.
use Rattle.std.proofs.Common.{◌≡◌, ℕ, zero, suc, ◌+◌, ◌-◌, ◌/◌, ◌%◌, ◌<◌, ◌≤◌, ◌==◌, Bool, true, false, if◌then◌else◌, List, [], ◌∷◌, ◌++◌, length, slice_index, refl, sym, subst, arith, inl, inr}
use Rattle.std.specs.Prelude.{slice_index_or}
use Rattle.std.proofs.lemmas.Bool.{cases_lt}
use Rattle.std.proofs.lemmas.Bool.Decides.{Decides-ltb}
use Rattle.std.proofs.lemmas.List.{get_or-append_right, get_or_append_left}
use Rattle.std.proofs.lemmas.Nat.{xor_of_8}
use Rattle.aes128_core.specs.Aes128.{cipher}
use Rattle.aes128_core.specs.Field.{times}
use Rattle.aes128_core.specs.KeyExpansion.{key_expansion, key_words, rot_word, round_constant, sub_word, word_change, x_power}
use Rattle.aes128_core.specs.Rounds.{add_round_key, rounds, shift_rows, sub_bytes}
use Rattle.aes128_core.specs.SBox.{s_box}
use Rattle.aes128_core.specs.State.{AreBytes, bytes_of, state_from, xor_words}

-- each item of each word is a byte
abbrev pub AreWords : List (List ℕ) → Type 0
AreWords ws = (k : ℕ) → AreBytes (slice_index_or ws k [])

pub s_box_lt : (b : ℕ) → s_box b < 256
unfolding s_box
s_box_lt b = omega arith

none_are : AreBytes []
none_are i = omega arith

xor_are : (a b : List ℕ) → AreBytes a → AreBytes b → AreBytes (xor_words a b)
xor_are a b of-a of-b zero = xor_of_8 (slice_index a 0) (slice_index b 0) (of-a 0) (of-b 0)
xor_are a b of-a of-b (suc zero) = xor_of_8 (slice_index a 1) (slice_index b 1) (of-a 1) (of-b 1)
xor_are a b of-a of-b (suc (suc zero)) = xor_of_8 (slice_index a 2) (slice_index b 2) (of-a 2) (of-b 2)
xor_are a b of-a of-b (suc (suc (suc zero))) = xor_of_8 (slice_index a 3) (slice_index b 3) (of-a 3) (of-b 3)
xor_are a b of-a of-b (suc (suc (suc (suc i)))) = omega arith

sub_are : (a : List ℕ) → AreBytes (sub_word a)
sub_are a zero = s_box_lt (slice_index a 0)
sub_are a (suc zero) = s_box_lt (slice_index a 1)
sub_are a (suc (suc zero)) = s_box_lt (slice_index a 2)
sub_are a (suc (suc (suc zero))) = s_box_lt (slice_index a 3)
sub_are a (suc (suc (suc (suc i)))) = omega arith

-- ---- the words of the key schedule

x_power_lt : (m : ℕ) → m < 10 → x_power m < 256
unfolding x_power times
x_power_lt zero few = omega arith
x_power_lt (suc zero) few = (Decides-ltb (x_power 1) 256).0 refl
x_power_lt (suc (suc zero)) few = (Decides-ltb (x_power 2) 256).0 refl
x_power_lt (suc (suc (suc zero))) few = (Decides-ltb (x_power 3) 256).0 refl
x_power_lt (suc (suc (suc (suc zero)))) few = (Decides-ltb (x_power 4) 256).0 refl
x_power_lt (suc (suc (suc (suc (suc zero))))) few = (Decides-ltb (x_power 5) 256).0 refl
x_power_lt (suc (suc (suc (suc (suc (suc zero)))))) few = (Decides-ltb (x_power 6) 256).0 refl
x_power_lt (suc (suc (suc (suc (suc (suc (suc zero))))))) few = (Decides-ltb (x_power 7) 256).0 refl
x_power_lt (suc (suc (suc (suc (suc (suc (suc (suc zero)))))))) few = (Decides-ltb (x_power 8) 256).0 refl
x_power_lt (suc (suc (suc (suc (suc (suc (suc (suc (suc zero))))))))) few = (Decides-ltb (x_power 9) 256).0 refl
x_power_lt (suc (suc (suc (suc (suc (suc (suc (suc (suc (suc m)))))))))) few = absurd (omega arith)

constant_are : (j : ℕ) → j ≤ 10 → AreBytes (round_constant j)
constant_are j few zero = x_power_lt (j - 1) (omega arith)
constant_are j few (suc zero) = omega arith
constant_are j few (suc (suc zero)) = omega arith
constant_are j few (suc (suc (suc zero))) = omega arith
constant_are j few (suc (suc (suc (suc i)))) = omega arith

change_by : (b : Bool) (i : ℕ) (before : List ℕ) → i < 44 → AreBytes before → AreBytes (if b then xor_words (sub_word (rot_word before)) (round_constant (i / 4)) else before)
change_by true i before few are = xor_are (sub_word (rot_word before)) (round_constant (i / 4)) (sub_are (rot_word before)) (constant_are (i / 4) (omega arith))
change_by false i before few are = are

change_are : (i : ℕ) (before : List ℕ) → i < 44 → AreBytes before → AreBytes (word_change i before)
unfolding word_change
change_are i before few are = change_by (i % 4 == 0) i before few are

first_are : (key : List ℕ) → AreBytes key → AreWords (state_from key)
first_are key are zero zero = are 0
first_are key are zero (suc zero) = are 1
first_are key are zero (suc (suc zero)) = are 2
first_are key are zero (suc (suc (suc zero))) = are 3
first_are key are zero (suc (suc (suc (suc r)))) = omega arith
first_are key are (suc zero) zero = are 4
first_are key are (suc zero) (suc zero) = are 5
first_are key are (suc zero) (suc (suc zero)) = are 6
first_are key are (suc zero) (suc (suc (suc zero))) = are 7
first_are key are (suc zero) (suc (suc (suc (suc r)))) = omega arith
first_are key are (suc (suc zero)) zero = are 8
first_are key are (suc (suc zero)) (suc zero) = are 9
first_are key are (suc (suc zero)) (suc (suc zero)) = are 10
first_are key are (suc (suc zero)) (suc (suc (suc zero))) = are 11
first_are key are (suc (suc zero)) (suc (suc (suc (suc r)))) = omega arith
first_are key are (suc (suc (suc zero))) zero = are 12
first_are key are (suc (suc (suc zero))) (suc zero) = are 13
first_are key are (suc (suc (suc zero))) (suc (suc zero)) = are 14
first_are key are (suc (suc (suc zero))) (suc (suc (suc zero))) = are 15
first_are key are (suc (suc (suc zero))) (suc (suc (suc (suc r)))) = omega arith
first_are key are (suc (suc (suc (suc k)))) r = omega arith

one_are : (w : List ℕ) → AreBytes w → AreWords (w ∷ [])
one_are w are zero = are
one_are w are (suc k) = none_are

more_are : (ws : List (List ℕ)) (w : List ℕ) → AreWords ws → AreBytes w → AreWords (ws ++ (w ∷ []))
more_are ws w all are k =
    elim (cases_lt k (length ws)) [
      | inl inside ↦ subst AreBytes (sym (get_or_append_left ws (w ∷ []) [] k inside)) (all k)
      | inr past ↦ subst AreBytes (sym (get_or-append_right ws (w ∷ []) (length ws) k [] refl past)) (one_are w are (k - length ws))
    ]

pub words_are : (key : List ℕ) (n : ℕ) → n ≤ 40 → AreBytes key → AreWords (key_words key n)
unfolding key_words
words_are key zero few are = first_are key are
words_are key (suc n) few are =
    let ws = key_words key n in
    let all = words_are key n (omega arith) are in
    let last = slice_index_or ws (n + 3) [] in
    more_are ws (xor_words (slice_index_or ws n []) (word_change (n + 4) last)) all
    (xor_are (slice_index_or ws n []) (word_change (n + 4) last) (all n) (change_are (n + 4) last (omega arith) (all (n + 3))))

-- ---- the cipher

pub cipher_len : (key block : List ℕ) → length (cipher key block) ≡ 16
unfolding cipher
cipher_len key block = refl

-- the last round adds words of the key to bytes of the S-box
last_are : (w s : List (List ℕ)) → AreWords w → AreBytes (bytes_of (add_round_key w 10 (shift_rows (sub_bytes s))))
unfolding add_round_key shift_rows sub_bytes
last_are w s all zero = xor_of_8 _ _ (s_box_lt _) (all 40 0)
last_are w s all (suc zero) = xor_of_8 _ _ (s_box_lt _) (all 40 1)
last_are w s all (suc (suc zero)) = xor_of_8 _ _ (s_box_lt _) (all 40 2)
last_are w s all (suc (suc (suc zero))) = xor_of_8 _ _ (s_box_lt _) (all 40 3)
last_are w s all (suc (suc (suc (suc zero)))) = xor_of_8 _ _ (s_box_lt _) (all 41 0)
last_are w s all (suc (suc (suc (suc (suc zero))))) = xor_of_8 _ _ (s_box_lt _) (all 41 1)
last_are w s all (suc (suc (suc (suc (suc (suc zero)))))) = xor_of_8 _ _ (s_box_lt _) (all 41 2)
last_are w s all (suc (suc (suc (suc (suc (suc (suc zero))))))) = xor_of_8 _ _ (s_box_lt _) (all 41 3)
last_are w s all (suc (suc (suc (suc (suc (suc (suc (suc zero)))))))) = xor_of_8 _ _ (s_box_lt _) (all 42 0)
last_are w s all (suc (suc (suc (suc (suc (suc (suc (suc (suc zero))))))))) = xor_of_8 _ _ (s_box_lt _) (all 42 1)
last_are w s all (suc (suc (suc (suc (suc (suc (suc (suc (suc (suc zero)))))))))) = xor_of_8 _ _ (s_box_lt _) (all 42 2)
last_are w s all (suc (suc (suc (suc (suc (suc (suc (suc (suc (suc (suc zero))))))))))) = xor_of_8 _ _ (s_box_lt _) (all 42 3)
last_are w s all (suc (suc (suc (suc (suc (suc (suc (suc (suc (suc (suc (suc zero)))))))))))) = xor_of_8 _ _ (s_box_lt _) (all 43 0)
last_are w s all (suc (suc (suc (suc (suc (suc (suc (suc (suc (suc (suc (suc (suc zero))))))))))))) = xor_of_8 _ _ (s_box_lt _) (all 43 1)
last_are w s all (suc (suc (suc (suc (suc (suc (suc (suc (suc (suc (suc (suc (suc (suc zero)))))))))))))) = xor_of_8 _ _ (s_box_lt _) (all 43 2)
last_are w s all (suc (suc (suc (suc (suc (suc (suc (suc (suc (suc (suc (suc (suc (suc (suc zero))))))))))))))) = xor_of_8 _ _ (s_box_lt _) (all 43 3)
last_are w s all (suc (suc (suc (suc (suc (suc (suc (suc (suc (suc (suc (suc (suc (suc (suc (suc i)))))))))))))))) = omega arith

pub cipher_are : (key block : List ℕ) → AreBytes key → AreBytes (cipher key block)
unfolding cipher
cipher_are key block are = last_are (key_expansion key) (rounds (key_expansion key) (state_from block) 9) (words_are key 40 (omega arith) are)
