-- Writes into a part of a buffer, and over a part of a text.
use Rattle.std.proofs.Common.{◌≡◌, ◌≤◌, ℕ, ◌+◌, ◌-◌, List, ◌++◌, length, take, drop, sym, subst, ap, ap₂, ◌∙◌, arith, length-drop}
use Rattle.std.proofs.lemmas.List.{drop-drop, length-take-le, take_all, take-take}
use Rattle.field_rows.specs.Place.{Puts, StandsAt}
use Rattle.field_rows.proofs.Rows.{Puts-before, Puts-after, Puts-length, Puts-stands, StandsAt-back, StandsAt-front, StandsAt-then}
use borrow.Rule.Slice.PartMut.{put_mid}

-- a text that fills a part of a buffer
pub puts_part : (xs ys text : List ℕ) (a e : ℕ) → a ≤ e → e ≤ length xs → Puts (take (e - a) (drop a xs)) ys 0 text → e - a ≡ length text
    → Puts xs (put_mid a (e - a) xs ys) a text
puts_part xs ys text a e order inside puts fills =
    let part = take (e - a) (drop a xs) in
    let part-len : length part ≡ e - a = length-take-le (e - a) (drop a xs) (omega (arith, length-drop a xs)) in
    let ys-len : length ys ≡ length text = Puts-length part ys 0 text puts ∙ part-len ∙ fills in
    let ys-is : ys ≡ text = sym (take_all (length text) ys (omega (arith, ys-len))) ∙ (Puts-stands part ys 0 text puts).read in
    let rest : drop (e - a) (drop a xs) ≡ drop (a + length text) xs = drop-drop (e - a) a xs ∙ ap (λ (n : ℕ). drop (a + n) xs) fills in
    record {
      parts = ap₂ (λ (t u : List ℕ). take a xs ++ (t ++ u)) ys-is rest;
      room = omega (arith, fills);
    }

-- what stands before the place of a write stands there afterwards, and so does what stands after it
stands_before : (old new : List ℕ) (at n : ℕ) (text : List ℕ) → StandsAt old 0 text → length text ≤ n → take n new ≡ take n old → StandsAt new 0 text
stands_before old new at n text stands inside same =
    record {
      read = sym (take-take (length text) n new inside) ∙ ap (λ (t : List ℕ). take (length text) t) same ∙ take-take (length text) n old inside ∙ stands.read;
    }

stands_after : (old new : List ℕ) (at : ℕ) (text : List ℕ) → StandsAt old at text → drop at new ≡ drop at old → StandsAt new at text
stands_after old new at text stands same = record { read = ap (λ (t : List ℕ). take (length text) t) same ∙ stands.read }

-- a middle part written over
pub written_over : (old new a b z c : List ℕ) (at : ℕ) → StandsAt old 0 (a ++ (z ++ c)) → Puts old new at b → at ≡ length a → length z ≡ length b
    → StandsAt new 0 (a ++ (b ++ c))
written_over old new a b z c at stands puts at-is same-len =
    let front = stands_before old new 0 at a (StandsAt-front old 0 a (z ++ c) stands) (omega (arith, at-is)) (Puts-before old new at b puts) in
    let middle = subst (λ (n : ℕ). StandsAt new n b) at-is (Puts-stands old new at b puts) in
    let zero : 0 + length a ≡ length a = omega arith in
    let later : StandsAt old (length a) (z ++ c) = subst (λ (n : ℕ). StandsAt old n (z ++ c)) zero (StandsAt-back old 0 a (z ++ c) stands) in
    let back : StandsAt old (length a + length z) c = StandsAt-back old (length a) z c later in
    let place : length a + length z ≡ at + length b = omega (arith, at-is, same-len) in
    let moved : StandsAt old (at + length b) c = subst (λ (n : ℕ). StandsAt old n c) place back in
    let kept = stands_after old new (at + length b) c moved (Puts-after old new at b puts) in
    let last : length a + length b ≡ at + length b = omega (arith, at-is) in
    let there : StandsAt new (length a + length b) c = subst (λ (n : ℕ). StandsAt new n c) (sym last) kept in
    let rest : StandsAt new (length a) (b ++ c) = StandsAt-then new (length a) b c middle there in
    StandsAt-then new 0 a (b ++ c) front (subst (λ (n : ℕ). StandsAt new n (b ++ c)) (sym zero) rest)
