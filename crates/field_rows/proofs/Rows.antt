-- Texts that stand one after the other, and writes one after the other.
use Rattle.std.proofs.Common.{◌≡◌, ◌≤◌, ◌<◌, ℕ, suc, ◌+◌, ◌%◌, List, [], ◌∷◌, ◌++◌, length, get_or, take, drop, refl, sym, ap, ◌∙◌, append_assoc, arith, length-append, length-drop, take-add}
use Rattle.std.proofs.lemmas.List.{take-append-drop, length-take-le, take_at, drop_at, drop-drop, drop-take, take-take, drop_more, get_or-take, get_or-drop}
use Rattle.byteorder.specs.Endian.{big_bytes}
use Rattle.field_rows.specs.Row.{Field, Fits, row, rows}
use Rattle.field_rows.specs.Place.{Puts, StandsAt, TableAt}

-- a byte that is there stands at its place
pub byte-stands : (bytes : List ℕ) (at : ℕ) → at < length bytes → StandsAt bytes at (get_or bytes at 0 ∷ [])
byte-stands bytes at inside =
    record { read = rw (drop_more bytes at 0 inside) refl }

-- the byte at the place where a text stands is the first one of the text
pub first_byte-stands : (bytes : List ℕ) (at x : ℕ) (text : List ℕ) → StandsAt bytes at (x ∷ text) → get_or bytes at 0 ≡ x
first_byte-stands bytes at x text stands =
    let first : get_or (take (suc (length text)) (drop at bytes)) 0 0 ≡ x = ap (λ (t : List ℕ). get_or t 0 0) stands.read in
    let inside : 0 < suc (length text) = omega arith in
    let here : get_or (drop at bytes) 0 0 ≡ get_or bytes (at + 0) 0 = get_or-drop at bytes 0 0 in
    let there : get_or (take (suc (length text)) (drop at bytes)) 0 0 ≡ get_or (drop at bytes) 0 0 = get_or-take (suc (length text)) (drop at bytes) 0 0 inside in
    let place : at ≡ at + 0 = omega arith in
    ap (λ (i : ℕ). get_or bytes i 0) place ∙ sym here ∙ sym there ∙ first

pub StandsAt-then : (bytes : List ℕ) (at : ℕ) (a b : List ℕ) → StandsAt bytes at a → StandsAt bytes (at + length a) b → StandsAt bytes at (a ++ b)
StandsAt-then bytes at a b first second =
    let moved : drop (length a) (drop at bytes) ≡ drop (at + length a) bytes = drop-drop (length a) at bytes in
    let split : take (length a + length b) (drop at bytes) ≡ take (length a) (drop at bytes) ++ take (length b) (drop (length a) (drop at bytes)) = take-add (length a) (length b) (drop at bytes) in
    record { read = rw (length-append a b, split, moved, first.read, second.read) refl }

pub Puts-then : (old mid new : List ℕ) (at : ℕ) (a b : List ℕ) → Puts old mid at a → Puts mid new (at + length a) b → Puts old new at (a ++ b)
Puts-then old mid new at a b first second =
    let p = take at old in
    let q = drop (at + length a) old in
    let p-len : length p ≡ at = length-take-le at old (omega (arith, first.room)) in
    let mid-is : mid ≡ (p ++ a) ++ q = first.parts ∙ sym (append_assoc p a q) in
    let front-len : length (p ++ a) ≡ at + length a = length-append p a ∙ ap (λ (n : ℕ). n + length a) p-len in
    let front : take (at + length a) mid ≡ p ++ a = rw mid-is (take_at (p ++ a) q (at + length a) front-len) in
    let back : drop (at + length a) mid ≡ q = rw mid-is (drop_at (p ++ a) q (at + length a) front-len) in
    let rest : drop (at + length a + length b) mid ≡ drop (at + length a + length b) old =
    sym (drop-drop (length b) (at + length a) mid) ∙ ap (λ (t : List ℕ). drop (length b) t) back ∙ drop-drop (length b) (at + length a) old in
    let same : at + length (a ++ b) ≡ at + length a + length b = omega (arith, length-append a b) in
    let lens : length mid ≡ length old = omega (arith, ap length mid-is, length-append (p ++ a) q, front-len, length-drop (at + length a) old, first.room) in
    record {
      parts = second.parts ∙ rw (front, rest, same) (append_assoc p a (b ++ drop (at + length a + length b) old) ∙ ap (λ (t : List ℕ). p ++ t) (sym (append_assoc a b (drop (at + length a + length b) old))));
      room = rw same (omega (arith, second.room, lens));
    }

-- the same, where the second place is known by an equation
pub StandsAt-next : (bytes : List ℕ) (at place : ℕ) (a b : List ℕ) → StandsAt bytes at a → StandsAt bytes place b → place ≡ at + length a → StandsAt bytes at (a ++ b)
StandsAt-next bytes at place a b first second place-is = StandsAt-then bytes at a b first (rw (← place-is) second)

-- a byte as a row of its own
pub cell_stands : (bytes : List ℕ) (x at : ℕ) → get_or bytes at 0 < 256 → x ≡ get_or bytes at 0 → at < length bytes → StandsAt bytes at (big_bytes 1 x)
cell_stands bytes x at fits e inside =
    let same : x % 256 ≡ get_or bytes at 0 = omega arith in
    rw same (byte-stands bytes at inside)

-- what stands there of the first of two texts, and of the second
pub StandsAt-front : (bytes : List ℕ) (at : ℕ) (a b : List ℕ) → StandsAt bytes at (a ++ b) → StandsAt bytes at a
StandsAt-front bytes at a b both =
    let shorter : length a ≤ length (a ++ b) = omega (arith, length-append a b) in
    let fronts : take (length a) (take (length (a ++ b)) (drop at bytes)) ≡ take (length a) (drop at bytes) = take-take (length a) (length (a ++ b)) (drop at bytes) shorter in
    let front : take (length a) (a ++ b) ≡ a = take_at a b (length a) refl in
    record { read = sym fronts ∙ ap (λ (t : List ℕ). take (length a) t) both.read ∙ front }

pub StandsAt-back : (bytes : List ℕ) (at : ℕ) (a b : List ℕ) → StandsAt bytes at (a ++ b) → StandsAt bytes (at + length a) b
StandsAt-back bytes at a b both =
    let both-is : take (length a + length b) (drop at bytes) ≡ a ++ b = ap (λ (n : ℕ). take n (drop at bytes)) (sym (length-append a b)) ∙ both.read in
    let backs : drop (length a) (take (length a + length b) (drop at bytes)) ≡ take (length b) (drop (length a) (drop at bytes)) = drop-take (length a) (length b) (drop at bytes) in
    let back : drop (length a) (a ++ b) ≡ b = drop_at a b (length a) refl in
    let moved : drop (length a) (drop at bytes) ≡ drop (at + length a) bytes = drop-drop (length a) at bytes in
    record { read = ap (λ (t : List ℕ). take (length b) t) (sym moved) ∙ sym backs ∙ ap (λ (t : List ℕ). drop (length a) t) both-is ∙ back }

-- the same, where the second place is known by an equation
pub Puts-next : (old mid new : List ℕ) (at place : ℕ) (a b : List ℕ) → Puts old mid at a → Puts mid new place b → place ≡ at + length a → Puts old new at (a ++ b)
Puts-next old mid new at place a b first second place-is = Puts-then old mid new at a b first (rw (← place-is) second)

-- nothing is written everywhere
pub Puts-nil : (old : List ℕ) (at : ℕ) → at ≤ length old → Puts old old at []
Puts-nil old at inside =
    let same : at + 0 ≡ at = omega arith in
    record { parts = rw same (sym (take-append-drop at old)); room = rw same inside }

-- what was written stands there
pub Puts-stands : (old new : List ℕ) (at : ℕ) (text : List ℕ) → Puts old new at text → StandsAt new at text
Puts-stands old new at text puts =
    let front-len : length (take at old) ≡ at = length-take-le at old (omega (arith, puts.room)) in
    let dropped : drop at new ≡ text ++ drop (at + length text) old = rw puts.parts (drop_at (take at old) (text ++ drop (at + length text) old) at front-len) in
    record { read = rw dropped (take_at text (drop (at + length text) old) (length text) refl) }

-- what stands after the text that was written is as before
pub Puts-after : (old new : List ℕ) (at : ℕ) (text : List ℕ) → Puts old new at text → drop (at + length text) new ≡ drop (at + length text) old
Puts-after old new at text puts =
    let p = take at old ++ text in
    let q = drop (at + length text) old in
    let front-len : length (take at old) ≡ at = length-take-le at old (omega (arith, puts.room)) in
    let len : length p ≡ at + length text = length-append (take at old) text ∙ ap (λ (n : ℕ). n + length text) front-len in
    let new-is : new ≡ p ++ q = puts.parts ∙ sym (append_assoc (take at old) text q) in
    rw new-is (drop_at p q (at + length text) len)

-- what stands before the text that was written is as before
pub Puts-before : (old new : List ℕ) (at : ℕ) (text : List ℕ) → Puts old new at text → take at new ≡ take at old
Puts-before old new at text puts =
    let front-len : length (take at old) ≡ at = length-take-le at old (omega (arith, puts.room)) in
    rw puts.parts (take_at (take at old) (text ++ drop (at + length text) old) at front-len)

-- a write keeps the length
pub Puts-length : (old new : List ℕ) (at : ℕ) (text : List ℕ) → Puts old new at text → length new ≡ length old
Puts-length old new at text puts =
    let front-len : length (take at old) ≡ at = length-take-le at old (omega (arith, puts.room)) in
    let rest = drop (at + length text) old in
    omega (arith, ap (λ (t : List ℕ). length t) puts.parts, length-append (take at old) (text ++ rest), length-append text rest, front-len, length-drop (at + length text) old, puts.room)

-- ---- tables one after the other

pub rows-append : (t u : List (List Field)) → rows (t ++ u) ≡ rows t ++ rows u
rows-append [] u = refl
rows-append (fs ∷ t) u = ap (λ (x : List ℕ). row fs ++ x) (rows-append t u) ∙ sym (append_assoc (row fs) (rows t) (rows u))

pub Fits-append : (t u : List (List Field)) → Fits t → Fits u → Fits (t ++ u)
Fits-append [] u a b = b
Fits-append (fs ∷ t) u a b = (a.0, Fits-append t u a.1 b)

pub TableAt-then : (bytes : List ℕ) (at : ℕ) (t u : List (List Field)) → TableAt bytes at t → TableAt bytes (at + length (rows t)) u → TableAt bytes at (t ++ u)
TableAt-then bytes at t u first second = record {
  fits = Fits-append t u first.fits second.fits;
  text = rw (rows-append t u) (StandsAt-then bytes at (rows t) (rows u) first.text second.text);
}

-- nothing stands everywhere
pub TableAt-nil : (bytes : List ℕ) (at : ℕ) → TableAt bytes at []
TableAt-nil bytes at = record { fits = tt; text = record { read = refl } }
