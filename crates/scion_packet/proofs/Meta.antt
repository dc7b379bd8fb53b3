-- The meta word of a path: the cursor, the reserved bits and the three lengths.
use Rattle.std.proofs.Common.{◌≡◌, ◌≤◌, ◌<◌, ℕ, ◌+◌, ◌*◌, ◌/◌, ◌%◌, ◌^◌, List, [], ◌∷◌, length, sym, ap, subst, ◌∙◌, refl, arith}
use Rattle.byteorder.specs.Endian.{big_bytes}
use Rattle.field_rows.specs.Row.{field, rows}
use Rattle.field_rows.specs.Place.{IsBytes, StandsAt, number_at}
use Rattle.field_rows.proofs.Numbers.{bytes_of_number, number_of_bytes}
use Rattle.scion_packet.specs.Path.{PathFields, cursor_row, hop_number, hops_in, meta_field, meta_table}
use Rattle.scion_packet.proofs.Fields.{number-lt}

-- the word of these six numbers
abbrev pub word_of : ℕ → ℕ → ℕ → ℕ → ℕ → ℕ → ℕ
word_of info hop reserved a b c = (info * 64 + hop) * 16777216 + (reserved * 262144 + (a * 4096 + (b * 64 + c)))

same_four : (a b c d a' b' c' d' : ℕ) → a ≡ a' → b ≡ b' → c ≡ c' → d ≡ d' → a ∷ b ∷ c ∷ d ∷ [] ≡ a' ∷ b' ∷ c' ∷ d' ∷ []
same_four a b c d a' b' c' d' e0 e1 e2 e3 = cc

-- the two rows of the meta word are its four bytes
pub meta_bytes : (info hop reserved a b c : ℕ) → info < 4 → hop < 64 → reserved < 64 → a < 64 → b < 64 → c < 64
    → rows (cursor_row info hop ∷ (field 6 reserved ∷ field 6 a ∷ field 6 b ∷ field 6 c ∷ []) ∷ []) ≡ big_bytes 4 (word_of info hop reserved a b c)
meta_bytes info hop reserved a b c f0 f1 f2 f3 f4 f5 =
    let low = reserved * 262144 + (a * 4096 + (b * 64 + c)) in
    let word = word_of info hop reserved a b c in
    let small : low < 16777216 = omega arith in
    let e3 : (info * 64 + hop) % 256 ≡ word / 16777216 % 256 = omega arith in
    let e2 : low / 65536 % 256 ≡ word / 65536 % 256 = omega arith in
    let e1 : low / 256 % 256 ≡ word / 256 % 256 = omega arith in
    let e0 : low % 256 ≡ word % 256 = omega arith in
    same_four _ _ _ _ _ _ _ _ e3 e2 e1 e0

-- a word is that of its six fields
pub word_parts : (w : ℕ) → w < 4294967296 → word_of (w / 2 ^ 30 % 2 ^ 2) (w / 2 ^ 24 % 2 ^ 6) (w / 2 ^ 18 % 2 ^ 6) (w / 2 ^ 12 % 2 ^ 6) (w / 2 ^ 6 % 2 ^ 6) (w / 2 ^ 0 % 2 ^ 6) ≡ w
word_parts w below = omega arith

-- The six numbers are read in the word.
pub record MetaRead (path : List ℕ) (info hop reserved a b c : ℕ) : Type 0 where
  pub info_is : meta_field path 30 2 ≡ info
  pub hop_is : meta_field path 24 6 ≡ hop
  pub reserved_is : meta_field path 18 6 ≡ reserved
  pub first_is : meta_field path 12 6 ≡ a
  pub second_is : meta_field path 6 6 ≡ b
  pub third_is : meta_field path 0 6 ≡ c

pub meta_back : (path : List ℕ) (info hop reserved a b c : ℕ) → info < 4 → hop < 64 → reserved < 64 → a < 64 → b < 64 → c < 64
    → StandsAt path 0 (rows (cursor_row info hop ∷ (field 6 reserved ∷ field 6 a ∷ field 6 b ∷ field 6 c ∷ []) ∷ [])) → MetaRead path info hop reserved a b c
meta_back path info hop reserved a b c f0 f1 f2 f3 f4 f5 stands =
    let w = number_at path 0 4 in
    let bytes : StandsAt path 0 (big_bytes 4 (word_of info hop reserved a b c)) = subst (λ (t : List ℕ). StandsAt path 0 t) (meta_bytes info hop reserved a b c f0 f1 f2 f3 f4 f5) stands in
    let word : w ≡ word_of info hop reserved a b c = number_of_bytes path 0 4 (word_of info hop reserved a b c) (omega arith) bytes in
    record { info_is = omega arith; hop_is = omega arith; reserved_is = omega arith; first_is = omega arith; second_is = omega arith; third_is = omega arith }

-- the rows of the six numbers that are read stand there
pub meta_spelled : (path : List ℕ) → IsBytes path → 4 ≤ length path
    → StandsAt path 0 (rows (cursor_row (meta_field path 30 2) (meta_field path 24 6) ∷ (field 6 (meta_field path 18 6) ∷ field 6 (meta_field path 12 6) ∷ field 6 (meta_field path 6 6) ∷ field 6 (meta_field path 0 6) ∷ []) ∷ []))
meta_spelled path are inside =
    let w = number_at path 0 4 in
    let below : w < 4294967296 = number-lt path 0 4 are in
    let bytes : StandsAt path 0 (big_bytes 4 w) = bytes_of_number path 0 4 are (omega arith) in
    subst (λ (t : List ℕ). StandsAt path 0 t)
    (ap (big_bytes 4) (sym (word_parts w below)) ∙ sym (meta_bytes _ _ _ _ _ _ (omega arith) (omega arith) (omega arith) (omega arith) (omega arith) (omega arith))) bytes

same_meta : (i h r a b c i' h' r' a' b' c' : ℕ) → i ≡ i' → h ≡ h' → r ≡ r' → a ≡ a' → b ≡ b' → c ≡ c'
    → cursor_row i h ∷ (field 6 r ∷ field 6 a ∷ field 6 b ∷ field 6 c ∷ []) ∷ [] ≡ cursor_row i' h' ∷ (field 6 r' ∷ field 6 a' ∷ field 6 b' ∷ field 6 c' ∷ []) ∷ []
same_meta i h r a b c i' h' r' a' b' c' e0 e1 e2 e3 e4 e5 = rw (e0, e1, e2, e3, e4, e5) refl

-- the rows of a path's own meta word are those of its six numbers
pub meta_rows : (p : PathFields) (info hop reserved a b c : ℕ) → p.place.segment ≡ info → hop_number p.segments p.place ≡ hop → p.reserved ≡ reserved
    → hops_in p.segments 0 ≡ a → hops_in p.segments 1 ≡ b → hops_in p.segments 2 ≡ c
    → meta_table p ≡ cursor_row info hop ∷ (field 6 reserved ∷ field 6 a ∷ field 6 b ∷ field 6 c ∷ []) ∷ []
meta_rows p info hop reserved a b c e0 e1 e2 e3 e4 e5 =
    same_meta p.place.segment (hop_number p.segments p.place) p.reserved (hops_in p.segments 0) (hops_in p.segments 1) (hops_in p.segments 2) info hop reserved a b c e0 e1 e2 e3 e4 e5
