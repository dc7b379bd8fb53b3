-- A table that stands in bytes is the only one of its shape that stands there.
use Rattle.std.proofs.Common.{◌≡◌, ◌<◌, ℕ, ◌+◌, ◌*◌, ◌/◌, ◌^◌, List, [], ◌∷◌, ◌++◌, length, get_or, take, drop, refl, sym, ap, ◌∙◌, arith}
use Rattle.std.proofs.lemmas.List.{get_or-take, get_or-drop}
use Rattle.std.proofs.lemmas.Nat.{pow-add, mul-add-lt, same_from_place}
use Rattle.byteorder.specs.Endian.{big_bytes, big_number}
use Rattle.byteorder.specs.Numbers.{big_number-reads_back, length-bytes_high_first}
use Rattle.field_rows.specs.Row.{Field, FitsRow, number_of, row, rows, width_of}
use Rattle.field_rows.specs.Place.{StandsAt, TableAt}
use Rattle.field_rows.specs.Laws.{IsWhole, shape, widths}
use Rattle.field_rows.proofs.Rows.{StandsAt-front, StandsAt-back}

same_width : (fs gs : List Field) → widths fs ≡ widths gs → width_of fs ≡ width_of gs
same_width [] [] e = refl
same_width [] (g ∷ gs) e = absurd cc
same_width (f ∷ fs) [] e = absurd cc
same_width (f ∷ fs) (g ∷ gs) e =
    let first : f.width ≡ g.width = cc in
    let others : widths fs ≡ widths gs = cc in
    omega (arith, first, same_width fs gs others)

number_of-lt : (fs : List Field) → FitsRow fs → number_of fs < 2 ^ width_of fs
number_of-lt [] fits = omega arith
number_of-lt (f ∷ []) fits = let same : f.width + 0 ≡ f.width = omega arith in rw same fits.0
number_of-lt (f ∷ g ∷ fs) fits =
    let rest = number_of-lt (g ∷ fs) fits.1 in
    let power : 2 ^ (f.width + width_of (g ∷ fs)) ≡ 2 ^ f.width * 2 ^ width_of (g ∷ fs) = pow-add 2 f.width (width_of (g ∷ fs)) in
    let below : f.value * 2 ^ width_of (g ∷ fs) + number_of (g ∷ fs) < 2 ^ width_of (g ∷ fs) * 2 ^ f.width = mul-add-lt f.value (2 ^ width_of (g ∷ fs)) (number_of (g ∷ fs)) (2 ^ f.width) fits.0 rest in
    rw power (omega (arith, below))

same_field : (f g : Field) → f.width ≡ g.width → f.value ≡ g.value → f ≡ g
same_field f g w v = ap (λ (n : ℕ). record { width = n; value = f.value }) w ∙ ap (λ (n : ℕ). record { width = g.width; value = n }) v

same_fields : (fs gs : List Field) → widths fs ≡ widths gs → FitsRow fs → FitsRow gs → number_of fs ≡ number_of gs → fs ≡ gs
same_fields [] [] e p q n = refl
same_fields [] (g ∷ gs) e p q n = absurd cc
same_fields (f ∷ fs) [] e p q n = absurd cc
same_fields (f ∷ []) (g ∷ []) e p q n = let w : f.width ≡ g.width = cc in ap (λ (x : Field). x ∷ []) (same_field f g w n)
same_fields (f ∷ []) (g ∷ g' ∷ gs) e p q n = absurd cc
same_fields (f ∷ f' ∷ fs) (g ∷ []) e p q n = absurd cc
same_fields (f ∷ f' ∷ fs) (g ∷ g' ∷ gs) e p q n =
    let w : f.width ≡ g.width = cc in
    let others : widths (f' ∷ fs) ≡ widths (g' ∷ gs) = cc in
    let wide : width_of (f' ∷ fs) ≡ width_of (g' ∷ gs) = same_width (f' ∷ fs) (g' ∷ gs) others in
    let power : 2 ^ width_of (g' ∷ gs) ≡ 2 ^ width_of (f' ∷ fs) = ap (λ (k : ℕ). 2 ^ k) (sym wide) in
    let below : number_of (g' ∷ gs) < 2 ^ width_of (f' ∷ fs) = omega (arith, number_of-lt (g' ∷ gs) q.1, power) in
    let both : f.value * 2 ^ width_of (f' ∷ fs) + number_of (f' ∷ fs) ≡ g.value * 2 ^ width_of (f' ∷ fs) + number_of (g' ∷ gs) = n ∙ ap (λ (k : ℕ). g.value * k + number_of (g' ∷ gs)) power in
    let parts = same_from_place f.value (number_of (f' ∷ fs)) g.value (number_of (g' ∷ gs)) (2 ^ width_of (f' ∷ fs)) (number_of-lt (f' ∷ fs) p.1) below both in
    let first : f ≡ g = same_field f g w parts.0 in
    let rest : f' ∷ fs ≡ g' ∷ gs = same_fields (f' ∷ fs) (g' ∷ gs) others p.1 q.1 parts.1 in
    ap (λ (x : Field). x ∷ f' ∷ fs) first ∙ ap (λ (xs : List Field). g ∷ xs) rest

same_number : (n a b : ℕ) → a < 256 ^ n → b < 256 ^ n → big_bytes n a ≡ big_bytes n b → a ≡ b
same_number n a b p q e =
    sym (big_number-reads_back n a [] p) ∙ ap (λ (t : List ℕ). big_number n (t ++ [])) e ∙ big_number-reads_back n b [] q

same_row : (fs gs : List Field) → widths fs ≡ widths gs → 2 ^ width_of fs ≡ 256 ^ (width_of fs / 8) → FitsRow fs → FitsRow gs → row fs ≡ row gs → fs ≡ gs
same_row fs gs e whole p q rows-same =
    let wide : width_of fs ≡ width_of gs = same_width fs gs e in
    let n = width_of fs / 8 in
    let fits-f : number_of fs < 256 ^ n = rw (← whole) (number_of-lt fs p) in
    let fits-g : number_of gs < 256 ^ n = rw (← whole, wide) (number_of-lt gs q) in
    let bytes-same : big_bytes n (number_of fs) ≡ big_bytes n (number_of gs) = rows-same ∙ ap (λ (k : ℕ). big_bytes (k / 8) (number_of gs)) (sym wide) in
    same_fields fs gs e p q (same_number n (number_of fs) (number_of gs) fits-f fits-g bytes-same)

-- the texts of one length that stand at one place are one
pub same_text : (bytes : List ℕ) (at : ℕ) (a b : List ℕ) → StandsAt bytes at a → StandsAt bytes at b → length a ≡ length b → a ≡ b
same_text bytes at a b p q len = sym p.read ∙ ap (λ (n : ℕ). take n (drop at bytes)) len ∙ q.read

-- the tables of one shape that stand at one place are one
pub same_table : (bytes : List ℕ) (at : ℕ) (t u : List (List Field)) → shape t ≡ shape u → IsWhole t → TableAt bytes at t → TableAt bytes at u → t ≡ u
same_table bytes at [] [] e whole p q = refl
same_table bytes at [] (gs ∷ u) e whole p q = absurd cc
same_table bytes at (fs ∷ t) [] e whole p q = absurd cc
same_table bytes at (fs ∷ t) (gs ∷ u) e whole p q =
    let first : widths fs ≡ widths gs = cc in
    let others : shape t ≡ shape u = cc in
    let len : length (row fs) ≡ length (row gs) =
    length-bytes_high_first (width_of fs / 8) (number_of fs) ∙ ap (λ (k : ℕ). k / 8) (same_width fs gs first) ∙ sym (length-bytes_high_first (width_of gs / 8) (number_of gs)) in
    let texts : row fs ≡ row gs = same_text bytes at (row fs) (row gs) (StandsAt-front bytes at (row fs) (rows t) p.text) (StandsAt-front bytes at (row gs) (rows u) q.text) len in
    let row-same : fs ≡ gs = same_row fs gs first whole.0 p.fits.0 q.fits.0 texts in
    let back : TableAt bytes (at + length (row fs)) t = record { fits = p.fits.1; text = StandsAt-back bytes at (row fs) (rows t) p.text } in
    let back' : TableAt bytes (at + length (row fs)) u = record { fits = q.fits.1; text = rw len (StandsAt-back bytes at (row gs) (rows u) q.text) } in
    let rest : t ≡ u = same_table bytes (at + length (row fs)) t u others whole.1 back back' in
    ap (λ (x : List Field). x ∷ t) row-same ∙ ap (λ (xs : List (List Field)). gs ∷ xs) rest

-- a byte of a text that stands somewhere
pub byte_of : (bytes : List ℕ) (at k : ℕ) (text : List ℕ) → StandsAt bytes at text → k < length text → get_or bytes (at + k) 0 ≡ get_or text k 0
byte_of bytes at k text stands inside =
    sym (get_or-drop at bytes k 0) ∙ sym (get_or-take (length text) (drop at bytes) k 0 inside) ∙ ap (λ (t : List ℕ). get_or t k 0) stands.read
