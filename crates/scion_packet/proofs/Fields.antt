-- An info field and a hop field: what is read at a place is spelled there, and what is spelled there is read.
use Rattle.std.proofs.Common.{◌≡◌, ◌≤◌, ◌<◌, ◌==◌, ℕ, ◌+◌, ◌*◌, ◌/◌, ◌%◌, ◌^◌, Bool, true, false, List, [], ◌∷◌, ◌++◌, length, take, drop, slice_index, get_or, refl, sym, ap, subst, ◌∙◌, arith, inl, inr, length-drop}
use Rattle.std.proofs.lemmas.Bool.{cases_eq, eq-eqb, ne_eqb}
use Rattle.std.proofs.lemmas.List.{get_or-drop, length-take-le}
use Rattle.byteorder.specs.Endian.{big_bytes}
use Rattle.byteorder.specs.Numbers.{big_from-lt}
use Rattle.field_rows.specs.Row.{Fits, field, row, rows}
use Rattle.field_rows.specs.Place.{IsBytes, StandsAt, number_at, text_at}
use Rattle.field_rows.proofs.Numbers.{bytes_of_number, number_of_bytes}
use Rattle.field_rows.proofs.Rows.{StandsAt-back, StandsAt-front, StandsAt-next, cell_stands}
use Rattle.field_rows.proofs.Unique.{byte_of}
use Rattle.scion_packet.specs.Path.{HopField, InfoField, IsHop, bit, hop_at, hop_text, info_at, info_table}

-- ---- flags

pub bit_of : (n : ℕ) → bit (n % 2 == 1) ≡ n % 2
bit_of n =
    elim (cases_eq (n % 2) 1) [
      | inl one ↦ rw (eq-eqb (n % 2) 1 one, one) refl
      | inr other ↦ let none : n % 2 ≡ 0 = omega arith in rw (ne_eqb (n % 2) 1 other, none) refl
    ]

pub flag_of : (b : Bool) (n : ℕ) → n ≡ bit b → (n == 1) ≡ b
flag_of false n is = ap (λ (k : ℕ). k == 1) is
flag_of true n is = ap (λ (k : ℕ). k == 1) is

pub bit_fits : (b : Bool) → bit b < 2
bit_fits false = omega arith
bit_fits true = omega arith

-- ---- texts

-- the bytes that are there stand there
pub text_stands : (bytes : List ℕ) (at n : ℕ) → at + n ≤ length bytes → StandsAt bytes at (text_at bytes at n)
text_stands bytes at n inside =
    let len : length (text_at bytes at n) ≡ n = length-take-le n (drop at bytes) (omega (arith, length-drop at bytes)) in
    record { read = rw len refl }

-- a number of n bytes has room in them
pub number-lt : (bytes : List ℕ) (at n : ℕ) → IsBytes bytes → number_at bytes at n < 256 ^ n
number-lt bytes at n are = big_from-lt 0 n (drop at bytes) (λ k. rw (get_or-drop at bytes k 0) (are (at + k)))

-- the first byte of a text
pub first_byte : (bytes : List ℕ) (at : ℕ) (text : List ℕ) → StandsAt bytes at text → 0 < length text → slice_index bytes at ≡ get_or text 0 0
first_byte bytes at text stands some =
    let place : at ≡ at + 0 = omega arith in
    ap (λ (i : ℕ). slice_index bytes i) place ∙ byte_of bytes at 0 text stands some

-- the number of a row of whole bytes that stands at a place, where another text may follow it
pub number_back : (bytes : List ℕ) (at n x : ℕ) (rest : List ℕ) → x < 256 ^ n → StandsAt bytes at (big_bytes n x ++ rest) → number_at bytes at n ≡ x
number_back bytes at n x rest below stands = number_of_bytes bytes at n x below (StandsAt-front bytes at (big_bytes n x) rest stands)

-- what stands after a text of known length
pub stands_after : (bytes : List ℕ) (at n : ℕ) (a b : List ℕ) → StandsAt bytes at (a ++ b) → at + length a ≡ n → StandsAt bytes n b
stands_after bytes at n a b stands place = subst (λ (k : ℕ). StandsAt bytes k b) place (StandsAt-back bytes at a b stands)

-- ---- an info field

pub record InfoSpelled (path : List ℕ) (at : ℕ) (i : InfoField) : Type 0 where
  pub text : StandsAt path at (rows (info_table i))
  pub fits : Fits (info_table i)

pub info_spelled : (path : List ℕ) (at : ℕ) → IsBytes path → at + 8 ≤ length path → slice_index path at / 2 % 2 ≡ 0 → InfoSpelled path at (info_at path at)
info_spelled path at are inside clear =
    let b = slice_index path at in
    let b-fits : b < 256 = are at in
    let along-is : bit (b % 2 == 1) ≡ b % 2 = bit_of b in
    let along-fits : bit (b % 2 == 1) < 2 = bit_fits (b % 2 == 1) in
    let flags : b / 4 * 4 + (0 * 2 + bit (b % 2 == 1)) ≡ b = omega arith in
    let reserved-fits : slice_index path (at + 1) < 256 = are (at + 1) in
    let id-fits : number_at path (at + 2) 2 < 65536 = number-lt path (at + 2) 2 are in
    let time-fits : number_at path (at + 4) 4 < 4294967296 = number-lt path (at + 4) 4 are in
    let r0 : StandsAt path at (row (field 6 (b / 4) ∷ field 1 0 ∷ field 1 (bit (b % 2 == 1)) ∷ [])) = cell_stands path _ at b-fits flags (omega arith) in
    let r1 : StandsAt path (at + 1) (row (field 8 (slice_index path (at + 1)) ∷ [])) = cell_stands path _ (at + 1) reserved-fits refl (omega arith) in
    let r2 : StandsAt path (at + 2) (big_bytes 2 (number_at path (at + 2) 2)) = bytes_of_number path (at + 2) 2 are (omega arith) in
    let r4 : StandsAt path (at + 4) (big_bytes 4 (number_at path (at + 4) 4)) = bytes_of_number path (at + 4) 4 are (omega arith) in
    let end : StandsAt path (at + 8) [] = record { read = refl } in
    record {
      text = StandsAt-next path at (at + 1) _ _ r0 (StandsAt-next path (at + 1) (at + 2) _ _ r1 (StandsAt-next path (at + 2) (at + 4) _ _ r2 (StandsAt-next path (at + 4) (at + 8) _ _ r4 end (omega arith)) (omega arith)) (omega arith)) (omega arith);
      fits = ((omega arith, (omega arith, (along-fits, tt))), ((reserved-fits, tt), ((id-fits, tt), ((time-fits, tt), tt))));
    }

-- info fields with the same fields
pub same_info : (i j : InfoField) → i.reserved_flags ≡ j.reserved_flags → i.along ≡ j.along → i.reserved ≡ j.reserved → i.segment_id ≡ j.segment_id → i.timestamp ≡ j.timestamp → i ≡ j
same_info i j e0 e1 e2 e3 e4 =
    ap (λ (x : ℕ). record i { reserved_flags = x }) e0
    ∙ ap (λ (x : Bool). record i { reserved_flags = j.reserved_flags; along = x }) e1
    ∙ ap (λ (x : ℕ). record i { reserved_flags = j.reserved_flags; along = j.along; reserved = x }) e2
    ∙ ap (λ (x : ℕ). record j { segment_id = x; timestamp = i.timestamp }) e3
    ∙ ap (λ (x : ℕ). record j { timestamp = x }) e4

pub info_back : (path : List ℕ) (at : ℕ) (i : InfoField) → InfoSpelled path at i → info_at path at ≡ i
info_back path at i spelled =
    let text = rows (info_table i) in
    let stands : StandsAt path at text = spelled.text in
    let along-fits : bit i.along < 2 = bit_fits i.along in
    let flags-fit : i.reserved_flags < 64 = spelled.fits.0.0 in
    let reserved-fits : i.reserved < 256 = spelled.fits.1.0.0 in
    let here : slice_index path at ≡ get_or text 0 0 = first_byte path at text stands (omega arith) in
    let next : slice_index path (at + 1) ≡ get_or text 1 0 = byte_of path at 1 text stands (omega arith) in
    let flags : slice_index path at / 4 ≡ i.reserved_flags = omega arith in
    let along : (slice_index path at % 2 == 1) ≡ i.along = flag_of i.along (slice_index path at % 2) (omega arith) in
    let reserved : slice_index path (at + 1) ≡ i.reserved = omega arith in
    let front = row (field 6 i.reserved_flags ∷ field 1 0 ∷ field 1 (bit i.along) ∷ []) ++ row (field 8 i.reserved ∷ []) in
    let from2 : StandsAt path (at + 2) (row (field 16 i.segment_id ∷ []) ++ (row (field 32 i.timestamp ∷ []) ++ [])) = stands_after path at (at + 2) front _ stands refl in
    let from4 : StandsAt path (at + 4) (row (field 32 i.timestamp ∷ []) ++ []) = stands_after path (at + 2) (at + 4) (row (field 16 i.segment_id ∷ [])) _ from2 (omega arith) in
    let id : number_at path (at + 2) 2 ≡ i.segment_id = number_back path (at + 2) 2 i.segment_id _ spelled.fits.1.1.0.0 from2 in
    let time : number_at path (at + 4) 4 ≡ i.timestamp = number_back path (at + 4) 4 i.timestamp _ spelled.fits.1.1.1.0.0 from4 in
    same_info (info_at path at) i flags along reserved id time

-- the peering bit of an info field that stands there is clear
pub info_clear : (path : List ℕ) (at : ℕ) (i : InfoField) → InfoSpelled path at i → slice_index path at / 2 % 2 ≡ 0
info_clear path at i spelled =
    let text = rows (info_table i) in
    let along-fits : bit i.along < 2 = bit_fits i.along in
    let flags-fit : i.reserved_flags < 64 = spelled.fits.0.0 in
    let here : slice_index path at ≡ get_or text 0 0 = first_byte path at text spelled.text (omega arith) in
    omega arith

-- ---- a hop field

pub record HopSpelled (path : List ℕ) (at : ℕ) (h : HopField) : Type 0 where
  pub text : StandsAt path at (hop_text h)
  pub lawful : IsHop h

pub hop_spelled : (path : List ℕ) (at : ℕ) → IsBytes path → at + 12 ≤ length path → HopSpelled path at (hop_at path at)
hop_spelled path at are inside =
    let b = slice_index path at in
    let b-fits : b < 256 = are at in
    let ingress-is : bit (b / 2 % 2 == 1) ≡ b / 2 % 2 = bit_of (b / 2) in
    let ingress-fits : bit (b / 2 % 2 == 1) < 2 = bit_fits (b / 2 % 2 == 1) in
    let egress-is : bit (b % 2 == 1) ≡ b % 2 = bit_of b in
    let egress-fits : bit (b % 2 == 1) < 2 = bit_fits (b % 2 == 1) in
    let flags : b / 4 * 4 + (bit (b / 2 % 2 == 1) * 2 + bit (b % 2 == 1)) ≡ b = omega arith in
    let expiry-fits : slice_index path (at + 1) < 256 = are (at + 1) in
    let in-fits : number_at path (at + 2) 2 < 65536 = number-lt path (at + 2) 2 are in
    let out-fits : number_at path (at + 4) 2 < 65536 = number-lt path (at + 4) 2 are in
    let r0 : StandsAt path at (row (field 6 (b / 4) ∷ field 1 (bit (b / 2 % 2 == 1)) ∷ field 1 (bit (b % 2 == 1)) ∷ [])) = cell_stands path _ at b-fits flags (omega arith) in
    let r1 : StandsAt path (at + 1) (row (field 8 (slice_index path (at + 1)) ∷ [])) = cell_stands path _ (at + 1) expiry-fits refl (omega arith) in
    let r2 : StandsAt path (at + 2) (big_bytes 2 (number_at path (at + 2) 2)) = bytes_of_number path (at + 2) 2 are (omega arith) in
    let r4 : StandsAt path (at + 4) (big_bytes 2 (number_at path (at + 4) 2)) = bytes_of_number path (at + 4) 2 are (omega arith) in
    let r6 : StandsAt path (at + 6) (text_at path (at + 6) 6) = text_stands path (at + 6) 6 (omega arith) in
    record {
      text = StandsAt-next path at (at + 1) _ _ r0 (StandsAt-next path (at + 1) (at + 2) _ _ r1 (StandsAt-next path (at + 2) (at + 4) _ _ r2 (StandsAt-next path (at + 4) (at + 6) _ _ r4 r6 (omega arith)) (omega arith)) (omega arith)) (omega arith);
      lawful = record {
        fits = ((omega arith, (ingress-fits, (egress-fits, tt))), ((expiry-fits, tt), ((in-fits, tt), ((out-fits, tt), tt))));
        mac_len = length-take-le 6 (drop (at + 6) path) (omega (arith, length-drop (at + 6) path));
      };
    }

-- hop fields with the same fields
pub same_hop : (h g : HopField) → h.reserved_flags ≡ g.reserved_flags → h.ingress_alert ≡ g.ingress_alert → h.egress_alert ≡ g.egress_alert → h.expiry ≡ g.expiry
    → h.construction_ingress ≡ g.construction_ingress → h.construction_egress ≡ g.construction_egress → h.mac ≡ g.mac → h ≡ g
same_hop h g e0 e1 e2 e3 e4 e5 e6 =
    ap (λ (x : ℕ). record h { reserved_flags = x }) e0
    ∙ ap (λ (x : Bool). record h { reserved_flags = g.reserved_flags; ingress_alert = x }) e1
    ∙ ap (λ (x : Bool). record h { reserved_flags = g.reserved_flags; ingress_alert = g.ingress_alert; egress_alert = x }) e2
    ∙ ap (λ (x : ℕ). record g { expiry = x; construction_ingress = h.construction_ingress; construction_egress = h.construction_egress; mac = h.mac }) e3
    ∙ ap (λ (x : ℕ). record g { construction_ingress = x; construction_egress = h.construction_egress; mac = h.mac }) e4
    ∙ ap (λ (x : ℕ). record g { construction_egress = x; mac = h.mac }) e5
    ∙ ap (λ (x : List ℕ). record g { mac = x }) e6

pub hop_back : (path : List ℕ) (at : ℕ) (h : HopField) → HopSpelled path at h → hop_at path at ≡ h
hop_back path at h spelled =
    let text = hop_text h in
    let fits = spelled.lawful.fits in
    let stands : StandsAt path at text = spelled.text in
    let ingress-fits : bit h.ingress_alert < 2 = bit_fits h.ingress_alert in
    let egress-fits : bit h.egress_alert < 2 = bit_fits h.egress_alert in
    let flags-fit : h.reserved_flags < 64 = fits.0.0 in
    let expiry-fits : h.expiry < 256 = fits.1.0.0 in
    let here : slice_index path at ≡ get_or text 0 0 = first_byte path at text stands (omega arith) in
    let next : slice_index path (at + 1) ≡ get_or text 1 0 = byte_of path at 1 text stands (omega arith) in
    let flags : slice_index path at / 4 ≡ h.reserved_flags = omega arith in
    let ingress : (slice_index path at / 2 % 2 == 1) ≡ h.ingress_alert = flag_of h.ingress_alert (slice_index path at / 2 % 2) (omega arith) in
    let egress : (slice_index path at % 2 == 1) ≡ h.egress_alert = flag_of h.egress_alert (slice_index path at % 2) (omega arith) in
    let expiry : slice_index path (at + 1) ≡ h.expiry = omega arith in
    let front = row (field 6 h.reserved_flags ∷ field 1 (bit h.ingress_alert) ∷ field 1 (bit h.egress_alert) ∷ []) ++ row (field 8 h.expiry ∷ []) in
    let from2 : StandsAt path (at + 2) (big_bytes 2 h.construction_ingress ++ (big_bytes 2 h.construction_egress ++ h.mac)) = stands_after path at (at + 2) front _ stands refl in
    let from4 : StandsAt path (at + 4) (big_bytes 2 h.construction_egress ++ h.mac) = stands_after path (at + 2) (at + 4) (big_bytes 2 h.construction_ingress) _ from2 (omega arith) in
    let from6 : StandsAt path (at + 6) h.mac = stands_after path (at + 4) (at + 6) (big_bytes 2 h.construction_egress) _ from4 (omega arith) in
    let in-is : number_at path (at + 2) 2 ≡ h.construction_ingress = number_back path (at + 2) 2 h.construction_ingress _ fits.1.1.0.0 from2 in
    let out-is : number_at path (at + 4) 2 ≡ h.construction_egress = number_back path (at + 4) 2 h.construction_egress _ fits.1.1.1.0.0 from4 in
    let mac : text_at path (at + 6) 6 ≡ h.mac = ap (λ (n : ℕ). take n (drop (at + 6) path)) (sym spelled.lawful.mac_len) ∙ from6.read in
    same_hop (hop_at path at) h flags ingress egress expiry in-is out-is mac
