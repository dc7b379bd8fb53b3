-- A datagram that passes the header's tests begins with the header that is read from it.
use Rattle.std.proofs.Common.{◌≡◌, ◌≤◌, ◌<◌, ℕ, ◌+◌, ◌*◌, ◌/◌, ◌%◌, ◌^◌, None, List, [], ◌∷◌, length, drop, slice_index, refl, sym, subst, ◌∙◌, arith, length-drop}
use Rattle.std.proofs.lemmas.Bool.{eqb-true, leb-true}
use Rattle.std.proofs.lemmas.List.{length-take-le}
use Rattle.byteorder.specs.Endian.{big_bytes}
use Rattle.field_rows.specs.Row.{Fits, field, row, rows}
use Rattle.field_rows.specs.Place.{IsBytes, StandsAt, number_at}
use Rattle.field_rows.proofs.Numbers.{bytes_of_number}
use Rattle.field_rows.proofs.Rows.{StandsAt-next, cell_stands}
use Rattle.scion_packet.specs.Header.{HeaderFields, HostAddress, IsAddress, SpellsHeader, address_of, common_table, domain_table, front_end, header_end, header_fault_as, header_of, header_tests_as, host_code, host_kinds, host_len}
use Rattle.scion_packet.proofs.Fields.{number-lt, text_stands}
use Rattle.scion_packet.proofs.Tests.{all_pass}

-- What the header's tests show, where its path is to be of type t.
pub record HeaderPasses (t : ℕ) (bytes : List ℕ) : Type 0 where
  pub long : 12 ≤ length bytes
  pub version : slice_index bytes 0 / 16 ≡ 0
  pub path_type : slice_index bytes 8 ≡ t
  pub covers : front_end bytes ≤ header_end bytes
  pub whole : header_end bytes ≤ length bytes

pub header_passes : (t : ℕ) (bytes : List ℕ) → header_fault_as t bytes ≡ None → HeaderPasses t bytes
header_passes t bytes none =
    let all = all_pass (header_tests_as t bytes) none in
    record {
      long = leb-true _ _ all.0;
      version = eqb-true _ _ all.1.0;
      path_type = eqb-true _ _ all.1.1.0;
      covers = leb-true _ _ all.1.1.1.0;
      whole = leb-true _ _ all.1.1.1.1.0;
    }

-- ---- an address

record AddressSpelled (bytes : List ℕ) (domain host code : ℕ) (a : HostAddress) : Type 0 where
  text : StandsAt bytes domain (rows (domain_table a))
  host_text : StandsAt bytes host a.host
  lawful : IsAddress a
  code_is : host_code a ≡ code
  len : length a.host ≡ host_len code

address_spelled : (bytes : List ℕ) (domain host bits : ℕ) → IsBytes bytes → domain + 8 ≤ length bytes → host + host_len (bits % 4) ≤ length bytes
    → AddressSpelled bytes domain host (bits % 4) (address_of bytes domain host bits)
address_spelled bytes domain host bits are room host-room =
    let code = bits % 4 in
    let a = address_of bytes domain host bits in
    let isd-fits : number_at bytes domain 2 < 65536 = number-lt bytes domain 2 are in
    let as-fits : number_at bytes (domain + 2) 6 < 281474976710656 = number-lt bytes (domain + 2) 6 are in
    let len : length a.host ≡ host_len code = length-take-le (host_len code) (drop host bytes) (omega (arith, length-drop host bytes)) in
    let code-is : host_code a ≡ code = omega (arith, len) in
    let end : StandsAt bytes (domain + 8) [] = record { read = refl } in
    let as-stands = StandsAt-next bytes (domain + 2) (domain + 8) (big_bytes 6 (number_at bytes (domain + 2) 6)) [] (bytes_of_number bytes (domain + 2) 6 are (omega arith)) end (omega arith) in
    record {
      text = StandsAt-next bytes domain (domain + 2) (big_bytes 2 (number_at bytes domain 2)) _ (bytes_of_number bytes domain 2 are (omega arith)) as-stands (omega arith);
      host_text = text_stands bytes host (host_len code) host-room;
      lawful = (((isd-fits, tt), ((as-fits, tt), tt)), omega (arith, len, code-is));
      code_is = code-is;
      len = len;
    }

-- ---- the common header

record CommonSpelled (bytes : List ℕ) (h : HeaderFields) : Type 0 where
  text : StandsAt bytes 0 (rows (common_table h))
  fits : Fits (common_table h)

-- the numbers of the common header as the tests and the places give them
common_spelled : (t : ℕ) (bytes : List ℕ) (h : HeaderFields) → IsBytes bytes → HeaderPasses t bytes
    → h.traffic_class ≡ number_at bytes 0 4 / 2 ^ 20 % 2 ^ 8 → h.flow_id ≡ number_at bytes 0 4 % 2 ^ 20
    → h.next_header ≡ slice_index bytes 4 → h.header_length ≡ slice_index bytes 5 → h.payload_length ≡ number_at bytes 6 2 → h.path_type ≡ slice_index bytes 8 → h.reserved ≡ number_at bytes 10 2
    → h.destination.kind ≡ host_kinds bytes / 64 → host_code h.destination ≡ host_kinds bytes / 16 % 4 → h.source.kind ≡ host_kinds bytes / 4 % 4 → host_code h.source ≡ host_kinds bytes % 4
    → CommonSpelled bytes h
common_spelled t bytes h are passes class-is flow-is next-is len-is payload-is type-is reserved-is dk-is dc-is sk-is sc-is =
    let long = passes.long in
    let w = number_at bytes 0 4 in
    let b = slice_index bytes 9 in
    let b-fits : b < 256 = are 9 in
    let next-fits : slice_index bytes 4 < 256 = are 4 in
    let len-fits : slice_index bytes 5 < 256 = are 5 in
    let type-fits : slice_index bytes 8 < 256 = are 8 in
    let b1 : slice_index bytes 1 < 256 = are 1 in
    let b2 : slice_index bytes 2 < 256 = are 2 in
    let b3 : slice_index bytes 3 < 256 = are 3 in
    let small : w < 268435456 = omega (arith, passes.version) in
    let payload-fits : number_at bytes 6 2 < 65536 = number-lt bytes 6 2 are in
    let reserved-fits : number_at bytes 10 2 < 65536 = number-lt bytes 10 2 are in
    let word-is : 0 * 268435456 + (h.traffic_class * 1048576 + h.flow_id) ≡ w = omega arith in
    let kinds-is : h.destination.kind * 64 + (host_code h.destination * 16 + (h.source.kind * 4 + host_code h.source)) ≡ b = omega arith in
    let word : StandsAt bytes 0 (big_bytes 4 w) = bytes_of_number bytes 0 4 are (omega arith) in
    let r0 : StandsAt bytes 0 (row (field 4 0 ∷ field 8 h.traffic_class ∷ field 20 h.flow_id ∷ [])) = subst (λ (n : ℕ). StandsAt bytes 0 (big_bytes 4 n)) (sym word-is) word in
    let r1 : StandsAt bytes 4 (row (field 8 h.next_header ∷ [])) = cell_stands bytes h.next_header 4 next-fits next-is (omega arith) in
    let r2 : StandsAt bytes 5 (row (field 8 h.header_length ∷ [])) = cell_stands bytes h.header_length 5 len-fits len-is (omega arith) in
    let r3 : StandsAt bytes 6 (row (field 16 h.payload_length ∷ [])) = subst (λ (n : ℕ). StandsAt bytes 6 (big_bytes 2 n)) (sym payload-is) (bytes_of_number bytes 6 2 are (omega arith)) in
    let r4 : StandsAt bytes 8 (row (field 8 h.path_type ∷ [])) = cell_stands bytes h.path_type 8 type-fits type-is (omega arith) in
    let r5 : StandsAt bytes 9 (row (field 2 h.destination.kind ∷ field 2 (host_code h.destination) ∷ field 2 h.source.kind ∷ field 2 (host_code h.source) ∷ [])) = cell_stands bytes _ 9 b-fits kinds-is (omega arith) in
    let r6 : StandsAt bytes 10 (row (field 16 h.reserved ∷ [])) = subst (λ (n : ℕ). StandsAt bytes 10 (big_bytes 2 n)) (sym reserved-is) (bytes_of_number bytes 10 2 are (omega arith)) in
    let end : StandsAt bytes 12 [] = record { read = refl } in
    let s6 = StandsAt-next bytes 10 12 _ _ r6 end refl in
    let s5 = StandsAt-next bytes 9 10 _ _ r5 s6 refl in
    let s4 = StandsAt-next bytes 8 9 _ _ r4 s5 refl in
    let s3 = StandsAt-next bytes 6 8 _ _ r3 s4 refl in
    let s2 = StandsAt-next bytes 5 6 _ _ r2 s3 refl in
    let s1 = StandsAt-next bytes 4 5 _ _ r1 s2 refl in
    record {
      text = StandsAt-next bytes 0 4 _ _ r0 s1 refl;
      fits = (
        (omega arith, (omega arith, (omega arith, tt))),
        (
          (omega arith, tt),
          (
            (omega arith, tt),
            (
              (omega arith, tt),
              (
                (omega arith, tt),
                ((omega arith, (omega arith, (omega arith, (omega arith, tt)))), ((omega arith, tt), tt)),
              ),
            ),
          ),
        ),
      );
    }

pub header_spelled : (t : ℕ) (bytes : List ℕ) → IsBytes bytes → header_fault_as t bytes ≡ None → SpellsHeader bytes (header_of bytes)
header_spelled t bytes are none =
    let passes = header_passes t bytes none in
    let b = host_kinds bytes in
    let b-fits : b < 256 = are 9 in
    let h = header_of bytes in
    let dc = b / 16 % 4 in
    let sc : b % 16 % 4 ≡ b % 4 = omega arith in
    let place = 28 + host_len dc in
    let d = address_spelled bytes 12 28 (b / 16) are (omega (arith, passes.covers, passes.whole)) (omega (arith, passes.covers, passes.whole)) in
    let s = address_spelled bytes 20 place (b % 16) are (omega (arith, passes.covers, passes.whole)) (omega (arith, passes.covers, passes.whole, sc)) in
    let common = common_spelled t bytes h are passes refl refl refl refl refl refl refl (omega arith) d.code_is (omega arith) (s.code_is ∙ sc) in
    let hosts = StandsAt-next bytes 28 place h.destination.host h.source.host d.host_text s.host_text (omega (arith, d.len)) in
    let from20 = StandsAt-next bytes 20 28 (rows (domain_table h.source)) _ s.text hosts refl in
    let from12 = StandsAt-next bytes 12 20 (rows (domain_table h.destination)) _ d.text from20 refl in
    record {
      lawful = record { common = common.fits; destination = d.lawful; source = s.lawful; covers = omega (arith, passes.covers, d.len, s.len, sc) };
      front = StandsAt-next bytes 0 12 (rows (common_table h)) _ common.text from12 refl;
      whole = passes.whole;
    }

pub header_type : (t : ℕ) (bytes : List ℕ) → header_fault_as t bytes ≡ None → (header_of bytes).path_type ≡ t
header_type t bytes none = (header_passes t bytes none).path_type
