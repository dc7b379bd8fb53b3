-- A datagram that begins with a header passes the header's tests, and the header is the one that is read.
use Rattle.std.proofs.Common.{◌≡◌, ◌≤◌, ◌<◌, ℕ, ◌+◌, ◌*◌, ◌/◌, ◌%◌, ◌^◌, None, List, [], ◌∷◌, ◌++◌, length, take, drop, slice_index, get_or, refl, sym, ap, ◌∙◌, arith}
use Rattle.std.proofs.lemmas.Bool.{eq-eqb, le-leb}
use Rattle.field_rows.specs.Row.{field, row, rows}
use Rattle.field_rows.specs.Place.{StandsAt, number_at, text_at}
use Rattle.field_rows.proofs.Rows.{StandsAt-front}
use Rattle.field_rows.proofs.Unique.{byte_of}
use Rattle.scion_packet.specs.Header.{HeaderFields, HostAddress, IsAddress, SpellsHeader, address_of, common_table, domain_table, front_end, front_len, header_end, header_fault_as, header_of, header_tests_as, host_code, host_kinds, host_len}
use Rattle.scion_packet.proofs.Fields.{stands_after, number_back}
use Rattle.scion_packet.proofs.Tests.{none_fails}

-- What the places of the common header and the texts after it hold.
record HeaderRead (bytes : List ℕ) (h : HeaderFields) : Type 0 where
  word : number_at bytes 0 4 ≡ 0 * 268435456 + (h.traffic_class * 1048576 + h.flow_id)
  version : slice_index bytes 0 / 16 ≡ 0
  class_fits : h.traffic_class < 256
  flow_fits : h.flow_id < 1048576
  next : slice_index bytes 4 ≡ h.next_header
  len : slice_index bytes 5 ≡ h.header_length
  payload : number_at bytes 6 2 ≡ h.payload_length
  path_type : slice_index bytes 8 ≡ h.path_type
  destination_kind : host_kinds bytes / 64 ≡ h.destination.kind
  destination_code : host_kinds bytes / 16 % 4 ≡ host_code h.destination
  source_kind : host_kinds bytes / 4 % 4 ≡ h.source.kind
  source_code : host_kinds bytes % 4 ≡ host_code h.source
  reserved : number_at bytes 10 2 ≡ h.reserved

common_read : (bytes : List ℕ) (h : HeaderFields) → SpellsHeader bytes h → HeaderRead bytes h
common_read bytes h spells =
    let fits = spells.lawful.common in
    let text = rows (common_table h) in
    let all = spells.front in
    let stands : StandsAt bytes 0 text = StandsAt-front bytes 0 text _ all in
    let class-fits : h.traffic_class < 256 = fits.0.1.0 in
    let flow-fits : h.flow_id < 1048576 = fits.0.1.1.0 in
    let next-fits : h.next_header < 256 = fits.1.0.0 in
    let len-fits : h.header_length < 256 = fits.1.1.0.0 in
    let payload-fits : h.payload_length < 65536 = fits.1.1.1.0.0 in
    let type-fits : h.path_type < 256 = fits.1.1.1.1.0.0 in
    let kinds = fits.1.1.1.1.1.0 in
    let dk-fits : h.destination.kind < 4 = kinds.0 in
    let dc-fits : host_code h.destination < 4 = kinds.1.0 in
    let sk-fits : h.source.kind < 4 = kinds.1.1.0 in
    let sc-fits : host_code h.source < 4 = kinds.1.1.1.0 in
    let reserved-fits : h.reserved < 65536 = fits.1.1.1.1.1.1.0.0 in
    let byte0 : slice_index bytes 0 ≡ get_or text 0 0 = byte_of bytes 0 0 text stands (omega arith) in
    let byte4 : slice_index bytes 4 ≡ get_or text 4 0 = byte_of bytes 0 4 text stands (omega arith) in
    let byte5 : slice_index bytes 5 ≡ get_or text 5 0 = byte_of bytes 0 5 text stands (omega arith) in
    let byte8 : slice_index bytes 8 ≡ get_or text 8 0 = byte_of bytes 0 8 text stands (omega arith) in
    let byte9 : slice_index bytes 9 ≡ get_or text 9 0 = byte_of bytes 0 9 text stands (omega arith) in
    let r0 = row (field 4 0 ∷ field 8 h.traffic_class ∷ field 20 h.flow_id ∷ []) in
    let r1 = row (field 8 h.next_header ∷ []) in
    let r2 = row (field 8 h.header_length ∷ []) in
    let r3 = row (field 16 h.payload_length ∷ []) in
    let r4 = row (field 8 h.path_type ∷ []) in
    let r5 = row (field 2 h.destination.kind ∷ field 2 (host_code h.destination) ∷ field 2 h.source.kind ∷ field 2 (host_code h.source) ∷ []) in
    let r6 = row (field 16 h.reserved ∷ []) in
    let front6 : List ℕ = r0 ++ (r1 ++ r2) in
    let from6 : StandsAt bytes 6 (r3 ++ (r4 ++ (r5 ++ (r6 ++ [])))) = stands_after bytes 0 6 front6 (r3 ++ (r4 ++ (r5 ++ (r6 ++ [])))) stands refl in
    let from10 : StandsAt bytes 10 (r6 ++ []) = stands_after bytes 6 10 (r3 ++ (r4 ++ r5)) (r6 ++ []) from6 refl in
    record {
      word = number_back bytes 0 4 (0 * 268435456 + (h.traffic_class * 1048576 + h.flow_id)) (r1 ++ (r2 ++ (r3 ++ (r4 ++ (r5 ++ (r6 ++ [])))))) (omega arith) stands;
      version = omega arith;
      class_fits = class-fits;
      flow_fits = flow-fits;
      next = omega arith;
      len = omega arith;
      payload = number_back bytes 6 2 h.payload_length _ payload-fits from6;
      path_type = omega arith;
      destination_kind = omega arith;
      destination_code = omega arith;
      source_kind = omega arith;
      source_code = omega arith;
      reserved = number_back bytes 10 2 h.reserved [] reserved-fits from10;
    }

pub header_passes_back : (bytes : List ℕ) (h : HeaderFields) → SpellsHeader bytes h → header_fault_as h.path_type bytes ≡ None
header_passes_back bytes h spells =
    let read = common_read bytes h spells in
    let lawful = spells.lawful in
    let covers : front_end bytes ≤ header_end bytes =
    omega (arith, read.len, read.destination_code, read.source_code, lawful.covers, lawful.destination.1, lawful.source.1) in
    let whole : header_end bytes ≤ length bytes = omega (arith, read.len, spells.whole) in
    none_fails (header_tests_as h.path_type bytes) (
      le-leb _ _ (omega (arith, covers, whole)),
      (eq-eqb _ _ read.version, (eq-eqb _ _ read.path_type, (le-leb _ _ covers, (le-leb _ _ whole, tt)))),
    )

-- ---- the header is read

same_address : (a b : HostAddress) → a.isd ≡ b.isd → a.autonomous_system ≡ b.autonomous_system → a.kind ≡ b.kind → a.host ≡ b.host → a ≡ b
same_address a b e0 e1 e2 e3 =
    ap (λ (x : ℕ). record a { isd = x }) e0
    ∙ ap (λ (x : ℕ). record a { isd = b.isd; autonomous_system = x }) e1
    ∙ ap (λ (x : ℕ). record b { kind = x; host = a.host }) e2
    ∙ ap (λ (x : List ℕ). record b { host = x }) e3

same_header : (h g : HeaderFields) → h.traffic_class ≡ g.traffic_class → h.flow_id ≡ g.flow_id → h.next_header ≡ g.next_header → h.header_length ≡ g.header_length
    → h.payload_length ≡ g.payload_length → h.path_type ≡ g.path_type → h.reserved ≡ g.reserved → h.destination ≡ g.destination → h.source ≡ g.source → h ≡ g
same_header h g e0 e1 e2 e3 e4 e5 e6 e7 e8 =
    ap (λ (x : ℕ). record h { traffic_class = x }) e0
    ∙ ap (λ (x : ℕ). record h { traffic_class = g.traffic_class; flow_id = x }) e1
    ∙ ap (λ (x : ℕ). record h { traffic_class = g.traffic_class; flow_id = g.flow_id; next_header = x }) e2
    ∙ ap (λ (x : ℕ). record h { traffic_class = g.traffic_class; flow_id = g.flow_id; next_header = g.next_header; header_length = x }) e3
    ∙ ap (λ (x : ℕ). record g { payload_length = x; path_type = h.path_type; reserved = h.reserved; destination = h.destination; source = h.source }) e4
    ∙ ap (λ (x : ℕ). record g { path_type = x; reserved = h.reserved; destination = h.destination; source = h.source }) e5
    ∙ ap (λ (x : ℕ). record g { reserved = x; destination = h.destination; source = h.source }) e6
    ∙ ap (λ (x : HostAddress). record g { destination = x; source = h.source }) e7
    ∙ ap (λ (x : HostAddress). record g { source = x }) e8

-- an address whose domain and host stand at these places is read there
address_read : (bytes : List ℕ) (a : HostAddress) (domain host bits : ℕ) (rest : List ℕ) → IsAddress a → StandsAt bytes domain (rows (domain_table a) ++ rest)
    → StandsAt bytes host a.host → bits / 4 ≡ a.kind → bits % 4 ≡ host_code a → a ≡ address_of bytes domain host bits
address_read bytes a domain host bits rest lawful stands host-stands kind-is code-is =
    let r0 = row (field 16 a.isd ∷ []) in
    let r1 = row (field 48 a.autonomous_system ∷ []) in
    let from2 : StandsAt bytes (domain + 2) (r1 ++ rest) = stands_after bytes domain (domain + 2) r0 (r1 ++ rest) stands refl in
    let isd : number_at bytes domain 2 ≡ a.isd = number_back bytes domain 2 a.isd (r1 ++ rest) lawful.0.0.0 stands in
    let as_number : number_at bytes (domain + 2) 6 ≡ a.autonomous_system = number_back bytes (domain + 2) 6 a.autonomous_system rest lawful.0.1.0.0 from2 in
    let len : length a.host ≡ host_len (bits % 4) = omega (arith, lawful.1, code-is) in
    let text : text_at bytes host (host_len (bits % 4)) ≡ a.host = ap (λ (n : ℕ). take n (drop host bytes)) (sym len) ∙ host-stands.read in
    same_address a (address_of bytes domain host bits) (sym isd) (sym as_number) (sym kind-is) (sym text)

pub header_only : (bytes : List ℕ) (h : HeaderFields) → SpellsHeader bytes h → h ≡ header_of bytes
header_only bytes h spells =
    let read = common_read bytes h spells in
    let lawful = spells.lawful in
    let b = host_kinds bytes in
    let common = rows (common_table h) in
    let d = rows (domain_table h.destination) in
    let s = rows (domain_table h.source) in
    let dh = h.destination.host in
    let sh = h.source.host in
    let place = 28 + host_len (b / 16 % 4) in
    let from12 : StandsAt bytes 12 (d ++ (s ++ (dh ++ sh))) = stands_after bytes 0 12 common _ spells.front refl in
    let from20 : StandsAt bytes 20 (s ++ (dh ++ sh)) = stands_after bytes 12 20 d _ from12 refl in
    let from28 : StandsAt bytes 28 (dh ++ sh) = stands_after bytes 20 28 s _ from20 refl in
    let last : StandsAt bytes place sh = stands_after bytes 28 place dh sh from28 (omega (arith, lawful.destination.1, read.destination_code)) in
    let w-class : h.traffic_class ≡ number_at bytes 0 4 / 2 ^ 20 % 2 ^ 8 = omega (arith, read.word, read.class_fits, read.flow_fits) in
    let w-flow : h.flow_id ≡ number_at bytes 0 4 % 2 ^ 20 = omega (arith, read.word, read.class_fits, read.flow_fits) in
    let sk : b % 16 / 4 ≡ h.source.kind = omega (arith, read.source_kind) in
    let sc : b % 16 % 4 ≡ host_code h.source = omega (arith, read.source_code) in
    let dk : b / 16 / 4 ≡ h.destination.kind = omega (arith, read.destination_kind) in
    same_header h (header_of bytes) w-class w-flow (sym read.next) (sym read.len) (sym read.payload) (sym read.path_type) (sym read.reserved)
    (address_read bytes h.destination 12 28 (b / 16) _ lawful.destination from12 (StandsAt-front bytes 28 dh sh from28) dk read.destination_code)
    (address_read bytes h.source 20 place (b % 16) _ lawful.source from20 last sk sc)

-- where the headers of the datagram end
pub front_is : (bytes : List ℕ) (h : HeaderFields) → SpellsHeader bytes h → (front_end bytes ≡ front_len h) × (header_end bytes ≡ 4 * h.header_length)
front_is bytes h spells =
    let read = common_read bytes h spells in
    let lawful = spells.lawful in (
      omega (arith, read.destination_code, read.source_code, lawful.destination.1, lawful.source.1),
      omega (arith, read.len),
    )
