-- The same of datagrams and packets on a path of one hop.
use Rattle.std.proofs.Common.{◌≡◌, ◌-◌, ◌/◌, ◌%◌, ℕ, None, List, ◌++◌, length, take, drop, slice_index, refl, sym, ap, subst, ◌∙◌, arith, length-append, length-drop}
use Rattle.std.proofs.lemmas.Bool.{eq-eqb, eqb-true}
use Rattle.std.proofs.lemmas.List.{length-take-le, take_all}
use Rattle.field_rows.specs.Row.{rows}
use Rattle.field_rows.specs.Place.{IsBytes, StandsAt, text_at}
use Rattle.field_rows.proofs.Rows.{StandsAt-front, StandsAt-next}
use Rattle.scion_packet.specs.Header.{HeaderFields, SpellsHeader, front_end, header_end, header_fault_as, header_tests_as, one_hop_path}
use Rattle.scion_packet.specs.OneHop.{OneHopPacket, OneHopPath, SpellsOneHop, SpellsOneHopPath, one_hop_fault, one_hop_packet_of, one_hop_path_fault, one_hop_path_of, one_hop_path_tests, one_hop_spelling, one_hop_text}
use Rattle.scion_packet.specs.Packet.{Packet, Spells, path_bytes}
use Rattle.scion_packet.specs.Path.{HopField, InfoField, hop_text, info_table}
use Rattle.scion_packet.proofs.Fields.{HopSpelled, InfoSpelled, hop_back, hop_spelled, info_back, info_clear, info_spelled, stands_after, text_stands}
use Rattle.scion_packet.proofs.HeaderBack.{header_only, header_passes_back}
use Rattle.scion_packet.proofs.HeaderSpelled.{header_type}
use Rattle.scion_packet.proofs.PacketLaws as packet
use Rattle.scion_packet.proofs.PacketLaws.{part-are, parts_read, parts_spelled, text_written_over}
use Rattle.scion_packet.proofs.PathBack.{whole_stands}
use Rattle.scion_packet.proofs.Tests.{all_pass, none_fails, parts_pass, pass_parts}

-- ---- the path

-- What the path's tests show.
pub record OneHopPasses (path : List ℕ) : Type 0 where
  pub whole : length path ≡ 32
  pub clear : slice_index path 0 / 2 % 2 ≡ 0
  pub along : slice_index path 0 % 2 ≡ 1

pub one_hop_passes : (path : List ℕ) → one_hop_path_fault path ≡ None → OneHopPasses path
one_hop_passes path none =
    let all = all_pass (one_hop_path_tests path) none in
    record { whole = eqb-true _ _ all.0; clear = eqb-true _ _ all.1.0; along = eqb-true _ _ all.1.1.0 }

pub one_hop_path_spelled : (path : List ℕ) → IsBytes path → one_hop_path_fault path ≡ None → SpellsOneHopPath path (one_hop_path_of path)
one_hop_path_spelled path are none =
    let passes = one_hop_passes path none in
    let p = one_hop_path_of path in
    let info : InfoSpelled path 0 p.info = info_spelled path 0 are (omega (arith, passes.whole)) passes.clear in
    let first : HopSpelled path 8 p.first = hop_spelled path 8 are (omega (arith, passes.whole)) in
    let second : StandsAt path 20 p.second = text_stands path 20 12 (omega (arith, passes.whole)) in
    let hop-len : length (hop_text p.first) ≡ 12 = omega (arith, first.lawful.mac_len) in
    let second-len : length p.second ≡ 12 = length-take-le 12 (drop 20 path) (omega (arith, length-drop 20 path, passes.whole)) in
    let hops : StandsAt path 8 (hop_text p.first ++ p.second) = StandsAt-next path 8 20 (hop_text p.first) p.second first.text second (omega (arith, hop-len)) in
    let all : StandsAt path 0 (one_hop_text p) = StandsAt-next path 0 8 (rows (info_table p.info)) (hop_text p.first ++ p.second) info.text hops refl in
    let len : length (one_hop_text p) ≡ length path = omega (arith, length-append (hop_text p.first) p.second, hop-len, second-len, passes.whole) in
    record {
      lawful = record { info = info.fits; along = eq-eqb _ _ passes.along; first = first.lawful; second_len = second-len };
      text = sym (take_all (length (one_hop_text p)) path (omega (arith, len))) ∙ all.read;
    }

-- The parts of the bytes of a path.
record OneHopParts (path : List ℕ) (p : OneHopPath) : Type 0 where
  info : InfoSpelled path 0 p.info
  first : HopSpelled path 8 p.first
  second : text_at path 20 12 ≡ p.second
  whole : length path ≡ 32

one_hop_parts : (path : List ℕ) (p : OneHopPath) → SpellsOneHopPath path p → OneHopParts path p
one_hop_parts path p spells =
    let lawful = spells.lawful in
    let info = rows (info_table p.info) in
    let first = hop_text p.first in
    let hop-len : length first ≡ 12 = omega (arith, lawful.first.mac_len) in
    let stands : StandsAt path 0 (info ++ (first ++ p.second)) = whole_stands path (one_hop_text p) spells.text in
    let from8 : StandsAt path 8 (first ++ p.second) = stands_after path 0 8 info (first ++ p.second) stands refl in
    let from20 : StandsAt path 20 p.second = stands_after path 8 20 first p.second from8 (omega (arith, hop-len)) in
    record {
      info = record { text = StandsAt-front path 0 info (first ++ p.second) stands; fits = lawful.info };
      first = record { text = StandsAt-front path 8 first p.second from8; lawful = lawful.first };
      second = ap (λ (n : ℕ). take n (drop 20 path)) (sym lawful.second_len) ∙ from20.read;
      whole = omega (arith, ap length spells.text, length-append first p.second, hop-len, lawful.second_len);
    }

pub one_hop_path_passes : (path : List ℕ) (p : OneHopPath) → SpellsOneHopPath path p → one_hop_path_fault path ≡ None
one_hop_path_passes path p spells =
    let parts = one_hop_parts path p spells in
    let same = info_back path 0 p.info parts.info in
    none_fails (one_hop_path_tests path) (
      eq-eqb _ _ parts.whole,
      (eq-eqb _ _ (info_clear path 0 p.info parts.info), (ap (λ (i : InfoField). i.along) same ∙ spells.lawful.along, tt)),
    )

same_path : (p q : OneHopPath) → p.info ≡ q.info → p.first ≡ q.first → p.second ≡ q.second → p ≡ q
same_path p q e0 e1 e2 =
    ap (λ (x : InfoField). record p { info = x }) e0
    ∙ ap (λ (x : HopField). record q { first = x; second = p.second }) e1
    ∙ ap (λ (x : List ℕ). record q { second = x }) e2

pub one_hop_path_only : (path : List ℕ) (p : OneHopPath) → SpellsOneHopPath path p → p ≡ one_hop_path_of path
one_hop_path_only path p spells =
    let parts = one_hop_parts path p spells in
    same_path p (one_hop_path_of path) (sym (info_back path 0 p.info parts.info)) (sym (hop_back path 8 p.first parts.first)) (sym parts.second)

-- ---- the packet

-- the tests of the header and of the path
pub one_hop_both_pass : (bytes : List ℕ) → one_hop_fault bytes ≡ None → (header_fault_as one_hop_path bytes ≡ None) × (one_hop_path_fault (path_bytes bytes) ≡ None)
one_hop_both_pass bytes none = parts_pass (header_tests_as one_hop_path bytes) (one_hop_path_tests (path_bytes bytes)) none

pub one_hop_pass_both : (bytes : List ℕ) → header_fault_as one_hop_path bytes ≡ None → one_hop_path_fault (path_bytes bytes) ≡ None → one_hop_fault bytes ≡ None
one_hop_pass_both bytes header path = pass_parts (header_tests_as one_hop_path bytes) (one_hop_path_tests (path_bytes bytes)) header path

pub one_hop_spelled : (bytes : List ℕ) → IsBytes bytes → one_hop_fault bytes ≡ None → SpellsOneHop bytes (one_hop_packet_of bytes)
one_hop_spelled bytes are none =
    let both = one_hop_both_pass bytes none in
    let path = path_bytes bytes in
    let p = one_hop_path_spelled path (part-are bytes (front_end bytes) (header_end bytes - front_end bytes) are) both.1 in
    let parts = parts_spelled one_hop_path bytes (one_hop_text (one_hop_path_of path)) are both.0 p.text in
    record {
      lawful = record { header = parts.header; path_type = header_type one_hop_path bytes both.0; path = p.lawful; whole = parts.whole };
      text = parts.text;
    }

-- The parts of a datagram that spells a packet.
record PacketParts (bytes : List ℕ) (p : OneHopPacket) : Type 0 where
  header : SpellsHeader bytes p.header
  path : SpellsOneHopPath (path_bytes bytes) p.path
  payload : drop (header_end bytes) bytes ≡ p.payload

packet_parts : (bytes : List ℕ) (p : OneHopPacket) → SpellsOneHop bytes p → PacketParts bytes p
packet_parts bytes p spells =
    let lawful = spells.lawful in
    let parts = parts_read bytes p.header (one_hop_text p.path) p.payload lawful.header lawful.whole spells.text in
    record { header = parts.header; path = record { lawful = lawful.path; text = parts.path_is }; payload = parts.payload_is }

pub one_hop_packet_passes : (bytes : List ℕ) (p : OneHopPacket) → SpellsOneHop bytes p → one_hop_fault bytes ≡ None
one_hop_packet_passes bytes p spells =
    let parts = packet_parts bytes p spells in
    let header : header_fault_as one_hop_path bytes ≡ None = subst (λ (t : ℕ). header_fault_as t bytes ≡ None) spells.lawful.path_type (header_passes_back bytes p.header parts.header) in
    one_hop_pass_both bytes header (one_hop_path_passes (path_bytes bytes) p.path parts.path)

same_packet : (p q : OneHopPacket) → p.header ≡ q.header → p.path ≡ q.path → p.payload ≡ q.payload → p ≡ q
same_packet p q e0 e1 e2 =
    ap (λ (x : HeaderFields). record p { header = x }) e0
    ∙ ap (λ (x : OneHopPath). record q { path = x; payload = p.payload }) e1
    ∙ ap (λ (x : List ℕ). record q { payload = x }) e2

pub one_hop_only : (bytes : List ℕ) (p : OneHopPacket) → SpellsOneHop bytes p → p ≡ one_hop_packet_of bytes
one_hop_only bytes p spells =
    let parts = packet_parts bytes p spells in
    same_packet p (one_hop_packet_of bytes) (header_only bytes p.header parts.header) (one_hop_path_only (path_bytes bytes) p.path parts.path) (sym parts.payload)

pub one_hop_written_over : (bytes new path : List ℕ) (q : OneHopPath) → IsBytes bytes → one_hop_fault bytes ≡ None → path ≡ one_hop_text q
    → new ≡ take (front_end bytes) bytes ++ (path ++ drop (header_end bytes) bytes) → new ≡ one_hop_spelling (record (one_hop_packet_of bytes) { path = q })
one_hop_written_over bytes new path q are none is new-is =
    text_written_over one_hop_path bytes new path (one_hop_text q) are (one_hop_both_pass bytes none).0 is new-is

-- ---- the two kinds

-- a datagram has one header, and it one path type
pub kinds_are_apart : (bytes : List ℕ) (p : Packet) (q : OneHopPacket) → Spells bytes p → SpellsOneHop bytes q → ⊥
kinds_are_apart bytes p q one other =
    let p-header : SpellsHeader bytes p.header = (packet.packet_parts bytes p one).header in
    let q-header : SpellsHeader bytes q.header = (packet_parts bytes q other).header in
    let same : p.header ≡ q.header = header_only bytes p.header p-header ∙ sym (header_only bytes q.header q-header) in
    let type : p.header.path_type ≡ q.header.path_type = ap (λ (h : HeaderFields). h.path_type) same in
    omega (arith, type, one.lawful.path_type, other.lawful.path_type)
