-- A datagram that passes all tests spells the packet that is read from it, and no other. What holds of paths of any kind is
-- said of their bytes alone.
use Rattle.std.proofs.Common.{◌≡◌, ◌≤◌, ◌-◌, ◌*◌, ℕ, ◌+◌, None, List, ◌++◌, length, take, drop, slice_index, refl, sym, ap, ap₂, subst, ◌∙◌, arith, inl, inr, length-append, length-drop}
use Rattle.std.proofs.lemmas.Bool.{cases_lt}
use Rattle.std.proofs.lemmas.List.{drop-drop, drop_at, get_or-drop, get_or-take, get_or_past, length-take, length-take-le, take-append-drop, take_at}
use Rattle.field_rows.specs.Place.{IsBytes, StandsAt, text_at}
use Rattle.field_rows.proofs.Rows.{StandsAt-front}
use Rattle.scion_packet.specs.Header.{HeaderFields, IsHeader, SpellsHeader, front_end, front_len, header_end, header_fault, header_fault_as, header_of, header_tests, header_text, scion_path}
use Rattle.scion_packet.specs.Path.{PathFields, SpellsPath, path_fault, path_of, path_tests, path_text}
use Rattle.scion_packet.specs.Packet.{Packet, Spells, first_fault, packet_of, path_bytes, spelling}
use Rattle.scion_packet.proofs.HeaderBack.{front_is, header_only, header_passes_back}
use Rattle.scion_packet.proofs.HeaderSpelled.{header_passes, header_spelled, header_type}
use Rattle.scion_packet.proofs.PathBack.{path_only, path_passes, whole_stands}
use Rattle.scion_packet.proofs.PathSpelled.{path_spelled}
use Rattle.scion_packet.proofs.Tests.{parts_pass, pass_parts}

-- the length of both headers' text
front_text_len : (h : HeaderFields) → length (header_text h) ≡ front_len h
front_text_len h =
    let d = h.destination.host in
    let s = h.source.host in
    omega (arith, length-append d s)

-- bytes of bytes
pub part-are : (bytes : List ℕ) (at n : ℕ) → IsBytes bytes → IsBytes (text_at bytes at n)
part-are bytes at n are i =
    elim (cases_lt i n) [
      | inl below ↦ rw (get_or-take n (drop at bytes) i 0 below, get_or-drop at bytes i 0) (are (at + i))
      | inr above ↦ let none : slice_index (text_at bytes at n) i ≡ 0 = get_or_past (text_at bytes at n) i 0 (omega (arith, length-take n (drop at bytes))) in omega (arith, none)
    ]

-- the tests of the header and of the path
pub both_pass : (bytes : List ℕ) → first_fault bytes ≡ None → (header_fault bytes ≡ None) × (path_fault (path_bytes bytes) ≡ None)
both_pass bytes none = parts_pass (header_tests bytes) (path_tests (path_bytes bytes)) none

pub pass_both : (bytes : List ℕ) → header_fault bytes ≡ None → path_fault (path_bytes bytes) ≡ None → first_fault bytes ≡ None
pass_both bytes header path = pass_parts (header_tests bytes) (path_tests (path_bytes bytes)) header path

-- ---- a header, the bytes of a path and a payload

-- a list in three parts
three_parts : (bytes : List ℕ) (f e : ℕ) → f ≤ e → bytes ≡ take f bytes ++ (take (e - f) (drop f bytes) ++ drop e bytes)
three_parts bytes f e le =
    let place : f + (e - f) ≡ e = omega arith in
    let last : drop (e - f) (drop f bytes) ≡ drop e bytes = drop-drop (e - f) f bytes ∙ ap (λ (n : ℕ). drop n bytes) place in
    let rest : take (e - f) (drop f bytes) ++ drop e bytes ≡ drop f bytes =
    ap (λ (t : List ℕ). take (e - f) (drop f bytes) ++ t) (sym last) ∙ take-append-drop (e - f) (drop f bytes) in
    sym (take-append-drop f bytes) ∙ ap (λ (t : List ℕ). take f bytes ++ t) (sym rest)

-- the front of the datagram, up to its path
front_there : (t : ℕ) (bytes : List ℕ) → IsBytes bytes → header_fault_as t bytes ≡ None → header_text (header_of bytes) ≡ take (front_end bytes) bytes
front_there t bytes are none =
    let h = header_spelled t bytes are none in
    let ends = front_is bytes (header_of bytes) h in
    sym h.front.read ∙ ap (λ (n : ℕ). take n bytes) (front_text_len (header_of bytes) ∙ sym ends.0)

-- The datagram is that of a lawful header, this path and what follows it.
pub record PartsSpelled (bytes path : List ℕ) : Type 0 where
  pub header : IsHeader (header_of bytes)
  pub whole : 4 * (header_of bytes).header_length ≡ front_len (header_of bytes) + length path
  pub text : bytes ≡ header_text (header_of bytes) ++ (path ++ drop (header_end bytes) bytes)

pub parts_spelled : (t : ℕ) (bytes path : List ℕ) → IsBytes bytes → header_fault_as t bytes ≡ None → path_bytes bytes ≡ path → PartsSpelled bytes path
parts_spelled t bytes path are none is =
    let passes = header_passes t bytes none in
    let h = header_spelled t bytes are none in
    let ends = front_is bytes (header_of bytes) h in
    let len : length (path_bytes bytes) ≡ header_end bytes - front_end bytes =
    length-take-le (header_end bytes - front_end bytes) (drop (front_end bytes) bytes) (omega (arith, length-drop (front_end bytes) bytes, passes.covers, passes.whole)) in
    let path-len : length path ≡ length (path_bytes bytes) = ap length (sym is) in
    record {
      header = h.lawful;
      whole = omega (arith, ends.0, ends.1, path-len, len, passes.covers);
      text = three_parts bytes (front_end bytes) (header_end bytes) passes.covers
          ∙ ap₂ (λ (f p : List ℕ). f ++ (p ++ drop (header_end bytes) bytes)) (sym (front_there t bytes are none)) is;
    }

-- The header is read from the datagram, and the path and the payload lie where it says.
pub record PartsRead (bytes : List ℕ) (h : HeaderFields) (path payload : List ℕ) : Type 0 where
  pub header : SpellsHeader bytes h
  pub path_is : path_bytes bytes ≡ path
  pub payload_is : drop (header_end bytes) bytes ≡ payload

pub parts_read : (bytes : List ℕ) (h : HeaderFields) (path payload : List ℕ) → IsHeader h → 4 * h.header_length ≡ front_len h + length path
    → bytes ≡ header_text h ++ (path ++ payload) → PartsRead bytes h path payload
parts_read bytes h path payload lawful whole text =
    let front = header_text h in
    let front-len = front_text_len h in
    let len : length bytes ≡ length front + (length path + length payload) =
    omega (arith, ap length text, length-append front (path ++ payload), length-append path payload) in
    let all : StandsAt bytes 0 (front ++ (path ++ payload)) = whole_stands bytes (front ++ (path ++ payload)) text in
    let header : SpellsHeader bytes h =
    record { lawful = lawful; front = StandsAt-front bytes 0 front (path ++ payload) all; whole = omega (arith, whole, len, front-len) } in
    let ends = front_is bytes h header in
    let f : front_end bytes ≡ length front = ends.0 ∙ sym front-len in
    let n : header_end bytes - front_end bytes ≡ length path = omega (arith, ends.0, ends.1, whole) in
    let after-front : drop (length front) bytes ≡ path ++ payload = ap (λ (t : List ℕ). drop (length front) t) text ∙ drop_at front (path ++ payload) (length front) refl in
    let path-is : path_bytes bytes ≡ path =
    ap₂ (λ (m k : ℕ). take m (drop k bytes)) n f ∙ ap (λ (t : List ℕ). take (length path) t) after-front ∙ take_at path payload (length path) refl in
    let e : header_end bytes ≡ length front + length path = omega (arith, ends.1, whole, front-len) in
    let payload-is : drop (header_end bytes) bytes ≡ payload =
    ap (λ (k : ℕ). drop k bytes) e ∙ sym (drop-drop (length path) (length front) bytes) ∙ ap (λ (t : List ℕ). drop (length path) t) after-front ∙ drop_at path payload (length path) refl in
    record { header = header; path_is = path-is; payload_is = payload-is }

-- another path written over the one that lies there
pub text_written_over : (t : ℕ) (bytes new path text : List ℕ) → IsBytes bytes → header_fault_as t bytes ≡ None → path ≡ text
    → new ≡ take (front_end bytes) bytes ++ (path ++ drop (header_end bytes) bytes) → new ≡ header_text (header_of bytes) ++ (text ++ drop (header_end bytes) bytes)
text_written_over t bytes new path text are none is new-is =
    new-is ∙ ap₂ (λ (f p : List ℕ). f ++ (p ++ drop (header_end bytes) bytes)) (sym (front_there t bytes are none)) is

-- ---- a packet on a SCION path

pub packet_spelled : (bytes : List ℕ) → IsBytes bytes → first_fault bytes ≡ None → Spells bytes (packet_of bytes)
packet_spelled bytes are none =
    let both = both_pass bytes none in
    let path = path_bytes bytes in
    let p = path_spelled path (part-are bytes (front_end bytes) (header_end bytes - front_end bytes) are) both.1 in
    let parts = parts_spelled scion_path bytes (path_text (path_of path)) are both.0 p.text in
    record {
      lawful = record { header = parts.header; path_type = header_type scion_path bytes both.0; path = p.lawful; whole = parts.whole };
      text = parts.text;
    }

-- The parts of a datagram that spells a packet.
pub record PacketParts (bytes : List ℕ) (p : Packet) : Type 0 where
  pub header : SpellsHeader bytes p.header
  pub path : SpellsPath (path_bytes bytes) p.path
  pub payload : drop (header_end bytes) bytes ≡ p.payload

pub packet_parts : (bytes : List ℕ) (p : Packet) → Spells bytes p → PacketParts bytes p
packet_parts bytes p spells =
    let lawful = spells.lawful in
    let parts = parts_read bytes p.header (path_text p.path) p.payload lawful.header lawful.whole spells.text in
    record { header = parts.header; path = record { lawful = lawful.path; text = parts.path_is }; payload = parts.payload_is }

pub packet_passes : (bytes : List ℕ) (p : Packet) → Spells bytes p → first_fault bytes ≡ None
packet_passes bytes p spells =
    let parts = packet_parts bytes p spells in
    let header : header_fault bytes ≡ None = subst (λ (t : ℕ). header_fault_as t bytes ≡ None) spells.lawful.path_type (header_passes_back bytes p.header parts.header) in
    pass_both bytes header (path_passes (path_bytes bytes) p.path parts.path)

same_packet : (p q : Packet) → p.header ≡ q.header → p.path ≡ q.path → p.payload ≡ q.payload → p ≡ q
same_packet p q e0 e1 e2 =
    ap (λ (x : HeaderFields). record p { header = x }) e0
    ∙ ap (λ (x : PathFields). record q { path = x; payload = p.payload }) e1
    ∙ ap (λ (x : List ℕ). record q { payload = x }) e2

pub packet_only : (bytes : List ℕ) (p : Packet) → Spells bytes p → p ≡ packet_of bytes
packet_only bytes p spells =
    let parts = packet_parts bytes p spells in
    same_packet p (packet_of bytes) (header_only bytes p.header parts.header) (path_only (path_bytes bytes) p.path parts.path) (sym parts.payload)

pub path_written_over : (bytes new path : List ℕ) (q : PathFields) → IsBytes bytes → first_fault bytes ≡ None → path ≡ path_text q
    → new ≡ take (front_end bytes) bytes ++ (path ++ drop (header_end bytes) bytes) → new ≡ spelling (record (packet_of bytes) { path = q })
path_written_over bytes new path q are none is new-is = text_written_over scion_path bytes new path (path_text q) are (both_pass bytes none).0 is new-is
