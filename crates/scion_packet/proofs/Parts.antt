-- Where a datagram's path and payload lie, and that these bytes are the packet's.
use Rattle.std.proofs.Common.{◌≡◌, ◌≤◌, ◌-◌, ◌*◌, ℕ, None, List, length, take, drop, sym, ap, ap₂, ◌∙◌, arith, length-drop}
use Rattle.std.proofs.lemmas.List.{take_all}
use Rattle.field_rows.specs.Place.{IsBytes, text_at}
use Rattle.scion_packet.specs.Header.{HeaderFields, front_end, front_len, header_end, header_fault, header_fault_as, header_of, scion_path}
use Rattle.scion_packet.specs.Packet.{path_bytes}
use Rattle.scion_packet.proofs.HeaderBack.{front_is}
use Rattle.scion_packet.proofs.HeaderSpelled.{header_passes, header_spelled}
use Rattle.scion_packet.proofs.PacketLaws.{part-are}

pub record PathLies (bytes : List ℕ) (h : HeaderFields) : Type 0 where
  pub begin : front_len h ≡ front_end bytes
  pub end : 4 * h.header_length ≡ header_end bytes
  pub order : front_end bytes ≤ header_end bytes
  pub inside : header_end bytes ≤ length bytes

pub path_lies_as : (t : ℕ) (bytes : List ℕ) (h : HeaderFields) → IsBytes bytes → header_fault_as t bytes ≡ None → h ≡ header_of bytes → PathLies bytes h
path_lies_as t bytes h are none is =
    let ends = front_is bytes (header_of bytes) (header_spelled t bytes are none) in
    let passes = header_passes t bytes none in
    record {
      begin = ap front_len is ∙ sym ends.0;
      end = ap (λ (g : HeaderFields). 4 * g.header_length) is ∙ sym ends.1;
      order = passes.covers;
      inside = passes.whole;
    }

pub path_lies : (bytes : List ℕ) (h : HeaderFields) → IsBytes bytes → header_fault bytes ≡ None → h ≡ header_of bytes → PathLies bytes h
path_lies bytes h are none is = path_lies_as scion_path bytes h are none is

-- the bytes between these places are those of the path
pub path_between : (bytes : List ℕ) (begin end : ℕ) → begin ≡ front_end bytes → end ≡ header_end bytes → text_at bytes begin (end - begin) ≡ path_bytes bytes
path_between bytes begin end begin-is end-is = ap₂ (λ (b e : ℕ). text_at bytes b (e - b)) begin-is end-is

-- what stands after a place
pub rest_of : (bytes : List ℕ) (end other : ℕ) → end ≡ other → take (length bytes - end) (drop end bytes) ≡ drop other bytes
rest_of bytes end other same =
    take_all (length bytes - end) (drop end bytes) (omega (arith, length-drop end bytes)) ∙ ap (λ (e : ℕ). drop e bytes) same

pub path_are : (bytes : List ℕ) → IsBytes bytes → IsBytes (path_bytes bytes)
path_are bytes are = part-are bytes (front_end bytes) (header_end bytes - front_end bytes) are
