-- The upper layer of a packet is found in a quote that goes as far as it.
use Rattle.std.proofs.Common.{◌≡◌, ◌<◌, ◌==◌, ℕ, ◌+◌, false, List, ◌++◌, length, take, drop, slice_index, Option, Some, None, sym, ap, ap₂, subst, ◌∙◌, arith, length-append}
use Rattle.std.proofs.Math.Seq.{take-append-add}
use Rattle.scion_packet.specs.Extensions.{Layer, layer, upper_layer}
use Rattle.scion_packet.specs.Fault.{Fault}
use Rattle.scion_packet.specs.Header.{HeaderFields, SpellsHeader, front_len, header_end, header_fault_as, header_of, header_text}
use Rattle.scion_packet.proofs.HeaderBack.{header_only, header_passes_back}
use Rattle.scion_packet.proofs.PacketLaws.{parts_read}
use Rattle.host_ports.specs.Packets.{ArePacketParts, PacketParts, behind, extensions_len, packet_text, upper_place}
use Rattle.host_ports.specs.Quote.{quoted_layer, unless_fault}
use Rattle.host_ports.proofs.ExtensionLemmas.{front_of, next_of, upper_found}

-- The bytes of a lawful header, of a path of its length and of what it names next: the layer that stands in the last of these.
quoted_of : (quote : List ℕ) (h : HeaderFields) (payload : List ℕ) (l : Option Layer) → SpellsHeader quote h → drop (header_end quote) quote ≡ payload
    → upper_layer h.next_header payload ≡ l → quoted_layer quote ≡ l
quoted_of quote h payload l spells rest found =
    let same : h ≡ header_of quote = header_only quote h spells in
    let type : h.path_type ≡ slice_index quote 8 = ap (λ (g : HeaderFields). g.path_type) same in
    let next : (header_of quote).next_header ≡ h.next_header = ap (λ (g : HeaderFields). g.next_header) (sym same) in
    let none : header_fault_as (slice_index quote 8) quote ≡ None = subst (λ (t : ℕ). header_fault_as t quote ≡ None) type (header_passes_back quote h spells) in
    ap (λ (f : Option Fault). unless_fault f (upper_layer (header_of quote).next_header (drop (header_end quote) quote))) none
    ∙ ap₂ upper_layer next rest
    ∙ found

-- how many bytes both headers have
headers_len : (h : HeaderFields) → length (header_text h) ≡ front_len h
headers_len h = omega (arith, length-append h.destination.host h.source.host)

-- the first bytes of a packet, up to some of its upper layer
front_of_packet : (p : PacketParts) (protocol : ℕ) (bytes : List ℕ) (n m : ℕ) → ArePacketParts p → p.upper ≡ layer protocol bytes → n ≡ upper_place p + m
    → take n (packet_text p) ≡ header_text p.header ++ (p.path ++ (behind p.extensions (layer protocol (take m bytes))).bytes)
front_of_packet p protocol bytes n m are upper-is place =
    let h = header_text p.header in
    let whole = behind p.extensions (layer protocol bytes) in
    let rest = extensions_len p.extensions + m in
    let len : n ≡ length h + (length p.path + rest) = omega (arith, place, are.whole, headers_len p.header) in
    ap₂ (λ (k : ℕ) (l : Layer). take k (h ++ (p.path ++ (behind p.extensions l).bytes))) len upper-is
    ∙ take-append-add h (p.path ++ whole.bytes) (length p.path + rest)
    ∙ ap (λ (t : List ℕ). h ++ t) (take-append-add p.path whole.bytes rest)
    ∙ ap (λ (t : List ℕ). h ++ (p.path ++ t)) (front_of p.extensions protocol bytes m are.extensions)

pub quoted_packet : (p : PacketParts) (protocol : ℕ) (bytes : List ℕ) (n m : ℕ) → ArePacketParts p → p.upper ≡ layer protocol bytes → n ≡ upper_place p + m
    → protocol < 256 → (protocol == 200) ≡ false → (protocol == 201) ≡ false
    → quoted_layer (take n (packet_text p)) ≡ Some (layer protocol (take m bytes))
quoted_packet p protocol bytes n m are upper-is place small no-hop no-end =
    let quote = take n (packet_text p) in
    let es = p.extensions in
    let payload = (behind es (layer protocol (take m bytes))).bytes in
    let text : quote ≡ header_text p.header ++ (p.path ++ payload) = front_of_packet p protocol bytes n m are upper-is place in
    let parts = parts_read quote p.header p.path payload are.header are.whole text in
    let next : p.header.next_header ≡ (behind es (layer protocol (take m bytes))).protocol =
    are.next ∙ ap (λ (l : Layer). (behind es l).protocol) upper-is ∙ next_of es protocol bytes (take m bytes) in
    let found : upper_layer p.header.next_header payload ≡ Some (layer protocol (take m bytes)) =
    ap (λ (k : ℕ). upper_layer k payload) next ∙ upper_found es protocol (take m bytes) are.extensions small no-hop no-end in
    quoted_of quote p.header payload (Some (layer protocol (take m bytes))) parts.header parts.payload_is found
