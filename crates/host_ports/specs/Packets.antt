-- Packets laid out from their parts: extension headers before an upper layer, and a packet with a path of any type
-- (draft-dekater-scion-dataplane, "SCION Header Specification", "Extension Headers").
use Rattle.std.specs.Prelude.{◌≡◌, ◌<◌, ℕ, ◌+◌, ◌*◌, ◌^◌, List, [], ◌∷◌, ◌++◌, length, Option, Some, None}
use Rattle.field_rows.specs.Row.{field, rows}
use Rattle.scion_packet.specs.Extensions.{Layer, layer}
use Rattle.scion_packet.specs.Header.{HeaderFields, IsHeader, front_len, header_text}

-- an extension header but for the protocol of what comes next: ExtLen, and the options
pub record Extension : Type 0 where
  pub len : ℕ
  pub options : List ℕ

abbrev pub extension_text : ℕ → Extension → List ℕ
extension_text next_header e = rows ((field 8 next_header ∷ []) ∷ (field 8 e.len ∷ []) ∷ []) ++ e.options

-- it has 4 * (ExtLen + 1) bytes, the first two of them included
pub record IsExtension (e : Extension) : Type 0 where
  pub fits : e.len < 2 ^ 8
  pub whole : 2 + length e.options ≡ 4 * (e.len + 1)

-- at most one of each kind
pub record Extensions : Type 0 where
  pub hop_by_hop : Option Extension
  pub end_to_end : Option Extension

abbrev pub IsLawful : Option Extension → Type 0
IsLawful None = Unit {0}
IsLawful (Some e) = IsExtension e

abbrev pub AreExtensions : Extensions → Type 0
AreExtensions es = IsLawful es.hop_by_hop × IsLawful es.end_to_end

abbrev pub len_of : Option Extension → ℕ
len_of None = 0
len_of (Some e) = 4 * (e.len + 1)

abbrev pub extensions_len : Extensions → ℕ
extensions_len es = len_of es.hop_by_hop + len_of es.end_to_end

-- what stands behind an extension of this kind, with the extension before it
abbrev pub behind_one : ℕ → Option Extension → Layer → Layer
behind_one kind None l = l
behind_one kind (Some e) l = layer kind (extension_text l.protocol e ++ l.bytes)

-- an upper layer with its extensions before it, the hop-by-hop extension first
abbrev pub behind : Extensions → Layer → Layer
behind es l = behind_one 200 es.hop_by_hop (behind_one 201 es.end_to_end l)

-- a packet by its parts
pub record PacketParts : Type 0 where
  pub header : HeaderFields
  pub path : List ℕ
  pub extensions : Extensions
  pub upper : Layer

abbrev pub packet_text : PacketParts → List ℕ
packet_text p = header_text p.header ++ (p.path ++ (behind p.extensions p.upper).bytes)

-- The header is lawful, names what comes next, and is as long as it says.
pub record ArePacketParts (p : PacketParts) : Type 0 where
  pub header : IsHeader p.header
  pub whole : 4 * p.header.header_length ≡ front_len p.header + length p.path
  pub next : p.header.next_header ≡ (behind p.extensions p.upper).protocol
  pub extensions : AreExtensions p.extensions

-- where its upper layer begins
abbrev pub upper_place : PacketParts → ℕ
upper_place p = 4 * p.header.header_length + extensions_len p.extensions
