-- The laws of ports, said of packets as their standards lay them out.
use Rattle.std.specs.Prelude.{◌≡◌, ◌≢◌, ◌⊎◌, ◌<◌, ◌≤◌, ℕ, ◌+◌, ◌/◌, List, ◌++◌, length, take, drop, slice_index, Option, Some, None}
use Rattle.field_rows.specs.Row.{Fits, rows}
use Rattle.scion_packet.specs.Extensions.{Layer, layer, upper_layer}
use Rattle.scion_packet.specs.Header.{front_end, header_end, header_of}
use Rattle.host_ports.specs.Messages.{ErrorMessage, Query, UdpHeader, error_table, query_table, udp_table}
use Rattle.host_ports.specs.Packets.{AreExtensions, ArePacketParts, Extensions, PacketParts, behind, packet_text, upper_place}
use Rattle.host_ports.specs.Port.{destination_port}

-- the port of a packet with this upper layer behind these extensions
abbrev pub port_behind : Extensions → Layer → Option ℕ
port_behind es l = destination_port (behind es l).protocol (behind es l).bytes

-- A UDP header, whatever follows it: its destination port.
abbrev pub UdpGivesItsDestination : Type 0
UdpGivesItsDestination =
    (es : Extensions) (u : UdpHeader) (rest : List ℕ) → AreExtensions es → Fits (udp_table u)
    → port_behind es (layer 17 (rows (udp_table u) ++ rest)) ≡ Some u.destination

-- An echo or traceroute reply: its identifier.
abbrev pub RepliesGiveTheirIdentifier : Type 0
RepliesGiveTheirIdentifier =
    (es : Extensions) (q : Query) (rest : List ℕ) → AreExtensions es → Fits (query_table q) → (q.kind ≡ 129) ⊎ (q.kind ≡ 131)
    → port_behind es (layer 202 (rows (query_table q) ++ rest)) ≡ Some q.identifier

-- An error message that quotes the first n bytes of a packet, as far as the field that counts or further: the port from which
-- that packet was sent. That is its source port, where it carries UDP, and the identifier of an echo or traceroute request.
pub record ErrorsGiveTheQuotedPort : Type 0 where
  pub udp_source : (es : Extensions) (e : ErrorMessage) (p : PacketParts) (u : UdpHeader) (rest : List ℕ) (n : ℕ)
      → AreExtensions es → ArePacketParts p → Fits (udp_table u) → p.upper ≡ layer 17 (rows (udp_table u) ++ rest) → upper_place p + 2 ≤ n
      → port_behind es (layer 202 (rows (error_table e) ++ take n (packet_text p))) ≡ Some u.source
  pub identifier : (es : Extensions) (e : ErrorMessage) (p : PacketParts) (q : Query) (rest : List ℕ) (n : ℕ)
      → AreExtensions es → ArePacketParts p → Fits (query_table q) → (q.kind ≡ 128) ⊎ (q.kind ≡ 130)
      → p.upper ≡ layer 202 (rows (query_table q) ++ rest) → upper_place p + 6 ≤ n
      → port_behind es (layer 202 (rows (error_table e) ++ take n (packet_text p))) ≡ Some q.identifier

-- ---- what gives no port

-- messages that quote a packet, and replies
abbrev pub IsTypeWithPort : ℕ → Type 0
IsTypeWithPort kind =
    (kind ≡ 1) ⊎ ((kind ≡ 2) ⊎ ((kind ≡ 4) ⊎ ((kind ≡ 5) ⊎ ((kind ≡ 6) ⊎ ((kind ≡ 129) ⊎ (kind ≡ 131))))))

-- An upper layer without a port: neither UDP nor SCMP, a UDP header or an SCMP message of less than 8 bytes, or a message of another
-- type, as a request.
pub data HasNoPort (l : Layer) : Type 0 where
  other_protocol : l.protocol ≢ 17 → l.protocol ≢ 202 → HasNoPort l
  short_udp : l.protocol ≡ 17 → length l.bytes < 8 → HasNoPort l
  short_message : l.protocol ≡ 202 → length l.bytes < 8 → HasNoPort l
  other_message : l.protocol ≡ 202 → (IsTypeWithPort (slice_index l.bytes 0) → ⊥) → HasNoPort l

-- A quoted one that tells no port of its sender: neither UDP nor SCMP, cut within the field that counts, or no request: an error
-- message least of all.
pub data HasNoSource (l : Layer) : Type 0 where
  neither_protocol : l.protocol ≢ 17 → l.protocol ≢ 202 → HasNoSource l
  udp_cut : l.protocol ≡ 17 → length l.bytes < 2 → HasNoSource l
  message_cut : l.protocol ≡ 202 → length l.bytes < 6 → HasNoSource l
  no_request : l.protocol ≡ 202 → slice_index l.bytes 0 ≢ 128 → slice_index l.bytes 0 ≢ 130 → HasNoSource l

-- A quote that tells no port: it ends within its header; its version isn't 0; its header's length doesn't cover the addresses; an
-- extension isn't wholly there; or its upper layer tells none.
pub data TellsNoPort (quote : List ℕ) : Type 0 where
  no_common_header : length quote < 12 → TellsNoPort quote
  other_version : slice_index quote 0 / 16 ≢ 0 → TellsNoPort quote
  uncovered : header_end quote < front_end quote → TellsNoPort quote
  cut_header : length quote < header_end quote → TellsNoPort quote
  no_upper_layer : upper_layer (header_of quote).next_header (drop (header_end quote) quote) ≡ None → TellsNoPort quote
  no_source : (l : Layer) → upper_layer (header_of quote).next_header (drop (header_end quote) quote) ≡ Some l → HasNoSource l → TellsNoPort quote

pub record NothingElseGivesAPort : Type 0 where
  pub cut_extension : (next_header : ℕ) (bytes : List ℕ) → upper_layer next_header bytes ≡ None → destination_port next_header bytes ≡ None
  pub no_port : (next_header : ℕ) (bytes : List ℕ) (l : Layer) → upper_layer next_header bytes ≡ Some l → HasNoPort l → destination_port next_header bytes ≡ None
  pub no_quoted_port : (es : Extensions) (e : ErrorMessage) (quote : List ℕ) → AreExtensions es → TellsNoPort quote
      → port_behind es (layer 202 (rows (error_table e) ++ quote)) ≡ None
