-- What gives a port, and which one.
use Rattle.std.proofs.Common.{◌≡◌, ◌⊎◌, ◌≤◌, ◌<◌, ◌==◌, ℕ, ◌+◌, ◌-◌, Bool, true, false, List, [], ◌∷◌, ◌++◌, length, take, drop, slice_index, Option, Some, None, option_and_then, if◌then◌else◌, refl, ap, ◌∙◌, inl, inr, arith, length-append}
use Rattle.std.proofs.lemmas.Bool.{le-leb}
use Rattle.std.proofs.Math.Seq.{take-append-add}
use Rattle.field_rows.specs.Place.{number_at}
use Rattle.field_rows.specs.Row.{Fits, field, rows}
use Rattle.scion_packet.specs.Extensions.{Layer, layer}
use Rattle.host_ports.specs.Laws.{ErrorsGiveTheQuotedPort, RepliesGiveTheirIdentifier, UdpGivesItsDestination, port_behind}
use Rattle.host_ports.specs.Layer.{is_reply, is_request, port_at}
use Rattle.host_ports.specs.Messages.{ErrorMessage, Query, UdpHeader, error_table, query_table, udp_table}
use Rattle.host_ports.specs.Messages.ErrorMessage.{DestinationUnreachable, PacketTooBig, ParameterProblem, ExternalInterfaceDown, InternalConnectivityDown}
use Rattle.host_ports.specs.Packets.{AreExtensions, ArePacketParts, Extensions, PacketParts, packet_text, upper_place}
use Rattle.host_ports.specs.Port.{destination_port_of, message_port}
use Rattle.host_ports.specs.Quote.{quote_place, quoted_port, source_port_of}
use Rattle.host_ports.proofs.ExtensionLemmas.{upper_found}
use Rattle.host_ports.proofs.QuoteLemmas.{quoted_packet}

-- ---- the layer behind extensions

pub port_of : (es : Extensions) (protocol : ℕ) (bytes : List ℕ) → AreExtensions es → protocol < 256 → (protocol == 200) ≡ false → (protocol == 201) ≡ false
    → port_behind es (layer protocol bytes) ≡ destination_port_of (layer protocol bytes)
port_of es protocol bytes lawful small no-hop no-end =
    ap (λ (o : Option Layer). option_and_then destination_port_of o) (upper_found es protocol bytes lawful small no-hop no-end)

-- the number at a place, where all bytes that are asked for are there
there : (place least : ℕ) (bytes : List ℕ) (n : ℕ) → least ≤ length bytes → number_at bytes place 2 ≡ n → port_at place least bytes ≡ Some n
there place least bytes n inside is =
    let none : Option ℕ = None in
    ap (λ (b : Bool). if b then Some (number_at bytes place 2) else none) (le-leb least (length bytes) inside) ∙ ap (λ (k : ℕ). Some k) is

-- ---- UDP, and replies

pub udp_gives : UdpGivesItsDestination
udp_gives es u rest lawful fits =
    let bytes = rows (udp_table u) ++ rest in
    let destination-fits : u.destination < 65536 = fits.1.0.0 in
    let is : number_at bytes 2 2 ≡ u.destination = omega arith in
    port_of es 17 bytes lawful (omega arith) refl refl ∙ there 2 8 bytes u.destination (omega (arith, length-append (rows (udp_table u)) rest)) is

-- the type and the identifier of a message
type_of : (q : Query) (rest : List ℕ) → Fits (query_table q) → slice_index (rows (query_table q) ++ rest) 0 ≡ q.kind
type_of q rest fits =
    let kind-fits : q.kind < 256 = fits.0.0 in
    omega arith

identifier_of : (q : Query) (rest : List ℕ) → Fits (query_table q) → number_at (rows (query_table q) ++ rest) 4 2 ≡ q.identifier
identifier_of q rest fits =
    let identifier-fits : q.identifier < 65536 = fits.1.1.1.0.0 in
    omega arith

reply_type : (kind : ℕ) → (kind ≡ 129) ⊎ (kind ≡ 131) → is_reply kind ≡ true
reply_type kind (inl echo) = ap is_reply echo
reply_type kind (inr traceroute) = ap is_reply traceroute

request_type : (kind : ℕ) → (kind ≡ 128) ⊎ (kind ≡ 130) → is_request kind ≡ true
request_type kind (inl echo) = ap is_request echo
request_type kind (inr traceroute) = ap is_request traceroute

pub reply_gives : RepliesGiveTheirIdentifier
reply_gives es q rest lawful fits kind =
    let bytes = rows (query_table q) ++ rest in
    let quoted : Option ℕ = option_and_then (λ place. quoted_port (drop place bytes)) (quote_place (slice_index bytes 0)) in
    let reply : is_reply (slice_index bytes 0) ≡ true = ap is_reply (type_of q rest fits) ∙ reply_type q.kind kind in
    port_of es 202 bytes lawful (omega arith) refl refl
    ∙ ap (λ (b : Bool). if b then port_at 4 8 bytes else quoted) reply
    ∙ there 4 8 bytes q.identifier (omega (arith, length-append (rows (query_table q)) rest)) (identifier_of q rest fits)

-- ---- quotes

-- the quote of an error message begins behind its fields
pub quote_of : (e : ErrorMessage) (quote : List ℕ) → message_port (rows (error_table e) ++ quote) ≡ quoted_port quote
quote_of (DestinationUnreachable code checksum unused) quote = refl
quote_of (PacketTooBig code checksum reserved mtu) quote = refl
quote_of (ParameterProblem code checksum reserved pointer) quote = refl
quote_of (ExternalInterfaceDown code checksum isd autonomous_system interface) quote = refl
quote_of (InternalConnectivityDown code checksum isd autonomous_system ingress egress) quote = refl

pub error_gives : (es : Extensions) (e : ErrorMessage) (quote : List ℕ) → AreExtensions es
    → port_behind es (layer 202 (rows (error_table e) ++ quote)) ≡ quoted_port quote
error_gives es e quote lawful = port_of es 202 (rows (error_table e) ++ quote) lawful (omega arith) refl refl ∙ quote_of e quote

-- a quote that goes as far as the first bytes of the upper layer
quoted_gives : (es : Extensions) (e : ErrorMessage) (p : PacketParts) (protocol : ℕ) (front rest : List ℕ) (n port : ℕ) → AreExtensions es → ArePacketParts p
    → p.upper ≡ layer protocol (front ++ rest) → upper_place p + length front ≤ n → protocol < 256 → (protocol == 200) ≡ false → (protocol == 201) ≡ false
    → ((others : List ℕ) → source_port_of (layer protocol (front ++ others)) ≡ Some port)
    → port_behind es (layer 202 (rows (error_table e) ++ take n (packet_text p))) ≡ Some port
quoted_gives es e p protocol front rest n port lawful are upper-is far small no-hop no-end gives =
    let m = n - upper_place p - length front in
    let place : n ≡ upper_place p + (length front + m) = omega (arith, far) in
    let found = quoted_packet p protocol (front ++ rest) n (length front + m) are upper-is place small no-hop no-end in
    error_gives es e (take n (packet_text p)) lawful
    ∙ ap (λ (o : Option Layer). option_and_then source_port_of o) found
    ∙ ap (λ (t : List ℕ). source_port_of (layer protocol t)) (take-append-add front rest m)
    ∙ gives (take m rest)

-- the source port of UDP, and what follows it
abbrev udp_front : UdpHeader → List ℕ
udp_front u = rows ((field 16 u.source ∷ []) ∷ [])

udp_source : (u : UdpHeader) (others : List ℕ) → Fits (udp_table u) → source_port_of (layer 17 (udp_front u ++ others)) ≡ Some u.source
udp_source u others fits =
    let source-fits : u.source < 65536 = fits.0.0 in
    let bytes = udp_front u ++ others in
    let is : number_at bytes 0 2 ≡ u.source = omega arith in
    there 0 2 bytes u.source (omega (arith, length-append (udp_front u) others)) is

-- a message up to its identifier, and what follows it
abbrev query_front : Query → List ℕ
query_front q = rows ((field 8 q.kind ∷ []) ∷ (field 8 q.code ∷ []) ∷ (field 16 q.checksum ∷ []) ∷ (field 16 q.identifier ∷ []) ∷ [])

query_identifier : (q : Query) (others : List ℕ) → Fits (query_table q) → (q.kind ≡ 128) ⊎ (q.kind ≡ 130)
    → source_port_of (layer 202 (query_front q ++ others)) ≡ Some q.identifier
query_identifier q others fits kind =
    let kind-fits : q.kind < 256 = fits.0.0 in
    let identifier-fits : q.identifier < 65536 = fits.1.1.1.0.0 in
    let bytes = query_front q ++ others in
    let none : Option ℕ = None in
    let type : slice_index bytes 0 ≡ q.kind = omega arith in
    let request : is_request (slice_index bytes 0) ≡ true = ap is_request type ∙ request_type q.kind kind in
    let is : number_at bytes 4 2 ≡ q.identifier = omega arith in
    ap (λ (b : Bool). if b then port_at 4 6 bytes else none) request
    ∙ there 4 6 bytes q.identifier (omega (arith, length-append (query_front q) others)) is

pub errors_give : ErrorsGiveTheQuotedPort
errors_give = record {
  udp_source = λ es e p u rest n lawful are fits upper-is far.
      quoted_gives es e p 17 (udp_front u) (rows ((field 16 u.destination ∷ []) ∷ (field 16 u.len ∷ []) ∷ (field 16 u.checksum ∷ []) ∷ []) ++ rest) n u.source
      lawful are upper-is far (omega arith) refl refl (λ others. udp_source u others fits);
  identifier = λ es e p q rest n lawful are fits kind upper-is far.
      quoted_gives es e p 202 (query_front q) (rows ((field 16 q.sequence ∷ []) ∷ []) ++ rest) n q.identifier
      lawful are upper-is far (omega arith) refl refl (λ others. query_identifier q others fits kind);
}
