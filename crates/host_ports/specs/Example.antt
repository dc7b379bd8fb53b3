-- Packets by their bytes: the definitions compute what a reader of the standards' tables would.
use Rattle.std.specs.Prelude.{◌≡◌, ℕ, List, [], ◌∷◌, ◌++◌, take, drop, Option, Some, None, refl}
use Rattle.scion_packet.specs.Example.{datagram}
use Rattle.scion_packet.specs.Header.{header_end, header_of}
use Rattle.host_ports.specs.Port.{destination_port}

-- the headers and the path of the first datagram, with another next header and payload
abbrev pub packet_with : ℕ → List ℕ → List ℕ
packet_with next_header payload = take 4 datagram ++ (next_header ∷ (take 79 (drop 5 datagram) ++ payload))

abbrev pub port_of : List ℕ → Option ℕ
port_of bytes = destination_port (header_of bytes).next_header (drop (header_end bytes) bytes)

-- ---- UDP

-- from port 31000 to port 31500
abbrev pub udp_text : List ℕ
udp_text = 0x79 ∷ 0x18 ∷ 0x7b ∷ 0x0c ∷ 0x00 ∷ 0x08 ∷ 0x00 ∷ 0x00 ∷ []

pub udp_port : port_of (packet_with 17 udp_text) ≡ Some 31500
udp_port = refl

-- without its last byte
pub short_udp_port : port_of (packet_with 17 (take 7 udp_text)) ≡ None
short_udp_port = refl

-- behind four bytes of a hop-by-hop extension and eight of an end-to-end extension
abbrev pub extensions_text : List ℕ
extensions_text = 201 ∷ 0 ∷ 1 ∷ 0 ∷ 17 ∷ 1 ∷ 1 ∷ 4 ∷ 0 ∷ 0 ∷ 0 ∷ 0 ∷ []

pub extended_udp_port : port_of (packet_with 200 (extensions_text ++ udp_text)) ≡ Some 31500
extended_udp_port = refl

-- ---- SCMP messages with an identifier, 31020

abbrev pub message_text : ℕ → List ℕ
message_text kind = kind ∷ 0x00 ∷ 0x12 ∷ 0x34 ∷ 0x79 ∷ 0x2c ∷ 0x00 ∷ 0x01 ∷ []

pub echo_reply_port : port_of (packet_with 202 (message_text 129)) ≡ Some 31020
echo_reply_port = refl

pub traceroute_reply_port : port_of (packet_with 202 (message_text 131)) ≡ Some 31020
traceroute_reply_port = refl

-- without its last byte
pub short_reply_port : port_of (packet_with 202 (take 7 (message_text 129))) ≡ None
short_reply_port = refl

pub echo_request_port : port_of (packet_with 202 (message_text 128)) ≡ None
echo_request_port = refl

-- ---- SCMP error messages

-- the destination can't be reached; an interface to another AS is down; two interfaces of an AS can't reach each other
abbrev pub unreachable : List ℕ → List ℕ
unreachable quote = 1 ∷ 4 ∷ 0x12 ∷ 0x34 ∷ 0 ∷ 0 ∷ 0 ∷ 0 ∷ quote

abbrev pub interface_down : List ℕ → List ℕ
interface_down quote =
    5 ∷ 0 ∷ 0x12 ∷ 0x34 ∷ 0x00 ∷ 0x01 ∷ 0xff ∷ 0x00 ∷ 0x00 ∷ 0x00 ∷ 0x01 ∷ 0x10
    ∷ 0 ∷ 0 ∷ 0 ∷ 0 ∷ 0 ∷ 0 ∷ 0 ∷ 2 ∷ quote

abbrev pub connectivity_down : List ℕ → List ℕ
connectivity_down quote =
    6 ∷ 0 ∷ 0x12 ∷ 0x34 ∷ 0x00 ∷ 0x01 ∷ 0xff ∷ 0x00 ∷ 0x00 ∷ 0x00 ∷ 0x01 ∷ 0x10
    ∷ 0 ∷ 0 ∷ 0 ∷ 0 ∷ 0 ∷ 0 ∷ 0 ∷ 1 ∷ 0 ∷ 0 ∷ 0 ∷ 0 ∷ 0 ∷ 0 ∷ 0 ∷ 2 ∷ quote

-- they go to the port from which the quoted packet was sent
pub unreachable_port : port_of (packet_with 202 (unreachable (packet_with 17 udp_text))) ≡ Some 31000
unreachable_port = refl

pub interface_down_port : port_of (packet_with 202 (interface_down (packet_with 17 udp_text))) ≡ Some 31000
interface_down_port = refl

pub connectivity_down_port : port_of (packet_with 202 (connectivity_down (packet_with 17 udp_text))) ≡ Some 31000
connectivity_down_port = refl

pub quoted_request_port : port_of (packet_with 202 (unreachable (packet_with 202 (message_text 130)))) ≡ Some 31020
quoted_request_port = refl

-- the quote ends after the source port, behind extensions
pub cut_quote_port : port_of (packet_with 202 (unreachable (packet_with 200 (extensions_text ++ take 2 udp_text)))) ≡ Some 31000
cut_quote_port = refl

-- the quote ends after the request's identifier, and before its last byte
pub cut_request_port : port_of (packet_with 202 (unreachable (packet_with 202 (take 6 (message_text 130))))) ≡ Some 31020
cut_request_port = refl

pub shorter_request_port : port_of (packet_with 202 (unreachable (packet_with 202 (take 5 (message_text 130))))) ≡ None
shorter_request_port = refl

-- a quoted reply, and a quoted error message with a quote of its own
pub quoted_reply_port : port_of (packet_with 202 (unreachable (packet_with 202 (message_text 129)))) ≡ None
quoted_reply_port = refl

pub quoted_error_port : port_of (packet_with 202 (unreachable (packet_with 202 (unreachable (packet_with 17 udp_text))))) ≡ None
quoted_error_port = refl
