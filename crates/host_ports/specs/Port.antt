-- The port at which the application of a packet's end host listens.
use Rattle.std.specs.Prelude.{ℕ, ◌==◌, List, drop, slice_index, Option, None, option_and_then, if◌then◌else◌}
use Rattle.scion_packet.specs.Extensions.{Layer, upper_layer}
use Rattle.host_ports.specs.Layer.{is_reply, port_at, scmp, udp}
use Rattle.host_ports.specs.Quote.{quote_place, quoted_port}

-- Of an SCMP message: a reply goes to the application that asked, which has put its port into the identifier; an error message
-- goes to the one that sent what it quotes.
abbrev pub message_port : List ℕ → Option ℕ
message_port message =
    if is_reply (slice_index message 0) then port_at 4 8 message
    else option_and_then (λ place. quoted_port (drop place message)) (quote_place (slice_index message 0))

abbrev pub destination_port_of : Layer → Option ℕ
destination_port_of l =
    if l.protocol == udp then port_at 2 8 l.bytes else if l.protocol == scmp then message_port l.bytes else None

-- of the bytes after a header that names this next header
abbrev pub destination_port : ℕ → List ℕ → Option ℕ
destination_port next_header bytes = option_and_then destination_port_of (upper_layer next_header bytes)
