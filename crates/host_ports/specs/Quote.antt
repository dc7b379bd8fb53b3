-- The port from which a quoted packet was sent (SCMP specification, "Destination Unreachable", "Packet Too Big", "Parameter
-- Problem", "External Interface Down", "Internal Connectivity Down").
use Rattle.std.specs.Prelude.{ℕ, ◌||◌, ◌&&◌, ◌==◌, List, drop, slice_index, Option, Some, None, option_and_then, if◌then◌else◌}
use Rattle.scion_packet.specs.Extensions.{Layer, upper_layer}
use Rattle.scion_packet.specs.Fault.{Fault}
use Rattle.scion_packet.specs.Header.{header_end, header_fault_as, header_of}
use Rattle.host_ports.specs.Layer.{is_request, port_at, scmp, udp}

-- where the quote begins in an error message of this type
abbrev pub quote_place : ℕ → Option ℕ
quote_place kind =
    if kind == 1 || kind == 2 || kind == 4 then Some 8 else if kind == 5 then Some 20 else if kind == 6 then Some 28 else None

-- The port from which it was sent: the source port of UDP, or the identifier of a request. Its sender listens there. What else
-- it may be names no port of its sender: least of all an error message, whose own quote isn't looked at.
abbrev pub source_port_of : Layer → Option ℕ
source_port_of l =
    if l.protocol == udp then port_at 0 2 l.bytes
    else if l.protocol == scmp && is_request (slice_index l.bytes 0) then port_at 4 6 l.bytes
    else None

abbrev pub unless_fault : Option Fault → Option Layer → Option Layer
unless_fault (Some fault) l = None
unless_fault None l = l

-- The upper layer of a quoted packet, of which the end may be missing. Its header has to be there and without a fault; its path
-- may be of any type.
abbrev pub quoted_layer : List ℕ → Option Layer
quoted_layer quote =
    unless_fault (header_fault_as (slice_index quote 8) quote) (upper_layer (header_of quote).next_header (drop (header_end quote) quote))

abbrev pub quoted_port : List ℕ → Option ℕ
quoted_port quote = option_and_then source_port_of (quoted_layer quote)
