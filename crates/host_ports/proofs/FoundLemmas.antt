-- The port of an upper layer that was found at a place of the bytes.
use Rattle.std.proofs.Common.{◌≡◌, ℕ, ◌-◌, List, length, take, drop, slice_index, Option, Some, None, option_and_then, sym, ap, ◌∙◌, arith, length-drop}
use Rattle.std.proofs.lemmas.List.{take_all}
use Rattle.scion_packet.specs.Extensions.{Layer, layer, upper_layer}
use Rattle.scion_packet.specs.Fault.{Fault}
use Rattle.scion_packet.specs.Header.{header_end, header_fault_as, header_of}
use Rattle.host_ports.specs.Layer.{port_at}
use Rattle.host_ports.specs.Port.{destination_port, destination_port_of, message_port}
use Rattle.host_ports.specs.Quote.{quoted_port, source_port_of, unless_fault}

-- the bytes from a place on
rest_is : (bytes : List ℕ) (at : ℕ) → take (length bytes - at) (drop at bytes) ≡ drop at bytes
rest_is bytes at = take_all (length bytes - at) (drop at bytes) (omega (arith, length-drop at bytes))

found_is : (next_header : ℕ) (bytes : List ℕ) (known protocol at : ℕ) → Some (layer protocol (drop at bytes)) ≡ upper_layer next_header bytes → protocol ≡ known
    → destination_port_of (layer known (take (length bytes - at) (drop at bytes))) ≡ destination_port next_header bytes
found_is next_header bytes known protocol at found is =
    ap (λ (t : List ℕ). destination_port_of (layer known t)) (rest_is bytes at)
    ∙ ap (λ (k : ℕ). destination_port_of (layer k (drop at bytes))) (sym is)
    ∙ ap (λ (o : Option Layer). option_and_then destination_port_of o) found

pub found_udp : (next_header : ℕ) (bytes : List ℕ) (protocol at : ℕ) (port : Option ℕ) → Some (layer protocol (drop at bytes)) ≡ upper_layer next_header bytes → protocol ≡ 17
    → port ≡ port_at 2 8 (take (length bytes - at) (drop at bytes)) → port ≡ destination_port next_header bytes
found_udp next_header bytes protocol at port found is told = told ∙ found_is next_header bytes 17 protocol at found is

pub found_scmp : (next_header : ℕ) (bytes : List ℕ) (protocol at : ℕ) (port : Option ℕ) → Some (layer protocol (drop at bytes)) ≡ upper_layer next_header bytes → protocol ≡ 202
    → port ≡ message_port (take (length bytes - at) (drop at bytes)) → port ≡ destination_port next_header bytes
found_scmp next_header bytes protocol at port found is told = told ∙ found_is next_header bytes 202 protocol at found is

-- a quote with a fault in its header tells none
pub faulty_quote : (quote : List ℕ) (f : Fault) → header_fault_as (slice_index quote 8) quote ≡ Some f → None ≡ quoted_port quote
faulty_quote quote f is =
    ap (λ (o : Option Fault). option_and_then source_port_of (unless_fault o (upper_layer (header_of quote).next_header (drop (header_end quote) quote)))) (sym is)
