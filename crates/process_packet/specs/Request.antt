-- A traceroute request: SCMP type 130, code 0, with its 24 bytes there (SCMP specification, "Traceroute Request").
use Rattle.std.specs.Prelude.{ℕ, Bool, ◌&&◌, ◌==◌, nat_le, List, length, slice_index, Option, Some, None, is_some, if◌then◌else◌}
use Rattle.field_rows.specs.Place.{number_at}
use Rattle.scion_packet.specs.Extensions.{Layer, upper_layer}

abbrev pub asks : Layer → Bool
asks l = l.protocol == 202 && nat_le 24 (length l.bytes) && slice_index l.bytes 0 == 130 && slice_index l.bytes 1 == 0

-- its identifier and its sequence number
abbrev pub request_of : Option Layer → Option (ℕ × ℕ)
request_of None = None
request_of (Some l) = if asks l then Some (number_at l.bytes 4 2, number_at l.bytes 6 2) else None

-- of the bytes after a header that names this next header
abbrev pub request : ℕ → List ℕ → Option (ℕ × ℕ)
request next_header payload = request_of (upper_layer next_header payload)

abbrev pub is_request : ℕ → List ℕ → Bool
is_request next_header payload = is_some (request next_header payload)
