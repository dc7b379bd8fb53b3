-- What of an upper layer names a port (RFC 768, "Format"; SCMP specification, "Echo Request", "Echo Reply", "Traceroute
-- Request", "Traceroute Reply").
use Rattle.std.specs.Prelude.{ℕ, Bool, ◌||◌, ◌==◌, nat_le, List, length, Option, Some, None, if◌then◌else◌}
use Rattle.field_rows.specs.Place.{number_at}

-- the protocol numbers
abbrev pub udp : ℕ
udp = 17

abbrev pub scmp : ℕ
scmp = 202

-- SCMP messages by their types: those that ask for a reply, and the replies
abbrev pub is_request : ℕ → Bool
is_request kind = kind == 128 || kind == 130

abbrev pub is_reply : ℕ → Bool
is_reply kind = kind == 129 || kind == 131

-- the number in the two bytes at a place, of at least so many bytes
abbrev pub port_at : ℕ → ℕ → List ℕ → Option ℕ
port_at place least bytes = if nat_le least (length bytes) then Some (number_at bytes place 2) else None
