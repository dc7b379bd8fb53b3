-- The bytes of a host, and the length code that the header has for it.
use Rattle.std.specs.Prelude.{ℕ, List}
use Rattle.scion_header.specs.declared.host.Host.{Host}
use Rattle.scion_header.specs.declared.host.Host.TheVariants.{Four, Eight, Twelve, Sixteen}

abbrev pub host_bytes : Host → List ℕ
host_bytes (Four bytes) = bytes
host_bytes (Eight bytes) = bytes
host_bytes (Twelve bytes) = bytes
host_bytes (Sixteen bytes) = bytes

-- one less than the number of four-byte words
abbrev pub length_code : Host → ℕ
length_code (Four bytes) = 0
length_code (Eight bytes) = 1
length_code (Twelve bytes) = 2
length_code (Sixteen bytes) = 3
