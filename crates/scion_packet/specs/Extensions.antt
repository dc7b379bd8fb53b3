-- What stands after the extension headers of a packet (draft-dekater-scion-dataplane, "Extension Headers").
use Rattle.std.specs.Prelude.{ℕ, ◌+◌, ◌*◌, ◌==◌, nat_le, List, length, drop, slice_index, Option, Some, None, if◌then◌else◌}

-- a protocol by its number, and the bytes from its first one to the end of the datagram
pub record Layer : Type 0 where
  pub protocol : ℕ
  pub bytes : List ℕ

abbrev pub layer : ℕ → List ℕ → Layer
layer protocol bytes = record { protocol = protocol; bytes = bytes }

-- the length of an extension, by its second byte
abbrev pub extension_len : List ℕ → ℕ
extension_len bytes = 4 * (slice_index bytes 1 + 1)

-- what stands after an extension that is wholly there, as its first byte says
abbrev pub next_layer : List ℕ → Option Layer
next_layer bytes =
    if nat_le (extension_len bytes) (length bytes) then Some (layer (slice_index bytes 0) (drop (extension_len bytes) bytes)) else None

-- what stands after one extension of this kind, if it is one, and else what it is itself
abbrev pub skip_extension : ℕ → Layer → Option Layer
skip_extension kind l = if l.protocol == kind then next_layer l.bytes else Some l

abbrev pub skip_end_to_end : Option Layer → Option Layer
skip_end_to_end None = None
skip_end_to_end (Some l) = skip_extension 201 l

-- The upper layer: after at most one hop-by-hop extension, and then at most one end-to-end extension. There is none where
-- one of these isn't wholly there.
abbrev pub upper_layer : ℕ → List ℕ → Option Layer
upper_layer next_header payload = skip_end_to_end (skip_extension 200 (layer next_header payload))
