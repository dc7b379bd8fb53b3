-- The numbers that are read at their places are those of the datagram's header.
use Rattle.std.proofs.Common.{◌≡◌, ℕ, ◌+◌, ◌/◌, ◌%◌, List, slice_index, bit_and, refl}
use Rattle.std.proofs.lemmas.Nat.{and_mask}
use Rattle.field_rows.specs.Place.{number_at}
use Rattle.scion_packet.specs.Header.{HeaderFields, HostAddress, address_of, header_of, host_kinds, host_len}

pub same_header : (bytes : List ℕ) (class first payload path_type reserved place : ℕ) (destination source : HostAddress)
    → class ≡ (header_of bytes).traffic_class → first ≡ number_at bytes 0 4 → payload ≡ number_at bytes 6 2 → path_type ≡ slice_index bytes 8 → reserved ≡ number_at bytes 10 2
    → destination ≡ address_of bytes 12 28 (host_kinds bytes / 16) → source ≡ address_of bytes 20 place (host_kinds bytes % 16) → place ≡ 28 + host_len (host_kinds bytes / 16 % 4)
    → (let h : HeaderFields = record {
      traffic_class = class;
      flow_id = bit_and first 1048575;
      next_header = slice_index bytes 4;
      header_length = slice_index bytes 5;
      payload_length = payload;
      path_type = path_type;
      reserved = reserved;
      destination = destination;
      source = source;
    } in h ≡ header_of bytes)
same_header bytes class first payload path_type reserved place destination source class-is first-is payload-is type-is reserved-is destination-is source-is place-is =
    rw (and_mask first 20, class-is, first-is, payload-is, type-is, reserved-is, destination-is, source-is, place-is) refl
