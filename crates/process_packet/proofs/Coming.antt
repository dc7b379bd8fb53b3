-- What a packet shows where it arrives, as the rows are passed one after the other.
use Rattle.std.specs.Prelude.{◌≡◌, ◌≤◌, true, false, length, None}
use Rattle.scion_packet.specs.Packet.{first_fault}
use Rattle.process_packet.specs.Rows.{came_lawfully, is_destination_lawful, is_source_lawful}
use Rattle.process_packet.specs.PacketState.{PacketState, ingress, is_authentic, is_expired, is_external}
use Rattle.process_packet.specs.Shown.{turned}

-- It is read without a fault, and is no longer than any link carries; it comes by the link that its hop field names, from
-- the router at the other end, within its time and with the MAC of its place; and its addresses are those of a packet that
-- comes so.
pub record ComesAsItShould (s : PacketState) : Type 0 where
  pub short : length s.bytes ≤ 9216
  pub sound : first_fault s.bytes ≡ None
  pub unexpired : is_expired s ≡ false
  pub by_its_link : is_external s ≡ true → ingress s ≡ s.link
  pub whole : s.header.payload_length ≡ length s.payload
  pub sender : came_lawfully s ≡ true
  pub source : is_source_lawful s ≡ true
  pub destination : is_destination_lawful s ≡ true
  pub authentic : is_authentic (turned s) ≡ true
