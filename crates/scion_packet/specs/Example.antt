-- The first datagram, and one on a path of one hop, read by hand: the definitions compute what a reader of the standard's
-- tables would.
use Rattle.std.specs.Prelude.{◌≡◌, ℕ, true, false, List, [], ◌∷◌, None, refl}
use Rattle.scion_packet.specs.Path.{HopField, place_at}
use Rattle.scion_packet.specs.Header.{HostAddress}
use Rattle.scion_packet.specs.OneHop.{OneHopPacket, one_hop_fault, one_hop_packet_of, one_hop_spelling}
use Rattle.scion_packet.specs.Packet.{Packet, first_fault, packet_of, spelling}

-- from 1-ff00:0:111, 10.1.0.5 to 1-ff00:0:112, 10.2.0.7, on a segment of three hops, at the second one
abbrev pub datagram : List ℕ
datagram =
    0x00 ∷ 0x00 ∷ 0x00 ∷ 0x01 ∷ 0x11 ∷ 0x15 ∷ 0x00 ∷ 0x08 ∷ 0x01 ∷ 0x00 ∷ 0x00 ∷ 0x00
    ∷ 0x00 ∷ 0x01 ∷ 0xff ∷ 0x00 ∷ 0x00 ∷ 0x00 ∷ 0x01 ∷ 0x12 ∷ 0x00 ∷ 0x01 ∷ 0xff ∷ 0x00 ∷ 0x00 ∷ 0x00 ∷ 0x01 ∷ 0x11
    ∷ 0x0a ∷ 0x02 ∷ 0x00 ∷ 0x07 ∷ 0x0a ∷ 0x01 ∷ 0x00 ∷ 0x05
    ∷ 0x01 ∷ 0x00 ∷ 0x30 ∷ 0x00 ∷ 0x01 ∷ 0x00 ∷ 0x12 ∷ 0x34 ∷ 0x65 ∷ 0x00 ∷ 0x00 ∷ 0x00
    ∷ 0x00 ∷ 0x3f ∷ 0x00 ∷ 0x00 ∷ 0x00 ∷ 0x11 ∷ 0xa0 ∷ 0xa1 ∷ 0xa2 ∷ 0xa3 ∷ 0xa4 ∷ 0xa5
    ∷ 0x00 ∷ 0x3f ∷ 0x00 ∷ 0x01 ∷ 0x00 ∷ 0x02 ∷ 0xc0 ∷ 0xc1 ∷ 0xc2 ∷ 0xc3 ∷ 0xc4 ∷ 0xc5
    ∷ 0x00 ∷ 0x3f ∷ 0x00 ∷ 0x12 ∷ 0x00 ∷ 0x00 ∷ 0xb0 ∷ 0xb1 ∷ 0xb2 ∷ 0xb3 ∷ 0xb4 ∷ 0xb5
    ∷ 0x75 ∷ 0x59 ∷ 0x75 ∷ 0x59 ∷ 0x00 ∷ 0x08 ∷ 0x00 ∷ 0x00 ∷ []

abbrev pub hop_field : ℕ → ℕ → List ℕ → HopField
hop_field ingress egress mac = record {
  reserved_flags = 0;
  ingress_alert = false;
  egress_alert = false;
  expiry = 63;
  construction_ingress = ingress;
  construction_egress = egress;
  mac = mac;
}

-- the end hosts
abbrev pub destination : HostAddress
destination = record { isd = 1; autonomous_system = 0xff0000000112; kind = 0; host = 10 ∷ 2 ∷ 0 ∷ 7 ∷ [] }

abbrev pub source : HostAddress
source = record { isd = 1; autonomous_system = 0xff0000000111; kind = 0; host = 10 ∷ 1 ∷ 0 ∷ 5 ∷ [] }

abbrev pub packet : Packet
packet = record {
  header = record {
    traffic_class = 0;
    flow_id = 1;
    next_header = 17;
    header_length = 21;
    payload_length = 8;
    path_type = 1;
    reserved = 0;
    destination = destination;
    source = source;
  };
  path = record {
    reserved = 0;
    place = place_at 0 1;
    segments = record {
      info = record { reserved_flags = 0; along = true; reserved = 0; segment_id = 0x1234; timestamp = 1694498816 };
      hops =
          hop_field 0 17 (0xa0 ∷ 0xa1 ∷ 0xa2 ∷ 0xa3 ∷ 0xa4 ∷ 0xa5 ∷ [])
          ∷ hop_field 1 2 (0xc0 ∷ 0xc1 ∷ 0xc2 ∷ 0xc3 ∷ 0xc4 ∷ 0xc5 ∷ [])
          ∷ hop_field 18 0 (0xb0 ∷ 0xb1 ∷ 0xb2 ∷ 0xb3 ∷ 0xb4 ∷ 0xb5 ∷ [])
          ∷ [];
    } ∷ [];
  };
  payload = 0x75 ∷ 0x59 ∷ 0x75 ∷ 0x59 ∷ 0x00 ∷ 0x08 ∷ 0x00 ∷ 0x00 ∷ [];
}

pub datagram_is_read : packet_of datagram ≡ packet
datagram_is_read = refl

pub packet_is_spelled : spelling packet ≡ datagram
packet_is_spelled = refl

pub datagram_has_no_fault : first_fault datagram ≡ None
datagram_has_no_fault = refl

-- ---- a path of one hop

-- from and to the same hosts, by the source AS's interface 2; nobody has written the second hop field yet
abbrev pub one_hop_datagram : List ℕ
one_hop_datagram =
    0x00 ∷ 0x00 ∷ 0x00 ∷ 0x01 ∷ 0x11 ∷ 0x11 ∷ 0x00 ∷ 0x08 ∷ 0x02 ∷ 0x00 ∷ 0x00 ∷ 0x00
    ∷ 0x00 ∷ 0x01 ∷ 0xff ∷ 0x00 ∷ 0x00 ∷ 0x00 ∷ 0x01 ∷ 0x12 ∷ 0x00 ∷ 0x01 ∷ 0xff ∷ 0x00 ∷ 0x00 ∷ 0x00 ∷ 0x01 ∷ 0x11
    ∷ 0x0a ∷ 0x02 ∷ 0x00 ∷ 0x07 ∷ 0x0a ∷ 0x01 ∷ 0x00 ∷ 0x05
    ∷ 0x01 ∷ 0x00 ∷ 0x12 ∷ 0x34 ∷ 0x65 ∷ 0x00 ∷ 0x00 ∷ 0x00
    ∷ 0x00 ∷ 0x3f ∷ 0x00 ∷ 0x00 ∷ 0x00 ∷ 0x02 ∷ 0xa0 ∷ 0xa1 ∷ 0xa2 ∷ 0xa3 ∷ 0xa4 ∷ 0xa5
    ∷ 0x00 ∷ 0x00 ∷ 0x00 ∷ 0x00 ∷ 0x00 ∷ 0x00 ∷ 0x00 ∷ 0x00 ∷ 0x00 ∷ 0x00 ∷ 0x00 ∷ 0x00
    ∷ 0x75 ∷ 0x59 ∷ 0x75 ∷ 0x59 ∷ 0x00 ∷ 0x08 ∷ 0x00 ∷ 0x00 ∷ []

abbrev pub one_hop_packet : OneHopPacket
one_hop_packet = record {
  header = record {
    traffic_class = 0;
    flow_id = 1;
    next_header = 17;
    header_length = 17;
    payload_length = 8;
    path_type = 2;
    reserved = 0;
    destination = destination;
    source = source;
  };
  path = record {
    info = record { reserved_flags = 0; along = true; reserved = 0; segment_id = 0x1234; timestamp = 1694498816 };
    first = hop_field 0 2 (0xa0 ∷ 0xa1 ∷ 0xa2 ∷ 0xa3 ∷ 0xa4 ∷ 0xa5 ∷ []);
    second = 0 ∷ 0 ∷ 0 ∷ 0 ∷ 0 ∷ 0 ∷ 0 ∷ 0 ∷ 0 ∷ 0 ∷ 0 ∷ 0 ∷ [];
  };
  payload = 0x75 ∷ 0x59 ∷ 0x75 ∷ 0x59 ∷ 0x00 ∷ 0x08 ∷ 0x00 ∷ 0x00 ∷ [];
}

pub one_hop_datagram_is_read : one_hop_packet_of one_hop_datagram ≡ one_hop_packet
one_hop_datagram_is_read = refl

pub one_hop_packet_is_spelled : one_hop_spelling one_hop_packet ≡ one_hop_datagram
one_hop_packet_is_spelled = refl

pub one_hop_datagram_has_no_fault : one_hop_fault one_hop_datagram ≡ None
one_hop_datagram_has_no_fault = refl
