-- The packet that answers a BFD control packet: on a path of one hop, over the link by which the packet came (RFC 5880;
-- draft-dekater-scion-dataplane, "One-Hop Path Type").
use Rattle.std.specs.Prelude.{ℕ, true, false, ◌+◌, ◌/◌, ◌%◌, ◌^◌, List, [], length, drop, replicate, Option, Some, None}
use Rattle.bfd_control.specs.Answer.{answer_text}
use Rattle.hop_check.specs.Mac.{chain, mac6}
use Rattle.scion_header.specs.declared.domain.Domain.{Domain}
use Rattle.scion_packet.specs.Header.{HeaderFields, HostAddress, header_end, one_hop_path}
use Rattle.scion_packet.specs.OneHop.{OneHopPacket, OneHopPath}
use Rattle.scion_packet.specs.Path.{HopField, InfoField}
use Rattle.process_packet.specs.declared.neighbours.Link.{Link}
use Rattle.process_packet.specs.declared.underlay.Ip.{Ip}
use Rattle.process_packet.specs.declared.underlay.Ip.TheVariants.{V4, V6}
use Rattle.process_packet.specs.LinkControl.{bfd_answer_flow, bfd_protocol}
use Rattle.process_packet.specs.Network.{Network, own_link}

-- ---- from this end of the link to the other

abbrev pub ip_bytes : Ip → List ℕ
ip_bytes (V4 bytes) = bytes
ip_bytes (V6 bytes) = bytes

abbrev pub far_end : Link → Domain → HostAddress
far_end l there = record { isd = there.isd; autonomous_system = there.autonomous_system; kind = 0; host = ip_bytes l.remote.ip }

abbrev pub near_end : Network → Link → HostAddress
near_end n l = record { isd = n.isd; autonomous_system = n.autonomous_system; kind = 0; host = ip_bytes l.local.ip }

-- expedited forwarding in the flow of answers, and a header of these addresses and of a path of one hop
abbrev pub header_between : HostAddress → HostAddress → HeaderFields
header_between destination source = record {
  traffic_class = 0xb8;
  flow_id = bfd_answer_flow;
  next_header = bfd_protocol;
  header_length = (28 + length destination.host + length source.host + 32) / 4;
  payload_length = 24;
  path_type = one_hop_path;
  reserved = 0;
  destination = destination;
  source = source;
}

abbrev pub answer_header : Network → Link → Domain → HeaderFields
answer_header n l there = header_between (far_end l there) (near_end n l)

-- ---- on a path that begins here and now, as it leaves the AS

-- the info field of a segment that begins at a moment: of the identifier 0
abbrev pub begun_at : ℕ → InfoField
begun_at moment = record { reserved_flags = 0; along = true; reserved = 0; segment_id = 0; timestamp = moment % 2 ^ 32 }

-- the hop field out by a link, good for six hours
abbrev pub hop_out : ℕ → List ℕ → HopField
hop_out link mac = record {
  reserved_flags = 0;
  ingress_alert = false;
  egress_alert = false;
  expiry = 63;
  construction_ingress = 0;
  construction_egress = link;
  mac = mac;
}

-- with the MAC of the AS's key, for the segment's identifier
abbrev pub answer_hop : List ℕ → ℕ → InfoField → HopField
answer_hop key link info = hop_out link (mac6 key info.segment_id info (hop_out link []))

-- the identifier as it leaves: chained by the hop field
abbrev pub answer_info : List ℕ → ℕ → ℕ → InfoField
answer_info key link moment = let begun = begun_at moment in record begun { segment_id = chain begun.segment_id (answer_hop key link begun).mac }

-- The second hop field is the neighbour's to write, and would be for a packet that goes on.
abbrev pub answer_path : List ℕ → ℕ → ℕ → OneHopPath
answer_path key link moment = record { info = answer_info key link moment; first = answer_hop key link (begun_at moment); second = replicate 12 0 }

-- ---- with the control packet that answers the one that came

-- Its own discriminator is the number of the link.
abbrev pub answer_packet : Network → Link → Domain → ℕ → List ℕ → OneHopPacket
answer_packet n l there moment received = record {
  header = answer_header n l there;
  path = answer_path n.key l.id moment;
  payload = answer_text l.id received;
}

abbrev pub answer_over : Network → Link → Option Domain → ℕ → List ℕ → Option OneHopPacket
answer_over n l None moment received = None
answer_over n l (Some there) moment received = Some (answer_packet n l there moment received)

abbrev pub answer_by : Network → Option Link → ℕ → List ℕ → Option OneHopPacket
answer_by n None moment received = None
answer_by n (Some l) moment received = answer_over n l l.neighbor moment received

-- to a datagram that came by the link at a moment, in seconds of Unix time; there is none where the link has no neighbour
unfoldable pub bfd_reply : Network → ℕ → ℕ → List ℕ → Option OneHopPacket
bfd_reply n link moment bytes = answer_by n (own_link n link) moment (drop (header_end bytes) bytes)
