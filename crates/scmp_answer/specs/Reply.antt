-- The answer to a datagram.
use Rattle.std.specs.Prelude.{ℕ, Bool, true, false, not, ◌+◌, ◌/◌, ◌&&◌, ◌==◌, nat_lt, List, length, Option, Some, None, if◌then◌else◌}
use Rattle.process_packet.specs.declared.cause.Cause.{Cause}
use Rattle.process_packet.specs.declared.cause.Cause.TheVariants.{NoAnswer, NoWayBack}
use Rattle.process_packet.specs.declared.config.Config.{Config}
use Rattle.process_packet.specs.declared.decision.Problem.{Problem}
use Rattle.process_packet.specs.declared.underlay.Ip.{Ip}
use Rattle.process_packet.specs.declared.underlay.Ip.TheVariants.{V4, V6}
use Rattle.process_packet.specs.declared.underlay.Underlay.{Underlay}
use Rattle.process_packet.specs.Scmp.{traceroute_reply_type}
use Rattle.scion_header.specs.Upper.{upper_of}
use Rattle.scion_header.specs.declared.upper.Upper.{Upper}
use Rattle.scion_header.specs.declared.upper.Upper.TheVariants.{Scmp, Other, Cut}
use Rattle.scion_packet.specs.Extensions.{upper_layer}
use Rattle.scion_packet.specs.Header.{HeaderFields, HostAddress, scion_path}
use Rattle.scion_packet.specs.Packet.{Packet, packet_of}
use Rattle.scion_packet.specs.Path.{PathFields, path_text}
use Rattle.scmp_answer.specs.Checksum.{checksum, summed}
use Rattle.scmp_answer.specs.Message.{message}
use Rattle.scmp_answer.specs.WayBack.{has_no_way_back, is_external, way_back}

-- ---- who answers

abbrev pub ip_bytes : Ip → List ℕ
ip_bytes (V4 bytes) = bytes
ip_bytes (V6 bytes) = bytes

-- the router's address within its AS
abbrev pub local_address : Config → HostAddress
local_address c = record { isd = c.isd; autonomous_system = c.autonomous_system; kind = 0; host = ip_bytes c.internal.ip }

-- ---- what is answered

-- an SCMP error message, or one that can't be told from it
abbrev pub may_be_error : Upper → Bool
may_be_error (Scmp kind) = nat_lt kind 128
may_be_error Cut = true
may_be_error Other = false

-- No SCMP error message is answered by another one. A traceroute reply answers a request, which is none.
abbrev pub is_left_unanswered : Packet → Problem → Bool
is_left_unanswered p problem = not (problem.kind == traceroute_reply_type) && may_be_error (upper_of (upper_layer p.header.next_header p.payload))

-- ---- the answer

-- how many bytes the header of an answer has that takes this way
abbrev pub header_len : HostAddress → HeaderFields → PathFields → ℕ
header_len here arriving way = 28 + length arriving.source.host + length here.host + length (path_text way)

-- back to the source, in the flow of the packet that arrived
abbrev pub answer_header : HostAddress → HeaderFields → ℕ → ℕ → HeaderFields
answer_header here arriving header_len message_len = record {
  traffic_class = arriving.traffic_class;
  flow_id = arriving.flow_id;
  next_header = 202;
  header_length = header_len / 4;
  payload_length = message_len;
  path_type = scion_path;
  reserved = 0;
  destination = arriving.source;
  source = here;
}

-- the answer to a packet, of these bytes, that takes this way
abbrev pub answer_packet : HostAddress → Packet → PathFields → List ℕ → Problem → Packet
answer_packet here p way bytes problem =
    let len = header_len here p.header way in
    let unsummed = message here p len problem bytes 0 in
    let header = answer_header here p.header len (length unsummed) in
    record { header = header; path = way; payload = message here p len problem bytes (checksum (summed header unsummed)) }

-- what becomes of a problem: an answer that leaves by a link, to an underlay address if the link has more than one, or a drop
pub data Reply : Type 0 where
  Sent : ℕ → Option Underlay → Packet → Reply
  Dropped : Cause → Reply

-- by the link by which the packet came; in the AS, to where it came from
abbrev pub sent_back : ℕ → Underlay → Packet → Reply
sent_back link source answer = Sent link (if is_external link then None else Some source) answer

unfoldable pub reply : HostAddress → ℕ → Underlay → List ℕ → Problem → Reply
reply here link source bytes problem =
    let p = packet_of bytes in
    if is_left_unanswered p problem then Dropped NoAnswer
    else if has_no_way_back link p.path then Dropped NoWayBack
    else sent_back link source (answer_packet here p (way_back link p.path) bytes problem)
