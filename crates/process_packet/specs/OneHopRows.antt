-- The rows of the decision table for packets on a path of one hop (draft-dekater-scion-dataplane, "One-Hop Path Type"). Such a
-- packet is never answered by SCMP: its sender stands one hop away, and has no path back yet. What a row tests of the packet's way
-- is this router's own rule, but for the hop field and its MAC.
use Rattle.std.specs.Prelude.{ℕ, Bool, true, false, not, ◌&&◌, ◌||◌, ◌==◌, nat_lt, length, if◌then◌else◌, Option, Some, None, is_some}
use Rattle.scion_packet.specs.Fault.{Fault}
use Rattle.scion_packet.specs.Header.{header_fault_as, one_hop_path}
use Rattle.scion_packet.specs.OneHop.{OneHopPacket, one_hop_path_fault}
use Rattle.scion_packet.specs.Packet.{path_bytes}
use Rattle.process_packet.specs.declared.cause.Cause.{Cause}
use Rattle.process_packet.specs.declared.cause.Cause.TheVariants as cause
use Rattle.process_packet.specs.declared.decision.Problem.{Problem}
use Rattle.process_packet.specs.declared.underlay.Underlay.{Underlay}
use Rattle.process_packet.specs.HostPort.{delivered_at}
use Rattle.process_packet.specs.LinkControl.{bfd_protocol, control_answer, is_answered}
use Rattle.process_packet.specs.Network.{is_local, is_neighbor, is_remote, neighbor, own_link}
use Rattle.process_packet.specs.OneHopState.{OneHopState, chained, completed, exit, first, is_ahead, is_authentic, is_expired, is_external}
use Rattle.process_packet.specs.Rows.{cause_of}
use Rattle.process_packet.specs.Underlay.{longest_datagram}

-- what becomes of a packet; a packet that is sent stands as it leaves
pub data OneHopVerdict : Type 0 where
  Sent : ℕ → Option Underlay → OneHopPacket → OneHopVerdict
  Answered : Problem → OneHopVerdict
  Dropped : Cause → OneHopVerdict

-- a row ends the decision, or lets the packet go on to the next row
abbrev pub OneHopRow : Type 0
OneHopRow = OneHopState → Option OneHopVerdict

-- a row that ends the decision where its test applies
abbrev pub ends_where : Bool → OneHopVerdict → Option OneHopVerdict
ends_where true v = Some v
ends_where false v = None

abbrev pub dropped_where : Bool → Cause → Option OneHopVerdict
dropped_where applies why = ends_where applies (Dropped why)

-- ---- the datagram

-- more bytes than any link carries
abbrev pub too_long : OneHopRow
too_long s = dropped_where (nat_lt longest_datagram (length s.bytes)) cause.TooLong

abbrev pub faulty : Option Fault → Option OneHopVerdict
faulty None = None
faulty (Some f) = Some (Dropped (cause_of f))

-- a fault of the common header or the address header ("SCION Header Specification")
abbrev pub faulty_header : OneHopRow
faulty_header s = faulty (header_fault_as one_hop_path s.bytes)

-- a fault of the path: another length, a peering segment, against the direction of construction
abbrev pub faulty_path : OneHopRow
faulty_path s = faulty (one_hop_path_fault (path_bytes s.bytes))

-- the payload isn't as long as the common header says
abbrev pub wrong_payload_length : OneHopRow
wrong_payload_length s = dropped_where (not (s.packet.header.payload_length == length s.packet.payload)) cause.Header

-- ---- how it came

-- from outside by another router than the one at the other end of the link
abbrev pub wrong_underlay_source : OneHopRow
wrong_underlay_source s = dropped_where (is_external s && not (is_remote (own_link s.network s.link) s.source)) cause.UnderlaySource

-- from outside it is from the AS at the other end of the link, for this one; from inside it is from this AS
abbrev pub are_ends_lawful : OneHopState → Bool
are_ends_lawful s =
    if is_external s then is_local s.network s.packet.header.destination && is_neighbor (neighbor s.network s.link) s.packet.header.source
    else is_local s.network s.packet.header.source

abbrev pub wrong_ends : OneHopRow
wrong_ends s = dropped_where (not (are_ends_lawful s)) cause.OneHopEnds

-- A control packet of BFD (RFC 5880) has no host here: it is answered, or dropped.
abbrev pub controlled : OneHopState → OneHopVerdict
controlled s =
    if is_answered s.network s.link s.packet.header.flow_id s.packet.payload then Answered (control_answer s.link) else Dropped cause.OneHopHost

-- from outside it is of BFD, the link's own protocol
abbrev pub link_control : OneHopRow
link_control s = ends_where (is_external s && s.packet.header.next_header == bfd_protocol) (controlled s)

-- ---- the first hop field

-- from inside it begins a segment, and leaves by a link of this router over which one-hop paths are carried
abbrev pub begins_here : OneHopState → Bool
begins_here s = is_some (neighbor s.network (exit s)) && (first s).construction_ingress == 0

abbrev pub wrong_exit : OneHopRow
wrong_exit s = dropped_where (not (is_external s) && not (begins_here s)) cause.OneHopField

-- from inside it is for the AS at the other end of that link
abbrev pub wrong_far_end : OneHopRow
wrong_far_end s = dropped_where (not (is_external s) && not (is_neighbor (neighbor s.network (exit s)) s.packet.header.destination)) cause.OneHopEnds

-- its time is over, or hasn't come: the AS that takes it in signs a hop field for this time
abbrev pub wrong_time : OneHopRow
wrong_time s = dropped_where (is_expired s || is_ahead s) cause.OneHopField

-- from inside it carries another MAC than this AS's key gives ("Hop Field MAC Computation")
abbrev pub wrong_mac : OneHopRow
wrong_mac s = dropped_where (not (is_external s) && not (is_authentic s)) cause.OneHopField

-- ---- how it leaves

-- from inside: by the link that its first hop field names, with the identifier chained
abbrev pub leave : OneHopRow
leave s = if is_external s then None else Some (Sent (exit s) None (chained s))

abbrev pub delivered : OneHopPacket → Option Underlay → OneHopVerdict
delivered p None = Dropped cause.OneHopHost
delivered p (Some at) = Sent 0 (Some at) p

-- from outside: to its host or service, with the second hop field made
abbrev pub complete : OneHopRow
complete s = Some (delivered (completed s) (delivered_at s.network s.packet.header s.packet.payload))
