-- A packet on a path of one hop at a router: how it came, what it is, and how it leaves. The rows of its decision read it by these
-- words.
use Rattle.std.specs.Prelude.{ℕ, Bool, false, not, ◌+◌, ◌==◌, nat_lt, List, []}
use Rattle.hop_check.specs.Expiry as expiry
use Rattle.hop_check.specs.Mac as hop_mac
use Rattle.hop_check.specs.Mac.{mac6}
use Rattle.scion_packet.specs.OneHop.{OneHopPacket, OneHopPath, one_hop_packet_of}
use Rattle.scion_packet.specs.Path.{HopField, InfoField, hop_text}
use Rattle.process_packet.specs.declared.underlay.Underlay.{Underlay}
use Rattle.process_packet.specs.Network.{Network}

pub record OneHopState : Type 0 where
  pub network : Network
  pub link : ℕ  -- it came by; 0 is the internal network
  pub source : Underlay
  pub moment : ℕ  -- in seconds of Unix time
  pub bytes : List ℕ
  pub packet : OneHopPacket

abbrev pub one_hop_arrives : Network → ℕ → Underlay → ℕ → List ℕ → OneHopState
one_hop_arrives n link source moment bytes = record {
  network = n;
  link = link;
  source = source;
  moment = moment;
  bytes = bytes;
  packet = one_hop_packet_of bytes;
}

abbrev pub is_external : OneHopState → Bool
is_external s = not (s.link == 0)

abbrev pub info : OneHopState → InfoField
info s = s.packet.path.info

-- the hop field that the AS of the source made
abbrev pub first : OneHopState → HopField
first s = s.packet.path.first

-- the interface by which it leaves that AS
abbrev pub exit : OneHopState → ℕ
exit s = (first s).construction_egress

-- ---- what the first hop field shows

abbrev pub is_expired : OneHopState → Bool
is_expired s = expiry.is_expired (info s) (first s) s.moment

-- its timestamp is of more than 300 seconds after the moment
abbrev pub is_ahead : OneHopState → Bool
is_ahead s = nat_lt (s.moment + 300) (info s).timestamp

-- it carries the MAC that this AS's key gives for the segment's identifier
abbrev pub is_authentic : OneHopState → Bool
is_authentic s = hop_mac.is_authentic s.network.key (info s) (first s)

-- ---- changes

-- the path with another identifier, and with another second hop field
abbrev pub with_identifier : ℕ → OneHopPath → OneHopPath
with_identifier id path = record path { info = record path.info { segment_id = id } }

abbrev pub with_second : HopField → OneHopPath → OneHopPath
with_second hop path = record path { second = hop_text hop }

-- As it leaves the AS of its source, the identifier is chained by the first hop.
abbrev pub chained_id : OneHopState → ℕ
chained_id s = hop_mac.chain (info s).segment_id (first s).mac

abbrev pub chained : OneHopState → OneHopPacket
chained s = record s.packet { path = with_identifier (chained_id s) s.packet.path }

-- As it comes into the other AS, its second hop field is made: from the link by which it came, the segment's last, good for as
-- long as the first. Its MAC is this AS's, for the identifier as it is.
abbrev pub hop_from : ℕ → ℕ → List ℕ → HopField
hop_from link expiry mac = record {
  reserved_flags = 0;
  ingress_alert = false;
  egress_alert = false;
  expiry = expiry;
  construction_ingress = link;
  construction_egress = 0;
  mac = mac;
}

abbrev pub second_mac : OneHopState → List ℕ
second_mac s = mac6 s.network.key (info s).segment_id (info s) (hop_from s.link (first s).expiry [])

abbrev pub second : OneHopState → HopField
second s = hop_from s.link (first s).expiry (second_mac s)

abbrev pub completed : OneHopState → OneHopPacket
completed s = record s.packet { path = with_second (second s) s.packet.path }
