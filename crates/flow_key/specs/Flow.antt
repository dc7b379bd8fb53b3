-- The flow that a datagram belongs to.
use Rattle.std.specs.Prelude.{ℕ, ◌-◌, ◌/◌, ◌==◌, Bool, ◌&&◌, List, Option, Some, None}
use Rattle.field_rows.specs.Place.{text_at}
use Rattle.scion_packet.specs.Fault.{Fault}
use Rattle.scion_packet.specs.Header.{front_end, header_fault, header_of, host_kinds}

pub record Flow : Type 0 where
  pub flow_id : ℕ
  pub host_kinds : ℕ  -- byte 9: the kinds and the length codes of both hosts
  pub addresses : List ℕ  -- the bytes of the address header
  pub high : Bool  -- of the high band, where the router has links of two bands

-- the differentiated services code point of expedited forwarding (RFC 3246)
abbrev pub expedited_forwarding : ℕ
expedited_forwarding = 46

abbrev pub is_high : ℕ → Bool
is_high traffic_class = traffic_class / 4 == expedited_forwarding

abbrev pub flow_at : Bool → List ℕ → Flow
flow_at banded bytes = record {
  flow_id = (header_of bytes).flow_id;
  host_kinds = host_kinds bytes;
  addresses = text_at bytes 12 (front_end bytes - 12);
  high = banded && is_high (header_of bytes).traffic_class;
}

-- what has a fault has no flow
abbrev pub flow_unless : Option Fault → Flow → Option Flow
flow_unless (Some fault) flow = None
flow_unless None flow = Some flow

abbrev pub flow_of : Bool → List ℕ → Option Flow
flow_of banded bytes = flow_unless (header_fault bytes) (flow_at banded bytes)
