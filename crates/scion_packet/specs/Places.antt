-- Places on a list of segments: the last of a segment and of the path, the next one, and the mirrored one.
use Rattle.std.specs.Prelude.{◌==◌, nat_lt, Bool, false, ◌&&◌, not, ◌+◌, ◌-◌, List, [], length, slice_index_or, Option, Some, None, if◌then◌else◌}
use Rattle.scion_packet.specs.Path.{HopField, InfoField, Segment, Place, place_at, hops_in}

abbrev pub is_last_of_segment : List Segment → Place → Bool
is_last_of_segment ss at = at.position + 1 == hops_in ss at.segment

-- another segment follows
abbrev pub is_followed : List Segment → Place → Bool
is_followed ss at = nat_lt (at.segment + 1) (length ss)

abbrev pub is_last_of_path : List Segment → Place → Bool
is_last_of_path ss at = is_last_of_segment ss at && not (is_followed ss at)

-- the next hop of the segment, else the first hop of the next segment
abbrev pub next : List Segment → Place → Option Place
next ss at =
    if nat_lt (at.position + 1) (hops_in ss at.segment) then Some (place_at at.segment (at.position + 1))
    else if is_followed ss at then Some (place_at (at.segment + 1) 0) else None

-- the same hop on the path in reverse
abbrev pub mirrored : List Segment → Place → Place
mirrored ss at = place_at (length ss - 1 - at.segment) (hops_in ss at.segment - 1 - at.position)

-- ---- what stands at a place

-- where a list has no segment, and a segment no hop
abbrev pub no_segment : Segment
no_segment = record {
  info = record { reserved_flags = 0; along = false; reserved = 0; segment_id = 0; timestamp = 0 };
  hops = [];
}

abbrev pub no_hop : HopField
no_hop = record {
  reserved_flags = 0;
  ingress_alert = false;
  egress_alert = false;
  expiry = 0;
  construction_ingress = 0;
  construction_egress = 0;
  mac = [];
}

abbrev pub segment_there : List Segment → Place → Segment
segment_there ss at = slice_index_or ss at.segment no_segment

abbrev pub info_there : List Segment → Place → InfoField
info_there ss at = (segment_there ss at).info

abbrev pub hop_there : List Segment → Place → HopField
hop_there ss at = slice_index_or (segment_there ss at).hops at.position no_hop
