-- A path travelled back: the way of an answer (SCMP specification, "Processing Rules").
use Rattle.std.specs.Prelude.{◌≡◌, ◌<◌, false, not, map, reverse, Some, None}
use Rattle.scion_packet.specs.Path.{HopField, InfoField, IsPath, PathFields, Place, Segment, hops_in, place_at}
use Rattle.scion_packet.specs.Places.{mirrored, next}

-- travelled the other way, and with no reserved bit
abbrev pub reversed_info : InfoField → InfoField
reversed_info i = record i { reserved_flags = 0; along = not i.along; reserved = 0 }

-- with no alert flag and no reserved bit
abbrev pub cleared_hop : HopField → HopField
cleared_hop h = record h { reserved_flags = 0; ingress_alert = false; egress_alert = false }

abbrev pub reversed_segment : Segment → Segment
reversed_segment s = record { info = reversed_info s.info; hops = map cleared_hop (reverse s.hops) }

-- the last segment first, and each segment's last hop first; the current hop is the same one
abbrev pub reversed_path : PathFields → PathFields
reversed_path p = record {
  reserved = 0;
  place = mirrored p.segments p.place;
  segments = map reversed_segment (reverse p.segments);
}

-- The way back meets the same hops in the other order, and ends at the hop with which the path begins.
pub record ReversedLaws : Type 0 where
  pub steps : (p : PathFields) (at after : Place) → IsPath p → at.position < hops_in p.segments at.segment → next p.segments at ≡ Some after
      → next (reversed_path p).segments (mirrored p.segments after) ≡ Some (mirrored p.segments at)
  pub ends : (p : PathFields) → IsPath p → next (reversed_path p).segments (mirrored p.segments (place_at 0 0)) ≡ None
