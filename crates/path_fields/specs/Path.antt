-- The plain record of a path: its info fields and hop fields cut into segments.
use Rattle.std.specs.Prelude.{ℕ, ◌+◌, ◌-◌, List, [], ◌∷◌, take, drop, map, slice_index}
use Rattle.scion_packet.specs.Lengths.{first_hop}
use Rattle.scion_packet.specs.Path.{PathFields, Place, Segment, place_at}
use Rattle.path_fields.specs.Fields.{hop_field, info_field}
use Rattle.path_fields.specs.declared.fields.Info.{Info}
use Rattle.path_fields.specs.declared.fields.Hop.{Hop}
use Rattle.path_fields.specs.declared.path.Path.{Path}

-- the segments from number k on: the info field of each, and as many of the path's hops as its length says
abbrev pub segments_from : ℕ → List ℕ → List Info → List Hop → List Segment
segments_from k lengths [] hops = []
segments_from k lengths (i ∷ infos) hops =
    record { info = info_field i; hops = map hop_field (take (slice_index lengths k) (drop (first_hop lengths k) hops)) }
    ∷ segments_from (k + 1) lengths infos hops

abbrev pub segments : Path → List Segment
segments p = segments_from 0 p.lengths p.infos.items p.hops.items

abbrev pub place : Path → Place
place p = place_at p.current_info (p.current_hop - first_hop p.lengths p.current_info)

abbrev pub fields_of : Path → PathFields
fields_of p = record { reserved = p.reserved; place = place p; segments = segments p }
