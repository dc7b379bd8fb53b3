-- What the code holds of a hop of a path.
use Rattle.std.specs.Prelude.{◌≡◌, ◌<◌, ℕ, List, None, length}
use Rattle.field_rows.specs.Place.{IsBytes}
use Rattle.path_fields.specs.Fields.{hop_field, info_field}
use Rattle.path_fields.specs.declared.meta.Meta.{Meta}
use Rattle.scion_packet.specs.Path.{Place, Segment, count_hops, hop_number, hops_in, lengths_of, path_fault, place_at}
use Rattle.scion_packet.specs.Path as packet
use Rattle.scion_packet.specs.Places.{hop_there, info_there}
use Rattle.process_packet.specs.declared.path_hop.PathHop.{PathHop}

-- The bytes are those of a path without a fault, and this is their meta header.
pub record IsMetaOf (m : Meta) (path : List ℕ) : Type 0 where
  pub are : IsBytes path
  pub lawful : path_fault path ≡ None
  pub lengths : m.lengths ≡ lengths_of path
  pub info : m.current_info ≡ packet.current_info path
  pub hop : m.current_hop ≡ packet.current_hop path

-- The hop lies at the place of a path.
pub record Lies (v : PathHop) (ss : List Segment) (at : Place) : Type 0 where
  pub segment : v.segment ≡ at.segment
  pub position : v.position ≡ at.position
  pub hops : v.hops ≡ hops_in ss at.segment
  pub number : v.number ≡ hop_number ss at
  pub there : at.segment < length ss
  pub inside : at.position < hops_in ss at.segment

-- It holds the fields of the hop at the place of a path.
pub record IsPathHop (v : PathHop) (ss : List Segment) (at : Place) : Type 0 where
  pub place : Lies v ss at
  pub info : info_field v.info ≡ info_there ss at
  pub hop : hop_field v.hop ≡ hop_there ss at

-- The hop lies on the path with these segments.
abbrev pub LiesOn : PathHop → List Segment → Type 0
LiesOn v ss = Lies v ss (place_at v.segment v.position)
