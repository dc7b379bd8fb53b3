-- Over the whole of a segment of its path a datagram goes along one beaconed segment.
use Rattle.std.specs.Prelude.{◌≡◌, ◌+◌, ℕ, true, false, List, ◌∷◌, Contains, Some}
use Rattle.std.specs.List.{slice_get}
use Rattle.process_packet.specs.PacketState.{hop, info, is_along}
use Rattle.net_laws.specs.Configured.{AreNumbered}
use Rattle.net_laws.specs.Net.{Agrees, Net}
use Rattle.net_laws.specs.PathSegments.{PathSegment}
use Rattle.path_authorisation.specs.Beaconed.{AreAllBeaconed, IsEntry, NoIdentifierCollides, NoMacIsForged}
use Rattle.path_authorisation.specs.Sendings.{IsOnLongPath, IsWalk, Sending, at_entry, at_exit}

-- The hop field at which the datagram comes is an entry of the segment, as many after the one with this number as its position in
-- the path is after this one; against the direction of construction as many before.
pub record StandsAlong (t : PathSegment) (number position : ℕ) (d : Sending) : Type 0 where
  pub here : ℕ
  pub entry : IsEntry t here d.here (info (at_entry d)) (hop (at_entry d))
  pub place : here + position ≡ number + (at_entry d).path.place.position

pub record StandsAgainst (t : PathSegment) (number position : ℕ) (d : Sending) : Type 0 where
  pub here : ℕ
  pub entry : IsEntry t here d.here (info (at_entry d)) (hop (at_entry d))
  pub place : here + (at_entry d).path.place.position ≡ number + position

-- From the hop field by which it leaves one AS on, all at which it comes, as long as it is on the same segment of its path, are of one
-- beaconed segment.
pub record IsOneSegment (set : List PathSegment) (stands : PathSegment → ℕ → ℕ → Sending → Type 0) (s : Sending) (walk : List Sending) : Type 0 where
  pub segment : PathSegment
  pub beaconed : Contains set segment
  pub number : ℕ
  pub entry : IsEntry segment number s.here (info (at_exit s)) (hop (at_exit s))
  pub later : (j : ℕ) (d : Sending) → slice_get walk j ≡ Some d → (at_entry d).path.place.segment ≡ (at_exit s).path.place.segment
      → stands segment number (at_exit s).path.place.position d

pub record SegmentsAreBeaconed : Type 0 where
  pub along : (net : Net) (set : List PathSegment) (s : Sending) (walk : List Sending) → Agrees net → AreNumbered net → AreAllBeaconed net set → NoIdentifierCollides set
      → IsWalk net (s ∷ walk) → IsOnLongPath s → NoMacIsForged set (s ∷ walk) → is_along (at_exit s) ≡ true → IsOneSegment set StandsAlong s walk
  pub against : (net : Net) (set : List PathSegment) (s : Sending) (walk : List Sending) → Agrees net → AreNumbered net → AreAllBeaconed net set → NoIdentifierCollides set
      → IsWalk net (s ∷ walk) → IsOnLongPath s → NoMacIsForged set (s ∷ walk) → is_along (at_exit s) ≡ false → IsOneSegment set StandsAgainst s walk
