-- Within a segment a datagram goes from hop field to hop field as they were beaconed.
use Rattle.std.specs.Prelude.{◌≡◌, ◌≢◌, ℕ, suc, true, false, List, ◌∷◌, Contains, Some, None}
use Rattle.std.specs.List.{slice_get}
use Rattle.process_packet.specs.Conditions.{ComesInBy, GoesOutBy}
use Rattle.process_packet.specs.PacketState.{PacketState, hop, info, is_along}
use Rattle.net_laws.specs.Configured.{AreNumbered}
use Rattle.net_laws.specs.Net.{Agrees, Net, Router}
use Rattle.net_laws.specs.PathSegments.{PathSegment}
use Rattle.path_authorisation.specs.Beaconed.{AreAllBeaconed, IsEntry, IsMade, NoIdentifierCollides, NoMacIsForged, identifier_at}
use Rattle.path_authorisation.specs.Sendings.{IsOnItsWay, IsOnLongPath, IsWalk, Sending, at_entry, at_exit}

-- Both hop fields were made, and the one chains to the other's identifier, with the same timestamp.
pub record AreChained (set : List PathSegment) (x y : Router) (u v : PacketState) : Type 0 where
  pub from : IsMade set x (info u) (hop u)
  pub to : IsMade set y (info v) (hop v)
  pub identifier : identifier_at from.segment (suc from.number) ≡ identifier_at to.segment to.number
  pub timestamp : from.segment.info.timestamp ≡ to.segment.info.timestamp

-- They are one after the other in one segment.
pub record AreConsecutive (set : List PathSegment) (x y : Router) (u v : PacketState) : Type 0 where
  pub segment : PathSegment
  pub beaconed : Contains set segment
  pub number : ℕ
  pub first : IsEntry segment number x (info u) (hop u)
  pub second : IsEntry segment (suc number) y (info v) (hop v)

-- A datagram comes into an AS by the link that the hop field names at which it comes, and leaves by the link that the hop field names
-- by which it leaves. Where it crosses a link on its segment, from the one of these to the other: in the direction of construction the
-- first of them was made first, against it the second.
pub record GoesAsBeaconed (set : List PathSegment) (walk : List Sending) : Type 0 where
  pub comes_by : (i : ℕ) (s : Sending) → slice_get walk i ≡ Some s → s.link ≢ 0 → ComesInBy (info (at_entry s)) (hop (at_entry s)) s.link
  pub leaves_by : (i : ℕ) (s : Sending) → slice_get walk i ≡ Some s → s.to ≡ None → GoesOutBy (info (at_exit s)) (hop (at_exit s)) s.out
  pub along : (i : ℕ) (s t : Sending) → slice_get walk i ≡ Some s → slice_get walk (suc i) ≡ Some t → s.to ≡ None → IsOnItsWay (at_exit s)
      → is_along (at_exit s) ≡ true → AreChained set s.here t.here (at_exit s) (at_entry t)
  pub against : (i : ℕ) (s t : Sending) → slice_get walk i ≡ Some s → slice_get walk (suc i) ≡ Some t → s.to ≡ None → IsOnItsWay (at_exit s)
      → is_along (at_exit s) ≡ false → AreChained set t.here s.here (at_entry t) (at_exit s)
  pub consecutive_along : NoIdentifierCollides set → (i : ℕ) (s t : Sending) → slice_get walk i ≡ Some s → slice_get walk (suc i) ≡ Some t → s.to ≡ None
      → IsOnItsWay (at_exit s) → is_along (at_exit s) ≡ true → AreConsecutive set s.here t.here (at_exit s) (at_entry t)
  pub consecutive_against : NoIdentifierCollides set → (i : ℕ) (s t : Sending) → slice_get walk i ≡ Some s → slice_get walk (suc i) ≡ Some t → s.to ≡ None
      → IsOnItsWay (at_exit s) → is_along (at_exit s) ≡ false → AreConsecutive set t.here s.here (at_entry t) (at_exit s)

abbrev pub WalksGoAsBeaconed : Type 0
WalksGoAsBeaconed =
    (net : Net) (set : List PathSegment) (s : Sending) (walk : List Sending) → Agrees net → AreNumbered net → AreAllBeaconed net set → IsWalk net (s ∷ walk) → IsOnLongPath s
    → NoMacIsForged set (s ∷ walk) → GoesAsBeaconed set (s ∷ walk)
