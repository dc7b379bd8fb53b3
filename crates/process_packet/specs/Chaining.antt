-- Over two stops: the hop field that the next router accepts is chained to the one that was accepted before.
use Rattle.std.specs.Prelude.{List, None, Option, Some, false, slice_index, true, ℕ, ◌+◌, ◌≡◌, ◌≢◌}
use Rattle.field_rows.specs.Place.{IsBytes}
use Rattle.hop_check.specs.Mac.{chain}
use Rattle.scion_packet.specs.Header.{one_hop_path}
use Rattle.scion_packet.specs.Packet.{packet_of}
use Rattle.scion_packet.specs.Path.{InfoField, place_at}
use Rattle.scion_packet.specs.Places.{hop_there}
use Rattle.process_packet.specs.declared.decision.Decision.TheVariants as decision
use Rattle.process_packet.specs.declared.underlay.Underlay.{Underlay}
use Rattle.process_packet.specs.Decide.{decide, moved}
use Rattle.process_packet.specs.Network.{Network, is_local}
use Rattle.process_packet.specs.PacketState.{PacketState, arrives, hop, info, is_along, is_authentic, is_last_of_segment, past_switch, turned_back}

-- an info field with another identifier; its timestamp stays
abbrev pub with_identifier : ℕ → InfoField → InfoField
with_identifier id i = record i { segment_id = id }

-- The packet stood at one hop and was authentic there, and stands at the next hop of its segment and is authentic there. Along,
-- the identifier there is chained from the one here by the MAC here; against the direction of construction, where the next hop
-- field was made before, the one here is chained from the one there. All else of the info field is the same.
pub record FollowsOn (u v : PacketState) : Type 0 where
  pub place : v.path.place ≡ place_at u.path.place.segment (u.path.place.position + 1)
  pub hop_is : hop v ≡ hop_there u.path.segments v.path.place
  pub accepted : is_authentic u ≡ true
  pub verified : is_authentic v ≡ true
  pub along : is_along u ≡ true → info v ≡ with_identifier (chain (info u).segment_id (hop u).mac) (info u)
  pub against : is_along u ≡ false → info u ≡ with_identifier (chain (info v).segment_id (hop v).mac) (info v)

-- The packet stands at the very same hop, with the same identifier, and is authentic there too.
pub record IsSameHop (u v : PacketState) : Type 0 where
  pub place : v.path.place ≡ u.path.place
  pub info_is : info v ≡ info u
  pub hop_is : hop v ≡ hop u
  pub accepted : is_authentic u ≡ true
  pub verified : is_authentic v ≡ true

-- the hop field that was accepted where the packet came, its identifier turned back, and the one by which it leaves
abbrev pub at_entry : Network → ℕ → Underlay → ℕ → List ℕ → PacketState
at_entry n link source moment bytes = turned_back (arrives n link source moment bytes)

abbrev pub at_exit : Network → ℕ → Underlay → ℕ → List ℕ → PacketState
at_exit n link source moment bytes = past_switch (at_entry n link source moment bytes)

-- One router sends a datagram whose path isn't one of one hop, and another one sends on what it got. So a hop field of another segment, another time or
-- another AS's chain isn't accepted after it.
pub record NoHopIsSplicedIn : Type 0 where
  -- by a link of the one, to a link of the other, where the segment goes on
  pub over_link : (n m : Network) (link link' : ℕ) (source source' : Underlay) (moment moment' : ℕ) (bytes : List ℕ) (out out' : ℕ) (to' : Option Underlay)
      → IsBytes bytes → slice_index bytes 8 ≢ one_hop_path → decide n link source moment bytes ≡ decision.Send out None → link' ≢ 0
      → decide m link' source' moment' (moved n link source moment bytes) ≡ decision.Send out' to'
      → is_last_of_segment (at_exit n link source moment bytes) ≡ false
      → FollowsOn (at_exit n link source moment bytes) (at_entry m link' source' moment' (moved n link source moment bytes))
  -- within the AS, where the packet is for another one
  pub within : (n m : Network) (link : ℕ) (source source' : Underlay) (moment moment' : ℕ) (bytes : List ℕ) (out out' : ℕ) (to : Underlay) (to' : Option Underlay)
      → IsBytes bytes → slice_index bytes 8 ≢ one_hop_path → decide n link source moment bytes ≡ decision.Send out (Some to) → is_local n (packet_of bytes).header.destination ≡ false
      → decide m 0 source' moment' (moved n link source moment bytes) ≡ decision.Send out' to'
      → IsSameHop (at_exit n link source moment bytes) (at_entry m 0 source' moment' (moved n link source moment bytes))
