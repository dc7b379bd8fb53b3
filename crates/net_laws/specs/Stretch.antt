-- Stretches of beaconed segments, as a path travels them, and routes over them.
use Rattle.std.specs.Prelude.{◌≡◌, ◌<◌, ◌+◌, ◌-◌, ℕ, List, [], length, reverse, slice_index_or, if◌then◌else◌}
use Rattle.hop_check.specs.Beaconing.{AreBeaconed, beta_at, hop_at}
use Rattle.hop_check.specs.Mac.{chain, mac6}
use Rattle.scion_packet.specs.Path.{HopField, InfoField, Place, Segment}
use Rattle.scion_packet.specs.Places.{no_segment}
use Rattle.net_laws.specs.Route.{IsOn, Route, after, hop_of, id_after, id_before, info_of}

-- a beaconed segment as it is travelled: its hops in the order of construction, and which way they are met
pub record Stretch : Type 0 where
  pub info : InfoField
  pub made : List HopField
  pub keys : List (List ℕ)
  pub beta : ℕ

-- the segment of a path
abbrev pub segment_of : Stretch → Segment
segment_of s = record { info = s.info; hops = if s.info.along then s.made else reverse s.made }

-- the hop that is met at a position, by its number in the order of construction
abbrev pub made_at : Stretch → ℕ → ℕ
made_at s i = if s.info.along then i else length s.made - 1 - i

abbrev pub beta_met : Stretch → ℕ → ℕ
beta_met s i = beta_at s.beta s.made (made_at s i)

abbrev pub key_met : Stretch → ℕ → List ℕ
key_met s i = slice_index_or s.keys (made_at s i) []

abbrev pub hop_met : Stretch → ℕ → HopField
hop_met s i = hop_at (segment_of s).hops i

-- On a stretch, along or against, each hop has its MAC, and the identifier that leaves one hop comes to the next.
pub record StretchHolds (s : Stretch) : Type 0 where
  pub mac : (i : ℕ) → i < length s.made → (hop_met s i).mac ≡ mac6 (key_met s i) (beta_met s i) s.info (hop_met s i)
  pub ids : (i : ℕ) → i + 1 < length s.made
      → (if s.info.along then chain (beta_met s i) (hop_met s i).mac else beta_met s i)
      ≡ (if s.info.along then beta_met s (i + 1) else chain (beta_met s (i + 1)) (hop_met s (i + 1)).mac)

abbrev pub StretchesHold : Type 0
StretchesHold = (s : Stretch) → AreBeaconed s.keys s.beta s.info s.made → StretchHolds s

-- ---- a route over stretches

-- Segment k is this stretch, and its hops have the stretch's identifiers and keys.
pub record IsStretch (w : Route) (k : ℕ) (s : Stretch) : Type 0 where
  pub beaconed : AreBeaconed s.keys s.beta s.info s.made
  pub segment : slice_index_or w.segments k no_segment ≡ segment_of s
  pub beta : (at : Place) → at.segment ≡ k → w.beta at ≡ beta_met s at.position
  pub key : (at : Place) → at.segment ≡ k → w.key at ≡ key_met s at.position

abbrev pub IsMadeOf : Route → (ℕ → Stretch) → Type 0
IsMadeOf w stretches = (k : ℕ) → k < length w.segments → IsStretch w k (stretches k)

-- Then each hop has its MAC, and the identifiers fit from hop to hop.
pub record HopsHold (w : Route) : Type 0 where
  pub mac : (at : Place) → IsOn w at → (hop_of w at).mac ≡ mac6 (w.key at) (w.beta at) (info_of w at) (hop_of w at)
  pub ids : (at : Place) → IsOn w (after at) → id_after w at ≡ id_before w (after at)

abbrev pub BeaconedHopsHold : Type 0
BeaconedHopsHold = (w : Route) (stretches : ℕ → Stretch) → IsMadeOf w stretches → HopsHold w
