-- Beaconed hop fields: made one after the other, each with its AS's key and a chained identifier (draft-dekater-scion-dataplane,
-- "Hop Field MAC Computation").
use Rattle.std.specs.Prelude.{◌≡◌, ◌<◌, ℕ, zero, suc, List, [], length, slice_index_or}
use Rattle.hop_check.specs.Mac.{chain, mac6}
use Rattle.path_fields.specs.Fields.{hop_field}
use Rattle.path_fields.specs.declared.fields.Hop.{Hop}
use Rattle.scion_packet.specs.Path.{HopField, InfoField}
use Rattle.scion_packet.specs.Places.{no_hop}

abbrev pub hop_at : List HopField → ℕ → HopField
hop_at hops k = slice_index_or hops k no_hop

-- the identifier at hop k, chained from the first one over the hops before
abbrev pub beta_at : ℕ → List HopField → ℕ → ℕ
beta_at beta hops zero = beta
beta_at beta hops (suc k) = chain (beta_at beta hops k) (hop_at hops k).mac

-- each hop field carries the MAC that its AS's key gives for the identifier of its place
abbrev pub AreBeaconed : List (List ℕ) → ℕ → InfoField → List HopField → Type 0
AreBeaconed keys beta info hops =
    (k : ℕ) → k < length hops → (hop_at hops k).mac ≡ mac6 (slice_index_or keys k []) (beta_at beta hops k) info (hop_at hops k)

-- a hop field as it is before its MAC is made
abbrev pub without_mac : Hop → HopField
without_mac h = record (hop_field h) { mac = [] }
