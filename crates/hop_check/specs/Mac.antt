-- The MAC of a hop field, and the chaining of segment identifiers (draft-dekater-scion-dataplane, "Hop Field MAC Computation").
use Rattle.std.specs.Prelude.{ℕ, Bool, bit_xor, List, [], ◌∷◌, take}
use Rattle.std.specs.Str.{bytes_eq}
use Rattle.cmac_core.specs.Cmac.{tag}
use Rattle.field_rows.specs.Row.{Field, field, rows}
use Rattle.field_rows.specs.Place.{number_at}
use Rattle.scion_packet.specs.Path.{HopField, InfoField}

-- the sixteen bytes that the MAC is made over, with beta as the segment's identifier
abbrev pub mac_table : ℕ → InfoField → HopField → List (List Field)
mac_table beta info hop =
    (field 16 0 ∷ [])
    ∷ (field 16 beta ∷ [])
    ∷ (field 32 info.timestamp ∷ [])
    ∷ (field 8 0 ∷ [])
    ∷ (field 8 hop.expiry ∷ [])
    ∷ (field 16 hop.construction_ingress ∷ [])
    ∷ (field 16 hop.construction_egress ∷ [])
    ∷ (field 16 0 ∷ [])
    ∷ []

abbrev pub mac_input : ℕ → InfoField → HopField → List ℕ
mac_input beta info hop = rows (mac_table beta info hop)

-- the first six bytes of its AES-CMAC under the AS's key
abbrev pub mac6 : List ℕ → ℕ → InfoField → HopField → List ℕ
mac6 key beta info hop = take 6 (tag key (mac_input beta info hop))

-- the hop field carries its MAC, all six bytes
abbrev pub is_authentic : List ℕ → InfoField → HopField → Bool
is_authentic key info hop = bytes_eq hop.mac (mac6 key info.segment_id info hop)

-- the segment identifier with the first two bytes of a MAC xored in
abbrev pub chain : ℕ → List ℕ → ℕ
chain beta mac = bit_xor beta (number_at mac 0 2)
