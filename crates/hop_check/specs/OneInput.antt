-- The input of a MAC tells what it was made of.
use Rattle.std.specs.Prelude.{◌≡◌, ℕ}
use Rattle.field_rows.specs.Row.{Fits}
use Rattle.hop_check.specs.Mac.{mac_input, mac_table}
use Rattle.scion_packet.specs.Path.{HopField, InfoField}

-- The same identifier, and the timestamp, expiry and interfaces of the one are those of the other.
pub record AreMadeAlike (beta : ℕ) (i : InfoField) (h : HopField) (gamma : ℕ) (j : InfoField) (g : HopField) : Type 0 where
  pub identifier : beta ≡ gamma
  pub timestamp : i.timestamp ≡ j.timestamp
  pub expiry : h.expiry ≡ g.expiry
  pub ingress : h.construction_ingress ≡ g.construction_ingress
  pub egress : h.construction_egress ≡ g.construction_egress

-- Where all numbers fit their fields, one input is made of one identifier, timestamp, expiry and pair of interfaces alone.
abbrev pub InputsAreOneToOne : Type 0
InputsAreOneToOne =
    (beta : ℕ) (i : InfoField) (h : HopField) (gamma : ℕ) (j : InfoField) (g : HopField) → Fits (mac_table beta i h) → Fits (mac_table gamma j g)
    → mac_input beta i h ≡ mac_input gamma j g → AreMadeAlike beta i h gamma j g
