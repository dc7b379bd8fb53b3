-- The table of a MAC's input is read back from its bytes.
use Rattle.std.proofs.Common.{◌≡◌, ℕ, List, [], length, refl, ap, ◌∙◌, sym, take, slice_index_or, arith}
use Rattle.std.proofs.lemmas.List.{take_all}
use Rattle.field_rows.specs.Place.{StandsAt, TableAt}
use Rattle.field_rows.specs.Row.{Field, Fits, field, rows}
use Rattle.field_rows.proofs.Unique.{same_table}
use Rattle.hop_check.specs.Mac.{mac_input, mac_table}
use Rattle.hop_check.specs.OneInput.{AreMadeAlike}
use Rattle.scion_packet.specs.Path.{HopField, InfoField}

-- the number in the only field of row k
abbrev value_in : ℕ → List (List Field) → ℕ
value_in k table = (slice_index_or (slice_index_or table k []) 0 (field 0 0)).value

stands : (bytes : List ℕ) (text : List ℕ) → text ≡ bytes → StandsAt bytes 0 text
stands bytes text same = record { read = ap (take (length text)) (sym same) ∙ take_all (length text) text (omega arith) }

pub one_to_one : (beta : ℕ) (i : InfoField) (h : HopField) (gamma : ℕ) (j : InfoField) (g : HopField) → Fits (mac_table beta i h) → Fits (mac_table gamma j g)
    → mac_input beta i h ≡ mac_input gamma j g → AreMadeAlike beta i h gamma j g
one_to_one beta i h gamma j g fits other same =
    let t : List (List Field) = mac_table beta i h in
    let u : List (List Field) = mac_table gamma j g in
    let bytes : List ℕ = rows t in
    let one : TableAt bytes 0 t = record { fits = fits; text = stands bytes (rows t) refl } in
    let two : TableAt bytes 0 u = record { fits = other; text = stands bytes (rows u) (sym same) } in
    let is : t ≡ u = same_table bytes 0 t u refl (refl, (refl, (refl, (refl, (refl, (refl, (refl, (refl, tt)))))))) one two in
    record {
      identifier = ap (value_in 1) is;
      timestamp = ap (value_in 2) is;
      expiry = ap (value_in 4) is;
      ingress = ap (value_in 5) is;
      egress = ap (value_in 6) is;
    }
