-- A stretch of a beaconed segment, along or against.
use Rattle.std.proofs.Common.{◌≡◌, ◌<◌, ◌+◌, ◌-◌, ℕ, suc, Bool, true, false, List, [], length, reverse, slice_index_or, sym, ap, ◌∙◌, arith, if◌then◌else◌}
use Rattle.std.proofs.lemmas.List.{get_or-reverse}
use Rattle.hop_check.specs.Mac.{chain, mac6}
use Rattle.scion_packet.specs.Path.{HopField, InfoField}
use Rattle.scion_packet.specs.Places.{no_hop}
use Rattle.hop_check.specs.Beaconing.{AreBeaconed, beta_at, hop_at}
use Rattle.net_laws.specs.Stretch.{Stretch, StretchHolds}

mac_met : (b : Bool) (keys : List (List ℕ)) (beta : ℕ) (info : InfoField) (made : List HopField) → AreBeaconed keys beta info made → (i : ℕ) → i < length made
    → (hop_at (if b then made else reverse made) i).mac
    ≡ mac6 (slice_index_or keys (if b then i else length made - 1 - i) []) (beta_at beta made (if b then i else length made - 1 - i)) info (hop_at (if b then made else reverse made) i)
mac_met true keys beta info made are i there = are i there
mac_met false keys beta info made are i there =
    let k = length made - 1 - i in
    let h : hop_at (reverse made) i ≡ hop_at made k = get_or-reverse made i no_hop there in
    ap (λ (x : HopField). x.mac) h ∙ are k (omega arith) ∙ ap (λ (x : HopField). mac6 (slice_index_or keys k []) (beta_at beta made k) info x) (sym h)

ids_met : (b : Bool) (beta : ℕ) (made : List HopField) (i : ℕ) → i + 1 < length made
    → (if b then chain (beta_at beta made (if b then i else length made - 1 - i)) (hop_at (if b then made else reverse made) i).mac else beta_at beta made (if b then i else length made - 1 - i))
    ≡ (if b then beta_at beta made (if b then i + 1 else length made - 1 - (i + 1))
    else chain (beta_at beta made (if b then i + 1 else length made - 1 - (i + 1))) (hop_at (if b then made else reverse made) (i + 1)).mac)
ids_met true beta made i more = let one : suc i ≡ i + 1 = omega arith in ap (beta_at beta made) one
ids_met false beta made i more =
    let k = length made - 1 - (i + 1) in
    let one : length made - 1 - i ≡ suc k = omega arith in
    let h : hop_at (reverse made) (i + 1) ≡ hop_at made k = get_or-reverse made (i + 1) no_hop more in
    ap (beta_at beta made) one ∙ ap (λ (x : HopField). chain (beta_at beta made k) x.mac) (sym h)

pub holds : (s : Stretch) → AreBeaconed s.keys s.beta s.info s.made → StretchHolds s
holds s are = record {
  mac = mac_met s.info.along s.keys s.beta s.info s.made are;
  ids = ids_met s.info.along s.beta s.made;
}
