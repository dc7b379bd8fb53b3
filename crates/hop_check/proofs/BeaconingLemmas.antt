-- Hop fields whose MACs are made one after the other.
use Rattle.std.proofs.Common.{◌≡◌, ◌<◌, ◌+◌, ℕ, zero, suc, List, [], length, slice_index_or, set, refl, sym, ap, ap₂, subst, ◌∙◌, arith, inl, inr}
use Rattle.std.proofs.lemmas.Bool.{cases_eq}
use Rattle.std.proofs.lemmas.List.{get_or-set_other, get_or-set_same}
use Rattle.hop_check.specs.Mac.{chain, mac6}
use Rattle.hop_check.specs.Beaconing.{beta_at, hop_at}
use Rattle.scion_packet.specs.Path.{HopField, InfoField}
use Rattle.scion_packet.specs.Places.{no_hop}

-- hop k carries its MAC
abbrev pub IsMade : List (List ℕ) → ℕ → InfoField → List HopField → ℕ → Type 0
IsMade keys beta info hops k = (hop_at hops k).mac ≡ mac6 (slice_index_or keys k []) (beta_at beta hops k) info (hop_at hops k)

abbrev pub AreMadeBelow : ℕ → List (List ℕ) → ℕ → InfoField → List HopField → Type 0
AreMadeBelow n keys beta info hops = (k : ℕ) → k < n → IsMade keys beta info hops k

-- the identifier at a hop depends on the hops before it alone
pub beta_of_those_before : (beta : ℕ) (xs ys : List HopField) (k : ℕ) → ((i : ℕ) → i < k → hop_at xs i ≡ hop_at ys i) → beta_at beta xs k ≡ beta_at beta ys k
beta_of_those_before beta xs ys zero same = refl
beta_of_those_before beta xs ys (suc k) same =
    ap₂ chain (beta_of_those_before beta xs ys k (λ i lt. same i (omega arith))) (ap (λ (h : HopField). h.mac) (same k (omega arith)))

-- a write at k keeps the hops before
kept : (hops : List HopField) (k : ℕ) (h : HopField) (i : ℕ) → i < k → hop_at (set hops k h) i ≡ hop_at hops i
kept hops k h i lt = get_or-set_other hops k i h no_hop (λ same. omega arith)

-- once hop k is written with its MAC, those up to it are made
pub made_more : (keys : List (List ℕ)) (beta : ℕ) (info : InfoField) (hops : List HopField) (k : ℕ) (h : HopField) → k < length hops
    → h.mac ≡ mac6 (slice_index_or keys k []) (beta_at beta hops k) info h
    → AreMadeBelow k keys beta info hops → AreMadeBelow (k + 1) keys beta info (set hops k h)
made_more keys beta info hops k h there made before j lt =
    let next = set hops k h in
    elim (cases_eq j k) [
      | inl same ↦
          let new : hop_at next k ≡ h = get_or-set_same hops k h no_hop there in
          let id : beta_at beta next k ≡ beta_at beta hops k = beta_of_those_before beta next hops k (kept hops k h) in
          subst (IsMade keys beta info next) (sym same)
          (ap (λ (x : HopField). x.mac) new ∙ made ∙ ap₂ (λ (b : ℕ) (x : HopField). mac6 (slice_index_or keys k []) b info x) (sym id) (sym new))
      | inr other ↦
          let below : j < k = omega arith in
          let old : hop_at next j ≡ hop_at hops j = kept hops k h j below in
          let id : beta_at beta next j ≡ beta_at beta hops j = beta_of_those_before beta next hops j (λ i less. kept hops k h i (omega arith)) in
          ap (λ (x : HopField). x.mac) old ∙ before j below ∙ ap₂ (λ (b : ℕ) (x : HopField). mac6 (slice_index_or keys j []) b info x) (sym id) (sym old)
    ]

-- and the identifier after it is the chained one
pub chained_more : (beta : ℕ) (hops : List HopField) (k : ℕ) (h : HopField) → k < length hops
    → beta_at beta (set hops k h) (k + 1) ≡ chain (beta_at beta hops k) h.mac
chained_more beta hops k h there =
    let one : k + 1 ≡ suc k = omega arith in
    ap (beta_at beta (set hops k h)) one
    ∙ ap₂ chain (beta_of_those_before beta (set hops k h) hops k (kept hops k h)) (ap (λ (x : HopField). x.mac) (get_or-set_same hops k h no_hop there))

-- of an info field a MAC takes the timestamp alone, and of a hop field nothing of its MAC
pub mac_of_timestamp : (key mac : List ℕ) (beta : ℕ) (made info : InfoField) (h : HopField) → mac ≡ mac6 key beta made h
    → info.timestamp ≡ made.timestamp → mac ≡ mac6 key beta info (record h { mac = mac })
mac_of_timestamp key mac beta made info h is same = is ∙ ap (λ (t : ℕ). mac6 key beta (record made { timestamp = t }) h) (sym same)
