-- The hops of a route over stretches of beaconed segments.
use Rattle.std.proofs.Common.{◌≡◌, ◌<◌, ◌+◌, ℕ, Bool, true, false, List, length, reverse, slice_index_or, refl, sym, ap, ap₂, ◌∙◌, arith, if◌then◌else◌}
use Rattle.std.proofs.lemmas.List.{length-reverse}
use Rattle.hop_check.specs.Mac.{chain, mac6}
use Rattle.scion_packet.specs.Path.{HopField, InfoField, Place, Segment, hops_in}
use Rattle.scion_packet.specs.Places.{no_segment}
use Rattle.scion_packet.proofs.Offsets.{hops_in_is}
use Rattle.hop_check.specs.Beaconing.{hop_at}
use Rattle.net_laws.specs.Stretch.{HopsHold, IsMadeOf, IsStretch, Stretch, StretchHolds, hop_met}
use Rattle.net_laws.specs.Route.{Route, after, hop_of, id_before, id_after, info_of}
use Rattle.net_laws.proofs.BeaconLemmas.{holds}

as_many : (b : Bool) (made : List HopField) → length (if b then made else reverse made) ≡ length made
as_many true made = refl
as_many false made = length-reverse made

module _ (w : Route) (s : Stretch) (at : Place) (is : IsStretch w at.segment s) where
  info_is : info_of w at ≡ s.info
  info_is = ap (λ (t : Segment). t.info) is.segment

  hop_is : (at' : Place) → at'.segment ≡ at.segment → hop_of w at' ≡ hop_met s at'.position
  hop_is at' same = ap (λ (k : ℕ). hop_at (slice_index_or w.segments k no_segment).hops at'.position) same ∙ ap (λ (t : Segment). hop_at t.hops at'.position) is.segment

  size : hops_in w.segments at.segment ≡ length s.made
  size = hops_in_is w.segments at.segment ∙ ap (λ (t : Segment). length t.hops) is.segment ∙ as_many s.info.along s.made

  its_mac : at.position < hops_in w.segments at.segment → (hop_of w at).mac ≡ mac6 (w.key at) (w.beta at) (info_of w at) (hop_of w at)
  its_mac inside =
      let h : StretchHolds s = holds s is.beaconed in
      let n = size in
      let hop = hop_is at refl in
      ap (λ (x : HopField). x.mac) hop ∙ h.mac at.position (omega arith)
      ∙ ap₂ (λ (k : List ℕ) (b : ℕ). mac6 k b s.info (hop_met s at.position)) (sym (is.key at refl)) (sym (is.beta at refl))
      ∙ ap₂ (λ (i : InfoField) (x : HopField). mac6 (w.key at) (w.beta at) i x) (sym info_is) (sym hop)

  its_ids : at.position + 1 < hops_in w.segments at.segment → id_after w at ≡ id_before w (after at)
  its_ids more =
      let h : StretchHolds s = holds s is.beaconed in
      let n = size in
      let i = at.position in
      let hop = hop_is at refl in
      let next = hop_is (after at) refl in
      ap₂ (λ (f : InfoField) (x : HopField). if f.along then chain (w.beta at) x.mac else w.beta at) info_is hop
      ∙ ap (λ (b : ℕ). if s.info.along then chain b (hop_met s i).mac else b) (is.beta at refl)
      ∙ h.ids i (omega arith)
      ∙ ap (λ (b : ℕ). if s.info.along then b else chain b (hop_met s (i + 1)).mac) (sym (is.beta (after at) refl))
      ∙ ap₂ (λ (f : InfoField) (x : HopField). if f.along then w.beta (after at) else chain (w.beta (after at)) x.mac) (sym info_is) (sym next)

pub hops_hold : (w : Route) (stretches : ℕ → Stretch) → IsMadeOf w stretches → HopsHold w
hops_hold w stretches made = record {
  mac = λ at on. its_mac w (stretches at.segment) at (made at.segment on.segment) on.position;
  ids = λ at on. its_ids w (stretches at.segment) at (made at.segment on.segment) on.position;
}
