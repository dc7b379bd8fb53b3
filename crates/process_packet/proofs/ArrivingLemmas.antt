-- The interface by which a packet entered the AS.
use Rattle.std.proofs.Common.{◌≡◌, ◌≢◌, ◌==◌, true, ℕ, ◌-◌, List, sym, ap, ap₂, ◌∙◌}
use Rattle.std.proofs.lemmas.Bool.{and_from, cond-false, cond-true, eq-eqb, ne_eqb}
use Rattle.path_fields.specs.Fields.{hop_field, info_field}
use Rattle.scion_packet.specs.Path.{Place, Segment, hops_in, place_at}
use Rattle.scion_packet.specs.Places.{hop_there, info_there}
use Rattle.process_packet.specs.PathHop.{IsPathHop}
use Rattle.process_packet.specs.PacketState.{PacketState, entry, entry_place, ingress, ingress_of, is_first_of_path}
use Rattle.process_packet.specs.declared.path_hop.PathHop.{PathHop}

entered_at : (ss : List Segment) (at at' : Place) → at' ≡ at → ingress_of (info_there ss at') (hop_there ss at') ≡ ingress_of (info_there ss at) (hop_there ss at)
entered_at ss at at' same = ap (λ (p : Place). ingress_of (info_there ss p) (hop_there ss p)) same

-- not at a segment's first hop, or at the path's first one
pub entered_here : (s : PacketState) (r : ℕ) → s.path.place.position ≢ 0 → r ≡ ingress s → r ≡ entry s
entered_here s r other is =
    let at = s.path.place in
    let place : entry_place s.path.segments at ≡ at = cond-false (at.position == 0) _ at (ne_eqb at.position 0 other) in
    is ∙ sym (entered_at s.path.segments at (entry_place s.path.segments at) place)

pub first_of_all : (s : PacketState) → s.path.place.position ≡ 0 → s.path.place.segment ≡ 0 → is_first_of_path s.path.place ≡ true
first_of_all s position segment = and_from _ _ (eq-eqb s.path.place.segment 0 segment) (eq-eqb s.path.place.position 0 position)

-- at the first hop of a later segment
pub entered_before : (s : PacketState) (b : PathHop) (ss : List Segment) (k n r : ℕ) → s.path.segments ≡ ss → k ≡ s.path.place.segment → s.path.place.position ≡ 0
    → n ≡ hops_in ss (k - 1) - 1 → IsPathHop b ss (place_at (k - 1) n) → r ≡ ingress_of (info_field b.info) (hop_field b.hop) → r ≡ entry s
entered_before s b ss k n r segments segment first position is read =
    let at = s.path.place in
    let own = s.path.segments in
    let there : entry_place own at ≡ place_at (at.segment - 1) (hops_in own (at.segment - 1) - 1) = cond-true (at.position == 0) _ at (eq-eqb at.position 0 first) in
    let named : place_at (at.segment - 1) (hops_in own (at.segment - 1) - 1) ≡ place_at (k - 1) n =
    ap₂ (λ (j : ℕ) (ts : List Segment). place_at (j - 1) (hops_in ts (j - 1) - 1)) (sym segment) segments ∙ ap (place_at (k - 1)) (sym position) in
    let seen : ingress_of (info_there own (entry_place own at)) (hop_there own (entry_place own at)) ≡ ingress_of (info_there ss (place_at (k - 1) n)) (hop_there ss (place_at (k - 1) n)) =
    entered_at own (place_at (k - 1) n) (entry_place own at) (there ∙ named) ∙ ap (λ (ts : List Segment). ingress_of (info_there ts (place_at (k - 1) n)) (hop_there ts (place_at (k - 1) n))) segments in
    read ∙ ap₂ ingress_of is.info is.hop ∙ sym seen
