-- The packet as it leaves.
use Rattle.std.proofs.Common.{◌≡◌, ◌<◌, ◌≤◌, ◌≢◌, ◌&&◌, ◌==◌, not, nat_lt, Bool, true, false, ℕ, zero, suc, ◌+◌, List, [], ◌∷◌, length, take, Option, Some, None, refl, sym, ap, ap₂, ◌∙◌, arith, if◌then◌else◌}
use Rattle.std.proofs.lemmas.Bool.{cond-false, cond-true, eq-eqb, ne_eqb}
use Rattle.std.proofs.lemmas.Bool.Decides.{Decides-ltb}
use Rattle.std.proofs.lemmas.List.Sums.{sum_by-cons}
use Rattle.scion_packet.specs.Packet.{Packet}
use Rattle.scion_packet.specs.Path.{Place, Segment, count_hops, hop_number, hops_in, place_at}
use Rattle.scion_packet.specs.Places as places
use Rattle.process_packet.specs.declared.cause.Cause.TheVariants as cause
use Rattle.process_packet.specs.declared.departure.Departure.{Departure}
use Rattle.process_packet.specs.declared.packet_view.PacketView.{PacketView}
use Rattle.process_packet.specs.declared.path_hop.PathHop.{PathHop}
use Rattle.process_packet.specs.declared.underlay.Underlay.{Underlay}
use Rattle.process_packet.specs.Departure.{Departs, IsNumberOf, Keeps, moved_path}
use Rattle.process_packet.specs.Rows.{Verdict, Sent, Dropped, sent_out}
use Rattle.process_packet.specs.PacketView.{IsAlike, IsWhole, Shows, with_id}
use Rattle.process_packet.specs.PathHop.{Lies}
use Rattle.process_packet.specs.PacketState.{PacketState, chained, chained_id, is_last_of_path, next_place, next_segment}
use Rattle.process_packet.proofs.AlikeLemmas.{alike_same, alike_set, alike_with}

-- ---- numbers of hops

count_next : (ss : List Segment) (k : ℕ) → k < length ss → count_hops (take (suc k) ss) ≡ count_hops (take k ss) + hops_in ss k
count_next [] k there = absurd (omega arith)
count_next (s ∷ ss) zero there = omega arith
count_next (s ∷ ss) (suc k) there =
    let rest = count_next ss k (omega (arith, there)) in
    let more = sum_by-cons (λ (t : Segment). length t.hops) s (take (suc k) ss) in
    let less = sum_by-cons (λ (t : Segment). length t.hops) s (take k ss) in
    omega (arith, rest, more, less)

within_all : (ss : List Segment) (k : ℕ) → k < length ss → count_hops (take k ss) + hops_in ss k ≤ count_hops ss
within_all [] k there = absurd (omega arith)
within_all (s ∷ ss) zero there = let all = sum_by-cons (λ (t : Segment). length t.hops) s ss in omega (arith, all)
within_all (s ∷ ss) (suc k) there =
    let rest = within_all ss k (omega (arith, there)) in
    let all = sum_by-cons (λ (t : Segment). length t.hops) s ss in
    let less = sum_by-cons (λ (t : Segment). length t.hops) s (take k ss) in
    omega (arith, rest, all, less)

-- ---- the next hop

pub record HasNextHop (v : PathHop) (ss : List Segment) (at : Place) (segment : ℕ) : Type 0 where
  pub segment_is : segment ≡ (next_place ss at).segment
  pub number_is : v.number + 1 ≡ hop_number ss (next_place ss at)
  pub segment_fits : segment < length ss
  pub number_fits : v.number + 1 < 64

pub crosses : (v : PathHop) (ss : List Segment) (at : Place) → IsWhole ss → Lies v ss at → v.position + 1 ≡ v.hops → v.segment + 1 < length ss
    → HasNextHop v ss at (v.segment + 1)
crosses v ss at whole lies last followed =
    let test : places.is_last_of_segment ss at ≡ true = eq-eqb (at.position + 1) (hops_in ss at.segment) (omega (arith, lies.position, lies.hops, last)) in
    let place : next_place ss at ≡ next_segment at = cond-true (places.is_last_of_segment ss at) _ _ test in
    let step : at.segment + 1 ≡ suc at.segment = omega arith in
    let after : count_hops (take (at.segment + 1) ss) ≡ count_hops (take at.segment ss) + hops_in ss at.segment =
    ap (λ (n : ℕ). count_hops (take n ss)) step ∙ count_next ss at.segment lies.there in
    let there : at.segment + 1 < length ss = omega (arith, lies.segment, followed) in
    let all = within_all ss (at.segment + 1) there in
    let some = whole.some (at.segment + 1) there in
    let number : v.number + 1 ≡ hop_number ss (next_segment at) = omega (arith, lies.number, lies.position, lies.hops, last, after) in
    record {
      segment_is = ap (λ (n : ℕ). n + 1) lies.segment ∙ sym (ap (λ (p : Place). p.segment) place);
      number_is = number ∙ sym (ap (λ (p : Place). hop_number ss p) place);
      segment_fits = followed;
      number_fits = omega (arith, number, all, some, whole.hops);
    }

pub goes_on_within : (v : PathHop) (ss : List Segment) (at : Place) → IsWhole ss → Lies v ss at → v.position + 1 ≢ v.hops → HasNextHop v ss at v.segment
goes_on_within v ss at whole lies more =
    let other : at.position + 1 ≢ hops_in ss at.segment = omega (arith, lies.position, lies.hops, more) in
    let test : places.is_last_of_segment ss at ≡ false = ne_eqb (at.position + 1) (hops_in ss at.segment) other in
    let place : next_place ss at ≡ place_at at.segment (at.position + 1) = cond-false (places.is_last_of_segment ss at) _ _ test in
    let all = within_all ss at.segment lies.there in
    let number : v.number + 1 ≡ hop_number ss (place_at at.segment (at.position + 1)) = omega (arith, lies.number) in
    record {
      segment_is = lies.segment ∙ sym (ap (λ (p : Place). p.segment) place);
      number_is = number ∙ sym (ap (λ (p : Place). hop_number ss p) place);
      segment_fits = omega (arith, lies.segment, lies.there);
      number_fits = omega (arith, lies.number, all, lies.inside, other, whole.hops);
    }

other_true : (a b : Bool) → (a && not b) ≡ false → a ≡ true → b ≡ true
other_true true true more is = refl
other_true true false more is = sym more
other_true false true more is = refl
other_true false false more is = is

-- at a segment's last hop that isn't the path's, another segment follows
pub another_follows : (position hops segment segments : ℕ) → (position + 1 == hops && not (nat_lt (segment + 1) segments)) ≡ false → (position + 1 == hops) ≡ true
    → segment + 1 < segments
another_follows position hops segment segments more last =
    (Decides-ltb (segment + 1) segments).0 (other_true (position + 1 == hops) (nat_lt (segment + 1) segments) more last)

-- ---- the packet

-- the packet with another place and other segments
abbrev packet_at : PacketState → Place → List Segment → Packet
packet_at s at ss = record { header = s.header; path = record { reserved = s.path.reserved; place = at; segments = ss }; payload = s.payload }

as_kept : (v : PacketView) (s : PacketState) (p : Packet) (at : Place) (ss ts : List Segment) → Keeps v s p → ss ≡ ts
    → packet_at s at ss ≡ record p { path = record { reserved = p.path.reserved; place = at; segments = ts } }
as_kept v s p at ss ts keeps same =
    ap (λ h. record { header = h; path = record { reserved = s.path.reserved; place = at; segments = ss }; payload = s.payload }) keeps.header
    ∙ ap (λ (r : ℕ). record { header = p.header; path = record { reserved = r; place = at; segments = ss }; payload = s.payload }) keeps.reserved
    ∙ ap (λ (us : List Segment). record { header = p.header; path = record { reserved = p.path.reserved; place = at; segments = us }; payload = s.payload }) same
    ∙ ap (λ b. record { header = p.header; path = record { reserved = p.path.reserved; place = at; segments = ts }; payload = b }) keeps.payload

-- A departure with this link, by these segments, from what the view shows.
pub record LeavesBy (d : Departure) (v : PacketView) (link : ℕ) (to : Option Underlay) (chained : Option ℕ) : Type 0 where
  pub link_is : d.link ≡ link
  pub to_is : d.to ≡ to
  pub entered_is : d.entered ≡ v.entered
  pub turned_is : d.turned ≡ v.turned
  pub left_is : d.left ≡ v.current.segment
  pub chained_is : d.chained ≡ chained

pub departs : (d : Departure) (v : PacketView) (s : PacketState) (p : Packet) (link : ℕ) (to : Option Underlay) (chained : Option ℕ) (at : Place) (verdict : Verdict) → Shows v s → Keeps v s p
    → LeavesBy d v link to chained → IsNumberOf d.segment d.number s.path.segments at
    → verdict ≡ Sent link to (packet_at s at (with_id chained s.path.place.segment s.path.segments)) → Departs d verdict p
departs d v s p link to chained at verdict shows keeps by number is =
    let ps = p.path.segments in
    let alike : IsAlike v.entered ps (with_id v.turned v.entered ps) = alike_with v.turned v.entered ps in
    let left : d.left ≡ s.path.place.segment = by.left_is ∙ shows.current.place.segment in
    let segments : with_id chained s.path.place.segment s.path.segments ≡ with_id d.chained d.left (with_id d.turned d.entered ps) =
    ap (λ (ss : List Segment). with_id chained s.path.place.segment ss) keeps.segments
    ∙ ap (λ (k : ℕ). with_id chained k (with_id v.turned v.entered ps)) (sym left)
    ∙ ap (λ (o : Option ℕ). with_id o d.left (with_id v.turned v.entered ps)) (sym by.chained_is)
    ∙ ap (λ (o : Option ℕ). with_id d.chained d.left (with_id o v.entered ps)) (sym by.turned_is)
    ∙ ap (λ (k : ℕ). with_id d.chained d.left (with_id d.turned k ps)) (sym by.entered_is) in
    let stands = as_kept v s p at _ _ keeps segments in
    let count : length s.path.segments ≡ length ps = ap length keeps.segments ∙ alike.count in
    record {
      at = at;
      verdict = is ∙ ap (λ (q : Packet). Sent link to q) stands
          ∙ ap (λ (l : ℕ). Sent l to (record p { path = moved_path d at p.path })) (sym by.link_is)
          ∙ ap (λ (o : Option Underlay). Sent d.link o (record p { path = moved_path d at p.path })) (sym by.to_is);
      segment = number.segment_is;
      number = number.number_is ∙ ap (λ (ss : List Segment). hop_number ss at) keeps.segments ∙ alike.number at;
      left = omega (arith, left, shows.current.place.there, count);
      entered = omega (arith, by.entered_is, keeps.entered);
    }

-- ---- out by an own link

last_alike : (k : ℕ) (old new : List Segment) (at : Place) → IsAlike k old new → places.is_last_of_segment new at ≡ places.is_last_of_segment old at
last_alike k old new at alike = ap (λ (n : ℕ). at.position + 1 == n) (alike.hops at.segment)

pub ends_alike : (k : ℕ) (old new : List Segment) (at : Place) → IsAlike k old new → places.is_last_of_path new at ≡ places.is_last_of_path old at
ends_alike k old new at alike =
    ap₂ (λ (a b : Bool). a && not b) (last_alike k old new at alike) (ap (λ (n : ℕ). nat_lt (at.segment + 1) n) alike.count)

next_alike : (k : ℕ) (old new : List Segment) (at : Place) → IsAlike k old new → next_place new at ≡ next_place old at
next_alike k old new at alike = ap (λ (b : Bool). if b then next_segment at else place_at at.segment (at.position + 1)) (last_alike k old new at alike)

-- the identifier for the next hop, in the direction of construction
abbrev pub id_for : Bool → PacketState → Option ℕ
id_for b s = if b then Some (chained_id s) else None

out_from : (s : PacketState) (ts : List Segment) (link : ℕ) → IsAlike s.path.place.segment s.path.segments ts → is_last_of_path s ≡ false
    → sent_out (record s { path = record s.path { segments = ts } }) link ≡ Sent link None (packet_at s (next_place s.path.segments s.path.place) ts)
out_from s ts link alike more =
    let at = s.path.place in
    cond-false (places.is_last_of_path ts at) (Dropped cause.PathEnd) _ (ends_alike at.segment s.path.segments ts at alike ∙ more)
    ∙ ap (λ (p : Place). Sent link None (packet_at s p ts)) (next_alike at.segment s.path.segments ts at alike)

pub out_is : (b : Bool) (s : PacketState) (link : ℕ) → is_last_of_path s ≡ false
    → sent_out (if b then chained s else s) link
    ≡ Sent link None (packet_at s (next_place s.path.segments s.path.place) (with_id (id_for b s) s.path.place.segment s.path.segments))
out_is true s link more = out_from s _ link (alike_set s.path.segments s.path.place.segment (chained_id s)) more
out_is false s link more = out_from s s.path.segments link (alike_same s.path.segments s.path.place.segment) more

pub path_ends : (b : Bool) (s : PacketState) (link : ℕ) → is_last_of_path s ≡ true → sent_out (if b then chained s else s) link ≡ Dropped cause.PathEnd
path_ends true s link last =
    let at = s.path.place in
    let alike = alike_set s.path.segments at.segment (chained_id s) in
    cond-true (places.is_last_of_path _ at) (Dropped cause.PathEnd) _ (ends_alike at.segment s.path.segments _ at alike ∙ last)
path_ends false s link last = cond-true (is_last_of_path s) (Dropped cause.PathEnd) _ last
