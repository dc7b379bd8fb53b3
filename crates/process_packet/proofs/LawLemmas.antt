-- Row after row of what was sent: none of them refused.
use Rattle.std.proofs.Common.{◌≡◌, ◌<◌, ◌+◌, ℕ, Bool, true, false, not, ◌&&◌, ◌==◌, nat_lt, inl, inr, List, [], ◌∷◌, length, drop, Option, Some, None, if◌then◌else◌, refl, sym, ap, subst, ◌∙◌, arith}
use Rattle.std.specs.Prelude.{◌⊎◌, is_some, option_map}
use Rattle.scion_packet.specs.Header.{HostAddress, header_fault, host_code}
use Rattle.scion_packet.proofs.PacketLaws.{pass_both}
use Rattle.scion_packet.specs.Fault.{Fault}
use Rattle.scion_packet.specs.Packet.{Packet, path_bytes, first_fault}
use Rattle.scion_packet.specs.Path.{Place, Segment, hops_in, path_fault, place_at}
use Rattle.scion_packet.specs.Places as places
use Rattle.scion_packet.specs.Places.{next}
use Rattle.process_packet.specs.declared.cause.Cause.{Cause}
use Rattle.process_packet.specs.declared.cause.Cause.TheVariants as cause
use Rattle.process_packet.specs.declared.decision.Problem.{Problem}
use Rattle.process_packet.specs.declared.underlay.Underlay.{Underlay}
use Rattle.process_packet.specs.Decide.{decision_of, decision_table, verdict, verdict_of}
use Rattle.process_packet.specs.Laws.{IsAuthorised, IsMoved, LeavesByItsEgress, LeftLawfully, changes}
use Rattle.process_packet.specs.HostPort.{delivered_at}
use Rattle.process_packet.specs.Neighbours.{sibling_at}
use Rattle.process_packet.specs.Network.{Network, interface_kind, is_local, own_link, sibling}
use Rattle.process_packet.specs.Request.{is_request}
use Rattle.process_packet.specs.Rows.{Answered, Dropped, Ends, GoesOn, Row, RowResult, Sent, came_lawfully, cause_of, delivered, ends_where, expired, faulty, is_destination_lawful, is_pair_lawful, is_source_lawful, sent_on, sent_out, sent_to, then_rows, unreachable, wrong_mac}
use Rattle.process_packet.specs.Routed.{IsAnswer}
use Rattle.process_packet.specs.PacketView.{with_id}
use Rattle.process_packet.specs.PacketState.{PacketState, arrives, chained, chained_id, changed_over, egress, egress_alert, hop_pointer, info_pointer, ingress, ingress_alert, is_along, is_authentic, is_expired, is_external, is_last_of_path, next_place, next_segment, packet, turned_back, with_place}
use Rattle.process_packet.proofs.PassingLemmas.{Passed, Sends, answer_passed, answer_passed_within, answered_not_sent, both_true, drop_passed, dropped_not_sent, fault_passed, not_false, not_true, parameter, same_sent}
use Rattle.process_packet.proofs.AlikeLemmas.{alike_set}
use Rattle.process_packet.proofs.ConditionLemmas.{authorised, has_its_pair}
use Rattle.process_packet.proofs.LeavingLemmas.{ends_alike}
use Rattle.process_packet.proofs.TurningLemmas.{turned_stays}

abbrev pub rest : ℕ → List Row
rest k = drop k decision_table

-- ---- up to the change of the segment identifier

-- past the rows by which a packet comes in
pub record CameIn (s : PacketState) (out : ℕ) (to : Option Underlay) (p : Packet) : Type 0 where
  pub authorised : IsAuthorised s
  pub destination : is_destination_lawful s ≡ true
  pub after : Sends (GoesOn (turned_back s)) (rest 12) out to p

fault_none : (f : Option Fault) (s : PacketState) (rows : List Row) (out : ℕ) (to : Option Underlay) (p : Packet) → Sends (faulty f s) rows out to p → f ≡ None
fault_none None s rows out to p sent = refl
fault_none (Some f) s rows out to p sent = absurd (dropped_not_sent (cause_of f) out to p sent)

pub came_in : (s : PacketState) (out : ℕ) (to : Option Underlay) (p : Packet) → Sends (GoesOn s) decision_table out to p → CameIn s out to p
came_in s out to p sent =
    let t : PacketState = turned_back s in
    let short = drop_passed (nat_lt 9216 (length s.bytes)) cause.TooLong s (rest 1) out to p sent in
    let header = fault_passed (header_fault s.bytes) s (rest 2) out to p short.after in
    let path = fault_passed (path_fault (path_bytes s.bytes)) s (rest 3) out to p header in
    let unexpired = answer_passed (is_expired s) (parameter 52 (hop_pointer s)) s (rest 4) out to p path in
    let entered = answer_passed (is_external s && not (ingress s == s.link)) (parameter (if is_along s then 49 else 50) (hop_pointer s)) s (rest 5) out to p unexpired.after in
    let whole = answer_passed (not (s.header.payload_length == length s.payload)) (parameter 19 0) s (rest 6) out to p entered.after in
    let sent-by = drop_passed (not (came_lawfully s)) cause.UnderlaySource s (rest 7) out to p whole.after in
    let source = answer_passed (not (is_source_lawful s)) (parameter 33 20) s (rest 8) out to p sent-by.after in
    let destination = answer_passed (not (is_destination_lawful s)) (parameter 34 12) s (rest 9) out to p source.after in
    let authentic = answer_passed (not (is_authentic t)) (parameter 51 (hop_pointer t)) t (rest 11) out to p destination.after in
    let request = answer_passed (is_external t && ingress_alert t && is_request t.header.next_header t.payload) (record { kind = 131; code = 0; pointer = ingress t }) t (rest 12) out to p authentic.after in
    record {
      authorised = authorised s (record {
        short = short.clear;
        header = fault_none (header_fault s.bytes) s (rest 2) out to p short.after;
        path = fault_none (path_fault (path_bytes s.bytes)) s (rest 3) out to p header;
        unexpired = unexpired.clear;
        entered = entered.clear;
        whole = whole.clear;
        sender = sent-by.clear;
        source = source.clear;
        destination = destination.clear;
        authentic = authentic.clear;
      });
      destination = not_false (is_destination_lawful s) destination.clear;
      after = request.after;
    }

-- ---- the way out

-- What was sent is the packet as it stood, but for its place and the identifier of its segment.
record Kept (u : PacketState) (p : Packet) : Type 0 where
  header : p.header ≡ u.header
  payload : p.payload ≡ u.payload
  reserved : p.path.reserved ≡ u.path.reserved
  second : Option ℕ
  segments : p.path.segments ≡ with_id second u.path.place.segment u.path.segments

-- How it left by its egress.
record Left (u : PacketState) (out : ℕ) (to : Option Underlay) (p : Packet) : Type 0 where
  own : is_some (own_link u.network (egress u)) ≡ true → (out ≡ egress u) × (to ≡ None)
  other : is_some (own_link u.network (egress u)) ≡ false → (out ≡ 0) × (to ≡ option_map sibling_at (sibling u.network (egress u)))
  kept : Kept u p

as_it_stood : (u : PacketState) (p : Packet) → packet u ≡ p → Kept u p
as_it_stood u p same =
    subst (λ (q : Packet). Kept u q) same (record { header = refl; payload = refl; reserved = refl; second = None; segments = refl })

out_kept : (b last : Bool) (u : PacketState) (at : Place) (link out : ℕ) (to : Option Underlay) (p : Packet)
    → (if last then Dropped cause.PathEnd else Sent link None (packet (with_place (if b then chained u else u) at))) ≡ Sent out to p
    → (out ≡ link) × (to ≡ None) × Kept u p
out_kept b true u at link out to p sent = absurd (dropped_not_sent cause.PathEnd out to p sent)
out_kept true false u at link out to p sent =
    let same = same_sent link out None to (packet (with_place (chained u) at)) p sent in (
      sym same.link,
      sym same.address,
      subst (λ (q : Packet). Kept u q) same.packet
          (record { header = refl; payload = refl; reserved = refl; second = Some (chained_id u); segments = refl }),
    )
out_kept false false u at link out to p sent =
    let same = same_sent link out None to (packet (with_place u at)) p sent in (
      sym same.link,
      sym same.address,
      subst (λ (q : Packet). Kept u q) same.packet
          (record { header = refl; payload = refl; reserved = refl; second = None; segments = refl }),
    )

on_kept : (u : PacketState) (o : Option Underlay) (out : ℕ) (to : Option Underlay) (p : Packet) → sent_on (packet u) o ≡ Sent out to p
    → (out ≡ 0) × (to ≡ o) × Kept u p
on_kept u None out to p sent = absurd (dropped_not_sent cause.PathEnd out to p sent)
on_kept u (Some at) out to p sent =
    let same = same_sent 0 out (Some at) to (packet u) p sent in
    (sym same.link, sym same.address, as_it_stood u p same.packet)

left_by : (b : Bool) (u : PacketState) (out : ℕ) (to : Option Underlay) (p : Packet) → is_some (own_link u.network (egress u)) ≡ b
    → Sends (if b then Ends (sent_out (if is_along u then chained u else u) (egress u)) else Ends (sent_on (packet u) (option_map sibling_at (sibling u.network (egress u))))) [] out to p
    → Left u out to p
left_by true u out to p is sent =
    let w : PacketState = if is_along u then chained u else u in
    let kept = out_kept (is_along u) (is_last_of_path w) u (next_place w.path.segments w.path.place) (egress u) out to p sent in
    record { own = λ e. (kept.0, kept.1); other = λ e. let no-way : true ≡ false = sym is ∙ e in absurd cc; kept = kept.2 }
left_by false u out to p is sent =
    let kept = on_kept u (option_map sibling_at (sibling u.network (egress u))) out to p sent in
    record { own = λ e. let no-way : false ≡ true = sym is ∙ e in absurd cc; other = λ e. (kept.0, kept.1); kept = kept.2 }

pair_row : (switched : Bool) (t : Bool) (q r : Problem) (s : PacketState) (rows : List Row) (out : ℕ) (to : Option Underlay) (p : Packet)
    → Sends (ends_where t (if switched then Answered q else Answered r) s) rows out to p → Passed t s rows out to p
pair_row true t q r s rows out to p sent = answer_passed t q s rows out to p sent
pair_row false t q r s rows out to p sent = answer_passed t r s rows out to p sent

record WentOut (u : PacketState) (out : ℕ) (to : Option Underlay) (p : Packet) : Type 0 where
  leaves : LeavesByItsEgress u out to
  kept : Kept u p

went_out : (u : PacketState) (out : ℕ) (to : Option Underlay) (p : Packet) → is_local u.network u.header.destination ≡ false → Sends (GoesOn u) (rest 14) out to p → WentOut u out to p
went_out u out to p others sent =
    let known = answer_passed (not (is_some (interface_kind u.network (egress u)))) (parameter (if is_along u then 50 else 49) (hop_pointer u)) u (rest 15) out to p sent in
    let pair = pair_row u.switched (not (is_pair_lawful u)) (parameter 53 (info_pointer u)) (parameter 48 (hop_pointer u)) u (rest 16) out to p known.after in
    let request = answer_passed (is_some (own_link u.network (egress u)) && egress_alert u && is_request u.header.next_header u.payload) (record { kind = 131; code = 0; pointer = egress u }) u (rest 17) out to p pair.after in
    let left = left_by (is_some (own_link u.network (egress u))) u out to p refl request.after in
    record {
      leaves = record { for_others = others; pair = (has_its_pair u).0 (not_false (is_pair_lawful u) pair.clear); own = left.own; other = left.other };
      kept = left.kept;
    }

-- ---- from the delivery row on

-- the segment of the way out: the one by which it came, or the next one
pub record Leaving (t : PacketState) (out : ℕ) (to : Option Underlay) (p : Packet) : Type 0 where
  pub lawfully : LeftLawfully t out to
  header : p.header ≡ t.header
  payload : p.payload ≡ t.payload
  reserved : p.path.reserved ≡ t.path.reserved
  second : Option ℕ
  at : ℕ
  near : (at ≡ t.path.place.segment) ⊎ (at ≡ t.path.place.segment + 1)
  segments : p.path.segments ≡ with_id second at t.path.segments

changed_passed : (t : PacketState) (out : ℕ) (to : Option Underlay) (p : Packet) → is_local t.network t.header.destination ≡ false → changes t ≡ true
    → Sends (then_rows (GoesOn (changed_over t)) (expired ∷ wrong_mac ∷ [])) (rest 14) out to p → Leaving t out to p
changed_passed t out to p others there sent =
    let u : PacketState = changed_over t in
    let unexpired = answer_passed_within (is_expired u) (parameter 52 (hop_pointer u)) u (wrong_mac ∷ []) (rest 14) out to p sent in
    let authentic = answer_passed_within (not (is_authentic u)) (parameter 51 (hop_pointer u)) u [] (rest 14) out to p unexpired.1 in
    let out-by = went_out u out to p others authentic.1 in
    record {
      lawfully = inr (inr (record { changes = there; unexpired = unexpired.0; authentic = not_false (is_authentic u) authentic.0; leaves = out-by.leaves }));
      header = out-by.kept.header;
      payload = out-by.kept.payload;
      reserved = out-by.kept.reserved;
      second = out-by.kept.second;
      at = t.path.place.segment + 1;
      near = inr refl;
      segments = out-by.kept.segments;
    }

after_delivery : (b : Bool) (t : PacketState) (out : ℕ) (to : Option Underlay) (p : Packet) → is_local t.network t.header.destination ≡ false → changes t ≡ b
    → Sends (if b then then_rows (GoesOn (changed_over t)) (expired ∷ wrong_mac ∷ []) else GoesOn t) (rest 14) out to p → Leaving t out to p
after_delivery true t out to p others there sent = changed_passed t out to p others there sent
after_delivery false t out to p others there sent =
    let out-by = went_out t out to p others sent in
    record {
      lawfully = inr (inl (record { stays = there; leaves = out-by.leaves }));
      header = out-by.kept.header;
      payload = out-by.kept.payload;
      reserved = out-by.kept.reserved;
      second = out-by.kept.second;
      at = t.path.place.segment;
      near = inl refl;
      segments = out-by.kept.segments;
    }

told_not_sent : (b : Bool) (q r : Problem) (out : ℕ) (to : Option Underlay) (p : Packet) → (if b then Answered q else Answered r) ≡ Sent out to p → ⊥
told_not_sent true q r out to p sent = answered_not_sent q out to p sent
told_not_sent false q r out to p sent = answered_not_sent r out to p sent

pub unreachable_not_sent : (a : HostAddress) (out : ℕ) (to : Option Underlay) (p : Packet) → unreachable a ≡ Sent out to p → ⊥
unreachable_not_sent a out to p sent = told_not_sent (a.kind == 1 && host_code a == 0) (record { kind = 1; code = 0; pointer = 0 }) (parameter 21 9) out to p sent

sent_inside : (q : Packet) (o : Option Underlay) (out : ℕ) (to : Option Underlay) (p : Packet) → sent_to q o ≡ Sent out to p → (out ≡ 0) × (q ≡ p)
sent_inside q None out to p sent = absurd (unreachable_not_sent q.header.destination out to p sent)
sent_inside q (Some at) out to p sent = let same = same_sent 0 out (Some at) to q p sent in (sym same.link, same.packet)

pub delivered_inside : (n : Network) (q : Packet) (out : ℕ) (to : Option Underlay) (p : Packet) → delivered n q ≡ Sent out to p → (out ≡ 0) × (q ≡ p)
delivered_inside n q out to p sent = sent_inside q (delivered_at n q.header q.payload) out to p sent

at_the_end : (external last local : Bool) → (if external then (if last then local else not local) else not local) ≡ true → external ≡ true → local ≡ true → last ≡ true
at_the_end true true local lawful e l = refl
at_the_end true false true lawful e l = lawful
at_the_end true false false lawful e l = l
at_the_end false last true lawful e l = absurd cc
at_the_end false last false lawful e l = absurd cc

for_others : (external last local : Bool) → (if external then (if last then local else not local) else not local) ≡ true → (external && local) ≡ false → local ≡ false
for_others true last true lawful apart = apart
for_others true last false lawful apart = refl
for_others false last local lawful apart = not_true local lawful

delivery_row : (b : Bool) (t : PacketState) (out : ℕ) (to : Option Underlay) (p : Packet) → is_destination_lawful t ≡ true
    → (is_external t && is_local t.network t.header.destination) ≡ b → Sends (ends_where b (delivered t.network (packet t)) t) (rest 13) out to p
    → Leaving t out to p
delivery_row true t out to p lawful test sent =
    let both = both_true (is_external t) (is_local t.network t.header.destination) test in
    let inside = delivered_inside t.network (packet t) out to p sent in
    let kept = as_it_stood t p inside.1 in
    record {
      lawfully = inl (record {
        came_in = both.0;
        is_for_us = both.1;
        at_its_end = at_the_end (is_external t) (is_last_of_path t) (is_local t.network t.header.destination) lawful both.0 both.1;
        inside = inside.0;
      });
      header = kept.header;
      payload = kept.payload;
      reserved = kept.reserved;
      second = kept.second;
      at = t.path.place.segment;
      near = inl refl;
      segments = kept.segments;
    }
delivery_row false t out to p lawful test sent =
    let others = for_others (is_external t) (is_last_of_path t) (is_local t.network t.header.destination) lawful test in
    after_delivery (changes t) t out to p others refl sent

-- ---- the whole table

destination_turned : (b : Bool) (s : PacketState) → is_destination_lawful (if b then chained s else s) ≡ is_destination_lawful s
destination_turned true s =
    let k = s.path.place.segment in
    let local = is_local s.network s.header.destination in
    ap (λ (last : Bool). if is_external s then (if last then local else not local) else not local)
    (ends_alike k s.path.segments _ s.path.place (alike_set s.path.segments k (chained_id s)))
destination_turned false s = refl

turned_with : (b : Bool) (s : PacketState) → (o : Option ℕ) × ((if b then chained s else s).path.segments ≡ with_id o s.path.place.segment s.path.segments)
turned_with true s = (Some (chained_id s), refl)
turned_with false s = (None, refl)

pub left_lawfully : (s : PacketState) (out : ℕ) (to : Option Underlay) (p : Packet) → Sends (GoesOn s) decision_table out to p → Leaving (turned_back s) out to p
left_lawfully s out to p sent =
    let came = came_in s out to p sent in
    let t : PacketState = turned_back s in
    let lawful : is_destination_lawful t ≡ true = destination_turned (is_external s && not (is_along s)) s ∙ came.destination in
    delivery_row (is_external t && is_local t.network t.header.destination) t out to p lawful refl came.after

pub is_moved : (s : PacketState) (out : ℕ) (to : Option Underlay) (p q : Packet) → q ≡ packet s → Sends (GoesOn s) decision_table out to p → IsMoved q p
is_moved s out to p q is sent =
    let left = left_lawfully s out to p sent in
    let stays = turned_stays s in
    let turned = turned_with (is_external s && not (is_along s)) s in
    subst (λ (r : Packet). IsMoved r p) (sym is) (record {
      header = left.header ∙ stays.header;
      payload = left.payload ∙ stays.payload;
      reserved = left.reserved ∙ stays.reserved;
      first = turned.0;
      second = left.second;
      at = left.at;
      near = subst (λ (k : ℕ). (left.at ≡ k) ⊎ (left.at ≡ k + 1)) (ap (λ (at : Place). at.segment) stays.place) left.near;
      segments = left.segments ∙ ap (λ (ss : List Segment). with_id left.second left.at ss) turned.1;
    })

pub told : (n : Network) (link : ℕ) (source : Underlay) (moment : ℕ) (bytes : List ℕ) (out : ℕ) (to : Option Underlay) (p : Packet)
    → verdict n link source moment bytes ≡ Sent out to p → Sends (GoesOn (arrives n link source moment bytes)) decision_table out to p
unfolding verdict
told n link source moment bytes out to p sent = sent

-- ---- what is answered

-- rows beginning with a turn end in an answer
abbrev Asks : RowResult → List Row → Type 0
Asks t rows = IsAnswer (decision_of (verdict_of (then_rows t rows)))

not_dropped : (b : Bool) (c : Cause) (s : PacketState) (rows : List Row) → Asks (ends_where b (Dropped c) s) rows → Asks (GoesOn s) rows
not_dropped true c s rows asks = absurd asks
not_dropped false c s rows asks = asks

no_fault : (f : Option Fault) (s : PacketState) (rows : List Row) → Asks (faulty f s) rows → (f ≡ None) × Asks (GoesOn s) rows
no_fault None s rows asks = (refl, asks)
no_fault (Some f) s rows asks = absurd asks

pub answers_sound : (n : Network) (link : ℕ) (source : Underlay) (moment : ℕ) (bytes : List ℕ) → IsAnswer (decision_of (verdict n link source moment bytes))
    → first_fault bytes ≡ None
unfolding verdict
answers_sound n link source moment bytes asks =
    let s = arrives n link source moment bytes in
    let short = not_dropped (nat_lt 9216 (length s.bytes)) cause.TooLong s (rest 1) asks in
    let header = no_fault (header_fault s.bytes) s (rest 2) short in
    let path = no_fault (path_fault (path_bytes s.bytes)) s (rest 3) header.1 in
    pass_both bytes header.0 path.0

-- ---- the next hop

next_by : (more ends followed : Bool) (within crosses : Place) → more ≡ not ends
    → (if more then Some within else if followed then Some crosses else None) ≡ (if ends && not followed then None else Some (if ends then crosses else within))
next_by true true followed within crosses is = absurd cc
next_by true false followed within crosses is = refl
next_by false true true within crosses is = refl
next_by false true false within crosses is = refl
next_by false false followed within crosses is = absurd cc

-- within a segment another hop follows just where its last one isn't reached
goes_on : (i n : ℕ) → i < n → nat_lt (i + 1) n ≡ not (i + 1 == n)
goes_on i n inside = grind arith

pub next_is : (ss : List Segment) (at : Place) → at.position < hops_in ss at.segment
    → next ss at ≡ (if places.is_last_of_path ss at then None else Some (next_place ss at))
next_is ss at inside =
    next_by (nat_lt (at.position + 1) (hops_in ss at.segment)) (places.is_last_of_segment ss at) (places.is_followed ss at)
    (place_at at.segment (at.position + 1)) (next_segment at) (goes_on at.position (hops_in ss at.segment) inside)
