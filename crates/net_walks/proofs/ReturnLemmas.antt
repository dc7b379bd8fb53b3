-- The answer of a router to a packet on a route is on its way back.
use Rattle.std.proofs.Common.{◌≡◌, ◌+◌, ◌-◌, ◌&&◌, ℕ, Bool, true, false, not, List, length, refl, sym, ap, ap₂, subst, ◌∙◌, arith, inl, inr, Some, None, if◌then◌else◌, length-append}
use Rattle.std.proofs.lemmas.Bool.{cond-false, cond-true, eq-eqb, ne_eqb}
use Rattle.field_rows.specs.Row.{rows}
use Rattle.scion_packet.specs.Header.{HostAddress}
use Rattle.scion_packet.specs.Packet.{Packet, packet_of, spelling}
use Rattle.scion_packet.specs.Path.{HopField, PathFields, Place, hops_in, place_at}
use Rattle.scion_packet.specs.Places.{mirrored}
use Rattle.scion_packet.proofs.PacketLaws.{packet_only}
use Rattle.scmp_answer.specs.Checksum.{checksum, summed}
use Rattle.scmp_answer.specs.Message.{message, message_table, numbers_of, quote}
use Rattle.scmp_answer.specs.Reply.{Dropped, Sent, answer_header, answer_packet, header_len, is_left_unanswered, reply, sent_back}
use Rattle.scmp_answer.specs.WayBack.{has_no_way_back, is_external, is_first_of_segment, way_back}
use Rattle.net_walks.proofs.LawfulAnswer.{IsShort, is_short, way_lawful}
use Rattle.scmp_answer.proofs.TableLemmas.{table_len}
use Rattle.process_packet.specs.declared.cause.Cause.TheVariants as cause
use Rattle.process_packet.specs.declared.decision.Problem.{Problem}
use Rattle.process_packet.specs.Request.{request}
use Rattle.net_laws.specs.Net.{Agrees, Net, Router, router_at}
use Rattle.net_laws.specs.Domain.{Domain, IsOf}
use Rattle.net_laws.specs.Route.{IsOn, IsRoute, Route, after, end_of, hop_of, reversed_route}
use Rattle.net_laws.specs.Route as route_words
use Rattle.net_laws.specs.Stands.{PacketAt, IsHostOf, IsOnItsWay, IsUnasked, Stands, StandsInside, StandsOutside, place_of}
use Rattle.net_laws.specs.Domain.{domain_of}
use Rattle.net_walks.specs.Returns.{CanAnswer, ComesBack, IsUnderWay, ReturnsOn, turning_point}
use Rattle.net_laws.proofs.IdLemmas.{size_is}
use Rattle.net_laws.proofs.BackLemmas.{back, back_hop, back_len, back_size}
use Rattle.net_walks.proofs.BackStands.{TurnsInside, stands_back, turns}
use Rattle.net_laws.proofs.LeavesLemmas.{same_router}
use Rattle.net_laws.proofs.RouteBack.{route_back}
use Rattle.net_laws.proofs.WalkLemmas.{walked}

-- ---- where it turns

record Turns (w : Route) (a : PacketAt) : Type 0 where
  goes_on : IsOn (reversed_route w) (after (turning_point a))
  home : w.home (mirrored (route_words.way_back w) (turning_point a)) ≡ w.home (place_of a)

turns_out : (net : Net) (w : Route) (from : Place) (a : PacketAt) → StandsOutside net w from a → Turns w a
turns_out net w from a o =
    let at = place_of a in
    let ss = a.packet.path.segments in
    let n = length w.segments in
    let on = o.on in
    let n_segment = on.segment in
    let n_position = on.position in
    let entered = o.entered in
    let external = o.external in
    let count = o.ids.count in
    let size = size_is o.ids at.segment in
    let len_w = back_len w.segments in
    let k = n - 1 - at.segment in
    let size_w = back_size w.segments k (omega arith) in
    let same_w : n - 1 - k ≡ at.segment = omega arith in
    let hops_w : hops_in (back w.segments) k ≡ hops_in w.segments at.segment = size_w ∙ ap (hops_in w.segments) same_w in
    let m : Place = place_at k (hops_in w.segments at.segment - 1 - at.position) in
    let k_is : length ss - 1 - at.segment ≡ k = omega arith in
    let i_is : hops_in ss at.segment - 1 - at.position ≡ hops_in w.segments at.segment - 1 - at.position = omega arith in
    let out : is_external a.link ≡ true = ap not (ne_eqb a.link 0 (λ none. absurd (omega arith))) in
    let turn : turning_point a ≡ m = cond-true (is_external a.link) _ _ out ∙ ap₂ place_at k_is i_is in
    let on_m : IsOn (reversed_route w) (after m) = record { segment = omega arith; position = omega arith } in
    let back_k : length (back w.segments) - 1 - k ≡ at.segment = omega arith in
    let back_i : hops_in (back w.segments) k - 1 - (hops_in w.segments at.segment - 1 - at.position) ≡ at.position = omega arith in
    record {
      goes_on = subst (λ (p : Place). IsOn (reversed_route w) (after p)) (sym turn) on_m;
      home = ap (λ (p : Place). w.home (mirrored (route_words.way_back w) p)) turn ∙ ap w.home (ap₂ place_at back_k back_i);
    }

turns_in : (net : Net) (w : Route) (from : Place) (moment : ℕ) (a : PacketAt) → IsRoute net w moment → StandsInside net w from a → IsUnderWay a → Turns w a
turns_in net w from moment a route i under =
    let t : TurnsInside w a = turns net w from moment a route i under in
    let inner : is_external a.link ≡ false = ap not (eq-eqb a.link 0 i.link) in
    let turn : turning_point a ≡ t.to = cond-false (is_external a.link) _ _ inner ∙ ap (λ (x : PathFields). x.place) t.way_is in
    record {
      goes_on = subst (λ (p : Place). IsOn (reversed_route w) (after p)) (sym turn) t.more;
      home = ap (λ (p : Place). w.home (mirrored (route_words.way_back w) p)) turn ∙ ap w.home t.entry ∙ t.home;
    }

record IsHere (net : Net) (w : Route) (a : PacketAt) (x : Router) : Type 0 where
  home : IsOf x (w.home (place_of a))
  turns : Turns w a
  way_back : has_no_way_back a.link a.packet.path ≡ false

both_false : (x y : Bool) → y ≡ false → (x && y) ≡ false
both_false true y e = e
both_false false y e = refl

is_here : (net : Net) (w : Route) (from : Place) (moment : ℕ) (a : PacketAt) (x : Router) → IsRoute net w moment → Stands net w from a → router_at net a.router ≡ Some x → IsUnderWay a
    → IsHere net w a x
is_here net w from moment a x route stands here under =
    elim stands.there [
      | inl o ↦ let entered = o.entered in record {
        home = subst (λ (y : Router). IsOf y (w.home (place_of a))) (same_router net a.router a.router o.here x o.here_is here refl) o.home;
        turns = turns_out net w from a o;
        way_back = both_false (is_external a.link) _ (ne_eqb _ _ (λ none. absurd (omega arith)));
      }
      | inr i ↦ record {
        home = subst (λ (y : Router). IsOf y (w.home (place_of a))) (same_router net a.router a.router i.here x i.here_is here refl) i.home;
        turns = turns_in net w from moment a route i under;
        way_back = ap (λ (b : Bool). b && is_first_of_segment a.packet.path) (ap not (eq-eqb a.link 0 i.link));
      }
    ]

-- ---- what the answer is

no_flag : (at : Place) (w : Route) → IsOn (reversed_route w) at → (hop_of (reversed_route w) at).ingress_alert ≡ false
no_flag at w on =
    let len = back_len w.segments in let there = on.segment in
    ap (λ (h : HopField). h.ingress_alert) (back_hop w.segments at (omega arith) on.position)

no_other_flag : (at : Place) (w : Route) → IsOn (reversed_route w) at → (hop_of (reversed_route w) at).egress_alert ≡ false
no_other_flag at w on =
    let len = back_len w.segments in let there = on.segment in
    ap (λ (h : HopField). h.egress_alert) (back_hop w.segments at (omega arith) on.position)

message_len : (here : HostAddress) (p : Packet) (n : ℕ) (problem : Problem) (bytes : List ℕ) (c d : ℕ)
    → length (message here p n problem bytes c) ≡ length (message here p n problem bytes d)
message_len here p n problem bytes c d =
    let numbers = numbers_of (request p.header.next_header p.payload) in
    length-append (rows (message_table here p problem c)) (quote n problem bytes)
    ∙ ap (λ (k : ℕ). k + length (quote n problem bytes)) (table_len here numbers problem c ∙ sym (table_len here numbers problem d))
    ∙ sym (length-append (rows (message_table here p problem d)) (quote n problem bytes))

module _ (net : Net) (w : Route) (moment : ℕ) (a : PacketAt) (x : Router) (here : HostAddress) (problem : Problem) (route : IsRoute net w moment)
    (stands : Stands net w (place_at 0 0) a) (at_x : router_at net a.router ≡ Some x) (under : IsUnderWay a) (local : IsHostOf here (domain_of x)) where
  abbrev bytes : List ℕ
  bytes = spelling a.packet

  abbrev answer : Packet
  answer = answer_packet here a.packet (way_back a.link a.packet.path) bytes problem

  on_its_way : CanAnswer here → IsOnItsWay net (reversed_route w) (turning_point a) answer
  on_its_way can =
      let way = way_back a.link a.packet.path in
      let good : IsShort answer = is_short here a.packet way bytes problem stands.way.lawful can.address can.ip (way_lawful a.link a.packet.path stands.way.lawful.path) in
      let h : IsHere net w a x = is_here net w (place_at 0 0) moment a x route stands at_x under in
      let t = h.turns in
      let len = back_len w.segments in
      let some = route.some in
      let n = header_len here a.packet.header (way_back a.link a.packet.path) in
      let first : length (back w.segments) - 1 - (length (back w.segments) - 1) ≡ 0 = omega arith in
      let i : hops_in (back w.segments) (length (back w.segments) - 1) - 1 - (hops_in (back w.segments) (length (back w.segments) - 1) - 1) ≡ 0 = omega arith in
      let end : mirrored (back w.segments) (end_of (reversed_route w)) ≡ place_at 0 0 = ap₂ place_at first i in
      let short = good.short in
      let source : IsHostOf here (w.home (place_of a)) = record { isd = local.isd ∙ h.home.isd; autonomous_system = local.autonomous_system ∙ h.home.autonomous_system } in
      record {
        lawful = good.lawful;
        short = omega arith;
        whole = message_len here a.packet n problem bytes 0 (checksum (summed (answer_header here a.packet.header n (length (message here a.packet n problem bytes 0))) (message here a.packet n problem bytes 0)));
        addressed = record {
          goes_on = t.goes_on;
          source = subst (λ (d : Domain). IsHostOf here d) (sym t.home) source;
          destination = subst (λ (p : Place). IsHostOf a.packet.header.source (w.home p)) (sym end) stands.way.addressed.source;
        };
      }

  quiet : IsUnasked (reversed_route w) answer
  quiet at on flag = elim flag [
    | inl one ↦ let never : true ≡ false = sym one ∙ no_flag at w on in absurd cc
    | inr other ↦ let never : true ≡ false = sym other ∙ no_other_flag at w on in absurd cc
  ]

  replied : is_left_unanswered a.packet problem ≡ false → reply here a.link a.source bytes problem ≡ Sent a.link (if is_external a.link then None else Some a.source) answer
  unfolding reply
  replied may =
      let h : IsHere net w a x = is_here net w (place_at 0 0) moment a x route stands at_x under in
      let read : a.packet ≡ packet_of bytes = packet_only bytes a.packet (record { lawful = stands.way.lawful; text = refl }) in
      ap (λ (p : Packet). if is_left_unanswered p problem then Dropped cause.NoAnswer else if has_no_way_back a.link p.path then Dropped cause.NoWayBack else sent_back a.link a.source (answer_packet here p (way_back a.link p.path) bytes problem)) (sym read)
      ∙ cond-false (is_left_unanswered a.packet problem) _ _ may ∙ cond-false (has_no_way_back a.link a.packet.path) _ _ h.way_back

  pub comes_back : Agrees net → is_left_unanswered a.packet problem ≡ false → CanAnswer here → ComesBack net w moment a x here problem
  comes_back agrees may can =
      let sent = replied may in
      let returns : ReturnsOn net w a x answer = stands_back net w (place_at 0 0) moment a x answer route stands at_x under refl (on_its_way can) in
      record {
        answer = answer;
        sent = sent;
        for_source = refl;
        returns = returns;
        quiet = quiet;
        delivered = walked net (reversed_route w) (turning_point a) moment returns.after agrees (route_back w net moment route) returns.stands (subst (λ (p : Packet). IsUnasked (reversed_route w) p) (sym returns.packet) quiet);
      }
