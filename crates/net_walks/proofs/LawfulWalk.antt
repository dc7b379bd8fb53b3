-- What sets out lawfully is delivered, and answers to it come back.
use Rattle.std.proofs.Common.{◌≡◌, ◌≤◌, ◌<◌, ◌⊎◌, ◌+◌, ◌-◌, ◌*◌, ◌==◌, ◌&&◌, not, ℕ, zero, suc, Bool, true, false, List, length, Some, None, refl, sym, ap, ap₂, subst, ◌∙◌, arith, inl, inr, if◌then◌else◌}
use Rattle.std.proofs.lemmas.Bool.{cond-false, eq-eqb, eqb-true, ltb-false, ne_eqb}
use Rattle.process_packet.specs.Rows.{delivered}
use Rattle.process_packet.specs.PacketState.{is_first_of_path, packet}
use Rattle.process_packet.specs.declared.decision.Problem.{Problem}
use Rattle.process_packet.specs.declared.cause.Cause.TheVariants as cause
use Rattle.process_packet.specs.declared.underlay.Ip.TheVariants.{V4, V6}
use Rattle.field_rows.specs.Place.{IsBytes}
use Rattle.scion_packet.specs.Header.{HeaderFields, HostAddress}
use Rattle.scion_packet.specs.Packet.{IsPacket, Packet, packet_of, spelling}
use Rattle.scion_packet.specs.Path.{Place, hop_number, hops_in, place_at}
use Rattle.scion_packet.specs.Places.{is_followed, is_last_of_path}
use Rattle.scion_packet.proofs.PacketLaws.{packet_only}
use Rattle.scmp_answer.specs.Reply.{answer_packet, is_left_unanswered, local_address, reply, sent_back}
use Rattle.scmp_answer.specs.Reply as answers
use Rattle.scmp_answer.specs.WayBack.{has_no_way_back, is_external, is_first_of_segment, way_back}
use Rattle.net_laws.specs.PathSegments.{PathSegment, route_over}
use Rattle.process_packet.specs.HostPort.{host_port_of}
use Rattle.process_packet.specs.Hosts.{IsDeliveredAt as IsDeliveredTo, IsReachedAt}
use Rattle.process_packet.specs.Network.{Network}
use Rattle.process_packet.specs.declared.underlay.Underlay.{Underlay}
use Rattle.net_laws.specs.Configured.{AreNumbered}
use Rattle.net_laws.specs.LawfulStart.{IsIpHost, IsKnown, ReachesHost, SetsOutOn, WalksBy}
use Rattle.net_walks.specs.Walked.{IsAnswerable, IsLawfulStop, IsAnswered, IsAskedOnTheWay, IsCarriedBack, IsWalked}
use Rattle.net_laws.specs.Net.{Agrees, Net, Router, router_at}
use Rattle.net_laws.specs.Net as nets
use Rattle.net_laws.specs.Domain.{IsOf}
use Rattle.net_laws.specs.Domain.{domain_of}
use Rattle.net_walks.specs.Returns.{ComesBack, turning_point}
use Rattle.net_walks.specs.Stops.{stops_from}
use Rattle.net_walks.specs.Visits.{ReturnsTo, came_of}
use Rattle.net_laws.specs.Route.{IsOn, IsRoute, Route, end_of, reversed_route}
use Rattle.process_packet.specs.Shown.{is_for_us, turned}
use Rattle.net_laws.specs.Stands.{PacketAt, IsHostOf, IsUnasked, Stands, place_of}
use Rattle.net_laws.specs.Start.{outset}
use Rattle.net_laws.specs.Stop.{IsAsked, progress, packet_state, verdict_at}
use Rattle.net_laws.specs.Walk.{IsDelivered, Walks}
use Rattle.process_packet.proofs.HostLemmas.{is_reached}
use Rattle.net_laws.proofs.LeavesLemmas.{same_router}
use Rattle.net_laws.proofs.LawfulLemmas.{end_is, its_route, sets_out}
use Rattle.net_walks.proofs.BackWalk.{EndsThere, walks_there}
use Rattle.net_walks.proofs.HomeLemmas.{from_home}
use Rattle.net_walks.proofs.ReturnLemmas.{comes_back}
use Rattle.net_walks.proofs.WalkStops.{delivered_at, few_stops, none_after, visited}
use Rattle.net_laws.proofs.RouteBack.{route_back}
use Rattle.net_laws.proofs.StartLemmas.{stands_at_outset}
use Rattle.net_laws.proofs.StopLemmas.{ends, goes_on}
use Rattle.net_laws.proofs.WalkLemmas.{far_at_most, on_route, one_at_most, router_of, same_packet}

-- ---- at the end of the path

both : (x y : Bool) → (x && y) ≡ true → (x ≡ true) × (y ≡ true)
both true y is = (refl, is)
both false y is = let never : false ≡ true = is in absurd cc

not_true : (b : Bool) → not b ≡ true → b ≡ false
not_true true is = let never : false ≡ true = is in absurd cc
not_true false is = refl

-- the last hop of the path is where its route ends
at_end : (w : Route) (at : Place) → IsOn w at → is_last_of_path w.segments at ≡ true → at ≡ end_of w
at_end w at on is =
    let two = both (at.position + 1 == hops_in w.segments at.segment) (not (is_followed w.segments at)) is in
    let last : at.position + 1 ≡ hops_in w.segments at.segment = eqb-true _ _ two.0 in
    let over : length w.segments ≤ at.segment + 1 = ltb-false (at.segment + 1) (length w.segments) (not_true (is_followed w.segments at) two.1) in
    let there = on.segment in
    let segment : at.segment ≡ length w.segments - 1 = omega arith in
    let size = ap (hops_in w.segments) segment in
    let position : at.position ≡ hops_in w.segments (length w.segments - 1) - 1 = omega arith in
    ap₂ place_at segment position

-- the router is one of the AS of the hop at which the packet stands
of_its_as : (net : Net) (w : Route) (from : Place) (b : PacketAt) (x : Router) → Stands net w from b → router_at net b.router ≡ Some x → IsOf x (w.home (place_of b))
of_its_as net w from b x stands there = elim stands.there [
  | inl o ↦ subst (λ (y : Router). IsOf y (w.home (place_of b))) (same_router net b.router b.router o.here x o.here_is there refl) o.home
  | inr i ↦ subst (λ (y : Router). IsOf y (w.home (place_of b))) (same_router net b.router b.router i.here x i.here_is there refl) i.home
]

-- where the path ends, the router is one of the AS for which the packet is
at_home : (net : Net) (w : Route) (from : Place) (b : PacketAt) (x : Router) (host : HostAddress) → Stands net w from b → router_at net b.router ≡ Some x
    → is_last_of_path w.segments (place_of b) ≡ true → b.packet.header.destination ≡ host → IsHostOf host (domain_of x)
at_home net w from b x host stands there last same =
    let d = stands.way.addressed.destination in
    let here : IsOf x (w.home (end_of w)) = subst (λ (p : Place). IsOf x (w.home p)) (at_end w (place_of b) (on_route net w from b stands) last) (of_its_as net w from b x stands there) in
    subst (λ (h : HostAddress). IsHostOf h (domain_of x)) same (record { isd = d.isd ∙ sym here.isd; autonomous_system = d.autonomous_system ∙ sym here.autonomous_system })

-- and the packet came from outside
from_outside : (net : Net) (w : Route) (from : Place) (b : PacketAt) → Stands net w from b → is_last_of_path w.segments (place_of b) ≡ true → 1 ≤ b.link
from_outside net w from b stands last = elim stands.there [
  | inl o ↦ o.external
  | inr i ↦
      let at = place_of b in
      let two = both (at.position + 1 == hops_in w.segments at.segment) (not (is_followed w.segments at)) last in
      let is : at.position + 1 ≡ hops_in w.segments at.segment = eqb-true _ _ two.0 in
      let more = i.more.position in
      absurd (omega arith)
]

for_its_as : (b : PacketAt) (x : Router) (moment : ℕ) → 1 ≤ b.link → IsHostOf b.packet.header.destination (domain_of x)
    → is_for_us (packet_state x.network b moment (spelling b.packet)) ≡ true
for_its_as b x moment outside home =
    ap₂ (λ (p q : Bool). not p && q) (ne_eqb b.link 0 (λ none. absurd (omega arith)))
    (ap₂ (λ (p q : Bool). p && q) (eq-eqb _ _ home.isd) (eq-eqb _ _ home.autonomous_system))

-- ---- delivered to a host

-- an IPv4 or IPv6 host is known everywhere
host_known : (x : Router) (a : HostAddress) → IsIpHost a → IsKnown x a
host_known x a (IsIpHost.ip_4 kind code) = record { at = λ port. record { ip = V4 a.host; port = port }; reached = λ port. IsReachedAt.ip_4 kind code }
host_known x a (IsIpHost.ip_6 kind code) = record { at = λ port. record { ip = V6 a.host; port = port }; reached = λ port. IsReachedAt.ip_6 kind code }

-- the host and the port are those of the header and the payload with which it set out
reached_as : (n : Network) (p q : Packet) (host : HostAddress) (to : Underlay) → p.header ≡ q.header → p.payload ≡ q.payload → p.header.destination ≡ host
    → IsReachedAt n (host_port_of n q.header.next_header q.payload) host to → IsDeliveredTo n p.header p.payload to
reached_as n p q host to header payload there is =
    subst (λ (a : HostAddress). IsReachedAt n (host_port_of n p.header.next_header p.payload) a to) (sym there)
    (subst (λ (h : HeaderFields). IsReachedAt n (host_port_of n h.next_header p.payload) host to) (sym header)
    (subst (λ (t : List ℕ). IsReachedAt n (host_port_of n q.header.next_header t) host to) (sym payload) is))

reaches : (net : Net) (w : Route) (from : Place) (moment n : ℕ) (a : PacketAt) (host : HostAddress) (d : IsDelivered net w from moment n a) → a.packet.header.destination ≡ host
    → IsKnown d.here host → ReachesHost net moment n a host
reaches net w from moment n a host d same known =
    let p : Packet = packet (turned (packet_state d.here.network d.end moment (spelling d.end.packet))) in
    let port = host_port_of d.here.network a.packet.header.next_header a.packet.payload in
    record {
      end = d.end;
      walk = d.walk;
      here = d.here;
      here_is = d.here_is;
      home = at_home net w from d.end d.here host d.stands d.here_is d.last (ap (λ (h : HeaderFields). h.destination) d.header ∙ same);
      lawful = d.stands.way.lawful;
      for_us = for_its_as d.end d.here moment (from_outside net w from d.end d.stands d.last)
          (at_home net w from d.end d.here d.end.packet.header.destination d.stands d.here_is d.last refl);
      to = known.at port;
      address = known.reached port;
      sent = p;
      delivery = d.delivery ∙ is_reached d.here.network p (known.at port)
          (reached_as d.here.network p a.packet host (known.at port) d.header d.payload (ap (λ (h : HeaderFields). h.destination) d.header ∙ same) (known.reached port));
      header = d.header;
      payload = d.payload;
    }

-- a walk whose stops are such, as a walk, and as one whose stops are what follows
plain : {net : Net} {moment : ℕ} {such : PacketAt → Type 0} {n : ℕ} {a z : PacketAt} → WalksBy net moment such n a z → Walks net moment n a z
plain (WalksBy.is_there is) = Walks.is_there
plain (WalksBy.goes x out to is here others verdict carried rest) = Walks.goes x out to here verdict carried (plain rest)

each : {net : Net} {moment : ℕ} {such so : PacketAt → Type 0} {n : ℕ} {a z : PacketAt} → ((b : PacketAt) → such b → so b) → WalksBy net moment such n a z → WalksBy net moment so n a z
each {a = a} f (WalksBy.is_there is) = WalksBy.is_there (f a is)
each {a = a} f (WalksBy.goes x out to is here others verdict carried rest) = WalksBy.goes x out to (f a is) here others verdict carried (each f rest)

-- ---- an answer on its way

-- It comes to its host, stop by stop.
record ComesHome (net : Net) (moment : ℕ) (a : PacketAt) (host : HostAddress) : Type 0 where
  reaches : ReachesHost net moment 127 a host
  returns : ReturnsTo net moment a host (stops_from net moment 128 (Some (came_of a)))

comes_home : (net : Net) (w : Route) (from : Place) (moment : ℕ) (a : PacketAt) (host : HostAddress) → Agrees net → IsRoute net w moment → Stands net w from a → IsUnasked w a.packet
    → a.packet.header.destination ≡ host → IsIpHost host → ComesHome net moment a host
unfolding reaches
comes_home net w from moment a host agrees route stands quiet same ip =
    let e : EndsThere net w from moment a 127 a =
    walks_there net w from moment a agrees route quiet 127 a (record { stands = stands; header = refl; payload = refl }) (omega arith) (is_last_of_path w.segments (place_of a)) refl in
    let d : IsDelivered net w from moment 127 a = record {
      end = e.end;
      walk = plain e.walk;
      header = e.stood.header;
      payload = e.stood.payload;
      stands = e.stood.stands;
      last = e.last;
      here = e.here;
      here_is = e.here_is;
      delivery = e.delivery;
    } in
    let r : ReachesHost net moment 127 a host = reaches net w from moment 127 a host d same (host_known e.here host ip) in
    let lawful : WalksBy net moment (λ (b : PacketAt). IsPacket b.packet) 127 a e.end = each (λ b stood. stood.stands.way.lawful) e.walk in
    record {
      reaches = r;
      returns = record {
        end = e.end;
        visits = visited net moment agrees (λ (b : PacketAt). IsPacket b.packet) (λ b is. is) 127 a e.end lawful (none_after net moment 127 a host r);
        few = few_stops net moment 128 (Some (came_of a));
        delivery = delivered_at net moment 127 a host r;
      };
    }

carried_back : (net : Net) (w : Route) (moment : ℕ) (b : PacketAt) (x : Router) (here : HostAddress) (problem : Problem) (host : HostAddress)
    → Agrees net → IsRoute net (reversed_route w) moment → ComesBack net w moment b x here problem → b.packet.header.source ≡ host → IsIpHost host
    → IsCarriedBack net moment b x here problem host
carried_back net w moment b x here problem host agrees back c same ip =
    let after : PacketAt = c.returns.after in
    let for_host : c.answer.header.destination ≡ host = c.for_source ∙ same in
    let home = comes_home net (reversed_route w) (turning_point b) moment after host agrees back c.returns.stands
    (subst (λ (p : Packet). IsUnasked (reversed_route w) p) (sym c.returns.packet) c.quiet) (ap (λ (p : Packet). p.header.destination) c.returns.packet ∙ for_host) ip in
    record {
      answer = c.answer;
      sent = c.sent;
      first = after;
      carried = c.returns.carried;
      packet = c.returns.packet;
      reaches = home.reaches;
      returns = home.returns;
    }

-- ---- the answer of the first stop

straight : (here : HostAddress) (a : PacketAt) (problem : Problem) → (read : a.packet ≡ packet_of (spelling a.packet)) → a.link ≡ 0 → is_left_unanswered a.packet problem ≡ false
    → reply here a.link a.source (spelling a.packet) problem ≡ answers.Sent 0 (Some a.source) (answer_packet here a.packet (way_back a.link a.packet.path) (spelling a.packet) problem)
unfolding reply
straight here a problem read link may =
    let bytes = spelling a.packet in
    let inner : is_external a.link ≡ false = ap not (eq-eqb a.link 0 link) in
    let q : Packet = answer_packet here a.packet (way_back a.link a.packet.path) bytes problem in
    ap (λ (p : Packet). if is_left_unanswered p problem then answers.Dropped cause.NoAnswer else if has_no_way_back a.link p.path then answers.Dropped cause.NoWayBack else sent_back a.link a.source (answer_packet here p (way_back a.link p.path) bytes problem)) (sym read)
    ∙ cond-false (is_left_unanswered a.packet problem) _ _ may
    ∙ cond-false (has_no_way_back a.link a.packet.path) _ _ (ap (λ (b : Bool). b && is_first_of_segment a.packet.path) inner)
    ∙ ap₂ (λ (l : ℕ) (b : Bool). answers.Sent l (if b then None else Some a.source) q) link inner

-- ---- the stops

none : (k i : ℕ) → (k == 0 && i == 0) ≡ true → (k ≡ 0) × (i ≡ 0)
none k i is = let two = both (k == 0) (i == 0) is in (eqb-true k 0 two.0, eqb-true i 0 two.1)

later : (w : Route) (at : Place) (far : ℕ) → far ≤ 1 → 1 < 2 * hop_number w.segments at + far → (b : Bool) → is_first_of_path at ≡ b → is_first_of_path at ≡ false
later w at far most more false is = is
later w at far most more true is =
    let first = none at.segment at.position is in
    let at_first : at ≡ place_at 0 0 = ap₂ place_at first.0 first.1 in
    let number : hop_number w.segments at ≡ 0 = ap (hop_number w.segments) at_first in
    absurd (omega arith)

-- what holds of each stop
record Passed (net : Net) (w : Route) (start b : PacketAt) : Type 0 where
  stands : Stands net w outset b
  header : b.packet.header ≡ start.packet.header
  payload : b.packet.payload ≡ start.packet.payload
  far : 1 ≤ progress w b
  first : (b ≡ start) ⊎ (is_first_of_path (place_of b) ≡ false)

record EndsBy (net : Net) (w : Route) (moment : ℕ) (start : PacketAt) (n : ℕ) (a : PacketAt) : Type 0 where
  end : PacketAt
  walk : WalksBy net moment (Passed net w start) n a end
  passed : Passed net w start end
  here : Router
  here_is : router_at net end.router ≡ Some here
  how : ((is_last_of_path w.segments (place_of end) ≡ true) × (verdict_at here end moment ≡ delivered here.network (packet (turned (packet_state here.network end moment (spelling end.packet))))))
      ⊎ IsAsked w end.packet.header.next_header end.packet.payload (verdict_at here end moment)

walks : (net : Net) (w : Route) (moment : ℕ) (start : PacketAt) → Agrees net → IsRoute net w moment
    → (n : ℕ) (a : PacketAt) → Passed net w start a → 127 ≤ progress w a + n → (b : Bool) → is_last_of_path w.segments (place_of a) ≡ b → EndsBy net w moment start n a
walks net w moment start agrees route n a passed far true last =
    let x = router_of net w outset a passed.stands in
    elim (ends net w outset moment a x.here agrees route passed.stands x.here_is last) [
      | inl delivery ↦ record { end = a; walk = WalksBy.is_there passed; passed = passed; here = x.here; here_is = x.here_is; how = inl (last, delivery) }
      | inr asked ↦ record { end = a; walk = WalksBy.is_there passed; passed = passed; here = x.here; here_is = x.here_is; how = inr asked }
    ]
walks net w moment start agrees route zero a passed far false more =
    let x = router_of net w outset a passed.stands in
    elim (goes_on net w outset moment a x.here agrees route passed.stands x.here_is more) [
      | inl g ↦
          let farther = g.farther in
          let most = far_at_most net w outset moment g.after route g.stands in
          absurd (omega arith)
      | inr asked ↦ record { end = a; walk = WalksBy.is_there passed; passed = passed; here = x.here; here_is = x.here_is; how = inr asked }
    ]
walks net w moment start agrees route (suc n) a passed far false more =
    let x = router_of net w outset a passed.stands in
    elim (goes_on net w outset moment a x.here agrees route passed.stands x.here_is more) [
      | inl g ↦
          let farther = g.farther in
          let some = passed.far in
          let same = same_packet net w outset moment a x.here g.out g.to g.after.packet passed.stands g.verdict in
          let next : Passed net w start g.after = record {
            stands = g.stands;
            header = same.header ∙ passed.header;
            payload = same.payload ∙ passed.payload;
            far = omega arith;
            first = inr (later w (place_of g.after) (if g.after.link == 0 then 1 else 0) (one_at_most (g.after.link == 0)) (omega arith) (is_first_of_path (place_of g.after)) refl);
          } in
          let e : EndsBy net w moment start n g.after = walks net w moment start agrees route n g.after next (omega arith) (is_last_of_path w.segments (place_of g.after)) refl in
          record {
            end = e.end;
            walk = WalksBy.goes x.here g.out g.to passed x.here_is g.others g.verdict g.carried e.walk;
            passed = e.passed;
            here = e.here;
            here_is = e.here_is;
            how = e.how;
          }
      | inr asked ↦ record { end = a; walk = WalksBy.is_there passed; passed = passed; here = x.here; here_is = x.here_is; how = inr asked }
    ]

-- ---- the laws

module _ (net : Net) (ss : List PathSegment) (moment : ℕ) (a : PacketAt) (agrees : Agrees net) (numbered : AreNumbered net) (are : IsBytes (spelling a.packet))
    (s : SetsOutOn net ss moment a) where
  abbrev w : Route
  w = route_over ss

  route : IsRoute net w moment
  route = its_route net ss moment a agrees numbered are s

  stands : Stands net w outset a
  stands = stands_at_outset net w moment a route (sets_out net ss moment a agrees numbered are s)

  answerable : (b : PacketAt) → Passed net w a b → IsAnswerable net moment a b
  answerable b passed c problem there may =
      let x = nets.router_of c in
      let here = local_address c in
      let home = from_home c in
      elim passed.first [
        | inl same ↦
            let read : a.packet ≡ packet_of (spelling a.packet) = packet_only (spelling a.packet) a.packet (record { lawful = s.lawful; text = refl }) in
            let may_a : is_left_unanswered a.packet problem ≡ false = subst (λ (c : PacketAt). is_left_unanswered c.packet problem ≡ false) same may in
            subst (λ (c : PacketAt). IsAnswered net moment a x here problem c) (sym same)
            (IsAnswered.straight (answer_packet here a.packet (way_back a.link a.packet.path) (spelling a.packet) problem) refl (straight here a problem read s.link may_a))
        | inr under ↦
            let back : ComesBack net w moment b x here problem = comes_back net w moment b x here problem route passed.stands there under home.home agrees may home.can in
            IsAnswered.back (carried_back net w moment b x here problem a.packet.header.source agrees (route_back w net moment route) back (ap (λ (h : HeaderFields). h.source) passed.header) s.from_host)
      ]

  lawful_stop : (b : PacketAt) → Passed net w a b → IsLawfulStop net moment a b
  lawful_stop b passed = record { lawful = passed.stands.way.lawful; answers = answerable b passed }

  start_passed : Passed net w a a
  start_passed =
      let at_first : hop_number w.segments (place_of a) ≡ 0 = ap (hop_number w.segments) s.cursor in
      let inside : (a.link == 0) ≡ true = eq-eqb a.link 0 s.link in
      let one : ◌≡◌ {A = ℕ} (if a.link == 0 then 1 else 0) 1 = ap (λ (b : Bool). if b then 1 else 0) inside in
      record { stands = stands; header = refl; payload = refl; far = omega arith; first = inl refl }

  walked_by : EndsBy net w moment a 127 a
  walked_by = walks net w moment a agrees route 127 a start_passed (omega arith) (is_last_of_path w.segments (place_of a)) refl

  ended : (e : EndsBy net w moment a 127 a)
      → (verdict_at e.here e.end moment ≡ delivered e.here.network (packet (turned (packet_state e.here.network e.end moment (spelling e.end.packet)))))
      → is_last_of_path w.segments (place_of e.end) ≡ true → IsOf e.here (w.home (end_of w)) → IsWalked net moment a
  ended e delivery last home =
      let known : IsKnown e.here a.packet.header.destination = s.to_host e.end.router e.here e.here_is (subst (λ (p : Place). IsOf e.here (w.home p)) (end_is net ss moment a agrees numbered are s) home) in
      let p : Packet = packet (turned (packet_state e.here.network e.end moment (spelling e.end.packet))) in
      let port = host_port_of e.here.network a.packet.header.next_header a.packet.payload in
      let reached : ReachesHost net moment 127 a a.packet.header.destination = record {
        end = e.end;
        walk = plain e.walk;
        here = e.here;
        here_is = e.here_is;
        home = at_home net w outset e.end e.here a.packet.header.destination e.passed.stands e.here_is last (ap (λ (h : HeaderFields). h.destination) e.passed.header);
        lawful = e.passed.stands.way.lawful;
        for_us = for_its_as e.end e.here moment (from_outside net w outset e.end e.passed.stands last)
            (at_home net w outset e.end e.here e.end.packet.header.destination e.passed.stands e.here_is last refl);
        to = known.at port;
        address = known.reached port;
        sent = p;
        delivery = delivery ∙ is_reached e.here.network p (known.at port)
            (reached_as e.here.network p a.packet a.packet.header.destination (known.at port) e.passed.header e.passed.payload (ap (λ (h : HeaderFields). h.destination) e.passed.header) (known.reached port));
        header = e.passed.header;
        payload = e.passed.payload;
      } in
      record { reaches = reached; stops = each lawful_stop e.walk }

  at_last : (e : EndsBy net w moment a 127 a) → is_last_of_path w.segments (place_of e.end) ≡ true → IsOf e.here (w.home (end_of w))
  at_last e last =
      subst (λ (p : Place). IsOf e.here (w.home p)) (at_end w (place_of e.end) (on_route net w outset e.end e.passed.stands) last)
      (of_its_as net w outset e.end e.here e.passed.stands e.here_is)

  asked_here : (e : EndsBy net w moment a 127 a) → IsAsked w e.end.packet.header.next_header e.end.packet.payload (verdict_at e.here e.end moment)
      → IsAsked w a.packet.header.next_header a.packet.payload (verdict_at e.here e.end moment)
  asked_here e asked =
      subst (λ (n : ℕ). IsAsked w n a.packet.payload (verdict_at e.here e.end moment)) (ap (λ (h : HeaderFields). h.next_header) e.passed.header)
      (subst (λ (p : List ℕ). IsAsked w e.end.packet.header.next_header p (verdict_at e.here e.end moment)) e.passed.payload asked)

  pub requests_walked : IsWalked net moment a ⊎ IsAskedOnTheWay net ss moment a
  requests_walked =
      let e : EndsBy net w moment a 127 a = walked_by in
      elim e.how [
        | inl last ↦ inl (ended e last.1 last.0 (at_last e last.0))
        | inr asked ↦ inr (record { end = e.end; stops = each lawful_stop e.walk; here = e.here; here_is = e.here_is; asked = asked_here e asked })
      ]

  pub starts_walked : IsUnasked w a.packet → IsWalked net moment a
  starts_walked quiet =
      elim requests_walked [
        | inl is ↦ is
        | inr other ↦
            let asked = other.asked in
            let never : true ≡ false = sym asked.request ∙ quiet asked.at asked.on asked.flag in
            absurd cc
      ]
