-- What sets out lawfully is delivered, or replied to, at the last of the stops that are made, and a reply comes home by such stops.
use Rattle.std.proofs.Common.{◌≡◌, ◌<◌, ◌&&◌, ℕ, zero, suc, Bool, true, false, List, length, slice_index_or, Option, Some, None, refl, sym, ap, subst, ◌∙◌, arith, inl, inr, if◌then◌else◌}
use Rattle.std.specs.Prelude.{◌⊎◌}
use Rattle.field_rows.specs.Place.{IsBytes}
use Rattle.scion_packet.specs.Header.{HostAddress, header_of}
use Rattle.scion_packet.specs.Packet.{IsPacket, Packet, packet_of, spelling}
use Rattle.scion_packet.proofs.PacketLaws.{packet_only}
use Rattle.process_packet.specs.Decide.{decision_of}
use Rattle.process_packet.specs.Network.{is_local}
use Rattle.process_packet.specs.Rows.{traceroute_reply}
use Rattle.process_packet.specs.declared.arrival.Arrival.{Arrival}
use Rattle.process_packet.specs.declared.cause.Cause.TheVariants as cause
use Rattle.process_packet.specs.declared.decision.Problem.{Problem}
use Rattle.process_packet.specs.declared.underlay.Underlay.{Underlay}
use Rattle.scmp_answer.specs.Reply.{is_left_unanswered, local_address, reply}
use Rattle.scmp_answer.specs.Reply as answers
use Rattle.scmp_answer.specs.WayBack.{is_external}
use Rattle.scmp_answer.proofs.ReplyLemmas.{unanswered}
use Rattle.net_laws.specs.Configured.{AreNumbered}
use Rattle.net_laws.specs.LawfulStart.{LawfulStart, ReachesHost, SetsOutOn, WalksBy}
use Rattle.net_laws.specs.Net.{Agrees, Net, Router, router_at, router_of}
use Rattle.net_laws.specs.PathSegments.{PathSegment}
use Rattle.net_laws.specs.Stands.{PacketAt}
use Rattle.net_laws.specs.Stop.{verdict_at}
use Rattle.net_laws.proofs.LawfulLemmas.{unasked}
use Rattle.net_walks.specs.Outcomes.{IsDeliveredBy, IsRepliedTo, IsReply}
use Rattle.net_walks.specs.Stops.{Came, came_to, carried, is_for_host, is_headed, next_stop, stops_from}
use Rattle.net_walks.specs.Visits.{ReturnsTo, Visits, came_of, starts_at}
use Rattle.net_walks.specs.Walked.{IsAnswered, IsAskedOnTheWay, IsCarriedBack, IsLawfulStop, IsWalked}
use Rattle.net_walks.proofs.LawfulWalk.{requests_walked, starts_walked}
use Rattle.net_walks.proofs.WalkStops.{carried_is, decided, delivered_at, few_stops, next_by, none_after, visited}

delivered_by : (net : Net) (moment : ℕ) (a : PacketAt) → Agrees net → IsWalked net moment a → IsDeliveredBy net moment a (stops_from net moment 128 (Some (came_of a)))
delivered_by net moment a agrees walked =
    let r : ReachesHost net moment 127 a a.packet.header.destination = walked.reaches in
    record {
      end = r.end;
      visits = visited net moment agrees (IsLawfulStop net moment a) (λ b is. is.lawful) 127 a r.end walked.stops (none_after net moment 127 a a.packet.header.destination r);
      few = few_stops net moment 128 (Some (came_of a));
      delivery = delivered_at net moment 127 a a.packet.header.destination r;
    }

-- ---- a request

-- where it is answered, it goes nowhere
answered_there : (net : Net) (moment : ℕ) (z : PacketAt) (x : Router) (interface : ℕ) → IsPacket z.packet → router_at net z.router ≡ Some x → verdict_at x z moment ≡ traceroute_reply interface
    → next_stop net moment (came_of z) ≡ None
answered_there net moment z x interface lawful here answers = next_by net moment z x (traceroute_reply interface) lawful here answers

-- the last stop of a walk is such too
last_such : (net : Net) (moment : ℕ) (such : PacketAt → Type 0) (n : ℕ) (a z : PacketAt) → WalksBy net moment such n a z → such z
last_such net moment such n a _ (WalksBy.is_there is) = is
last_such net moment such _ a z (WalksBy.goes {n = n} {b = b} x out to is here others sends carried rest) = last_such net moment such n b z rest

replied_to : (net : Net) (ss : List PathSegment) (moment : ℕ) (a : PacketAt) → Agrees net → IsAskedOnTheWay net ss moment a
    → IsRepliedTo net ss moment a (stops_from net moment 128 (Some (came_of a)))
replied_to net ss moment a agrees e =
    let asked = e.asked in
    let last : IsLawfulStop net moment a e.end = last_such net moment (IsLawfulStop net moment a) 127 a e.end e.stops in
    let d = decided e.here.network e.end.link e.end.source moment e.end.packet last.lawful in
    record {
      end = e.end;
      visits = visited net moment agrees (IsLawfulStop net moment a) (λ b is. is.lawful) 127 a e.end e.stops
          (answered_there net moment e.end e.here asked.interface last.lawful e.here_is asked.verdict);
      few = few_stops net moment 128 (Some (came_of a));
      here = e.here;
      here_is = e.here_is;
      interface = asked.interface;
      decision = d.decision ∙ ap decision_of asked.verdict;
      request = asked.request;
      at = asked.at;
      on = asked.on;
      flag = asked.flag;
    }

-- ---- the stops that `walk` makes

-- what sets out lawfully is delivered at the last of its stops
walks_deliver : (net : Net) (ss : List PathSegment) (moment : ℕ) (a : PacketAt) → Agrees net → AreNumbered net → IsBytes (spelling a.packet) → LawfulStart net ss moment a
    → IsDeliveredBy net moment a (stops_from net moment 128 (Some (came_of a)))
walks_deliver net ss moment a agrees numbered are start =
    delivered_by net moment a agrees (starts_walked net ss moment a agrees numbered are start.sets_out (unasked net ss moment a agrees numbered are start.sets_out start.quiet))

made_from : (net : Net) (router : ℕ) (arrival : Arrival) (p : Packet) (stops : List Came) → arrival.bytes.items ≡ spelling p
    → stops ≡ stops_from net arrival.now 128 (Some (came_to router arrival)) → stops ≡ stops_from net arrival.now 128 (Some (came_of (starts_at router arrival p)))
made_from net router arrival p stops text made =
    made
    ∙ ap (λ (b : List ℕ). stops_from net arrival.now 128 (Some (record { router = router; link = arrival.link; source = arrival.source; bytes = b }))) text

pub stops_deliver : (net : Net) (ss : List PathSegment) (router : ℕ) (arrival : Arrival) (p : Packet) (stops : List Came) → Agrees net → AreNumbered net → IsBytes arrival.bytes.items → arrival.bytes.items ≡ spelling p
    → LawfulStart net ss arrival.now (starts_at router arrival p) → stops ≡ stops_from net arrival.now 128 (Some (came_to router arrival))
    → IsDeliveredBy net arrival.now (starts_at router arrival p) stops
stops_deliver net ss router arrival p stops agrees numbered are text start made =
    let a : PacketAt = starts_at router arrival p in
    subst (IsDeliveredBy net arrival.now a) (sym (made_from net router arrival p stops text made)) (walks_deliver net ss arrival.now a agrees numbered (subst IsBytes text are) start)

pub stops_answer : (net : Net) (ss : List PathSegment) (router : ℕ) (arrival : Arrival) (p : Packet) (stops : List Came) → Agrees net → AreNumbered net → IsBytes arrival.bytes.items → arrival.bytes.items ≡ spelling p
    → SetsOutOn net ss arrival.now (starts_at router arrival p) → stops ≡ stops_from net arrival.now 128 (Some (came_to router arrival))
    → IsDeliveredBy net arrival.now (starts_at router arrival p) stops ⊎ IsRepliedTo net ss arrival.now (starts_at router arrival p) stops
stops_answer net ss router arrival p stops agrees numbered are text start made =
    let a : PacketAt = starts_at router arrival p in
    let from = sym (made_from net router arrival p stops text made) in
    elim (requests_walked net ss arrival.now a agrees numbered (subst IsBytes text are) start) [
      | inl walked ↦ inl (subst (IsDeliveredBy net arrival.now a) from (delivered_by net arrival.now a agrees walked))
      | inr asked ↦ inr (subst (IsRepliedTo net ss arrival.now a) from (replied_to net ss arrival.now a agrees asked))
    ]

-- ---- a reply

-- a packet of the walk with this datagram
record IsMet (such : PacketAt → Type 0) (s : Came) : Type 0 where
  packet : PacketAt
  is : such packet
  same : came_of packet ≡ s

met : {such : PacketAt → Type 0} (cs : List Came) (z : PacketAt) (s : Came) → Visits such cs z → (k : ℕ) → k < length cs → slice_index_or cs k s ≡ s → IsMet such s
met _ z s (Visits.last {a = a} is) zero below at = record { packet = a; is = is; same = at }
met _ z s (Visits.last {a = a} is) (suc k) below at = absurd (omega arith)
met _ z s (Visits.more {a = a} {cs = cs} is rest) zero below at = record { packet = a; is = is; same = at }
met _ z s (Visits.more {a = a} {cs = cs} is rest) (suc k) below at = met cs z s rest k (omega arith) at

-- what is sent may be answered
may_by : (b : Bool) (here : HostAddress) (a : PacketAt) (problem : Problem) (out : ℕ) (to : Option Underlay) (answer : Packet) → a.packet ≡ packet_of (spelling a.packet)
    → reply here a.link a.source (spelling a.packet) problem ≡ answers.Sent out to answer → is_left_unanswered a.packet problem ≡ b → is_left_unanswered a.packet problem ≡ false
may_by true here a problem out to answer read sent is =
    let dropped : reply here a.link a.source (spelling a.packet) problem ≡ answers.Dropped cause.NoAnswer =
    unanswered here a.link a.source (spelling a.packet) problem (ap (λ (p : Packet). is_left_unanswered p problem) (sym read) ∙ is) in
    let never : answers.Dropped cause.NoAnswer ≡ answers.Sent out to answer = sym dropped ∙ sent in
    absurd cc
may_by false here a problem out to answer read sent is = is

inside_if : (e : Bool) (s t : Underlay) → (if e then None else Some s) ≡ Some t → e ≡ false
inside_if true s t is = absurd cc
inside_if false s t is = refl

-- it isn't for a host where it is answered to an address of the AS
not_for_host : (x : Router) (a : PacketAt) (t : Underlay) → (if is_external a.link then None else Some a.source) ≡ Some t → is_for_host x.network a.link (spelling a.packet) ≡ false
not_for_host x a t is =
    ap (λ (b : Bool). b && (is_headed (spelling a.packet) && is_local x.network (header_of (spelling a.packet)).destination)) (inside_if (is_external a.link) a.source t is)

abbrev at_packet : Came → Packet → PacketAt
at_packet s p = record { router = s.router; link = s.link; source = s.source; packet = p }

module _ (net : Net) (moment : ℕ) (start : PacketAt) (agrees : Agrees net) (first : Came) (r : IsReply net moment start first) where
  abbrev x : Router
  x = router_of r.config

  abbrev here : HostAddress
  here = local_address r.config

  abbrev came_back : PacketAt
  came_back = record { router = first.router; link = first.link; source = first.source; packet = r.answer }

  -- the answer that comes back is this one
  back_home : (b : PacketAt) → came_of b ≡ r.stop → (c : IsCarriedBack net moment b x here r.problem start.packet.header.source)
      → ReturnsTo net moment came_back start.packet.header.source (stops_from net moment 128 (Some first))
  back_home b same c =
      let sent : reply here b.link b.source (spelling b.packet) r.problem ≡ answers.Sent r.out r.to r.answer =
      ap (λ (s : Came). reply here s.link s.source s.bytes r.problem) same ∙ r.sent in
      let both : answers.Sent b.link (if is_external b.link then None else Some b.source) c.answer ≡ answers.Sent r.out r.to r.answer = sym c.sent ∙ sent in
      let link : b.link ≡ r.out = cc in
      let to : (if is_external b.link then None else Some b.source) ≡ r.to = cc in
      let answer : c.answer ≡ r.answer = cc in
      let carries : carried net x (came_of b) (if is_external b.link then None else Some b.source) b.link (spelling c.first.packet) ≡ Some (came_of c.first) =
      carried_is net b c.first x b.link (if is_external b.link then None else Some b.source) agrees (λ t is. not_for_host x b t is) c.carried in
      let text : spelling c.first.packet ≡ spelling r.answer = ap spelling (c.packet ∙ answer) in
      let comes : carried net x (came_of b) (if is_external b.link then None else Some b.source) b.link (spelling c.first.packet) ≡ Some first =
      ap (λ (s : Came). carried net x s (if is_external b.link then None else Some b.source) b.link (spelling c.first.packet)) same
      ∙ ap (λ (l : ℕ). carried net x r.stop (if is_external b.link then None else Some b.source) l (spelling c.first.packet)) link
      ∙ ap (λ (t : Option Underlay). carried net x r.stop t r.out (spelling c.first.packet)) to
      ∙ ap (λ (bytes : List ℕ). carried net x r.stop r.to r.out bytes) text
      ∙ r.carried in
      let some : Some (came_of c.first) ≡ Some first = sym carries ∙ comes in
      let one : came_of c.first ≡ first = cc in
      let packet : c.first.packet ≡ r.answer = c.packet ∙ answer in
      let is : c.first ≡ came_back =
      ap (λ (s : Came). at_packet s c.first.packet) one ∙ ap (λ (p : Packet). at_packet first p) packet in
      subst (λ (s : Came). ReturnsTo net moment came_back start.packet.header.source (stops_from net moment 128 (Some s))) one
      (subst (λ (a : PacketAt). ReturnsTo net moment a start.packet.header.source (stops_from net moment 128 (Some (came_of c.first)))) is c.returns)

  by_answer : (b : PacketAt) → came_of b ≡ r.stop → IsAnswered net moment start x here r.problem b
      → ReturnsTo net moment came_back start.packet.header.source (stops_from net moment 128 (Some first))
  by_answer _ same (IsAnswered.straight answer for_source sent) = absurd (r.later (sym same))
  by_answer b same (IsAnswered.back c) = back_home b same c

  reply_returns : IsDeliveredBy net moment start (stops_from net moment 128 (Some (came_of start)))
      → ReturnsTo net moment came_back start.packet.header.source (stops_from net moment 128 (Some first))
  reply_returns d =
      let there = r.met in
      let m : IsMet (IsLawfulStop net moment start) r.stop = met (stops_from net moment 128 (Some (came_of start))) d.end r.stop d.visits there.0 there.1 there.2 in
      let b : PacketAt = m.packet in
      let read : b.packet ≡ packet_of (spelling b.packet) = packet_only (spelling b.packet) b.packet (record { lawful = m.is.lawful; text = refl }) in
      let sent : reply here b.link b.source (spelling b.packet) r.problem ≡ answers.Sent r.out r.to r.answer =
      ap (λ (s : Came). reply here s.link s.source s.bytes r.problem) m.same ∙ r.sent in
      let may : is_left_unanswered b.packet r.problem ≡ false = may_by (is_left_unanswered b.packet r.problem) here b r.problem r.out r.to r.answer read sent refl in
      let at : router_at net b.router ≡ Some x = ap (λ (s : Came). router_at net s.router) m.same ∙ r.here_is in
      by_answer b m.same (m.is.answers r.config r.problem at may)

pub stops_return : (net : Net) (ss : List PathSegment) (router : ℕ) (arrival : Arrival) (start : PacketAt) (stops : List Came) → Agrees net → AreNumbered net → IsBytes (spelling start.packet)
    → LawfulStart net ss arrival.now start → (r : IsReply net arrival.now start (came_to router arrival)) → stops ≡ stops_from net arrival.now 128 (Some (came_to router arrival))
    → ReturnsTo net arrival.now (starts_at router arrival r.answer) start.packet.header.source stops
stops_return net ss router arrival start stops agrees numbered are lawful r made =
    subst (ReturnsTo net arrival.now (starts_at router arrival r.answer) start.packet.header.source) (sym made)
    (reply_returns net arrival.now start agrees (came_to router arrival) r (walks_deliver net ss arrival.now start agrees numbered are lawful))
