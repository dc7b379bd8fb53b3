-- A walk that the laws speak of, as the stops that are made one after the other.
use Rattle.std.proofs.Common.{◌≡◌, ◌≤◌, ◌<◌, ◌+◌, ◌==◌, ◌&&◌, ◌||◌, not, ℕ, zero, suc, Bool, true, false, List, [], ◌∷◌, length, get_or, find, Option, Some, None, Contains, option_map, refl, sym, ap, ap₂, subst, ◌∙◌, arith, inl, inr, if◌then◌else◌, slice_index_or}
use Rattle.std.specs.Prelude.{is_none}
use Rattle.std.specs.List.{position_from, slice_get}
use Rattle.std.proofs.lemmas.Iterator.Adapters.{position_from-zero}
use Rattle.std.proofs.lemmas.List.Quantifiers.{position-Some}
use Rattle.std.proofs.lemmas.Option.{slice_get-get_or}
use Rattle.scion_packet.specs.Fault.{Fault}
use Rattle.scion_packet.specs.Header.{HeaderFields, HostAddress, header_fault, header_fault_as, header_of, one_hop_path}
use Rattle.scion_packet.specs.Packet.{IsPacket, Packet, spelling}
use Rattle.scion_packet.proofs.PacketLaws.{both_pass, packet_only, packet_passes}
use Rattle.net_laws.specs.Agreement.{are_of_one_as, same_end}
use Rattle.process_packet.specs.Decide.{decision_of, moved_by}
use Rattle.process_packet.specs.OneHopLaws.{IsDecidedAsScion}
use Rattle.process_packet.specs.declared.decision.Decision.{Decision}
use Rattle.process_packet.proofs.KindLemmas.{decided_as_scion, has_scion_path, other_kind}
use Rattle.net_laws.specs.Net.{Agrees, AreOfOneAS, Joined, Net, Router, end_at, router_at}
use Rattle.process_packet.specs.Network.{Network, is_local}
use Rattle.process_packet.specs.Rows.{Sent, Verdict}
use Rattle.process_packet.specs.Underlay.{same_underlay}
use Rattle.net_laws.specs.declared.net.End.{End}
use Rattle.net_laws.specs.declared.net.Wire.{Wire}
use Rattle.process_packet.specs.declared.underlay.Underlay.{Underlay}
use Rattle.net_laws.proofs.AgreementLemmas.{as_decides, end_decides, underlay_decides}
use Rattle.net_laws.specs.LawfulStart.{ReachesHost, WalksBy}
use Rattle.process_packet.specs.Shown.{is_for_us}
use Rattle.net_laws.specs.Stands.{PacketAt}
use Rattle.net_laws.specs.Stop.{IsCarried, packet_state, verdict_at}
use Rattle.net_laws.proofs.CarryLemmas.{of_one, same_number}
use Rattle.net_laws.proofs.NetLemmas.{found, joined_ends}
use Rattle.net_walks.specs.Stops.{Came, arrives_over, carried, carried_on, far_end, has_address, has_end, is_for_host, next_from, next_stop, other_end, over_wire, stops_from}
use Rattle.net_walks.specs.Visits.{IsDeliveredAt, Visits, came_of}
use Rattle.net_walks.proofs.StopsLemmas.{none_further, within_host, within_is}

-- ---- what is looked for is found

not_here : {X : Type 0} (p : X → Bool) (y : X) (ys : List X) (x : X) → ((j : ℕ) → j < length ys → slice_index_or ys j x ≡ x → find p ys ≡ None → ⊥)
    → (k : ℕ) → k < length (y ∷ ys) → slice_index_or (y ∷ ys) k x ≡ x → p x ≡ true → (b : Bool) → p y ≡ b → (if b then Some y else find p ys) ≡ None → ⊥
not_here p y ys x tail k below at passes true is none = absurd cc
not_here p y ys x tail zero below at passes false is none = let never : false ≡ true = sym is ∙ ap p at ∙ passes in absurd cc
not_here p y ys x tail (suc k) below at passes false is none = tail k (omega arith) at none

not_found : {X : Type 0} (p : X → Bool) (xs : List X) (x : X) → p x ≡ true → (k : ℕ) → k < length xs → slice_index_or xs k x ≡ x → find p xs ≡ None → ⊥
not_found p [] x passes k below at none = absurd (omega arith)
not_found p (y ∷ ys) x passes k below at none = not_here p y ys x (not_found p ys x passes) k below at passes (p y) refl none

no_place_here : {X : Type 0} (p : X → Bool) (n : ℕ) (y : X) (ys : List X) (x : X) → ((j : ℕ) → slice_get ys j ≡ Some x → position_from p (n + 1) ys ≡ None → ⊥)
    → (k : ℕ) → slice_get (y ∷ ys) k ≡ Some x → p x ≡ true → (b : Bool) → p y ≡ b → (if b then Some n else position_from p (n + 1) ys) ≡ None → ⊥
no_place_here p n y ys x tail k at passes true is none = absurd cc
no_place_here p n y ys x tail zero at passes false is none = let same : y ≡ x = cc in let never : false ≡ true = sym is ∙ ap p same ∙ passes in absurd cc
no_place_here p n y ys x tail (suc k) at passes false is none = tail k at none

no_place : {X : Type 0} (p : X → Bool) (n : ℕ) (xs : List X) (x : X) → p x ≡ true → (k : ℕ) → slice_get xs k ≡ Some x → position_from p n xs ≡ None → ⊥
no_place p n [] x passes k at none = absurd cc
no_place p n (y ∷ ys) x passes k at none = no_place_here p n y ys x (no_place p (n + 1) ys x passes) k at passes (p y) refl none

-- ---- over a wire

either : (a b : Bool) → (a || b) ≡ true → a ≡ false → b ≡ true
either true b is none = absurd cc
either false b is none = is

-- both are joined, whichever the wire names first
joined_at : (net : Net) (e : End) (w : Wire) → Contains net.wires w → has_end e w ≡ true → (b : Bool) → same_end w.one e ≡ b → Joined net e (if b then w.other else w.one)
joined_at net e w there has true is =
    let one : w.one ≡ e = (end_decides w.one e).0 is in
    let same : ◌≡◌ {A = Wire} w (record { one = e; other = w.other }) = ap (λ (x : End). record { one = x; other = w.other }) one in
    inl (subst (Contains net.wires) same there)
joined_at net e w there has false is =
    let other : w.other ≡ e = (end_decides w.other e).0 (either (same_end w.one e) (same_end w.other e) has is) in
    let same : ◌≡◌ {A = Wire} w (record { one = w.one; other = e }) = ap (λ (x : End). record { one = w.one; other = x }) other in
    inr (subst (Contains net.wires) same there)

has_one : (e f : End) → has_end e (record { one = e; other = f }) ≡ true
has_one e f = ap (λ (b : Bool). b || same_end f e) ((end_decides e e).1 refl)

pub or_true : (a : Bool) → (a || true) ≡ true
or_true true = refl
or_true false = refl

has_other : (e f : End) → has_end e (record { one = f; other = e }) ≡ true
has_other e f = ap (λ (b : Bool). same_end f e || b) ((end_decides e e).1 refl) ∙ or_true (same_end f e)

far_found : (net : Net) → Agrees net → (e f : End) → Joined net e f → (o : Option Wire) → find (has_end e) net.wires ≡ o → option_map (other_end e) o ≡ Some f
far_found net agrees e f joined None at = elim joined [
  | inl there ↦ absurd (not_found (has_end e) net.wires (record { one = e; other = f }) (has_one e f) there.0 there.1 there.2 at)
  | inr there ↦ absurd (not_found (has_end e) net.wires (record { one = f; other = e }) (has_other e f) there.0 there.1 there.2 at)
]
far_found net agrees e f joined (Some w) at =
    let g = found (has_end e) net.wires w at in
    ap Some ((joined_ends net agrees e f joined).alone (other_end e w) (joined_at net e w g.there g.passes (same_end w.one e) refl))

pub far_is : (net : Net) → Agrees net → (e f : End) → Joined net e f → far_end net.wires e ≡ Some f
far_is net agrees e f joined = far_found net agrees e f joined (find (has_end e) net.wires) refl

-- ---- within an AS

both : (a b : Bool) → (a && b) ≡ true → (a ≡ true) × (b ≡ true)
both true b is = (refl, is)
both false b is = let never : false ≡ true = is in absurd cc

place_found : (net : Net) → Agrees net → (x y : Router) (to : Underlay) (r : ℕ) → router_at net r ≡ Some y → AreOfOneAS x y → y.internal ≡ to
    → (o : Option ℕ) → position_from (has_address x to) 0 net.routers ≡ o → o ≡ Some r
place_found net agrees x y to r at one internal None none =
    let passes : has_address x to y ≡ true = ap₂ (λ (a b : Bool). a && b) ((as_decides x y).1 one) ((underlay_decides y.internal to).1 internal) in
    absurd (no_place (has_address x to) 0 net.routers y passes r at none)
place_found net agrees x y to r at one internal (Some q) is =
    let p = position-Some (has_address x to) net.routers q y (position_from-zero (has_address x to) net.routers ∙ is) in
    let z : Router = get_or net.routers q y in
    let there : router_at net q ≡ Some z = slice_get-get_or net.routers q y p.0 in
    let passes = both (are_of_one_as x.network z.network) (same_underlay z.internal to) p.1 in
    let other : AreOfOneAS x z = (as_decides x z).0 passes.0 in
    let address : z.internal ≡ to = (underlay_decides z.internal to).0 passes.1 in
    ap Some (same_number net q r z y agrees there at (of_one x z y other one) (address ∙ sym internal))

place_is : (net : Net) → Agrees net → (x y : Router) (to : Underlay) (r : ℕ) → router_at net r ≡ Some y → AreOfOneAS x y → y.internal ≡ to
    → position_from (has_address x to) 0 net.routers ≡ Some r
place_is net agrees x y to r at one internal = place_found net agrees x y to r at one internal (position_from (has_address x to) 0 net.routers) refl

-- ---- for a host of this AS

for_host_is : (n : Network) (link : ℕ) (p : Packet) → IsPacket p
    → is_for_host n link (spelling p) ≡ (not (link == 0) && is_local n p.header.destination)
for_host_is n link p lawful =
    let none : header_fault (spelling p) ≡ None = (both_pass (spelling p) (packet_passes (spelling p) p (record { lawful = lawful; text = refl }))).0 in
    let same : header_of (spelling p) ≡ p.header = ap (λ (q : Packet). q.header) (sym (packet_only (spelling p) p (record { lawful = lawful; text = refl }))) in
    ap₂ (λ (f : Option Fault) (h : HeaderFields). not (link == 0) && ((is_none f || is_none (header_fault_as one_hop_path (spelling p))) && is_local n h.destination)) none same

-- ---- from one stop to the next

-- a packet on a SCION path is decided by the table of such paths
pub decided : (n : Network) (link : ℕ) (source : Underlay) (moment : ℕ) (p : Packet) → IsPacket p → IsDecidedAsScion n link source moment (spelling p)
decided n link source moment p lawful =
    let bytes = spelling p in
    decided_as_scion n link source moment bytes (other_kind n link bytes (has_scion_path bytes (packet_passes bytes p (record { lawful = lawful; text = refl }))))

-- what the router there makes of it
pub next_by : (net : Net) (moment : ℕ) (a : PacketAt) (x : Router) (v : Verdict) → IsPacket a.packet → router_at net a.router ≡ Some x → verdict_at x a moment ≡ v
    → next_stop net moment (came_of a) ≡ carried_on net (came_of a) (decision_of v) (moved_by v (spelling a.packet)) (Some x)
unfolding next_stop
next_by net moment a x v lawful here is =
    let d = decided x.network a.link a.source moment a.packet lawful in
    ap (next_from net moment (came_of a)) here
    ∙ ap₂ (λ (e : Decision) (bytes : List ℕ). carried_on net (came_of a) e bytes (Some x)) d.decision d.bytes_are
    ∙ ap (λ (w : Verdict). carried_on net (came_of a) (decision_of w) (moved_by w (spelling a.packet)) (Some x)) is

pub carried_is : (net : Net) (a b : PacketAt) (x : Router) (out : ℕ) (to : Option Underlay) → Agrees net
    → ((t : Underlay) → to ≡ Some t → is_for_host x.network a.link (spelling a.packet) ≡ false)
    → IsCarried net a.router x out to b → carried net x (came_of a) to out (spelling b.packet) ≡ Some (came_of b)
carried_is net a b x out _ agrees others (IsCarried.over_wire l own joined source) =
    let bytes = spelling b.packet in
    ap (over_wire net.wires a.router out bytes) own
    ∙ ap (arrives_over l.local bytes) (far_is net agrees (end_at a.router out) (end_at b.router b.link) joined)
    ∙ ap (λ (s : Underlay). Some (record { router = b.router; link = b.link; source = s; bytes = bytes })) (sym source)
carried_is net a b x _ (Some to) agrees others (IsCarried.within y there one internal link source) =
    let bytes = spelling b.packet in
    within_is net.routers x (came_of a) to bytes (Some b.router) (others to refl) (place_is net agrees x y to b.router there one internal)
    ∙ ap₂ (λ (l : ℕ) (s : Underlay). Some (record { router = b.router; link = l; source = s; bytes = bytes })) (sym link) (sym source)

goes_next : (net : Net) (moment : ℕ) (a b : PacketAt) (x : Router) (out : ℕ) (to : Option Underlay) → Agrees net → IsPacket a.packet → router_at net a.router ≡ Some x
    → is_for_us (packet_state x.network a moment (spelling a.packet)) ≡ false → verdict_at x a moment ≡ Sent out to b.packet → IsCarried net a.router x out to b
    → next_stop net moment (came_of a) ≡ Some (came_of b)
goes_next net moment a b x out to agrees lawful here others sends is =
    next_by net moment a x (Sent out to b.packet) lawful here sends
    ∙ carried_is net a b x out to agrees (λ t same. for_host_is x.network a.link a.packet lawful ∙ others) is

ends_delivered : (net : Net) (moment : ℕ) (z : PacketAt) (x : Router) (to : Underlay) (sent : Packet) → IsPacket z.packet → router_at net z.router ≡ Some x
    → is_for_us (packet_state x.network z moment (spelling z.packet)) ≡ true → verdict_at x z moment ≡ Sent 0 (Some to) sent → next_stop net moment (came_of z) ≡ None
ends_delivered net moment z x to sent lawful here for_us sends =
    next_by net moment z x (Sent 0 (Some to) sent) lawful here sends
    ∙ within_host net.routers x (came_of z) to (spelling sent) (for_host_is x.network z.link z.packet lawful ∙ for_us)

-- ---- the whole walk

pub visited : (net : Net) (moment : ℕ) → Agrees net → (such : PacketAt → Type 0) → ((b : PacketAt) → such b → IsPacket b.packet) → (n : ℕ) (a z : PacketAt)
    → WalksBy net moment such n a z → next_stop net moment (came_of z) ≡ None → Visits such (stops_from net moment (suc n) (Some (came_of a))) z
visited net moment agrees such lawful n a _ (WalksBy.is_there is) none =
    subst (λ (o : Option Came). Visits such (came_of a ∷ stops_from net moment n o) a) (sym none)
    (subst (λ (cs : List Came). Visits such (came_of a ∷ cs) a) (sym (none_further net moment n)) (Visits.last is))
visited net moment agrees such lawful _ a z (WalksBy.goes {n = n} {b = b} x out to is here others sends carried rest) none =
    let next = goes_next net moment a b x out to agrees (lawful a is) here others sends carried in
    subst (λ (o : Option Came). Visits such (came_of a ∷ stops_from net moment (suc n) o) z) (sym next)
    (Visits.more is (visited net moment agrees such lawful n b z rest none))

pub few_stops : (net : Net) (moment n : ℕ) (o : Option Came) → length (stops_from net moment n o) ≤ n
few_stops net moment zero o = omega arith
few_stops net moment (suc n) None = omega arith
few_stops net moment (suc n) (Some c) = let rest = few_stops net moment n (next_stop net moment c) in omega arith

-- the host gets the packet
pub delivered_at : (net : Net) (moment n : ℕ) (a : PacketAt) (host : HostAddress) (r : ReachesHost net moment n a host) → IsDeliveredAt net moment a r.end host
delivered_at net moment n a host r =
    let d = decided r.here.network r.end.link r.end.source moment r.end.packet r.lawful in
    record {
      here = r.here;
      here_is = r.here_is;
      home = r.home;
      to = r.to;
      address = r.address;
      decision = d.decision ∙ ap decision_of r.delivery;
      sent = r.sent;
      bytes = d.bytes_are ∙ ap (λ (v : Verdict). moved_by v (spelling r.end.packet)) r.delivery;
      header = r.header;
      payload = r.payload;
    }

-- and then it goes nowhere
pub none_after : (net : Net) (moment n : ℕ) (a : PacketAt) (host : HostAddress) (r : ReachesHost net moment n a host) → next_stop net moment (came_of r.end) ≡ None
none_after net moment n a host r = ends_delivered net moment r.end r.here r.to r.sent r.lawful r.here_is r.for_us r.delivery
