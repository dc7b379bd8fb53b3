-- The test of a net finds exactly what it says.
use Rattle.std.proofs.Common.{slice_index_or, ◌≡◌, ◌≢◌, ◌<◌, ◌+◌, ◌==◌, ◌&&◌, ◌||◌, not, ℕ, zero, suc, Bool, true, false, List, [], ◌∷◌, length, map, Option, Some, None, is_some, Contains, refl, sym, ap, ap₂, subst, ◌∙◌, arith, add-zero, zero-add}
use Rattle.std.specs.Bool.{Decides}
use Rattle.std.specs.List.{enumerate_from, list_all, list_any, slice_get}
use Rattle.std.specs.Option.{option_and_then}
use Rattle.std.specs.Str.{bytes_eq}
use Rattle.std.proofs.lemmas.Bool.Decides.{Decides-at, Decides-eqb, Decides-not}
use Rattle.std.proofs.lemmas.Slice.Eq.{bytes_eq-Decides}
use Rattle.scion_header.specs.declared.domain.Domain.{Domain}
use Rattle.segment_switch.specs.declared.kind.LinkKind.{LinkKind}
use Rattle.segment_switch.specs.declared.kind.LinkKind.TheVariants.{Core, Parent, Child}
use Rattle.process_packet.specs.declared.config.Config.{Config}
use Rattle.process_packet.specs.declared.neighbours.Link.{Link}
use Rattle.process_packet.specs.declared.neighbours.Service.{Service}
use Rattle.process_packet.specs.declared.neighbours.Sibling.{Sibling}
use Rattle.process_packet.specs.declared.port_range.PortRange.{PortRange}
use Rattle.net_laws.specs.declared.net.End.{End}
use Rattle.net_laws.specs.declared.net.Wire.{Wire}
use Rattle.process_packet.specs.declared.underlay.Ip.{Ip}
use Rattle.process_packet.specs.declared.underlay.Ip.TheVariants.{V4, V6}
use Rattle.process_packet.specs.declared.underlay.Underlay.{Underlay}
use Rattle.net_laws.specs.Agreement as agreement
use Rattle.net_laws.specs.Net.{AgreeWithin, Agrees, AreApart, AreOfOneAS, IsNamed, IsWire, Lists, Net, Router, opposite, router_of}
use Rattle.process_packet.specs.Network.{own_link, sibling}
use Rattle.process_packet.specs.Underlay.{same_ip, same_underlay}

-- ---- tests of any kind

by_way : {P Q : Type 0} (a : Bool) → (P → Q) → (Q → P) → Decides a P → Decides a Q
by_way a to back d = (λ e. to (d.0 e), λ q. d.1 (back q))

both : {P Q : Type 0} (a b : Bool) → Decides a P → Decides b Q → Decides (a && b) (P × Q)
both true b one other = (λ e. (one.0 refl, other.0 e), λ q. other.1 q.1)
both false b one other = (λ e. let never : false ≡ true = e in absurd cc, λ q. one.1 q.0)

-- one test, where another one doesn't pass
unless : {P Q : Type 0} (a b : Bool) → Decides a P → Decides b Q → Decides (a || b) ((P → ⊥) → Q)
unless true b one other = (λ e no. absurd (no (one.0 refl)), λ f. refl)
unless false b one other = (λ e no. other.0 e, λ f. other.1 (f (λ p. let never : false ≡ true = one.1 p in absurd cc)))

where_so : {P Q : Type 0} (a b : Bool) → Decides a P → Decides b Q → Decides (not a || b) (P → Q)
where_so true b one other = (λ e p. other.0 e, λ f. other.1 (f (one.0 refl)))
where_so false b one other = (λ e p. let never : false ≡ true = one.1 p in absurd cc, λ f. refl)

-- what holds of the first element and of the others holds of each
all_hold : {X : Type 0} (P : X → Type 0) (y : X) (ys : List X) (x : X) (k : ℕ) → P y → ((z : X) → Contains ys z → P z) → k < length (y ∷ ys)
    → slice_index_or (y ∷ ys) k x ≡ x → P x
all_hold P y ys x zero one others below is = subst P is one
all_hold P y ys x (suc k) one others below is = others x (k, omega arith, is)

-- each element of a list passes
pub each : {X : Type 0} (f : X → Bool) (P : X → Type 0) → ((x : X) → Decides (f x) (P x)) → (xs : List X) → Decides (list_all f xs) ((x : X) → Contains xs x → P x)
each f P d [] = (λ e x there. let below = there.1 in absurd (omega arith), λ all. refl)
each f P d (y ∷ ys) =
    by_way (f y && list_all f ys)
    (λ h x there. all_hold P y ys x there.0 h.0 h.1 there.1 there.2)
    (λ all. (all y (0, omega arith, refl), λ x there. all x (suc there.0, (let below = there.1 in omega arith), there.2)))
    (both (f y) (list_all f ys) (d y) (each f P d ys))

later : {X : Type 0} (f : X → Bool) (x y : X) (ys : List X) (k : ℕ) → (x ≡ y → ⊥) → k < length (y ∷ ys) → slice_index_or (y ∷ ys) k x ≡ x → Contains ys x
later f x y ys zero other below is = absurd (other (sym is))
later f x y ys (suc k) other below is = (k, omega arith, is)

-- the first element is it, or one of the others
some_of : {X : Type 0} (f : X → Bool) (x y : X) (ys : List X) (b : Bool) → Decides b (x ≡ y) → Decides (list_any f ys) (Contains ys x)
    → Decides (b || list_any f ys) (Contains (y ∷ ys) x)
some_of f x y ys true one others = (λ e. (0, omega arith, sym (one.0 refl)), λ there. refl)
some_of f x y ys false one others = (
  λ e. let there = others.0 e in (suc there.0, (let below = there.1 in omega arith), there.2),
  λ there. others.1 (later f x y ys there.0 (λ same. let never : false ≡ true = one.1 same in absurd cc) there.1 there.2),
)

-- some element of a list passes
pub some : {X : Type 0} (f : X → Bool) (x : X) → ((y : X) → Decides (f y) (x ≡ y)) → (ys : List X) → Decides (list_any f ys) (Contains ys x)
some f x d [] = (λ e. let never : false ≡ true = e in absurd cc, λ there. let below = there.1 in absurd (omega arith))
some f x d (y ∷ ys) = some_of f x y ys (f y) (d y) (some f x d ys)

at_number : {X : Type 0} (P : ℕ → X → Type 0) (n : ℕ) (y : X) (ys : List X) (k : ℕ) (x : X) → P n y
    → ((j : ℕ) (z : X) → slice_get ys j ≡ Some z → P (n + 1 + j) z) → slice_get (y ∷ ys) k ≡ Some x → P (n + k) x
at_number P n y ys zero x one others there = let same : y ≡ x = cc in subst (λ (m : ℕ). P m x) (sym (add-zero n)) (subst (P n) same one)
at_number P n y ys (suc k) x one others there = let e : n + 1 + k ≡ n + suc k = omega arith in subst (λ (m : ℕ). P m x) e (others k x there)

-- each element passes under its number, from n on
numbered : {X : Type 0} (f : ℕ × X → Bool) (P : ℕ → X → Type 0) → ((k : ℕ) (x : X) → Decides (f (k, x)) (P k x)) → (n : ℕ) (xs : List X)
    → Decides (list_all f (enumerate_from n xs)) ((k : ℕ) (x : X) → slice_get xs k ≡ Some x → P (n + k) x)
numbered f P d n [] = (λ e k x there. absurd cc, λ all. refl)
numbered f P d n (y ∷ ys) =
    by_way (f (n, y) && list_all f (enumerate_from (n + 1) ys))
    (λ h k x there. at_number P n y ys k x h.0 h.1 there)
    (λ all. (subst (λ (m : ℕ). P m y) (add-zero n) (all 0 y refl), λ k x there. subst (λ (m : ℕ). P m x) (let e : n + suc k ≡ n + 1 + k = omega arith in e) (all (suc k) x there)))
    (both (f (n, y)) (list_all f (enumerate_from (n + 1) ys)) (d n y) (numbered f P d (n + 1) ys))

-- ---- equal values

pub kind_decides : (a b : LinkKind) → Decides (agreement.same_kind a b) (a ≡ b)
kind_decides Core Core = (λ e. refl, λ is. refl)
kind_decides Core Parent = (λ e. absurd cc, λ is. absurd cc)
kind_decides Core Child = (λ e. absurd cc, λ is. absurd cc)
kind_decides Parent Core = (λ e. absurd cc, λ is. absurd cc)
kind_decides Parent Parent = (λ e. refl, λ is. refl)
kind_decides Parent Child = (λ e. absurd cc, λ is. absurd cc)
kind_decides Child Core = (λ e. absurd cc, λ is. absurd cc)
kind_decides Child Parent = (λ e. absurd cc, λ is. absurd cc)
kind_decides Child Child = (λ e. refl, λ is. refl)

pub opposite_decides : (a b : LinkKind) → Decides (agreement.are_opposite a b) (b ≡ opposite a)
opposite_decides Core Core = (λ e. refl, λ is. refl)
opposite_decides Core Parent = (λ e. absurd cc, λ is. absurd cc)
opposite_decides Core Child = (λ e. absurd cc, λ is. absurd cc)
opposite_decides Parent Core = (λ e. absurd cc, λ is. absurd cc)
opposite_decides Parent Parent = (λ e. absurd cc, λ is. absurd cc)
opposite_decides Parent Child = (λ e. refl, λ is. refl)
opposite_decides Child Core = (λ e. absurd cc, λ is. absurd cc)
opposite_decides Child Parent = (λ e. refl, λ is. refl)
opposite_decides Child Child = (λ e. absurd cc, λ is. absurd cc)

ip_decides : (a b : Ip) → Decides (same_ip a b) (a ≡ b)
ip_decides (V4 a) (V4 b) = by_way (bytes_eq a b) (ap V4) (λ is. cc) (bytes_eq-Decides a b)
ip_decides (V4 a) (V6 b) = (λ e. absurd cc, λ is. absurd cc)
ip_decides (V6 a) (V4 b) = (λ e. absurd cc, λ is. absurd cc)
ip_decides (V6 a) (V6 b) = by_way (bytes_eq a b) (ap V6) (λ is. cc) (bytes_eq-Decides a b)

pub underlay_decides : (a b : Underlay) → Decides (same_underlay a b) (a ≡ b)
underlay_decides a b =
    by_way (same_underlay a b)
    (λ h. ap₂ (λ (i : Ip) (p : ℕ). let u : Underlay = record { ip = i; port = p } in u) h.1 h.0)
    (λ is. (ap (λ (u : Underlay). u.port) is, ap (λ (u : Underlay). u.ip) is))
    (both (a.port == b.port) (same_ip a.ip b.ip) (Decides-eqb a.port b.port) (ip_decides a.ip b.ip))

pub service_decides : (a b : Service) → Decides (agreement.same_service a b) (a ≡ b)
service_decides a b =
    by_way (agreement.same_service a b)
    (λ h. ap₂ (λ (n : ℕ) (u : Underlay). let s : Service = record { number = n; at = u } in s) h.0 h.1)
    (λ is. (ap (λ (s : Service). s.number) is, ap (λ (s : Service). s.at) is))
    (both (a.number == b.number) (same_underlay a.at b.at) (Decides-eqb a.number b.number) (underlay_decides a.at b.at))

range_decides : (a b : PortRange) → Decides (a.first == b.first && a.last == b.last) (a ≡ b)
range_decides a b =
    by_way (a.first == b.first && a.last == b.last)
    (λ h. ap₂ (λ (f l : ℕ). let r : PortRange = record { first = f; last = l } in r) h.0 h.1)
    (λ is. (ap (λ (r : PortRange). r.first) is, ap (λ (r : PortRange). r.last) is))
    (both (a.first == b.first) (a.last == b.last) (Decides-eqb a.first b.first) (Decides-eqb a.last b.last))

pub ports_decide : (a b : Option PortRange) → Decides (agreement.same_ports a b) (a ≡ b)
ports_decide None None = (λ e. refl, λ is. refl)
ports_decide None (Some b) = (λ e. let never : false ≡ true = e in absurd cc, λ is. absurd cc)
ports_decide (Some a) None = (λ e. let never : false ≡ true = e in absurd cc, λ is. absurd cc)
ports_decide (Some a) (Some b) = by_way (agreement.same_ports (Some a) (Some b)) (ap Some) (λ is. cc) (range_decides a b)

pub end_decides : (a b : End) → Decides (agreement.same_end a b) (a ≡ b)
end_decides a b =
    by_way (agreement.same_end a b)
    (λ h. ap₂ (λ (r l : ℕ). let e : End = record { router = r; link = l } in e) h.0 h.1)
    (λ is. (ap (λ (e : End). e.router) is, ap (λ (e : End). e.link) is))
    (both (a.router == b.router) (a.link == b.link) (Decides-eqb a.router b.router) (Decides-eqb a.link b.link))

-- ---- routers of one AS

pub as_decides : (x y : Router) → Decides (agreement.are_of_one_as x.network y.network) (AreOfOneAS x y)
as_decides x y =
    let m = x.network in
    let n = y.network in
    by_way (agreement.are_of_one_as m n)
    (λ h. record { isd = h.0; autonomous_system = h.1 })
    (λ one. (one.isd, one.autonomous_system))
    (both (m.isd == n.isd) (m.autonomous_system == n.autonomous_system) (Decides-eqb m.isd n.isd) (Decides-eqb m.autonomous_system n.autonomous_system))

-- no value is there
none_decides : {X : Type 0} (o : Option X) → Decides (not (is_some o)) (o ≡ None)
none_decides None = (λ e. refl, λ is. refl)
none_decides (Some x) = (λ e. let never : false ≡ true = e in absurd cc, λ is. absurd cc)

record IsEntry (o : Option Sibling) (at : Underlay) (kind : LinkKind) : Type 0 where
  entry : Sibling
  is : o ≡ Some entry
  at_is : entry.at ≡ at
  kind_is : entry.kind ≡ kind

entry_decides : (o : Option Sibling) (at : Underlay) (kind : LinkKind) → Decides (agreement.is_entry_of at kind o) (IsEntry o at kind)
entry_decides None at kind = (λ e. let never : false ≡ true = e in absurd cc, λ i. let is = i.is in absurd cc)
entry_decides (Some s) at kind =
    by_way (agreement.is_entry_of at kind (Some s))
    (λ h. record { entry = s; is = refl; at_is = h.0; kind_is = h.1 })
    (λ i. let some = i.is in let same : s ≡ i.entry = cc in (ap (λ (t : Sibling). t.at) same ∙ i.at_is, ap (λ (t : Sibling). t.kind) same ∙ i.kind_is))
    (both (same_underlay s.at at) (agreement.same_kind s.kind kind) (underlay_decides s.at at) (kind_decides s.kind kind))

lists_decides : (x y : Router) (l : Link) → Decides (agreement.lists x.network y.internal l) (Lists x y l)
lists_decides x y l =
    let own = own_link x.network l.id in
    let listed = sibling x.network l.id in
    by_way (agreement.lists x.network y.internal l)
    (λ h. let e = h.1 in record { not_own = h.0; entry = e.entry; listed = e.is; at = e.at_is; kind = e.kind_is })
    (λ i. (i.not_own, record { entry = i.entry; is = i.listed; at_is = i.at; kind_is = i.kind }))
    (both (not (is_some own)) (agreement.is_entry_of y.internal l.kind listed) (none_decides own) (entry_decides listed y.internal l.kind))

-- what two routers of one AS are to each other
record AreNeighbours (x y : Router) : Type 0 where
  internal : x.internal ≢ y.internal
  siblings : (l : Link) → Contains y.network.links l → Lists x y l

neighbours_decides : (x y : Router) → Decides (agreement.lists_router x y) (AreNeighbours x y)
neighbours_decides x y =
    let test = agreement.lists x.network y.internal in
    by_way (agreement.lists_router x y)
    (λ h. record { internal = h.0; siblings = h.1 })
    (λ n. (n.internal, n.siblings))
    (both (not (same_underlay x.internal y.internal)) (list_all test y.network.links)
    (Decides-not (same_underlay x.internal y.internal) (underlay_decides x.internal y.internal))
    (each test (Lists x y) (lists_decides x y) y.network.links))

within_decides : (r q : ℕ) (x y : Router) → Decides (agreement.agree_within (r == q) x y) (AgreeWithin r q x y)
within_decides r q x y =
    let m = x.network in
    let n = y.network in
    let a = bytes_eq m.key n.key in
    let b = m.host_port == n.host_port in
    let c = agreement.same_ports m.dispatched_ports n.dispatched_ports in
    let d = list_all (agreement.has_service n.services) m.services in
    let e = (r == q) || agreement.lists_router x y in
    by_way (agreement.agree_within (r == q) x y)
    (λ h. record {
      key = h.0.0.0.0;
      host_port = h.0.0.0.1;
      dispatched_ports = h.0.0.1;
      services = h.0.1;
      internal = λ other. (h.1 other).internal;
      siblings = λ other. (h.1 other).siblings;
    })
    (λ w. ((((w.key, w.host_port), w.dispatched_ports), w.services), λ other. record { internal = w.internal other; siblings = w.siblings other }))
    (both (a && b && c && d) e
    (both (a && b && c) d
    (both (a && b) c (both a b (bytes_eq-Decides m.key n.key) (Decides-eqb m.host_port n.host_port)) (ports_decide m.dispatched_ports n.dispatched_ports))
    (each (agreement.has_service n.services) (λ s. Contains n.services s) (λ s. some (agreement.same_service s) s (service_decides s) n.services) m.services))
    (unless (r == q) (agreement.lists_router x y) (Decides-eqb r q) (neighbours_decides x y)))

-- a router and each of its AS
abbrev AgreesWith : List Router → ℕ → Router → Type 0
AgreesWith routers r x = (q : ℕ) (y : Router) → slice_get routers q ≡ Some y → AreOfOneAS x y → AgreeWithin r q x y

pub as_one_decides : (r q : ℕ) (x y : Router) → Decides (agreement.agree_as r q x y) (AreOfOneAS x y → AgreeWithin r q x y)
as_one_decides r q x y =
    where_so (agreement.are_of_one_as x.network y.network) (agreement.agree_within (r == q) x y) (as_decides x y) (within_decides r q x y)

pub with_decides : (routers : List Router) (r : ℕ) (x : Router) → Decides (agreement.agrees_with routers r x) (AgreesWith routers r x)
with_decides routers r x =
    by_way (agreement.agrees_with routers r x)
    (λ h q y there. subst (λ (k : ℕ). AreOfOneAS x y → AgreeWithin r k x y) (zero-add q) (h q y there))
    (λ h q y there. subst (λ (k : ℕ). AreOfOneAS x y → AgreeWithin r k x y) (sym (zero-add q)) (h q y there))
    (numbered (λ (p : ℕ × Router). agreement.agree_as r p.0 x p.1) (λ q y. AreOfOneAS x y → AgreeWithin r q x y) (λ q y. as_one_decides r q x y) 0 routers)

pub routers_decide : (routers : List Router) → Decides (agreement.routers_agree routers) ((r : ℕ) (x : Router) → slice_get routers r ≡ Some x → AgreesWith routers r x)
routers_decide routers =
    by_way (agreement.routers_agree routers)
    (λ h r x there. subst (λ (k : ℕ). AgreesWith routers k x) (zero-add r) (h r x there))
    (λ h r x there. subst (λ (k : ℕ). AgreesWith routers k x) (sym (zero-add r)) (h r x there))
    (numbered (λ (p : ℕ × Router). agreement.agrees_with routers p.0 p.1) (AgreesWith routers) (with_decides routers) 0 routers)

-- ---- wires

-- the router, and the link of it
record HasLink (routers : List Router) (e : End) (l : Link) : Type 0 where
  router : Router
  router_is : slice_get routers e.router ≡ Some router
  link_is : own_link router.network e.link ≡ Some l

has_link : (routers : List Router) (e : End) (l : Link) (o : Option Router) → slice_get routers e.router ≡ o
    → option_and_then (λ (x : Router). own_link x.network e.link) o ≡ Some l → HasLink routers e l
has_link routers e l None at is = absurd cc
has_link routers e l (Some x) at is = record { router = x; router_is = at; link_is = is }

link_found : (routers : List Router) (e : End) (l : Link) (x : Router) → slice_get routers e.router ≡ Some x → own_link x.network e.link ≡ Some l
    → agreement.link_at routers e ≡ Some l
link_found routers e l x at is = ap (option_and_then (λ (y : Router). own_link y.network e.link)) at ∙ is

-- the AS that is named, if one is
pub named_decides : (o : Option Domain) (y : Router) → Decides (agreement.is_named o y.network) (IsNamed o y)
named_decides None y = (λ e. record { isd = λ d is. absurd cc; autonomous_system = λ d is. absurd cc }, λ is. refl)
named_decides (Some d) y =
    let n = y.network in
    by_way (agreement.is_named (Some d) n)
    (λ h. record {
      isd = λ e is. let same : d ≡ e = cc in sym (ap (λ (x : Domain). x.isd) same) ∙ h.0;
      autonomous_system = λ e is. let same : d ≡ e = cc in sym (ap (λ (x : Domain). x.autonomous_system) same) ∙ h.1;
    })
    (λ is. (is.isd d refl, is.autonomous_system d refl))
    (both (d.isd == n.isd) (d.autonomous_system == n.autonomous_system) (Decides-eqb d.isd n.isd) (Decides-eqb d.autonomous_system n.autonomous_system))

record NamesEnd (routers : List Router) (l : Link) (e : End) : Type 0 where
  router : Router
  router_is : slice_get routers e.router ≡ Some router
  named : IsNamed l.neighbor router

end_named : (routers : List Router) (l : Link) (e : End) (o : Option Router) → slice_get routers e.router ≡ o → Decides (agreement.is_named_by l o) (NamesEnd routers l e)
end_named routers l e None at = (λ is. let never : false ≡ true = is in absurd cc, λ n. let there = n.router_is in absurd cc)
end_named routers l e (Some x) at =
    by_way (agreement.is_named l.neighbor x.network)
    (λ is. record { router = x; router_is = at; named = is })
    (λ n. let there : Some n.router ≡ Some x = sym n.router_is ∙ at in let same : n.router ≡ x = cc in subst (IsNamed l.neighbor) same n.named)
    (named_decides l.neighbor x)

names_decide : (routers : List Router) (l : Link) (e : End) → Decides (agreement.names_end routers l e) (NamesEnd routers l e)
names_decide routers l e = end_named routers l e (slice_get routers e.router) refl

named_there : (routers : List Router) (l : Link) (e : End) (x : Router) → slice_get routers e.router ≡ Some x → NamesEnd routers l e → IsNamed l.neighbor x
named_there routers l e x at n = let there : Some n.router ≡ Some x = sym n.router_is ∙ at in let same : n.router ≡ x = cc in subst (IsNamed l.neighbor) same n.named

record AreWired (routers : List Router) (w : Wire) (o i : Option Link) : Type 0 where
  out : Link
  into : Link
  out_is : o ≡ Some out
  into_is : i ≡ Some into
  remote : out.remote ≡ into.local
  remote_back : into.remote ≡ out.local
  kinds : into.kind ≡ opposite out.kind
  out_names : NamesEnd routers out w.other
  into_names : NamesEnd routers into w.one

wired_decides : (routers : List Router) (w : Wire) (o i : Option Link) → Decides (agreement.are_wired routers w o i) (AreWired routers w o i)
wired_decides routers w None i = (λ e. let never : false ≡ true = e in absurd cc, λ j. let is = j.out_is in absurd cc)
wired_decides routers w (Some out) None = (λ e. let never : false ≡ true = e in absurd cc, λ j. let is = j.into_is in absurd cc)
wired_decides routers w (Some out) (Some into) =
    let a = same_underlay out.remote into.local in
    let b = same_underlay into.remote out.local in
    let c = agreement.are_opposite out.kind into.kind in
    let d = agreement.names_end routers out w.other in
    let e = agreement.names_end routers into w.one in
    by_way (a && b && c && d && e)
    (λ h. record {
      out = out;
      into = into;
      out_is = refl;
      into_is = refl;
      remote = h.0.0.0.0;
      remote_back = h.0.0.0.1;
      kinds = h.0.0.1;
      out_names = h.0.1;
      into_names = h.1;
    })
    (λ j.
    let one = j.out_is in
    let two = j.into_is in
    let out_same : j.out ≡ out = cc in
    let into_same : j.into ≡ into = cc in
    let remote : out.remote ≡ into.local = sym (ap (λ (l : Link). l.remote) out_same) ∙ j.remote ∙ ap (λ (l : Link). l.local) into_same in
    let back : into.remote ≡ out.local = sym (ap (λ (l : Link). l.remote) into_same) ∙ j.remote_back ∙ ap (λ (l : Link). l.local) out_same in
    let kinds : into.kind ≡ opposite out.kind = sym (ap (λ (l : Link). l.kind) into_same) ∙ j.kinds ∙ ap (λ (l : Link). opposite l.kind) out_same in
    let out_names : NamesEnd routers out w.other = subst (λ (l : Link). NamesEnd routers l w.other) out_same j.out_names in
    let into_names : NamesEnd routers into w.one = subst (λ (l : Link). NamesEnd routers l w.one) into_same j.into_names in
    ((((remote, back), kinds), out_names), into_names))
    (both (a && b && c && d) e
    (both (a && b && c) d
    (both (a && b) c (both a b (underlay_decides out.remote into.local) (underlay_decides into.remote out.local)) (opposite_decides out.kind into.kind))
    (names_decide routers out w.other))
    (names_decide routers into w.one))

pub wire_decides : (net : Net) (w : Wire) → Decides (agreement.is_wire net.routers w) (IsWire net w)
wire_decides net w =
    let o = agreement.link_at net.routers w.one in
    let i = agreement.link_at net.routers w.other in
    by_way (agreement.is_wire net.routers w)
    (λ h.
    let j = h.0 in
    let one = has_link net.routers w.one j.out (slice_get net.routers w.one.router) refl j.out_is in
    let other = has_link net.routers w.other j.into (slice_get net.routers w.other.router) refl j.into_is in
    record {
      one = one.router;
      other = other.router;
      one_is = one.router_is;
      other_is = other.router_is;
      out = j.out;
      into = j.into;
      out_is = one.link_is;
      into_is = other.link_is;
      remote = j.remote;
      remote_back = j.remote_back;
      kinds = j.kinds;
      out_names = named_there net.routers j.out w.other other.router other.router_is j.out_names;
      into_names = named_there net.routers j.into w.one one.router one.router_is j.into_names;
      different = h.1;
    })
    (λ is. (
      record {
        out = is.out;
        into = is.into;
        out_is = link_found net.routers w.one is.out is.one is.one_is is.out_is;
        into_is = link_found net.routers w.other is.into is.other is.other_is is.into_is;
        remote = is.remote;
        remote_back = is.remote_back;
        kinds = is.kinds;
        out_names = record { router = is.other; router_is = is.other_is; named = is.out_names };
        into_names = record { router = is.one; router_is = is.one_is; named = is.into_names };
      },
      is.different,
    ))
    (both (agreement.are_wired net.routers w o i) (not (agreement.same_end w.one w.other)) (wired_decides net.routers w o i)
    (Decides-not (agreement.same_end w.one w.other) (end_decides w.one w.other)))

differ_decides : (a b : End) → Decides (not (agreement.same_end a b)) (a ≢ b)
differ_decides a b = Decides-not (agreement.same_end a b) (end_decides a b)

pub apart_decides : (v w : Wire) → Decides (agreement.are_apart v w) (AreApart v w)
apart_decides v w =
    let a = not (agreement.same_end v.one w.one) in
    let b = not (agreement.same_end v.one w.other) in
    let c = not (agreement.same_end v.other w.one) in
    let d = not (agreement.same_end v.other w.other) in
    by_way (agreement.are_apart v w)
    (λ h. record { one_one = h.0.0.0; one_other = h.0.0.1; other_one = h.0.1; other_other = h.1 })
    (λ is. (((is.one_one, is.one_other), is.other_one), is.other_other))
    (both (a && b && c) d (both (a && b) c (both a b (differ_decides v.one w.one) (differ_decides v.one w.other)) (differ_decides v.other w.one)) (differ_decides v.other w.other))

abbrev IsApart : List Wire → ℕ → Wire → Type 0
IsApart wires j v = (k : ℕ) (w : Wire) → slice_get wires k ≡ Some w → j ≢ k → AreApart v w

pub is_apart_decides : (wires : List Wire) (j : ℕ) (v : Wire) → Decides (agreement.is_apart wires j v) (IsApart wires j v)
is_apart_decides wires j v =
    by_way (agreement.is_apart wires j v)
    (λ h k w there. subst (λ (i : ℕ). j ≢ i → AreApart v w) (zero-add k) (h k w there))
    (λ h k w there. subst (λ (i : ℕ). j ≢ i → AreApart v w) (sym (zero-add k)) (h k w there))
    (numbered (λ (p : ℕ × Wire). (j == p.0) || agreement.are_apart v p.1) (λ k w. j ≢ k → AreApart v w)
    (λ k w. unless (j == k) (agreement.are_apart v w) (Decides-eqb j k) (apart_decides v w)) 0 wires)

all_apart_decides : (wires : List Wire) → Decides (agreement.all_apart wires) ((j : ℕ) (v : Wire) → slice_get wires j ≡ Some v → IsApart wires j v)
all_apart_decides wires =
    by_way (agreement.all_apart wires)
    (λ h j v there. subst (λ (i : ℕ). IsApart wires i v) (zero-add j) (h j v there))
    (λ h j v there. subst (λ (i : ℕ). IsApart wires i v) (sym (zero-add j)) (h j v there))
    (numbered (λ (p : ℕ × Wire). agreement.is_apart wires p.0 p.1) (IsApart wires) (is_apart_decides wires) 0 wires)

-- ---- the net

pub net_decides : (net : Net) → Decides (agreement.agrees net) (Agrees net)
net_decides net =
    let a = agreement.routers_agree net.routers in
    let b = list_all (agreement.is_wire net.routers) net.wires in
    let c = agreement.all_apart net.wires in
    by_way (agreement.agrees net)
    (λ h. record {
      within = λ r q x y at_r at_q one. h.0.0 r x at_r q y at_q one;
      wires = h.0.1;
      apart = λ j k v w at_j at_k other. h.1 j v at_j k w at_k other;
    })
    (λ is. (((λ r x at_r q y at_q one. is.within r q x y at_r at_q one), is.wires), λ j v at_j k w at_k other. is.apart j k v w at_j at_k other))
    (both (a && b) c (both a b (routers_decide net.routers) (each (agreement.is_wire net.routers) (IsWire net) (wire_decides net) net.wires)) (all_apart_decides net.wires))

-- ---- over configurations

all_mapped : {X Y : Type 0} (v : X → Y) (f : ℕ × Y → Bool) (n : ℕ) (xs : List X)
    → list_all f (enumerate_from n (map v xs)) ≡ list_all (λ (p : ℕ × X). f (p.0, v p.1)) (enumerate_from n xs)
all_mapped v f n [] = refl
all_mapped v f n (x ∷ xs) = ap (λ (b : Bool). f (n, v x) && b) (all_mapped v f (n + 1) xs)

all_alike : {X : Type 0} (f g : X → Bool) → ((x : X) → f x ≡ g x) → (xs : List X) → list_all f xs ≡ list_all g xs
all_alike f g same [] = refl
all_alike f g same (x ∷ xs) = ap₂ (λ (a b : Bool). a && b) (same x) (all_alike f g same xs)

pub config_agrees_is : (configs : List Config) (r : ℕ) (x : Router) → agreement.agrees_with (map router_of configs) r x ≡ agreement.config_agrees configs r x
config_agrees_is configs r x = all_mapped router_of (λ (p : ℕ × Router). agreement.agree_as r p.0 x p.1) 0 configs

pub configs_agree_is : (configs : List Config) → agreement.routers_agree (map router_of configs) ≡ agreement.configs_agree configs
configs_agree_is configs =
    all_mapped router_of (λ (p : ℕ × Router). agreement.agrees_with (map router_of configs) p.0 p.1) 0 configs
    ∙ all_alike (λ (p : ℕ × Config). agreement.agrees_with (map router_of configs) p.0 (router_of p.1)) (λ (p : ℕ × Config). agreement.config_agrees configs p.0 (router_of p.1))
    (λ p. config_agrees_is configs p.0 (router_of p.1)) (enumerate_from 0 configs)

pub configs_decide : (configs : List Config) (wires : List Wire)
    → Decides (agreement.are_net configs wires) (Agrees (record { routers = map router_of configs; wires = wires }))
configs_decide configs wires =
    let net : Net = record { routers = map router_of configs; wires = wires } in
    let b = list_all (agreement.is_wire net.routers) wires in
    let c = agreement.all_apart wires in
    Decides-at (agreement.are_net configs wires) (agreement.agrees net) (ap (λ (a : Bool). a && b && c) (sym (configs_agree_is configs))) (net_decides net)
