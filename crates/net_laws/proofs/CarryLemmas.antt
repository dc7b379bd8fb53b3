-- In a net that agrees a packet that is sent comes to one router only.
use Rattle.std.proofs.Common.{◌≡◌, ℕ, Option, Some, sym, ap, ap₂, ◌∙◌, inl, inr}
use Rattle.std.proofs.lemmas.Bool.{cases_eq}
use Rattle.scion_packet.specs.Packet.{Packet}
use Rattle.process_packet.specs.declared.neighbours.Link.{Link}
use Rattle.process_packet.specs.declared.underlay.Underlay.{Underlay}
use Rattle.process_packet.specs.Network.{own_link}
use Rattle.net_laws.specs.Net.{Agrees, AreOfOneAS, Net, Router, end_at, router_at}
use Rattle.net_laws.specs.declared.net.End.{End}
use Rattle.net_laws.proofs.NetLemmas.{IsWired, joined_ends}
use Rattle.net_laws.specs.Stands.{PacketAt}
use Rattle.net_laws.specs.Stop.{IsCarried}

same_stop : (b c : PacketAt) → b.router ≡ c.router → b.link ≡ c.link → b.source ≡ c.source → b.packet ≡ c.packet → b ≡ c
same_stop b c router link source packet =
    ap₂ (λ (r l : ℕ). record { router = r; link = l; source = b.source; packet = b.packet }) router link
    ∙ ap₂ (λ (s : Underlay) (p : Packet). record { router = c.router; link = c.link; source = s; packet = p }) source packet

same_link : (l m : Link) (o : Option Link) → o ≡ Some l → o ≡ Some m → l ≡ m
same_link l m o one other = let is : Some l ≡ Some m = sym one ∙ other in cc

pub of_one : (x y z : Router) → AreOfOneAS x y → AreOfOneAS x z → AreOfOneAS y z
of_one x y z one other = record { isd = sym one.isd ∙ other.isd; autonomous_system = sym one.autonomous_system ∙ other.autonomous_system }

pub same_number : (net : Net) (r q : ℕ) (y z : Router) → Agrees net → router_at net r ≡ Some y → router_at net q ≡ Some z → AreOfOneAS y z → y.internal ≡ z.internal → r ≡ q
same_number net r q y z agrees at-r at-q one same =
    elim (cases_eq r q) [ inl is ↦ is | inr other ↦ absurd ((agrees.within r q y z at-r at-q one).internal other same) ]

pub carried_to_one : (net : Net) (r : ℕ) (x : Router) (out : ℕ) (to : Option Underlay) (b c : PacketAt) → Agrees net → router_at net r ≡ Some x
    → IsCarried net r x out to b → IsCarried net r x out to c → b.packet ≡ c.packet → b ≡ c
carried_to_one net r x out _ b c agrees here (IsCarried.over_wire l own joined source) (IsCarried.over_wire m own' joined' source') same =
    let w : IsWired net (end_at r out) (end_at b.router b.link) = joined_ends net agrees (end_at r out) (end_at b.router b.link) joined in
    let end : end_at c.router c.link ≡ end_at b.router b.link = w.alone (end_at c.router c.link) joined' in
    let link = same_link l m (own_link x.network out) own own' in
    same_stop b c (sym (ap (λ (e : End). e.router) end)) (sym (ap (λ (e : End). e.link) end)) (source ∙ ap (λ (k : Link). k.local) link ∙ sym source') same
carried_to_one net r x _ _ b c agrees here (IsCarried.within y there one internal link source) (IsCarried.within z there' other internal' link' source') same =
    let number = same_number net b.router c.router y z agrees there there' (of_one x y z one other) (internal ∙ sym internal') in
    same_stop b c number (link ∙ sym link') (source ∙ sym source') same
