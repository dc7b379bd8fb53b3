-- From one sending to the next: over a wire to the other end of a link, or within an AS to another of its routers.
use Rattle.std.proofs.Common.{◌≡◌, ◌≢◌, ◌≤◌, ℕ, Option, Some, None, refl, subst, ◌∙◌, arith}
use Rattle.process_packet.specs.declared.neighbours.Link.{Link}
use Rattle.process_packet.specs.declared.underlay.Underlay.{Underlay}
use Rattle.process_packet.specs.Network.{own_link}
use Rattle.net_laws.specs.Configured.{AreNumbered}
use Rattle.net_laws.specs.Net.{Agrees, AreOfOneAS, Net, Router, end_at, opposite, router_at}
use Rattle.net_laws.specs.Stands.{PacketAt}
use Rattle.net_laws.specs.Stop.{IsCarried}
use Rattle.net_laws.proofs.LeavesLemmas.{same_router}
use Rattle.net_laws.proofs.NetLemmas.{IsWired, joined_ends}

-- The link by which it leaves one router is joined with the one by which it comes to the other.
pub record IsOverWire (x : Router) (out : ℕ) (y : Router) (link : ℕ) : Type 0 where
  pub near : Link
  pub near_is : own_link x.network out ≡ Some near
  pub far : Link
  pub far_is : own_link y.network link ≡ Some far
  pub outside : link ≢ 0
  pub kinds : far.kind ≡ opposite near.kind

pub over_wire : (net : Net) (r : ℕ) (x : Router) (out : ℕ) (to : Option Underlay) (b : PacketAt) (y : Router) → Agrees net → AreNumbered net → router_at net r ≡ Some x
    → router_at net b.router ≡ Some y → to ≡ None → IsCarried net r x out to b → IsOverWire x out y b.link
over_wire net r x out _ b y agrees numbered here there none (IsCarried.over_wire l own joined source) =
    let w : IsWired net (end_at r out) (end_at b.router b.link) = joined_ends net agrees (end_at r out) (end_at b.router b.link) joined in
    let near : w.one ≡ x = same_router net r r w.one x w.there here refl in
    let far : w.other ≡ y = same_router net b.router b.router w.other y w.back there refl in
    let first : 1 ≤ b.link = numbered b.router y b.link w.into there (subst (λ (z : Router). own_link z.network b.link ≡ Some w.into) far w.into_is) in
    record {
      near = w.out;
      near_is = subst (λ (z : Router). own_link z.network out ≡ Some w.out) near w.out_is;
      far = w.into;
      far_is = subst (λ (z : Router). own_link z.network b.link ≡ Some w.into) far w.into_is;
      outside = λ zero. absurd (omega arith);
      kinds = w.kinds;
    }
over_wire net r x _ _ b y agrees numbered here there none (IsCarried.within z at one internal inside source) = absurd cc

-- Both routers are of one AS, and it comes from inside.
pub record IsWithin (x y : Router) (link : ℕ) : Type 0 where
  pub one : AreOfOneAS x y
  pub inside : link ≡ 0

pub within : (net : Net) (r : ℕ) (x : Router) (out : ℕ) (to : Option Underlay) (b : PacketAt) (y : Router) → router_at net b.router ≡ Some y → (at : Underlay) → to ≡ Some at
    → IsCarried net r x out to b → IsWithin x y b.link
within net r x out _ b y there at some (IsCarried.over_wire l own joined source) = absurd cc
within net r x _ _ b y there at some (IsCarried.within z z_there one internal inside source) =
    let same : z ≡ y = same_router net b.router b.router z y z_there there refl in
    record { one = subst (AreOfOneAS x) same one; inside = inside }

pub one_through : (x y z : Router) → AreOfOneAS x y → AreOfOneAS y z → AreOfOneAS x z
one_through x y z one other = record { isd = one.isd ∙ other.isd; autonomous_system = one.autonomous_system ∙ other.autonomous_system }
