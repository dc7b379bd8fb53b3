-- Which wires the list of wires has.
use Rattle.std.proofs.Common.{◌≡◌, ◌<◌, ◌≤◌, ◌+◌, ◌||◌, ℕ, zero, suc, Bool, true, false, List, [], ◌∷◌, ◌++◌, length, Option, Some, None, Contains, cond, refl, sym, ap, subst, ◌∙◌, arith, inl, inr, get_or}
use Rattle.std.specs.Prelude.{◌⊎◌}
use Rattle.std.specs.List.{slice_get}
use Rattle.std.proofs.lemmas.Bool.{cases_lt, false≢true}
use Rattle.std.proofs.lemmas.List.Elements.{Contains-append_cases, Contains-append_left, Contains-append_right}
use Rattle.std.proofs.lemmas.Option.{get_or_from_slice_get, slice_get_read, slice_get_within}
use Rattle.process_packet.specs.declared.config.Config.{Config}
use Rattle.process_packet.specs.declared.neighbours.Link.{Link}
use Rattle.process_packet.specs.Underlay.{same_underlay}
use Rattle.net_laws.specs.Net.{end_at}
use Rattle.net_laws.specs.declared.net.End.{End}
use Rattle.net_laws.specs.declared.net.Wire.{Wire}
use Rattle.net_laws.proofs.AgreementLemmas.{underlay_decides}
use Rattle.net_check.specs.Pairs.{IsLinkAt, JoinsPair, OneLeadsToOther, WiresJoinPairs}
use Rattle.net_check.specs.Wires as wires
use Rattle.net_check.specs.declared.wires.PlacedLink.{PlacedLink}

-- ---- lists

none_in : {X : Type 0} (x : X) → Contains [] x → ⊥
none_in x there = let below = there.1 in omega arith

at_first : {X : Type 0} (x y : X) (k : ℕ) → k < length (x ∷ []) → get_or (x ∷ []) k y ≡ y → x ≡ y
at_first x y zero below is = is
at_first x y (suc k) below is = absurd (omega arith)

only_one : {X : Type 0} (x y : X) → Contains (x ∷ []) y → x ≡ y
only_one x y there = at_first x y there.0 there.1 there.2

is_in : {X : Type 0} (xs : List X) (k : ℕ) (x : X) → slice_get xs k ≡ Some x → Contains xs x
is_in xs k x there = (k, slice_get_within xs k x there, get_or_from_slice_get xs k x x there)

read_at : {X : Type 0} (xs : List X) (x : X) (k : ℕ) → k < length xs → get_or xs k x ≡ x → slice_get xs k ≡ Some x
read_at xs x k below is = slice_get_read xs (length xs) k x refl below (sym is)

record Among (X : Type 0) (given : ℕ → List X) (n : ℕ) (x : X) : Type 0 where
  number : ℕ
  below : number < n
  there : Contains (given number) x

from_joined : {X : Type 0} (given : ℕ → List X) (n : ℕ) (x : X) → Contains (wires.joined given n) x → Among X given n x
from_joined given zero x there = absurd (none_in x there)
from_joined {X} given (suc n) x there =
    elim (Contains-append_cases (wires.joined given n) (given n) x there) [
      | inl before ↦ (let a = from_joined given n x before in let b : Among X given (suc n) x = record { number = a.number; below = (let low = a.below in omega arith); there = a.there } in b)
      | inr last ↦ (let b : Among X given (suc n) x = record { number = n; below = omega arith; there = last } in b)
    ]

to_joined : {X : Type 0} (given : ℕ → List X) (n k : ℕ) (x : X) → k < n → Contains (given k) x → Contains (wires.joined given n) x
to_joined given zero k x below there = absurd (omega arith)
to_joined {X} given (suc n) k x below there =
    elim (cases_lt k n) [
      | inl before ↦ Contains-append_left (wires.joined given n) (given n) x (to_joined given n k x before there)
      | inr last ↦ Contains-append_right (wires.joined given n) (given n) x (let same : k ≡ n = omega arith in subst (λ (j : ℕ). Contains (given j) x) same there)
    ]

-- ---- links

module _ (configs : List Config) where
  at_place : (r : ℕ) (c : Config) (o : Option Link) (j : ℕ) (p : PlacedLink) → slice_get configs r ≡ Some c → slice_get c.links.items j ≡ o → Contains (wires.placed r o) p
      → IsLinkAt configs p.end p.link
  at_place r c None j p at_r at_j there = absurd (none_in p there)
  at_place r c (Some l) j p at_r at_j there =
      let same : wires.place_of r l ≡ p = only_one (wires.place_of r l) p there in
      subst (λ (x : PlacedLink). IsLinkAt configs x.end x.link) same (record { config = c; config_is = at_r; owned = is_in c.links.items j l at_j; number = refl })

  of_router : (r : ℕ) (o : Option Config) (p : PlacedLink) → slice_get configs r ≡ o → Contains (wires.of_router r o) p → IsLinkAt configs p.end p.link
  of_router r None p at_r there = absurd (none_in p there)
  of_router r (Some c) p at_r there =
      let a = from_joined (λ k. wires.placed r (slice_get c.links.items k)) (length c.links.items) p there in
      at_place r c (slice_get c.links.items a.number) a.number p at_r refl a.there

  placed_is_link : (p : PlacedLink) → Contains (wires.all_links configs) p → IsLinkAt configs p.end p.link
  placed_is_link p there =
      let a = from_joined (λ k. wires.of_router k (slice_get configs k)) (length configs) p there in
      of_router a.number (slice_get configs a.number) p refl a.there

  -- the link as it stands in the list
  abbrev at_end : End → Link → PlacedLink
  at_end e l = record { end = e; link = l }

  link_is_placed : (e : End) (l : Link) → IsLinkAt configs e l → Contains (wires.all_links configs) (at_end e l)
  link_is_placed e l i =
      let c = i.config in
      let here = i.owned in
      let at_k = read_at c.links.items l here.0 here.1 here.2 in
      let end_is : end_at e.router l.id ≡ e = ap (end_at e.router) i.number in
      let first : Contains (wires.placed e.router (Some l)) (wires.place_of e.router l) = (0, omega arith, refl) in
      let one : Contains (wires.placed e.router (slice_get c.links.items here.0)) (wires.place_of e.router l) =
      subst (λ (o : Option Link). Contains (wires.placed e.router o) (wires.place_of e.router l)) (sym at_k) first in
      let all : Contains (wires.of_router e.router (Some c)) (wires.place_of e.router l) =
      to_joined (λ k. wires.placed e.router (slice_get c.links.items k)) (length c.links.items) here.0 (wires.place_of e.router l) here.1 one in
      let at_r : Contains (wires.of_router e.router (slice_get configs e.router)) (wires.place_of e.router l) =
      subst (λ (o : Option Config). Contains (wires.of_router e.router o) (wires.place_of e.router l)) (sym i.config_is) all in
      let found : Contains (wires.all_links configs) (wires.place_of e.router l) =
      to_joined (λ k. wires.of_router k (slice_get configs k)) (length configs) e.router (wires.place_of e.router l) (slice_get_within configs e.router c i.config_is) at_r in
      subst (λ (x : End). Contains (wires.all_links configs) (at_end x l)) end_is found

-- ---- pairs

leads : (a b : Bool) (l m : Link) → a ≡ same_underlay l.remote m.local → b ≡ same_underlay m.remote l.local → (a || b) ≡ true → OneLeadsToOther l m
leads true b l m one other holds = inl ((underlay_decides l.remote m.local).0 (sym one))
leads false b l m one other holds = inr ((underlay_decides m.remote l.local).0 (sym other ∙ holds))

either_true : (a b : Bool) → b ≡ true → (a || b) ≡ true
either_true true b holds = refl
either_true false b holds = holds

paired : (l m : Link) → OneLeadsToOther l m → wires.are_paired l m ≡ true
paired l m leads =
    elim leads [
      | inl one ↦ ap (λ (a : Bool). a || same_underlay m.remote l.local) ((underlay_decides l.remote m.local).1 one)
      | inr other ↦ either_true (same_underlay l.remote m.local) (same_underlay m.remote l.local) ((underlay_decides m.remote l.local).1 other)
    ]

turned : (l m : Link) → OneLeadsToOther l m → OneLeadsToOther m l
turned l m leads = elim leads [ inl one ↦ inr one | inr other ↦ inl other ]

abbrev wire_of : PlacedLink → PlacedLink → Wire
wire_of a b = record { one = a.end; other = b.end }

module _ (configs : List Config) where
  pair_joins : (a b : PlacedLink) (w : Wire) (holds : Bool) → wires.are_paired a.link b.link ≡ holds → Contains (wires.all_links configs) a → Contains (wires.all_links configs) b
      → Contains (cond holds (wire_of a b ∷ []) []) w → JoinsPair configs w
  pair_joins a b w false is at_a at_b there = absurd (none_in w there)
  pair_joins a b w true is at_a at_b there =
      let same : wire_of a b ≡ w = only_one (wire_of a b) w there in
      subst (λ (x : Wire). JoinsPair configs x) same (record {
        out = a.link;
        into = b.link;
        out_is = placed_is_link configs a at_a;
        into_is = placed_is_link configs b at_b;
        leads = leads (same_underlay a.link.remote b.link.local) (same_underlay b.link.remote a.link.local) a.link b.link refl refl is;
      })

  between_joins : (o i : Option PlacedLink) (j k : ℕ) (w : Wire) → slice_get (wires.all_links configs) j ≡ o → slice_get (wires.all_links configs) k ≡ i
      → Contains (wires.between o i) w → JoinsPair configs w
  between_joins None i j k w at_j at_k there = absurd (none_in w there)
  between_joins (Some a) None j k w at_j at_k there = absurd (none_in w there)
  between_joins (Some a) (Some b) j k w at_j at_k there =
      pair_joins a b w (wires.are_paired a.link b.link) refl (is_in (wires.all_links configs) j a at_j) (is_in (wires.all_links configs) k b at_k) there

  only_pairs : (w : Wire) → Contains (wires.wires_of configs) w → JoinsPair configs w
  only_pairs w there =
      let links = wires.all_links configs in
      let n = from_joined (wires.to links) (length links) w there in
      let k = from_joined (λ j. wires.between (slice_get links j) (slice_get links n.number)) (suc n.number) w n.there in
      between_joins (slice_get links k.number) (slice_get links n.number) k.number n.number w refl refl k.there

  wire_between : (j k : ℕ) (a b : PlacedLink) → j ≤ k → k < length (wires.all_links configs) → slice_get (wires.all_links configs) j ≡ Some a → slice_get (wires.all_links configs) k ≡ Some b
      → wires.are_paired a.link b.link ≡ true → Contains (wires.wires_of configs) (wire_of a b)
  wire_between j k a b order below at_j at_k holds =
      let links = wires.all_links configs in
      let w = wire_of a b in
      let first : Contains (w ∷ []) w = (0, omega arith, refl) in
      let one : Contains (wires.between (Some a) (Some b)) w = subst (λ (c : Bool). Contains (cond c (w ∷ []) []) w) (sym holds) first in
      let two : Contains (wires.between (slice_get links j) (Some b)) w = subst (λ (o : Option PlacedLink). Contains (wires.between o (Some b)) w) (sym at_j) one in
      let three : Contains (wires.between (slice_get links j) (slice_get links k)) w = subst (λ (o : Option PlacedLink). Contains (wires.between (slice_get links j) o) w) (sym at_k) two in
      let of_k : Contains (wires.to links k) w = to_joined (λ i. wires.between (slice_get links i) (slice_get links k)) (suc k) j w (omega arith) three in
      to_joined (wires.to links) (length links) k w below of_k

  each_pair : (e f : End) (l m : Link) → IsLinkAt configs e l → IsLinkAt configs f m → OneLeadsToOther l m
      → Contains (wires.wires_of configs) (record { one = e; other = f }) ⊎ Contains (wires.wires_of configs) (record { one = f; other = e })
  each_pair e f l m at_e at_f leads =
      let links = wires.all_links configs in
      let a = link_is_placed configs e l at_e in
      let b = link_is_placed configs f m at_f in
      let at_a = read_at links (at_end configs e l) a.0 a.1 a.2 in
      let at_b = read_at links (at_end configs f m) b.0 b.1 b.2 in
      elim (cases_lt b.0 a.0) [
        | inl later ↦ inr (wire_between b.0 a.0 (at_end configs f m) (at_end configs e l) (omega arith) a.1 at_b at_a (paired m l (turned l m leads)))
        | inr before ↦ inl (wire_between a.0 b.0 (at_end configs e l) (at_end configs f m) before b.1 at_a at_b (paired l m leads))
      ]

pub wires_join_pairs : WiresJoinPairs
wires_join_pairs = record { only = only_pairs; each = each_pair }
