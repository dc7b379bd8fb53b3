-- The search for a misfit finds one wherever the net doesn't agree, and what it tells is so and the first.
use Rattle.std.proofs.Common.{◌≡◌, ◌≢◌, ◌<◌, ◌+◌, ◌==◌, ◌&&◌, ◌||◌, not, cond, ℕ, zero, suc, Bool, true, false, List, [], ◌∷◌, map, Option, Some, None, is_some, Contains, refl, sym, ap, subst, ◌∙◌, arith, zero-add, inl, inr, option_map, find, position}
use Rattle.std.specs.Prelude.{IfNone, IfSome}
use Rattle.std.specs.Bool.{Decides}
use Rattle.std.specs.List.{enumerate_from, list_all, position_from, slice_get}
use Rattle.std.specs.Option.{option_and_then}
use Rattle.std.specs.Str.{bytes_eq}
use Rattle.std.proofs.lemmas.Bool.{false≢true}
use Rattle.std.proofs.lemmas.Bool.Decides.{Decides-eqb, not_from_Decides}
use Rattle.std.proofs.lemmas.Iterator.Adapters.{position_from-zero}
use Rattle.std.proofs.lemmas.Option.{get_or_from_slice_get, slice_get-map, slice_get_within}
use Rattle.std.proofs.lemmas.Slice.Eq.{bytes_eq-Decides}
use Rattle.process_packet.specs.declared.config.Config.{Config}
use Rattle.process_packet.specs.declared.neighbours.Link.{Link}
use Rattle.process_packet.specs.declared.neighbours.Service.{Service}
use Rattle.process_packet.specs.declared.neighbours.Sibling.{Sibling}
use Rattle.process_packet.specs.Network.{own_link, sibling}
use Rattle.process_packet.specs.Underlay.{same_underlay}
use Rattle.net_laws.specs.Agreement as agreement
use Rattle.net_laws.specs.Misfit.{AgreeWhere, Before, IsDifference, IsFirst, IsMismatch, NamesOther}
use Rattle.net_laws.specs.MisfitSearch as search_for
use Rattle.net_laws.specs.Net.{AgreeWithin, Agrees, AreApart, AreOfOneAS, IsWire, Net, Router, router_of}
use Rattle.net_laws.specs.declared.misfit.Difference.{Difference}
use Rattle.net_laws.specs.declared.misfit.Difference.TheVariants as difference
use Rattle.net_laws.specs.declared.misfit.Misfit.{Misfit}
use Rattle.net_laws.specs.declared.misfit.Misfit.TheVariants as misfit
use Rattle.net_laws.specs.declared.misfit.Mismatch.{Mismatch}
use Rattle.net_laws.specs.declared.misfit.Mismatch.TheVariants as mismatch
use Rattle.net_laws.specs.declared.net.End.{End}
use Rattle.net_laws.specs.declared.net.Wire.{Wire}
use Rattle.net_laws.proofs.AgreementLemmas.{apart_decides, as_decides, as_one_decides, config_agrees_is, configs_agree_is, configs_decide, each, end_decides, is_apart_decides, kind_decides, named_decides, opposite_decides, ports_decide, routers_decide, service_decides, some, underlay_decides, wire_decides, with_decides}

-- ---- tests one after the other

-- Nothing is told where the test passes; what is told is so, and the test doesn't pass.
abbrev Tells : {A : Type 0} → (A → Type 0) → Bool → Option A → Type 0
Tells P b None = b ≡ true
Tells P b (Some x) = (b ≡ false) × P x

next_told : {A : Type 0} (P : A → Type 0) (a b : Bool) (x : A) (next : Option A) → (a ≡ false → P x) → Tells P b next → Tells P (a && b) (search_for.or_next a x next)
next_told P true b x next wrong rest = rest
next_told P false b x next wrong rest = (refl, wrong refl)

last_told : {A : Type 0} (P : A → Type 0) (a : Bool) (x : A) → (a ≡ false → P x) → Tells P a (search_for.or_next a x None)
last_told P true x wrong = refl
last_told P false x wrong = (refl, wrong refl)

-- the first of two that is wrong
else_told : {A : Type 0} (P : A → Type 0) (b rest : Bool) (x : A) (next : Option A) → (b ≡ false → P x) → (b ≡ true → Tells P rest next)
    → Tells P (b && rest) (cond (not b) (Some x) next)
else_told P true rest x next wrong others = others refl
else_told P false rest x next wrong others = (refl, wrong refl)

told_along : {A : Type 0} (P Q : A → Type 0) (b : Bool) (o : Option A) → ((x : A) → P x → Q x) → Tells P b o → Tells Q b o
told_along P Q b None f t = t
told_along P Q b (Some x) f t = (t.0, f x t.1)

-- what one test tells of another one that doesn't pass either
told_of : {A : Type 0} (P : A → Type 0) (b c : Bool) (o : Option A) → b ≡ false → c ≡ false → Tells P c o → Tells P b o
told_of P b c None refuted never t = absurd (false≢true (sym never ∙ t))
told_of P b c (Some x) refuted never t = (refuted, t.1)

at_test : {A : Type 0} (P : A → Type 0) (b c : Bool) (o : Option A) → b ≡ c → Tells P b o → Tells P c o
at_test P b c o same t = subst (λ (d : Bool). Tells P d o) same t

not_false : (b : Bool) → not b ≡ false → b ≡ true
not_false true e = refl
not_false false e = sym e

-- ---- the first element of a list that doesn't pass

record FirstIs (X : Type 0) (f : X → Bool) (xs : List X) (x : X) : Type 0 where
  place : ℕ
  there : slice_get xs place ≡ Some x
  fails : f x ≡ false
  before : (j : ℕ) (y : X) → j < place → slice_get xs j ≡ Some y → f y ≡ true

pub is_in : {X : Type 0} (xs : List X) (k : ℕ) (x : X) → slice_get xs k ≡ Some x → Contains xs x
is_in xs k x there = (k, slice_get_within xs k x there, get_or_from_slice_get xs k x x there)

-- all before the next place pass too
passes_to : {X : Type 0} (f : X → Bool) (x : X) (xs : List X) (k : ℕ) → f x ≡ true → ((j : ℕ) (y : X) → j < k → slice_get xs j ≡ Some y → f y ≡ true)
    → (j : ℕ) (y : X) → j < suc k → slice_get (x ∷ xs) j ≡ Some y → f y ≡ true
passes_to f x xs k first others zero y below there = let same : x ≡ y = cc in subst (λ (z : _). f z ≡ true) same first
passes_to f x xs k first others (suc j) y below there = others j y (omega arith) there

found_first : {X : Type 0} (f : X → Bool) (xs : List X) → Tells (FirstIs X f xs) (list_all f xs) (find (λ x. not (f x)) xs)
found_first f [] = refl
found_first {X} f (x ∷ xs) =
    else_told (FirstIs X f (x ∷ xs)) (f x) (list_all f xs) x (find (λ y. not (f y)) xs)
    (λ refuted. record { place = 0; there = refl; fails = refuted; before = λ j y below there. absurd (omega arith) })
    (λ holds. told_along (FirstIs X f xs) (FirstIs X f (x ∷ xs)) (list_all f xs) (find (λ y. not (f y)) xs)
    (λ y p. record { place = suc p.place; there = p.there; fails = p.fails; before = passes_to f x xs p.place holds p.before }) (found_first f xs))

-- the same with the number of each element, from n on
record FirstFrom (X : Type 0) (f : ℕ × X → Bool) (n : ℕ) (xs : List X) (k : ℕ) : Type 0 where
  place : ℕ
  place_is : n + place ≡ k
  its : X
  there : slice_get xs place ≡ Some its
  fails : f (k, its) ≡ false
  before : (j : ℕ) (y : X) → j < place → slice_get xs j ≡ Some y → f (n + j, y) ≡ true

pass_to : {X : Type 0} (f : ℕ × X → Bool) (n : ℕ) (x : X) (xs : List X) (k : ℕ) → f (n, x) ≡ true
    → ((j : ℕ) (y : X) → j < k → slice_get xs j ≡ Some y → f (n + 1 + j, y) ≡ true) → (j : ℕ) (y : X) → j < suc k → slice_get (x ∷ xs) j ≡ Some y → f (n + j, y) ≡ true
pass_to f n x xs k first others zero y below there =
    let same : x ≡ y = cc in let e : n ≡ n + 0 = omega arith in subst (λ (m : ℕ). f (m, y) ≡ true) e (subst (λ (z : _). f (n, z) ≡ true) same first)
pass_to f n x xs k first others (suc j) y below there = let e : n + 1 + j ≡ n + suc j = omega arith in subst (λ (m : ℕ). f (m, y) ≡ true) e (others j y (omega arith) there)

first_from : {X : Type 0} (f : ℕ × X → Bool) (n : ℕ) (xs : List X)
    → Tells (FirstFrom X f n xs) (list_all f (enumerate_from n xs)) (position_from (λ p. not (f p)) n (enumerate_from n xs))
first_from f n [] = refl
first_from {X} f n (x ∷ xs) =
    else_told (FirstFrom X f n (x ∷ xs)) (f (n, x)) (list_all f (enumerate_from (n + 1) xs)) n (position_from (λ p. not (f p)) (n + 1) (enumerate_from (n + 1) xs))
    (λ refuted. record { place = 0; place_is = omega arith; its = x; there = refl; fails = refuted; before = λ j y below there. absurd (omega arith) })
    (λ holds. told_along (FirstFrom X f (n + 1) xs) (FirstFrom X f n (x ∷ xs)) (list_all f (enumerate_from (n + 1) xs)) (position_from (λ p. not (f p)) (n + 1) (enumerate_from (n + 1) xs))
    (λ k p. record {
      place = suc p.place;
      place_is = (let is = p.place_is in omega arith);
      its = p.its;
      there = p.there;
      fails = p.fails;
      before = pass_to f n x xs p.place holds p.before;
    })
    (first_from f (n + 1) xs))

record FirstAt (X : Type 0) (f : ℕ × X → Bool) (xs : List X) (k : ℕ) : Type 0 where
  its : X
  there : slice_get xs k ≡ Some its
  fails : f (k, its) ≡ false
  before : (j : ℕ) (y : X) → j < k → slice_get xs j ≡ Some y → f (j, y) ≡ true

counted_from_zero : {X : Type 0} (f : ℕ × X → Bool) (xs : List X) (k : ℕ) → FirstFrom X f 0 xs k → FirstAt X f xs k
counted_from_zero f xs k p =
    let is : p.place ≡ k = sym (zero-add p.place) ∙ p.place_is in
    record {
      its = p.its;
      there = subst (λ (m : ℕ). slice_get xs m ≡ Some p.its) is p.there;
      fails = p.fails;
      before = λ j y below there. subst (λ (m : ℕ). f (m, y) ≡ true) (zero-add j) (p.before j y (subst (λ (m : ℕ). j < m) (sym is) below) there);
    }

first_at : {X : Type 0} (f : ℕ × X → Bool) (xs : List X) → Tells (FirstAt X f xs) (list_all f (enumerate_from 0 xs)) (position (λ p. not (f p)) (enumerate_from 0 xs))
first_at {X} f xs =
    told_along (FirstFrom X f 0 xs) (FirstAt X f xs) (list_all f (enumerate_from 0 xs)) (position (λ p. not (f p)) (enumerate_from 0 xs)) (counted_from_zero f xs)
    (subst (λ (o : Option ℕ). Tells (FirstFrom X f 0 xs) (list_all f (enumerate_from 0 xs)) o) (sym (position_from-zero (λ p. not (f p)) (enumerate_from 0 xs))) (first_from f 0 xs))

-- ---- two routers of one AS

module _ (r q : ℕ) (x y : Router) where
  entry_told : r ≢ q → (l : Link) → Contains y.network.links l → (o : Option Sibling) → sibling x.network l.id ≡ o
      → Tells (IsDifference r q x y) (agreement.is_entry_of y.internal l.kind o) (search_for.of_entry y.internal l o)
  entry_told two l owned None is = (refl, record { others = two; its = l; there = owned; number_is = refl; so = is })
  entry_told two l owned (Some s) is =
      next_told (IsDifference r q x y) (same_underlay s.at y.internal) (agreement.same_kind s.kind l.kind) (difference.Elsewhere l.id) _
      (λ refuted. record { others = two; its = l; there = owned; number_is = refl; so = record { entry = s; listed = is; so = not_from_Decides (same_underlay s.at y.internal) (underlay_decides s.at y.internal) refuted } })
      (last_told (IsDifference r q x y) (agreement.same_kind s.kind l.kind) (difference.OtherKind l.id)
      (λ refuted. record { others = two; its = l; there = owned; number_is = refl; so = record { entry = s; listed = is; so = not_from_Decides (agreement.same_kind s.kind l.kind) (kind_decides s.kind l.kind) refuted } }))

  own_told : r ≢ q → (l : Link) → Contains y.network.links l → (o : Option Link) → own_link x.network l.id ≡ o
      → Tells (IsDifference r q x y) (not (is_some o) && agreement.is_entry_of y.internal l.kind (sibling x.network l.id)) (search_for.of_own o y.internal l (sibling x.network l.id))
  own_told two l owned None is = entry_told two l owned (sibling x.network l.id) refl
  own_told two l owned (Some own) is =
      (refl, record { others = two; its = l; there = owned; number_is = refl; so = λ none. let never : None ≡ Some own = sym none ∙ is in absurd cc })

  unlisted_told : r ≢ q → (b : Bool) (o : Option Link) → Tells (FirstIs Link (agreement.lists x.network y.internal) y.network.links) b o
      → Tells (IsDifference r q x y) b (search_for.of_unlisted x.network y.internal o)
  unlisted_told two b None t = t
  unlisted_told two b (Some l) t =
      told_of (IsDifference r q x y) b (agreement.lists x.network y.internal l) (search_for.of_listing x.network y.internal l) t.0 t.1.fails
      (own_told two l (is_in y.network.links t.1.place l t.1.there) (own_link x.network l.id) refl)

  neighbours_told : r ≢ q → Tells (IsDifference r q x y) (agreement.lists_router x y) (search_for.of_neighbours x y)
  neighbours_told two =
      let test = agreement.lists x.network y.internal in
      next_told (IsDifference r q x y) (not (same_underlay x.internal y.internal)) (list_all test y.network.links) difference.Internal _
      (λ refuted. (two, (underlay_decides x.internal y.internal).0 (not_false (same_underlay x.internal y.internal) refuted)))
      (unlisted_told two (list_all test y.network.links) (find (λ l. not (test l)) y.network.links) (found_first test y.network.links))

  apart_told : (same : Bool) → (r == q) ≡ same → Tells (IsDifference r q x y) (same || agreement.lists_router x y) (cond same None (search_for.of_neighbours x y))
  apart_told true is = refl
  apart_told false is = neighbours_told (not_from_Decides (r == q) (Decides-eqb r q) is)

  unshared_told : (a b : Bool) (o : Option Service) (next : Option Difference) → Tells (FirstIs Service (agreement.has_service y.network.services) x.network.services) a o
      → Tells (IsDifference r q x y) b next → Tells (IsDifference r q x y) (a && b) (search_for.of_unshared o next)
  unshared_told true b None next t rest = rest
  unshared_told false b None next t rest = absurd (false≢true t)
  unshared_told true b (Some s) next t rest = absurd (false≢true (sym t.0))
  unshared_told false b (Some s) next t rest = (
    refl,
    record {
      its = s;
      there = is_in x.network.services t.1.place s t.1.there;
      number_is = refl;
      missing = not_from_Decides (agreement.has_service y.network.services s) (some (agreement.same_service s) s (service_decides s) y.network.services) t.1.fails;
    },
  )

  -- the tests of two routers, one after the other
  regroup : (k h p s e : Bool) → k && (h && (p && (s && e))) ≡ k && h && p && s && e
  regroup false h p s e = refl
  regroup true false p s e = refl
  regroup true true false s e = refl
  regroup true true true s e = refl

  two_told : Tells (IsDifference r q x y) (agreement.agree_within (r == q) x y) (search_for.of_two (r == q) x y)
  two_told =
      let m = x.network in
      let n = y.network in
      let k = bytes_eq m.key n.key in
      let h = m.host_port == n.host_port in
      let p = agreement.same_ports m.dispatched_ports n.dispatched_ports in
      let test = agreement.has_service n.services in
      let s = list_all test m.services in
      let e = (r == q) || agreement.lists_router x y in
      at_test (IsDifference r q x y) (k && (h && (p && (s && e)))) (k && h && p && s && e) (search_for.of_two (r == q) x y) (regroup k h p s e)
      (next_told (IsDifference r q x y) k (h && (p && (s && e))) difference.Key _ (not_from_Decides k (bytes_eq-Decides m.key n.key))
      (next_told (IsDifference r q x y) h (p && (s && e)) difference.HostPort _ (not_from_Decides h (Decides-eqb m.host_port n.host_port))
      (next_told (IsDifference r q x y) p (s && e) difference.DispatchedPorts _ (not_from_Decides p (ports_decide m.dispatched_ports n.dispatched_ports))
      (unshared_told s e (find (λ v. not (test v)) m.services) _ (found_first test m.services) (apart_told (r == q) refl)))))

-- ---- all routers

-- what was mapped to it
unmapped : {X Y : Type 0} (v : X → Y) (xs : List X) (k : ℕ) (y : Y) → slice_get (map v xs) k ≡ Some y → (x : X) × (slice_get xs k ≡ Some x) × (v x ≡ y)
unmapped v [] k y there = absurd cc
unmapped v (x ∷ xs) zero y there = (x, refl, (let same : v x ≡ y = cc in same))
unmapped v (x ∷ xs) (suc k) y there = unmapped v xs k y there

mapped : {X Y : Type 0} (v : X → Y) (xs : List X) (k : ℕ) (x : X) → slice_get xs k ≡ Some x → slice_get (map v xs) k ≡ Some (v x)
mapped v xs k x there = slice_get-map v xs k ∙ ap (option_map v) there

split : (a w : Bool) → (not a || w) ≡ false → (a ≡ true) × (w ≡ false)
split true w e = (refl, e)
split false w e = absurd (false≢true (sym e))

one_of : {X : Type 0} (xs : List X) (i r : ℕ) (x y : X) → i ≡ r → slice_get xs i ≡ Some x → slice_get xs r ≡ Some y → y ≡ x
one_of xs i r x y same at_i at_r = let e : Some y ≡ Some x = sym at_r ∙ ap (slice_get xs) (sym same) ∙ at_i in cc

module _ (configs : List Config) (wires : List Wire) where
  abbrev net_is : Net
  net_is = record { routers = map router_of configs; wires = wires }

  abbrev AgreesAt : ℕ × Config → Bool
  AgreesAt p = agreement.config_agrees configs p.0 (router_of p.1)

  abbrev AgreesAs : ℕ → Config → ℕ × Config → Bool
  AgreesAs r c p = agreement.agree_as r p.0 (router_of c) (router_of p.1)

  -- a router that passes agrees with each of its AS
  passed : (i j : ℕ) (c : Config) (y : Router) → agreement.config_agrees configs i (router_of c) ≡ true → slice_get (map router_of configs) j ≡ Some y → AreOfOneAS (router_of c) y
      → AgreeWithin i j (router_of c) y
  passed i j c y holds at_j one =
      (with_decides (map router_of configs) i (router_of c)).0 (config_agrees_is configs i (router_of c) ∙ holds) j y at_j one

  module _ (r q : ℕ) (c d : Config) (first : FirstAt Config AgreesAt configs r) (is_c : first.its ≡ c) (other : FirstAt Config (AgreesAs r c) configs q) where
    earlier_router : (i j : ℕ) (x y : Router) → i < r → slice_get (map router_of configs) i ≡ Some x → slice_get (map router_of configs) j ≡ Some y → AreOfOneAS x y → AgreeWithin i j x y
    earlier_router i j x y below at_i at_j one =
        let its = unmapped router_of configs i x at_i in
        subst (λ (z : Router). AreOfOneAS z y → AgreeWithin i j z y) its.2 (passed i j its.0 y (first.before i its.0 below its.1) at_j) one

    earlier_other : (i j : ℕ) (x y : Router) → i ≡ r → j < q → slice_get (map router_of configs) i ≡ Some x → slice_get (map router_of configs) j ≡ Some y → AreOfOneAS x y → AgreeWithin i j x y
    earlier_other i j x y same below at_i at_j one =
        let its = unmapped router_of configs j y at_j in
        let at_r : slice_get (map router_of configs) r ≡ Some (router_of c) = mapped router_of configs r c (first.there ∙ ap (λ (z : Config). Some z) is_c) in
        let x_is : router_of c ≡ x = one_of (map router_of configs) i r x (router_of c) same at_i at_r in
        let holds : agreement.agree_as r j (router_of c) (router_of its.0) ≡ true = other.before j its.0 below its.1 in
        let agree = (as_one_decides r j (router_of c) (router_of its.0)).0 holds in
        let P : Router → Type 0 = λ z. AreOfOneAS (router_of c) z → AgreeWithin r j (router_of c) z in
        let at_y : AreOfOneAS (router_of c) y → AgreeWithin r j (router_of c) y = subst P its.2 agree in
        let Q : Router → Type 0 = λ z. AreOfOneAS z y → AgreeWithin r j z y in
        let at_x : AreOfOneAS x y → AgreeWithin r j x y = subst Q x_is at_y in
        subst (λ (k : ℕ). AgreeWithin k j x y) (sym same) (at_x one)

    before_these : AgreeWhere net_is (λ i j. Before i j r q)
    before_these i j x y before at_i at_j one =
        elim before [ inl below ↦ earlier_router i j x y below at_i at_j one | inr level ↦ earlier_other i j x y level.0 level.1 at_i at_j one ]

    pair_told : slice_get configs q ≡ Some d → agreement.agree_as r q (router_of c) (router_of d) ≡ false → (b : Bool) → b ≡ false → (o : Option Difference)
        → Tells (IsDifference r q (router_of c) (router_of d)) (agreement.agree_within (r == q) (router_of c) (router_of d)) o → Tells (IsFirst net_is) b (option_map (misfit.Routers r q) o)
    pair_told at_q fails b refuted None t =
        let parts = split (agreement.are_of_one_as (router_of c).network (router_of d).network) (agreement.agree_within (r == q) (router_of c) (router_of d)) fails in
        absurd (false≢true (sym parts.1 ∙ t))
    pair_told at_q fails b refuted (Some what) t =
        let parts = split (agreement.are_of_one_as (router_of c).network (router_of d).network) (agreement.agree_within (r == q) (router_of c) (router_of d)) fails in (
          refuted,
          record {
            one = router_of c;
            other = router_of d;
            one_is = mapped router_of configs r c (first.there ∙ ap (λ (z : Config). Some z) is_c);
            other_is = mapped router_of configs q d at_q;
            of_one_as = (as_decides (router_of c) (router_of d)).0 parts.0;
            so = t.1;
            before = before_these;
          },
        )

  other_told : (r : ℕ) (first : FirstAt Config AgreesAt configs r) (b : Bool) → b ≡ false → (o : Option ℕ)
      → Tells (FirstAt Config (AgreesAs r first.its) configs) (agreement.config_agrees configs r (router_of first.its)) o
      → Tells (IsFirst net_is) b (option_and_then (λ q. search_for.of_pair r q first.its (slice_get configs q)) o)
  other_told r first b refuted None t = absurd (false≢true (sym first.fails ∙ t))
  other_told r first b refuted (Some q) t =
      let c = first.its in
      let d = t.1.its in
      subst (λ (o : Option Config). Tells (IsFirst net_is) b (search_for.of_pair r q c o)) (sym t.1.there)
      (pair_told r q c d first refl t.1 t.1.there t.1.fails b refuted (search_for.of_two (r == q) (router_of c) (router_of d)) (two_told r q (router_of c) (router_of d)))

  router_told : (b : Bool) (o : Option ℕ) → Tells (FirstAt Config AgreesAt configs) b o
      → Tells (IsFirst net_is) b (option_and_then (λ r. search_for.of_router configs r (slice_get configs r)) o)
  router_told b None t = t
  router_told b (Some r) t =
      let first = t.1 in
      subst (λ (o : Option Config). Tells (IsFirst net_is) b (search_for.of_router configs r o)) (sym first.there)
      (other_told r first b t.0 (search_for.first_other configs r first.its) (first_at (AgreesAs r first.its) configs))

  routers_told : Tells (IsFirst net_is) (agreement.configs_agree configs) (search_for.of_routers configs)
  routers_told = router_told (agreement.configs_agree configs) (search_for.first_router configs) (first_at AgreesAt configs)

  all_routers : agreement.configs_agree configs ≡ true → AgreeWhere net_is (λ i j. Unit {0})
  all_routers holds r q x y any at_r at_q one = (routers_decide (map router_of configs)).0 (configs_agree_is configs ∙ holds) r x at_r q y at_q one

-- ---- wires

named_other : (routers : List Router) (l m : Link) (e : End) (o : Option Router) → slice_get routers e.router ≡ o
    → option_and_then (λ (x : Router). own_link x.network e.link) o ≡ Some m → agreement.is_named_by l o ≡ false → NamesOther routers l e
named_other routers l m e None at is refuted = absurd cc
named_other routers l m e (Some x) at is refuted = record { router = x; router_is = at; other = not_from_Decides (agreement.is_named l.neighbor x.network) (named_decides l.neighbor x) refuted }

and_false : (b : Bool) → (b && false) ≡ false
and_false true = refl
and_false false = refl

-- the test of the ends comes first in the search, and last in the test of a wire
turned : (s a b c d e : Bool) → s && (a && (b && (c && (d && e)))) ≡ (a && b && c && d && e) && s
turned false a b c d e = sym (and_false (a && b && c && d && e))
turned true false b c d e = refl
turned true true false c d e = refl
turned true true true false d e = refl
turned true true true true false e = refl
turned true true true true true false = refl
turned true true true true true true = refl

module _ (routers : List Router) (w : Wire) where
  ends_told : (o i : Option Link) → agreement.link_at routers w.one ≡ o → agreement.link_at routers w.other ≡ i
      → Tells (IsMismatch routers w) (agreement.are_wired routers w o i && not (agreement.same_end w.one w.other)) (search_for.of_ends routers w o i)
  ends_told None i out_is into_is = (refl, inl out_is)
  ends_told (Some out) None out_is into_is = (refl, inr into_is)
  ends_told (Some out) (Some into) out_is into_is =
      let s = not (agreement.same_end w.one w.other) in
      let a = same_underlay out.remote into.local in
      let b = same_underlay into.remote out.local in
      let c = agreement.are_opposite out.kind into.kind in
      let d = agreement.names_end routers out w.other in
      let e = agreement.names_end routers into w.one in
      let P = IsMismatch routers w in
      at_test P (s && (a && (b && (c && (d && e))))) ((a && b && c && d && e) && s) (search_for.of_ends routers w (Some out) (Some into)) (turned s a b c d e)
      (next_told P s (a && (b && (c && (d && e)))) mismatch.SameEnd _ (λ refuted. (end_decides w.one w.other).0 (not_false (agreement.same_end w.one w.other) refuted))
      (next_told P a (b && (c && (d && e))) mismatch.Remote _
      (λ refuted. record { out = out; into = into; out_is = out_is; into_is = into_is; so = not_from_Decides a (underlay_decides out.remote into.local) refuted })
      (next_told P b (c && (d && e)) mismatch.RemoteBack _
      (λ refuted. record { out = out; into = into; out_is = out_is; into_is = into_is; so = not_from_Decides b (underlay_decides into.remote out.local) refuted })
      (next_told P c (d && e) mismatch.Kinds _
      (λ refuted. record { out = out; into = into; out_is = out_is; into_is = into_is; so = not_from_Decides c (opposite_decides out.kind into.kind) refuted })
      (next_told P d e mismatch.Neighbor _
      (λ refuted. record { out = out; into = into; out_is = out_is; into_is = into_is; so = named_other routers out into w.other (slice_get routers w.other.router) refl into_is refuted })
      (last_told P e mismatch.NeighborBack
      (λ refuted. record { out = out; into = into; out_is = out_is; into_is = into_is; so = named_other routers into out w.one (slice_get routers w.one.router) refl out_is refuted })))))))

  wire_told : Tells (IsMismatch routers w) (agreement.is_wire routers w) (search_for.of_wire routers w)
  wire_told = ends_told (agreement.link_at routers w.one) (agreement.link_at routers w.other) refl refl

module _ (configs : List Config) (wires : List Wire) where
  abbrev is_wire_here : Wire → Bool
  is_wire_here = agreement.is_wire (map router_of configs)

  wire_first : agreement.configs_agree configs ≡ true → (b : Bool) (w : Wire) → b ≡ false → FirstIs Wire is_wire_here wires w → (o : Option Mismatch)
      → Tells (IsMismatch (map router_of configs) w) (is_wire_here w) o → Tells (IsFirst (net_is configs wires)) b (option_map (misfit.Wire w) o)
  wire_first agree b w refuted first None t = absurd (false≢true (sym first.fails ∙ t))
  wire_first agree b w refuted first (Some what) t = (
    refuted,
    record {
      place = first.place;
      there = first.there;
      so = t.1;
      before = λ k v below there. (wire_decides (net_is configs wires) v).0 (first.before k v below there);
      routers_agree = all_routers configs wires agree;
    },
  )

  broken_told : agreement.configs_agree configs ≡ true → (b : Bool) (o : Option Wire) → Tells (FirstIs Wire is_wire_here wires) b o
      → Tells (IsFirst (net_is configs wires)) b (search_for.of_broken (map router_of configs) o)
  broken_told agree b None t = t
  broken_told agree b (Some w) t = wire_first agree b w t.0 t.1 (search_for.of_wire (map router_of configs) w) (wire_told (map router_of configs) w)

  wires_told : agreement.configs_agree configs ≡ true → Tells (IsFirst (net_is configs wires)) (list_all is_wire_here wires) (search_for.of_wires configs wires)
  wires_told agree = broken_told agree (list_all is_wire_here wires) (find (λ w. not (is_wire_here w)) wires) (found_first is_wire_here wires)

-- ---- ends in common

neither : (a b : Bool) → (a || b) ≡ false → (a ≡ false) × (b ≡ false)
neither true b e = absurd (false≢true (sym e))
neither false b e = (refl, e)

either : (a b : Bool) → (a || b) ≡ true → (a ≡ true → ⊥) → b ≡ true
either true b e refuted = absurd (refuted refl)
either false b e refuted = e

module _ (configs : List Config) (wires : List Wire) where
  abbrev apart_at : ℕ × Wire → Bool
  apart_at p = agreement.is_apart wires p.0 p.1

  abbrev apart_as : ℕ → Wire → ℕ × Wire → Bool
  apart_as j v p = search_for.are_apart_as j p.0 v p.1

  module _ (j k : ℕ) (v w : Wire) (first : FirstAt Wire apart_at wires j) (is_v : first.its ≡ v) (other : FirstAt Wire (apart_as j v) wires k) where
    earlier_wire : (i l : ℕ) (t u : Wire) → i < j → slice_get wires i ≡ Some t → slice_get wires l ≡ Some u → i ≢ l → AreApart t u
    earlier_wire i l t u below at_i at_l two = (is_apart_decides wires i t).0 (first.before i t below at_i) l u at_l two

    earlier_second : (i l : ℕ) (t u : Wire) → i ≡ j → l < k → slice_get wires i ≡ Some t → slice_get wires l ≡ Some u → i ≢ l → AreApart t u
    earlier_second i l t u same below at_i at_l two =
        let t_is : v ≡ t = one_of wires i j t v same at_i (first.there ∙ ap (λ (z : Wire). Some z) is_v) in
        let apart : AreApart v u = (apart_decides v u).0 (either (j == l) (agreement.are_apart v u) (other.before l u below at_l)
        (λ level. two (same ∙ (Decides-eqb j l).0 level))) in
        subst (λ (z : Wire). AreApart z u) t_is apart

    before_wires : (i l : ℕ) (t u : Wire) → Before i l j k → slice_get wires i ≡ Some t → slice_get wires l ≡ Some u → i ≢ l → AreApart t u
    before_wires i l t u before at_i at_l two =
        elim before [ inl below ↦ earlier_wire i l t u below at_i at_l two | inr level ↦ earlier_second i l t u level.0 level.1 at_i at_l two ]

  sharing_told : agreement.configs_agree configs ≡ true → list_all (is_wire_here configs wires) wires ≡ true → (j : ℕ) (first : FirstAt Wire apart_at wires j) (b : Bool) → b ≡ false → (o : Option ℕ)
      → Tells (FirstAt Wire (apart_as j first.its) wires) (agreement.is_apart wires j first.its) o
      → Tells (IsFirst (net_is configs wires)) b (option_and_then (λ k. option_map (misfit.Shared first.its) (slice_get wires k)) o)
  sharing_told agree wired j first b refuted None t = absurd (false≢true (sym first.fails ∙ t))
  sharing_told agree wired j first b refuted (Some k) t =
      let v = first.its in
      let w = t.1.its in
      let parts = neither (j == k) (agreement.are_apart v w) t.1.fails in
      subst (λ (o : Option Wire). Tells (IsFirst (net_is configs wires)) b (option_map (misfit.Shared v) o)) (sym t.1.there) (
        refuted,
        record {
          one = j;
          other = k;
          one_is = first.there;
          other_is = t.1.there;
          two = not_from_Decides (j == k) (Decides-eqb j k) parts.0;
          so = not_from_Decides (agreement.are_apart v w) (apart_decides v w) parts.1;
          before = before_wires j k v w first refl t.1;
          all_wires = (each (is_wire_here configs wires) (IsWire (net_is configs wires)) (wire_decides (net_is configs wires)) wires).0 wired;
          routers_agree = all_routers configs wires agree;
        },
      )

  wire_sharing_told : agreement.configs_agree configs ≡ true → list_all (is_wire_here configs wires) wires ≡ true → (b : Bool) (o : Option ℕ) → Tells (FirstAt Wire apart_at wires) b o
      → Tells (IsFirst (net_is configs wires)) b (option_and_then (λ j. search_for.of_sharing wires j (slice_get wires j)) o)
  wire_sharing_told agree wired b None t = t
  wire_sharing_told agree wired b (Some j) t =
      let first = t.1 in
      subst (λ (o : Option Wire). Tells (IsFirst (net_is configs wires)) b (search_for.of_sharing wires j o)) (sym first.there)
      (sharing_told agree wired j first b t.0 (search_for.first_shared wires j first.its) (first_at (apart_as j first.its) wires))

  shared_told : agreement.configs_agree configs ≡ true → list_all (is_wire_here configs wires) wires ≡ true
      → Tells (IsFirst (net_is configs wires)) (agreement.all_apart wires) (search_for.of_shared wires)
  shared_told agree wired = wire_sharing_told agree wired (agreement.all_apart wires) (search_for.first_sharing wires) (first_at apart_at wires)

-- ---- the net

or_told : (P : Misfit → Type 0) (a b : Bool) (o next : Option Misfit) → Tells P a o → (a ≡ true → Tells P b next) → Tells P (a && b) (search_for.or_else o next)
or_told P true b None next t rest = rest refl
or_told P false b None next t rest = absurd (false≢true t)
or_told P true b (Some m) next t rest = absurd (false≢true (sym t.0))
or_told P false b (Some m) next t rest = (refl, t.1)

grouped : (a b c : Bool) → a && (b && c) ≡ a && b && c
grouped true b c = refl
grouped false b c = refl

net_told : (configs : List Config) (wires : List Wire) → Tells (IsFirst (net_is configs wires)) (agreement.are_net configs wires) (search_for.of_net configs wires)
net_told configs wires =
    let P = IsFirst (net_is configs wires) in
    let a = agreement.configs_agree configs in
    let b = list_all (is_wire_here configs wires) wires in
    let c = agreement.all_apart wires in
    at_test P (a && (b && c)) (agreement.are_net configs wires) (search_for.of_net configs wires) (grouped a b c)
    (or_told P a (b && c) (search_for.of_routers configs) (search_for.or_else (search_for.of_wires configs wires) (search_for.of_shared wires)) (routers_told configs wires)
    (λ agree. or_told P b c (search_for.of_wires configs wires) (search_for.of_shared wires) (wires_told configs wires agree) (shared_told configs wires agree)))

none_told : {A : Type 0} (P : A → Type 0) (Q : Type 0) (b : Bool) (o : Option A) → Decides b Q → Tells P b o → IfNone o Q
none_told P Q b None d t = d.0 t
none_told P Q b (Some x) d t = tt

some_told : {A : Type 0} (P : A → Type 0) (b : Bool) (o : Option A) → Tells P b o → IfSome o P
some_told P b None t = tt
some_told P b (Some x) t = t.1

refused_told : {A : Type 0} (P : A → Type 0) (Q : Type 0) (b : Bool) (o : Option A) → Decides b Q → Tells P b o → IfSome o (λ x. ¬ Q)
refused_told P Q b None d t = tt
refused_told P Q b (Some x) d t = not_from_Decides b d t.0

module _ (configs : List Config) (wires : List Wire) (o : Option Misfit) (is : o ≡ search_for.of_net configs wires) where
  pub none_where_it_agrees : IfNone o (Agrees (record { routers = map router_of configs; wires = wires }))
  none_where_it_agrees =
      subst (λ (m : Option Misfit). IfNone m (Agrees (net_is configs wires))) (sym is)
      (none_told (IsFirst (net_is configs wires)) (Agrees (net_is configs wires)) (agreement.are_net configs wires) (search_for.of_net configs wires) (configs_decide configs wires) (net_told configs wires))

  pub told_is_first : IfSome o (IsFirst (record { routers = map router_of configs; wires = wires }))
  told_is_first =
      subst (λ (m : Option Misfit). IfSome m (IsFirst (net_is configs wires))) (sym is)
      (some_told (IsFirst (net_is configs wires)) (agreement.are_net configs wires) (search_for.of_net configs wires) (net_told configs wires))

  pub told_refuses : IfSome o (λ (m : Misfit). ¬ Agrees (record { routers = map router_of configs; wires = wires }))
  told_refuses =
      subst (λ (m : Option Misfit). IfSome m (λ (n : Misfit). ¬ Agrees (net_is configs wires))) (sym is)
      (refused_told (IsFirst (net_is configs wires)) (Agrees (net_is configs wires)) (agreement.are_net configs wires) (search_for.of_net configs wires) (configs_decide configs wires) (net_told configs wires))
