-- The links by their ranks.
use Rattle.std.proofs.Common.{◌≡◌, inl, inr, ℕ, ◌<◌, ◌≤◌, Bool, true, false, not, ◌&&◌, ◌||◌, ◌==◌, nat_le, cond, List, [], ◌∷◌, ◌++◌, map, Option, Some, None, refl, sym, ap, ◌∙◌, arith}
use Rattle.std.specs.Option.{is_some, unwrap_or}
use Rattle.std.specs.List.{find, list_all}
use Rattle.std.proofs.lemmas.Bool.{and_from, and_parts, cases_lt, cond-true, cond-false, eqb-true, eq-eqb, leb-true, ne_eqb, not_from_false, or_from, cases_eq}
use Rattle.process_packet.specs.Neighbours.{are_distinct, has_port, is_link, link_id, sibling_id}
use Rattle.process_packet.specs.Network.{has_link, network}
use Rattle.process_packet.specs.declared.config.Config.{Config}
use Rattle.process_packet.specs.declared.neighbours.Link.{Link}
use Rattle.router_rules.specs.Laws.{StandInOrder}
use Rattle.router_rules.specs.Links.{interface_at, interfaces, link_count, link_index, or_zero, rank}
use Rattle.router_rules.proofs.RankLemmas.{Found, OfRank, found, has, member_below, no_fewer, none_below_zero, of_rank, same_rank}

-- ---- the interfaces differ

not_in_front : (x : ℕ) (xs ys : List ℕ) → not (has (xs ++ ys) x) ≡ true → not (has xs x) ≡ true
not_in_front x [] ys h = refl
not_in_front x (z ∷ xs) ys h = step (z == x) h (not_in_front x xs ys)
  where
    step : (b : Bool) → not (b || has (xs ++ ys) x) ≡ true → (not (has (xs ++ ys) x) ≡ true → not (has xs x) ≡ true) → not (b || has xs x) ≡ true
    step true h f = h
    step false h f = f h

distinct_front : (xs ys : List ℕ) → are_distinct (xs ++ ys) ≡ true → are_distinct xs ≡ true
distinct_front [] ys all = refl
distinct_front (x ∷ xs) ys all =
    let parts = and_parts (not (has (xs ++ ys) x)) (are_distinct (xs ++ ys)) all in
    and_from _ _ (not_in_front x xs ys parts.0) (distinct_front xs ys parts.1)

no_zero : (ls : List Link) → list_all is_link ls ≡ true → has (map link_id ls) 0 ≡ false
no_zero [] all = refl
no_zero (l ∷ ls) all =
    let parts = and_parts (is_link l) (list_all is_link ls) all in
    let ports = and_parts (nat_le 1 l.id && has_port l.local) (has_port l.remote) parts.0 in
    let some : 1 ≤ l.id = leb-true 1 l.id (and_parts (nat_le 1 l.id) (has_port l.local) ports.0).0 in
    or_from _ _ (ne_eqb l.id 0 (λ e. omega (arith, some, e))) (no_zero ls parts.1)

pub are_different : (c : Config) → are_distinct (interfaces c) ≡ true
are_different c =
    and_from _ _ (not_from_false _ (no_zero c.links.items c.links_are_whole))
    (distinct_front (map link_id c.links.items) (map sibling_id c.siblings.items) c.interfaces_are_distinct)

-- ---- an interface of the router is among them

same_test : (a b : ℕ) → (a == b) ≡ (b == a)
same_test a b =
    elim (cases_eq a b) [
      | inl is ↦ eq-eqb a b is ∙ sym (eq-eqb b a (sym is))
      | inr differ ↦ ne_eqb a b differ ∙ sym (ne_eqb b a (λ e. differ (sym e)))
    ]

among : (ls : List Link) (id : ℕ) → is_some (find (λ l. l.id == id) ls) ≡ has (map link_id ls) id
among [] id = refl
among (l ∷ ls) id = step (l.id == id) (among ls id)
  where
    step : (b : Bool) → is_some (find (λ l. l.id == id) ls) ≡ has (map link_id ls) id → is_some (cond b (Some l) (find (λ l. l.id == id) ls)) ≡ (b || has (map link_id ls) id)
    step true h = refl
    step false h = h

pub has_link_is : (c : Config) (id : ℕ) → has_link (network c) id ≡ has (interfaces c) id
has_link_is c id =
    ap (λ (b : Bool). (id == 0) || b) (among c.links.items id) ∙ ap (λ (b : Bool). b || has (map link_id c.links.items) id) (same_test id 0)

-- ---- numbers of links

pub index_is : (c : Config) (id : ℕ) → has_link (network c) id ≡ true → link_index c id ≡ rank c id
index_is c id there = cond-true _ _ _ there

pub index_within : (c : Config) (id : ℕ) → has_link (network c) id ≡ true → link_index c id < link_count c
index_within c id there =
    let e = index_is c id there in
    let member : has (interfaces c) id ≡ true = sym (has_link_is c id) ∙ there in
    omega (arith, member_below (interfaces c) id member)

-- the link of a number below the count of links
record LinkAt (c : Config) (l : ℕ) : Type 0 where
  there : has (interfaces c) (interface_at c l) ≡ true
  rank : rank c (interface_at c l) ≡ l

link_at : (c : Config) (l : ℕ) → has (interfaces c) (interface_at c l) ≡ true → rank c (interface_at c l) ≡ l → LinkAt c l
link_at c l there is = record { there = there; rank = is }

of_member : (c : Config) (l id : ℕ) → has (interfaces c) id ≡ true → rank c id ≡ l → LinkAt c l
of_member c l id member is =
    let f : Found (λ k. rank c k == l) (interfaces c) = found (λ k. rank c k == l) (interfaces c) id member (eq-eqb (rank c id) l is) in
    let at : interface_at c l ≡ f.at = ap or_zero f.is in
    link_at c l (ap (has (interfaces c)) at ∙ f.there) (ap (rank c) at ∙ eqb-true (rank c f.at) l f.passes)

of_number : (c : Config) (l : ℕ) → l < link_count c → LinkAt c l
of_number c l below =
    let r : OfRank (interfaces c) l = of_rank (interfaces c) l (are_different c) below in
    of_member c l r.member r.there r.rank

pub in_order : (c : Config) → StandInOrder c
in_order c = record {
  there = λ l below. there l below;
  numbered = λ l below. index_is c (interface_at c l) (there l below) ∙ (of_number c l below).rank;
  named = λ id is. named id is;
  within = λ id is. index_within c id is;
  ascending = λ l m order below. ascending l m order below;
}
  where
    there : (l : ℕ) → l < link_count c → has_link (network c) (interface_at c l) ≡ true
    there l below = has_link_is c (interface_at c l) ∙ (of_number c l below).there

    named : (id : ℕ) → has_link (network c) id ≡ true → interface_at c (link_index c id) ≡ id
    named id is =
        let member : has (interfaces c) id ≡ true = sym (has_link_is c id) ∙ is in
        let at : LinkAt c (rank c id) = of_member c (rank c id) id member refl in
        ap (interface_at c) (index_is c id is) ∙ same_rank (interfaces c) (interface_at c (rank c id)) id at.there member at.rank

    ascending : (l m : ℕ) → l < m → m < link_count c → interface_at c l < interface_at c m
    ascending l m order below =
        let low : LinkAt c l = of_number c l (omega arith) in
        let high : LinkAt c m = of_number c m below in
        elim (cases_lt (interface_at c l) (interface_at c m)) [
          | inl is ↦ is
          | inr is ↦ absurd (omega (arith, no_fewer (interfaces c) (interface_at c m) (interface_at c l) is, low.rank, high.rank))
        ]

-- ---- the search of a number

pub zero_first : (c : Config) → interface_at c 0 ≡ 0
zero_first c = ap or_zero (cond-true _ _ _ (eq-eqb (rank c 0) 0 (none_below_zero (interfaces c))))

pub then_others : (c : Config) (l : ℕ) → (l ≡ 0 → ⊥) → interface_at c l ≡ or_zero (find (λ id. rank c id == l) (map link_id c.links.items))
then_others c l some =
    let other : (rank c 0 == l) ≡ false = ne_eqb (rank c 0) l (λ e. some (sym e ∙ none_below_zero (interfaces c))) in
    ap or_zero (cond-false _ _ _ other)

pub or_zero_is : (o : Option ℕ) → unwrap_or o 0 ≡ or_zero o
or_zero_is None = refl
or_zero_is (Some id) = refl
