-- Links that are looked up by number and by interface.
use Rattle.std.proofs.Common.{◌≡◌, ◌⊎◌, inl, inr, ℕ, ◌+◌, ◌<◌, ◌≤◌, Bool, true, false, ◌&&◌, ◌==◌, List, [], ◌∷◌, map, length, get_or, set, take, None, refl, sym, ap, subst, ◌∙◌, arith}
use Rattle.std.specs.Cmp.{nat_cmp_is, ranks}
use Rattle.std.specs.List.{find, list_any}
use Rattle.std.specs.Ordering.{MatchOrdering, nat_cmp, ordering_index}
use Rattle.std.specs.declared.cmp.Ordering.{Ordering}
use Rattle.std.specs.declared.cmp.Ordering.TheVariants.{Less, Equal, Greater}
use Rattle.std.proofs.lemmas.Bool.{cases_Bool, cases_eq, cases_lt, cases_order, cond-false, eq-eqb, ne_eqb, or_from, or_left, or_right}
use Rattle.std.proofs.lemmas.List.{get_or-set_other, get_or-take, get_or_default, get_or_past, length-set, length-take-le}
use Rattle.std.proofs.lemmas.Grind.{get_or-set_at}
use Rattle.process_packet.specs.Neighbours.{are_two, link_id}
use Rattle.process_packet.specs.Network.{has_link, network}
use Rattle.process_packet.specs.declared.config.Config.{Config}
use Rattle.process_packet.specs.declared.neighbours.Link.{Link}
use Rattle.router_rules.specs.Links.{has_two_bands, interface_at, interfaces, link_count, link_index, or_zero, rank}
use Rattle.router_rules.specs.Ports.{IsPortsOf, Lines}
use Rattle.router_rules.proofs.LinkLemmas.{in_order}
use Rattle.router_rules.proofs.RankLemmas.{has, member_below}

-- ---- a number that no link has

none_found : (p : ℕ → Bool) (xs : List ℕ) → ((id : ℕ) → has xs id ≡ true → p id ≡ false) → find p xs ≡ None
none_found p [] none = refl
none_found p (x ∷ xs) none =
    cond-false _ _ _ (none x (or_left _ _ (eq-eqb x x refl)))
    ∙ none_found p xs (λ id member. none id (or_right (x == id) (has xs id) member))

not_of_rank : (c : Config) (l id : ℕ) → link_count c ≤ l → has (interfaces c) id ≡ true → (rank c id == l) ≡ false
not_of_rank c l id past member = let below = member_below (interfaces c) id member in ne_eqb (rank c id) l (λ e. omega (arith, past, below, e))

pub no_interface : (c : Config) (l : ℕ) → link_count c ≤ l → interface_at c l ≡ 0
no_interface c l past = ap or_zero (none_found (λ id. rank c id == l) (interfaces c) (λ id member. not_of_rank c l id past member))

none_of_two : (c : Config) (l : ℕ) (ls : List Link) → link_count c ≤ l → ((id : ℕ) → has (map link_id ls) id ≡ true → has (interfaces c) id ≡ true)
    → list_any (λ k. rank c k.id == l && are_two k.bands) ls ≡ false
none_of_two c l [] past among = refl
none_of_two c l (k ∷ ls) past among =
    let other = not_of_rank c l k.id past (among k.id (or_left _ _ (eq-eqb k.id k.id refl))) in
    or_from _ _ (ap (λ (b : Bool). b && are_two k.bands) other)
    (none_of_two c l ls past (λ id member. among id (or_right (k.id == id) (has (map link_id ls) id) member)))

pub no_bands : (c : Config) (l : ℕ) → link_count c ≤ l → has_two_bands c l ≡ false
no_bands c l past =
    let some : (l == 0) ≡ false = ne_eqb l 0 (λ e. omega (arith, past, e)) in
    or_from _ _ (ap (λ (b : Bool). b && are_two c.internal_bands) some)
    (none_of_two c l c.links.items past (λ id member. or_right (0 == id) (has (map link_id c.links.items) id) member))

-- ---- a list of n places, of which the first k are filled in

pub record IsFilled {X : Type 0} (n k : ℕ) (f : ℕ → X) (d : X) (xs : List X) : Type 0 where
  pub long : length xs ≡ n
  pub filled : (l : ℕ) → l < k → get_or xs l d ≡ f l

module _ {X : Type 0} where
  pub none_filled : (n : ℕ) (f : ℕ → X) (d : X) (xs : List X) → length xs ≡ n → IsFilled n 0 f d xs
  none_filled n f d xs long = record { long = long; filled = λ l below. absurd (omega (arith, below)) }

  pub one_more : (n k : ℕ) (f : ℕ → X) (d v : X) (xs : List X) → k < n → v ≡ f k → IsFilled n k f d xs → IsFilled n (k + 1) f d (set xs k v)
  one_more n k f d v xs there is old = record { long = length-set xs k v ∙ old.long; filled = λ l below. at l below (cases_eq l k) }
    where
      at : (l : ℕ) → l < k + 1 → (l ≡ k) ⊎ (l ≡ k → ⊥) → get_or (set xs k v) l d ≡ f l
      at l below (inl same) = get_or-set_at xs k l v d same (omega (arith, there, old.long)) ∙ is ∙ sym (ap f same)
      at l below (inr differ) = get_or-set_other xs k l v d differ ∙ old.filled l (omega (arith, below, differ))

-- ---- the table

pub of_table : (c : Config) (interfaces : List ℕ) (bands : List Bool) (n m : ℕ) → n ≡ link_count c → n ≤ m
    → IsFilled m n (interface_at c) 0 interfaces → IsFilled m n (has_two_bands c) false bands → IsPortsOf c (record { interfaces = take n interfaces; two_bands = take n bands })
of_table c interfaces bands n m count few ids two = record { count = shown ∙ count; interfaces = λ l. interface l; two_bands = λ l. band l }
  where
    shown : length (take n interfaces) ≡ n
    shown = length-take-le n interfaces (omega (arith, few, ids.long))

    interface : (l : ℕ) → get_or (take n interfaces) l 0 ≡ interface_at c l
    interface l =
        elim (cases_lt l n) [
          | inl below ↦ get_or-take n interfaces l 0 below ∙ ids.filled l below
          | inr past ↦ get_or_past (take n interfaces) l 0 (omega (arith, shown, past)) ∙ sym (no_interface c l (omega (arith, count, past)))
        ]

    band : (l : ℕ) → get_or (take n bands) l false ≡ has_two_bands c l
    band l =
        elim (cases_lt l n) [
          | inl below ↦ get_or-take n bands l false below ∙ two.filled l below
          | inr past ↦ get_or_past (take n bands) l false (omega (arith, length-take-le n bands (omega (arith, few, two.long)), past)) ∙ sym (no_bands c l (omega (arith, count, past)))
        ]

-- ---- the search of an interface

less_before : (x y : ℕ) → nat_cmp x y ≡ Less → x < y
less_before x y is = subst (λ (o : Ordering). MatchOrdering o (x < y) (x ≡ y) (y < x)) is (ranks x y)

greater_after : (x y : ℕ) → nat_cmp x y ≡ Greater → y < x
greater_after x y is = subst (λ (o : Ordering). MatchOrdering o (x < y) (x ≡ y) (y < x)) is (ranks x y)

same_of : (x y : ℕ) → nat_cmp x y ≡ Equal → x ≡ y
same_of x y is = subst (λ (o : Ordering). MatchOrdering o (x < y) (x ≡ y) (y < x)) is (ranks x y)

-- the answers of the search's test rise
rises : (a b id : ℕ) → a ≤ b → ordering_index (nat_cmp a id) ≤ ordering_index (nat_cmp b id)
rises a b id order =
    elim (cases_order a id) [
      | inl same ↦ elim (cases_order b id) [
        | inl also ↦ omega (arith, at _ _ (nat_cmp_is a id Equal same), at _ _ (nat_cmp_is b id Equal also))
        | inr other ↦ elim other [
          | inl below ↦ absurd (omega (arith, same, below, order))
          | inr above ↦ omega (arith, at _ _ (nat_cmp_is a id Equal same), at _ _ (nat_cmp_is b id Greater above))
        ]
      ]
      | inr differ ↦ elim differ [
        | inl below ↦ omega (arith, at _ _ (nat_cmp_is a id Less below))
        | inr above ↦ let also : id < b = omega (arith, above, order) in omega (arith, at _ _ (nat_cmp_is a id Greater above), at _ _ (nat_cmp_is b id Greater also))
      ]
    ]
  where
    at : (x : ℕ) (o : Ordering) → o ≡ nat_cmp x id → ordering_index (nat_cmp x id) ≡ ordering_index o
    at x o is = ap ordering_index (sym is)

pub ascends : (c : Config) (p : Lines) → IsPortsOf c p → (id i j d : ℕ) → i ≤ j → j < length p.interfaces
    → ordering_index (nat_cmp (get_or p.interfaces i d) id) ≤ ordering_index (nat_cmp (get_or p.interfaces j d) id)
ascends c p of id i j d order there = rises (get_or p.interfaces i d) (get_or p.interfaces j d) id (omega (arith, low, high, below))
  where
    low : get_or p.interfaces i d ≡ interface_at c i
    low = get_or_default p.interfaces i d 0 (omega (arith, order, there)) ∙ of.interfaces i

    high : get_or p.interfaces j d ≡ interface_at c j
    high = get_or_default p.interfaces j d 0 there ∙ of.interfaces j

    below : interface_at c i ≤ interface_at c j
    below = elim (cases_lt i j) [
      | inl less ↦ let is = (in_order c).ascending i j less (omega (arith, there, of.count)) in omega (arith, is)
      | inr same ↦ let e : i ≡ j = omega (arith, same, order) in omega (arith, ap (interface_at c) e)
    ]

pub number_found : (c : Config) (p : Lines) → IsPortsOf c p → (at id : ℕ) → at < length p.interfaces → nat_cmp (get_or p.interfaces at 0) id ≡ Equal → at ≡ link_index c id
number_found c p of at id there is =
    let interface : interface_at c at ≡ id = sym (of.interfaces at) ∙ same_of (get_or p.interfaces at 0) id is in
    sym ((in_order c).numbered at (omega (arith, there, of.count))) ∙ ap (link_index c) interface

-- each is less or greater
pub number_missing : (c : Config) (p : Lines) → IsPortsOf c p → (n id : ℕ)
    → ((k d : ℕ) → 0 ≤ k → k < n → nat_cmp (get_or p.interfaces k d) id ≡ Less) → ((k d : ℕ) → n ≤ k → k < length p.interfaces → nat_cmp (get_or p.interfaces k d) id ≡ Greater)
    → length p.interfaces ≡ link_index c id
number_missing c p of n id less greater =
    elim (cases_Bool (has_link (network c) id)) [
      | inl there ↦
          let k : ℕ = link_index c id in
          let within : k < link_count c = (in_order c).within id there in
          let named : get_or p.interfaces k 0 ≡ id = of.interfaces k ∙ (in_order c).named id there in
          elim (cases_lt k n) [
            | inl before ↦ absurd (omega (arith, named, less_before (get_or p.interfaces k 0) id (less k 0 (omega arith) before)))
            | inr after ↦ absurd (omega (arith, named, greater_after (get_or p.interfaces k 0) id (greater k 0 after (omega (arith, within, of.count)))))
          ]
      | inr none ↦ of.count ∙ sym (cond-false _ _ _ none)
    ]
