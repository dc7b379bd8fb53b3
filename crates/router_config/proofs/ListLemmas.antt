-- The members of a list, one after the other.
use Rattle.std.proofs.Common.{◌≡◌, ℕ, suc, ◌+◌, ◌<◌, ◌≤◌, List, [], ◌∷◌, ◌++◌, length, drop, get_or, map, Bool, true, false, not, ◌==◌, ◌||◌, Result, Ok, Err, refl, sym, ap, ◌∙◌, arith, inl, inr}
use Rattle.std.specs.Prelude.{◌≢◌, IsTrue, codes, nat_lt}
use Rattle.std.specs.List.{list_all, list_any}
use Rattle.std.proofs.lemmas.Bool.{and_parts, cases_Bool}
use Rattle.std.proofs.lemmas.Bool.Decides.{nat_tests}
use Rattle.std.proofs.lemmas.List.{map-append}
use Rattle.std.proofs.Math.ListN.{drop_of_length-le}
use Rattle.std.proofs.lemmas.List.Folds.{list_any-append}
use Rattle.toml.specs.Data.{Data, Items, Members, no_items, as_array}
use Rattle.toml.specs.View.{items_view, view}
use Rattle.toml.proofs.Views.{items_view-drop}
use Rattle.toml.specs.declared.value.Value.{Value}
use Rattle.process_packet.specs.Neighbours.{are_distinct, link_id, sibling_id}
use Rattle.process_packet.specs.declared.neighbours.Link.{Link}
use Rattle.process_packet.specs.declared.neighbours.Sibling.{Sibling}
use Rattle.router_config.specs.Fault.{or_when_missing, ◌>>=◌}
use Rattle.router_config.specs.Entry.{value_at}
use Rattle.router_config.specs.Neighbours.{at_most, count_of, link_after, link_of, link_values, links_at, links_of, members_from, service_of, services_at, sibling_of, siblings_at, taken, told_id, LinkValues}
use Rattle.router_config.specs.declared.entry.Version.{Version}
use Rattle.router_config.specs.declared.fault.ConfigFault.{ConfigFault}
use Rattle.router_config.specs.declared.fault.ConfigFault.TheVariants.{NotToml, Missing, WrongType, IsdAs, Key, Address, Interface, Limit, Memory}

-- ---- how many members there are

count_is : (vs : List Value) → count_of (items_view vs) ≡ length vs
count_is [] = refl
count_is (v ∷ vs) = ap suc (count_is vs)

pub too_many : {A : Type 0} (most : ℕ) (read : List A → Data → Result A ConfigFault) (vs : List Value) → most < length vs → at_most most read (items_view vs) ≡ Err Limit
unfolding at_most
too_many most read vs many =
    let large : nat_lt most (count_of (items_view vs)) ≡ true = rw (count_is vs) (grind (arith, nat_tests)) in
    rw large refl

pub not_too_many : {A : Type 0} (most : ℕ) (read : List A → Data → Result A ConfigFault) (vs : List Value) → length vs ≤ most
    → at_most most read (items_view vs) ≡ members_from read [] (items_view vs)
unfolding at_most
not_too_many most read vs few =
    let large : nat_lt most (count_of (items_view vs)) ≡ false = rw (count_is vs) (grind (arith, nat_tests)) in
    rw large refl

pub no_links : (version : Version) (own : ℕ × ℕ) (vs : List Value) → length vs ≡ 0 → links_of version own (items_view vs) ≡ Err Limit
unfolding links_of
no_links version own [] none = refl
no_links version own (v ∷ vs) none = absurd (omega arith)

pub some_links : (version : Version) (own : ℕ × ℕ) (vs : List Value) → 0 < length vs → links_of version own (items_view vs) ≡ at_most 32 (link_after version own) (items_view vs)
unfolding links_of
some_links version own vs some =
    let none : (count_of (items_view vs) == 0) ≡ false = rw (count_is vs) (grind (arith, nat_tests)) in
    rw none refl

-- ---- one member

step : {A : Type 0} (read : List A → Data → Result A ConfigFault) (done : List A) (vs : List Value) (i : ℕ) (d : Value) → i < length vs
    → members_from read done (items_view (drop i vs)) ≡ (read done (view (get_or vs i d)) >>= (λ x. members_from read (done ++ x ∷ []) (items_view (drop (i + 1) vs))))
unfolding members_from
step read done vs i d h = rw (items_view-drop vs i d h) refl

pub next_member : {A : Type 0} (read : List A → Data → Result A ConfigFault) (done : List A) (vs : List Value) (i : ℕ) (x : A) (d : Value) → i < length vs
    → Ok x ≡ read done (view (get_or vs i d)) → members_from read done (items_view (drop i vs)) ≡ members_from read (done ++ x ∷ []) (items_view (drop (i + 1) vs))
next_member read done vs i x d h found = step read done vs i d h ∙ rw (← found) refl

pub bad_member : {A : Type 0} (read : List A → Data → Result A ConfigFault) (done : List A) (vs : List Value) (i : ℕ) (fault : ConfigFault) (d : Value) → i < length vs
    → Err fault ≡ read done (view (get_or vs i d)) → members_from read done (items_view (drop i vs)) ≡ Err fault
bad_member read done vs i fault d h found = step read done vs i d h ∙ rw (← found) refl

pub last_member : {A : Type 0} (read : List A → Data → Result A ConfigFault) (done : List A) (vs : List Value) (i : ℕ) → length vs ≤ i
    → members_from read done (items_view (drop i vs)) ≡ Ok done
unfolding members_from
last_member read done vs i h = rw (drop_of_length-le vs h) refl

-- ---- links and what is told of them

pub told_ids : (links : List Link) → map told_id (map link_values links) ≡ map link_id links
told_ids [] = refl
told_ids (l ∷ links) = ap (λ (ids : List ℕ). l.id ∷ ids) (told_ids links)

-- a link that was read beside these links
pub link_beside : (version : Version) (own : ℕ × ℕ) (done : List Link) (member : Data) (r : Result LinkValues ConfigFault) → r ≡ link_of version own (map link_id done) member
    → r ≡ link_after version own (map link_values done) member
link_beside version own done member r is = is ∙ ap (λ (ids : List ℕ). link_of version own ids member) (sym (told_ids done))

pub values_push : (done : List Link) (link : Link) → map link_values (done ++ link ∷ []) ≡ map link_values done ++ link_values link ∷ []
values_push done link = map-append link_values done (link ∷ [])

-- ---- numbers that stay distinct, members that are whole

fresh_parts : (x id : ℕ) (ids : List ℕ) → list_any (λ other. other == id) (x ∷ ids) ≡ false → ((id == x) ≡ false) × (list_any (λ other. other == id) ids ≡ false)
fresh_parts x id ids fresh = elim (cases_Bool (x == id)) [
  | inl same ↦ let bad : true ≡ false = rw same at fresh in cc
  | inr apart ↦ (grind (arith, nat_tests), rw apart at fresh)
]

pub distinct_push : (ids : List ℕ) (id : ℕ) → IsTrue (are_distinct ids) → list_any (λ other. other == id) ids ≡ false → IsTrue (are_distinct (ids ++ id ∷ []))
distinct_push [] id distinct fresh = refl
distinct_push (x ∷ ids) id distinct fresh =
    let apart = fresh_parts x id ids fresh in
    let parts = and_parts (not (list_any (λ other. other == x) ids)) (are_distinct ids) distinct in
    let rest = distinct_push ids id parts.1 apart.1 in
    let more : list_any (λ other. other == x) (ids ++ id ∷ []) ≡ (list_any (λ other. other == x) ids || ((id == x) || false)) = list_any-append (λ other. other == x) ids (id ∷ []) in
    let none : list_any (λ other. other == x) ids ≡ false = elim (cases_Bool (list_any (λ other. other == x) ids)) [ inl some ↦ absurd (let bad : false ≡ true = rw some at parts.0 in cc) | inr none ↦ none ] in
    rw (more, none, apart.0, rest) refl

append_nil : (xs : List ℕ) → xs ++ [] ≡ xs
append_nil [] = refl
append_nil (x ∷ xs) = ap (λ (ys : List ℕ). x ∷ ys) (append_nil xs)

append_one : (xs ys : List ℕ) (x : ℕ) → xs ++ (ys ++ x ∷ []) ≡ (xs ++ ys) ++ x ∷ []
append_one [] ys x = refl
append_one (z ∷ zs) ys x = ap (λ (rest : List ℕ). z ∷ rest) (append_one zs ys x)

pub link_push : (done : List Link) (link : Link) → taken (done ++ link ∷ []) [] ≡ taken done [] ++ link.id ∷ []
link_push done link = append_nil (map link_id (done ++ link ∷ [])) ∙ map-append link_id done (link ∷ []) ∙ rw (append_nil (map link_id done)) refl

pub sibling_push : (links : List Link) (done : List Sibling) (sibling : Sibling) → taken links (done ++ sibling ∷ []) ≡ taken links done ++ sibling.id ∷ []
sibling_push links done sibling = ap (λ (ids : List ℕ). map link_id links ++ ids) (map-append sibling_id done (sibling ∷ [])) ∙ append_one (map link_id links) (map sibling_id done) sibling.id

pub number_push : {A : Type 0} (number : A → ℕ) (done : List A) (x : A) → map number (done ++ x ∷ []) ≡ map number done ++ number x ∷ []
number_push number done x = map-append number done (x ∷ [])

pub whole_push : {A : Type 0} (whole : A → Bool) (done : List A) (x : A) → IsTrue (list_all whole done) → IsTrue (whole x) → IsTrue (list_all whole (done ++ x ∷ []))
whole_push whole [] x all one = rw one refl
whole_push whole (y ∷ done) x all one =
    let parts = and_parts (whole y) (list_all whole done) all in
    rw (parts.0) (whole_push whole done x parts.1 one)

-- ---- a list that may be missing

pub list_there : {A : Type 0} (f : Items → Result A ConfigFault) (members : Items) (r : Result Items ConfigFault) → Ok members ≡ r → f members ≡ (or_when_missing no_items r >>= f)
list_there f members r there = rw (← there) refl

pub list_missing : {A : Type 0} (f : Items → Result A ConfigFault) (r : Result Items ConfigFault) → Err Missing ≡ r → (or_when_missing no_items r >>= f) ≡ f no_items
list_missing f r there = rw (← there) refl

pub kept : {A : Type 0} (x : A) (fault : ConfigFault) → fault ≢ Missing → or_when_missing x (Err fault) ≡ Err fault
kept x NotToml other = refl
kept x Missing other = absurd (other refl)
kept x WrongType other = refl
kept x IsdAs other = refl
kept x Key other = refl
kept x Address other = refl
kept x Interface other = refl
kept x Limit other = refl
kept x Memory other = refl

pub list_faulty : {A : Type 0} (f : Items → Result A ConfigFault) (fault : ConfigFault) (r : Result Items ConfigFault) → fault ≢ Missing → Err fault ≡ r
    → (or_when_missing no_items r >>= f) ≡ Err fault
list_faulty f fault r other there = rw (← there, kept no_items fault other) refl

-- ---- the lists at their keys

pub links_there : (version : Version) (own : ℕ × ℕ) (t : Members) (members : Items) → Ok members ≡ value_at as_array (codes "link") t → links_of version own members ≡ links_at version own t
unfolding links_at
links_there version own t members there = rw (← there) refl

pub no_links_there : (version : Version) (own : ℕ × ℕ) (t : Members) (fault : ConfigFault) → Err fault ≡ value_at as_array (codes "link") t → links_at version own t ≡ Err fault
unfolding links_at
no_links_there version own t fault there = rw (← there) refl

pub siblings_there : (ids : List ℕ) (t : Members) (members : Items) → Ok members ≡ value_at as_array (codes "sibling") t → at_most 256 (sibling_of ids) members ≡ siblings_at ids t
unfolding siblings_at
siblings_there ids t members there = list_there (at_most 256 (sibling_of ids)) members _ there

pub no_siblings : (ids : List ℕ) (t : Members) → Err Missing ≡ value_at as_array (codes "sibling") t → siblings_at ids t ≡ Ok []
unfolding siblings_at at_most members_from
no_siblings ids t there = list_missing (at_most 256 (sibling_of ids)) _ there

pub bad_siblings : (ids : List ℕ) (t : Members) (fault : ConfigFault) → fault ≢ Missing → Err fault ≡ value_at as_array (codes "sibling") t → siblings_at ids t ≡ Err fault
unfolding siblings_at
bad_siblings ids t fault other there = list_faulty (at_most 256 (sibling_of ids)) fault _ other there

pub services_there : (t : Members) (members : Items) → Ok members ≡ value_at as_array (codes "service") t → at_most 64 service_of members ≡ services_at t
unfolding services_at
services_there t members there = list_there (at_most 64 service_of) members _ there

pub no_services : (t : Members) → Err Missing ≡ value_at as_array (codes "service") t → services_at t ≡ Ok []
unfolding services_at at_most members_from
no_services t there = list_missing (at_most 64 service_of) _ there

pub bad_services : (t : Members) (fault : ConfigFault) → fault ≢ Missing → Err fault ≡ value_at as_array (codes "service") t → services_at t ≡ Err fault
unfolding services_at
bad_services t fault other there = list_faulty (at_most 64 service_of) fault _ other there
