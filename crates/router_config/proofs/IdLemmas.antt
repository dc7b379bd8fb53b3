-- Numbers of interfaces and of services, by whether they have been given.
use Rattle.std.proofs.Common.{◌≡◌, List, ℕ, map, Ok, Err, refl, sym, ap, ◌∙◌, Bool, true, false, ◌==◌, ◌||◌, ◌≤◌, ℤ, pos, negsuc, nat_abs, arith, subst, w64, to_z, of_z}
use Rattle.std.specs.Prelude.{if◌then◌else◌, nat_lt}
use Rattle.std.specs.List.{list_any}
use Rattle.std.specs.Int.{FitsUnsignedBits}
use Rattle.std.proofs.lemmas.Bool.Decides.{nat_tests}
use Rattle.std.proofs.lemmas.Int.{to_z-of_z}
use mir.Val.{SFits}
use Rattle.std.proofs.lemmas.List.Folds.{list_any-append}
use Rattle.process_packet.specs.Neighbours.{link_id, sibling_id}
use Rattle.process_packet.specs.declared.neighbours.Link.{Link}
use Rattle.process_packet.specs.declared.neighbours.Sibling.{Sibling}
use Rattle.router_config.specs.Neighbours.{id_of, service_of_number, taken}
use Rattle.router_config.specs.declared.fault.ConfigFault.TheVariants.{Interface}

id_is : (given : List ℕ) (z : ℤ) (n : ℕ) (b : Bool) → FitsUnsignedBits 16 z → n ≡ nat_abs z → (z ≡ pos 0 → ⊥) → b ≡ list_any (λ other. other == n) given
    → (if b then Err Interface else Ok n) ≡ id_of given z
id_is given (pos m) n b fits is other tested =
    let positive : (m == 0) ≡ false = grind (arith, nat_tests, λ (zero : m ≡ 0). other (ap pos zero)) in
    let within : nat_lt 65535 m ≡ false = grind (arith, nat_tests) in
    let same : list_any (λ other. other == n) given ≡ list_any (λ other. other == m) given = ap (λ (k : ℕ). list_any (λ other. other == k) given) is in
    rw (positive, within, ← same, ← tested, is) refl
id_is given (negsuc m) n b fits is other tested = absurd fits

pub id_read : (given : List ℕ) (z : ℤ) (n : ℕ) (b : Bool) → SFits w64 z → FitsUnsignedBits 16 (to_z w64 (of_z w64 z)) × (n ≡ nat_abs (to_z w64 (of_z w64 z)))
    → (of_z w64 z ≡ 0 → ⊥) → b ≡ list_any (λ other. other == n) given → (if b then Err Interface else Ok n) ≡ id_of given z
id_read given z n b signed read other tested =
    let back : to_z w64 (of_z w64 z) ≡ z = to_z-of_z w64 z signed in
    let P : ℤ → Type 0 = λ y. FitsUnsignedBits 16 y × (n ≡ nat_abs y) in
    let known : P z = subst P back read in
    id_is given z n b known.0 known.1 (λ zero. other (ap (of_z w64) zero)) tested

service_is : (given : List ℕ) (z : ℤ) (n : ℕ) (b : Bool) → FitsUnsignedBits 16 z → n ≡ nat_abs z → n ≤ 32767 → b ≡ list_any (λ other. other == n) given
    → (if b then Err Interface else Ok n) ≡ service_of_number given z
service_is given (pos m) n b fits is small tested =
    let within : nat_lt 32767 m ≡ false = grind (arith, nat_tests) in
    let same : list_any (λ other. other == n) given ≡ list_any (λ other. other == m) given = ap (λ (k : ℕ). list_any (λ other. other == k) given) is in
    rw (within, ← same, ← tested, is) refl
service_is given (negsuc m) n b fits is small tested = absurd fits

pub service_read : (given : List ℕ) (z : ℤ) (n : ℕ) (b : Bool) → SFits w64 z → FitsUnsignedBits 16 (to_z w64 (of_z w64 z)) × (n ≡ nat_abs (to_z w64 (of_z w64 z)))
    → n ≤ 32767 → b ≡ list_any (λ other. other == n) given → (if b then Err Interface else Ok n) ≡ service_of_number given z
service_read given z n b signed read small tested =
    let back : to_z w64 (of_z w64 z) ≡ z = to_z-of_z w64 z signed in
    let P : ℤ → Type 0 = λ y. FitsUnsignedBits 16 y × (n ≡ nat_abs y) in
    let known : P z = subst P back read in
    service_is given z n b known.0 known.1 small tested

-- ---- numbers of links and of siblings' interfaces

taken_parts : (links : List Link) (siblings : List Sibling) (id : ℕ)
    → list_any (λ other. other == id) (taken links siblings) ≡ (list_any (λ other. other == id) (map link_id links) || list_any (λ other. other == id) (map sibling_id siblings))
taken_parts links siblings id = list_any-append (λ other. other == id) (map link_id links) (map sibling_id siblings)

pub taken_linked : (links : List Link) (siblings : List Sibling) (id : ℕ) (b : Bool) → b ≡ list_any (λ other. other == id) (map link_id links) → b ≡ true
    → b ≡ list_any (λ other. other == id) (taken links siblings)
taken_linked links siblings id b is tested = tested ∙ sym (taken_parts links siblings id ∙ rw (← is, tested) refl)

pub not_linked : (links : List Link) (siblings : List Sibling) (id : ℕ) → list_any (λ other. other == id) (map link_id links) ≡ false
    → list_any (λ other. other == id) (taken links siblings) ≡ list_any (λ other. other == id) (map sibling_id siblings)
not_linked links siblings id none = taken_parts links siblings id ∙ rw none refl
