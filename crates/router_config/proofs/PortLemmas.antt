-- The ports of end hosts, by what is at their key.
use Rattle.std.proofs.Common.{◌≡◌, List, [], ◌∷◌, length, get_or, Option, None, Ok, Err, ap₂, arith, refl}
use Rattle.std.specs.Prelude.{◌≢◌, codes}
use Rattle.toml.specs.Data.{Items, Members, as_array}
use Rattle.toml.specs.View.{items_view, view}
use Rattle.toml.specs.declared.value.Value.{Value}
use Rattle.router_config.specs.Entry.{value_at}
use Rattle.router_config.specs.Ports.{dispatched_ports_at, ports_from, ports_of}
use Rattle.router_config.specs.declared.fault.ConfigFault.{ConfigFault}
use Rattle.router_config.specs.declared.fault.ConfigFault.TheVariants.{Missing, WrongType}
use Rattle.router_config.proofs.ListLemmas.{kept}

-- the members of a list of two
pub two_read : (vs : List Value) (first last : Value) → length vs ≡ 2 → first ≡ get_or vs 0 first → last ≡ get_or vs 1 last
    → ports_from (view first) (view last) ≡ ports_of (items_view vs)
two_read [] first last len a b = absurd (omega arith)
two_read (v ∷ []) first last len a b = absurd (omega arith)
two_read (v ∷ w ∷ []) first last len a b = ap₂ (λ (x y : Value). ports_from (view x) (view y)) a b
two_read (v ∷ w ∷ x ∷ vs) first last len a b = absurd (omega arith)

pub not_two : (vs : List Value) → length vs ≢ 2 → Err WrongType ≡ ports_of (items_view vs)
not_two [] other = refl
not_two (v ∷ []) other = refl
not_two (v ∷ w ∷ []) other = absurd (other refl)
not_two (v ∷ w ∷ x ∷ vs) other = refl

-- ---- the key

pub ports_there : (t : Members) (items : Items) → Ok items ≡ value_at as_array (codes "dispatched_ports") t → ports_of items ≡ dispatched_ports_at t
unfolding dispatched_ports_at
ports_there t items there = rw (← there) refl

pub no_ports : (t : Members) → Err Missing ≡ value_at as_array (codes "dispatched_ports") t → Ok None ≡ dispatched_ports_at t
unfolding dispatched_ports_at
no_ports t there = rw (← there) refl

pub other_ports : (t : Members) (fault : ConfigFault) → fault ≢ Missing → Err fault ≡ value_at as_array (codes "dispatched_ports") t → Err fault ≡ dispatched_ports_at t
unfolding dispatched_ports_at
other_ports t fault other there = rw (← there, kept {A = Option Items} None fault other) refl
