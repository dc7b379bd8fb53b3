-- The AS at the other end of a link and whether BFD is answered, by what is at their keys.
use Rattle.std.proofs.Common.{◌≡◌, ℕ, Option, Some, None, Ok, Err, Bool, true, false, ◌==◌, ◌&&◌, refl}
use Rattle.std.specs.Prelude.{◌≢◌, codes}
use Rattle.toml.specs.Data.{Members, as_bool}
use Rattle.router_config.specs.Entry.{isd_as_at, value_at}
use Rattle.router_config.specs.Neighbours.{bfd_at, bfd_of, neighbor_at}
use Rattle.router_config.specs.declared.fault.ConfigFault.{ConfigFault}
use Rattle.router_config.specs.declared.fault.ConfigFault.TheVariants.{Missing, Interface}
use Rattle.router_config.proofs.ListLemmas.{kept}

pub own_named : (own found : ℕ × ℕ) (t : Members) → Ok found ≡ isd_as_at (codes "neighbor") t → (found.0 == own.0 && found.1 == own.1) ≡ true → Err Interface ≡ neighbor_at own t
unfolding neighbor_at
own_named own found t there same = rw (← there, same) refl

pub other_named : (own found : ℕ × ℕ) (t : Members) → Ok found ≡ isd_as_at (codes "neighbor") t → (found.0 == own.0 && found.1 == own.1) ≡ false → Ok (Some found) ≡ neighbor_at own t
unfolding neighbor_at
other_named own found t there other = rw (← there, other) refl

pub none_named : (own : ℕ × ℕ) (t : Members) → Err Missing ≡ isd_as_at (codes "neighbor") t → Ok None ≡ neighbor_at own t
unfolding neighbor_at
none_named own t there = rw (← there) refl

pub bad_named : (own : ℕ × ℕ) (t : Members) (fault : ConfigFault) → fault ≢ Missing → Err fault ≡ isd_as_at (codes "neighbor") t → Err fault ≡ neighbor_at own t
unfolding neighbor_at
bad_named own t fault other there = rw (← there, kept {A = Option (ℕ × ℕ)} None fault other) refl

-- ---- BFD

pub bfd_there : (named : Option (ℕ × ℕ)) (t : Members) (asked : Bool) → Ok asked ≡ value_at as_bool (codes "bfd") t → bfd_of named asked ≡ bfd_at named t
unfolding bfd_at
bfd_there named t asked there = rw (← there) refl

pub no_bfd : (named : Option (ℕ × ℕ)) (t : Members) → Err Missing ≡ value_at as_bool (codes "bfd") t → Ok false ≡ bfd_at named t
unfolding bfd_at
no_bfd named t there = rw (← there) refl

pub bad_bfd : (named : Option (ℕ × ℕ)) (t : Members) (fault : ConfigFault) → fault ≢ Missing → Err fault ≡ value_at as_bool (codes "bfd") t → Err fault ≡ bfd_at named t
unfolding bfd_at
bad_bfd named t fault other there = rw (← there, kept false fault other) refl
