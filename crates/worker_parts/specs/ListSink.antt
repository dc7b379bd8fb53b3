-- What contracts see of a sink over a list.
use Rattle.std.specs.Prelude.{◌≡◌, ◌⊎◌, ◌+◌, ◌==◌, ◌∷◌, ◌++◌, [], ℕ, Bool, true, false, List, Option, Some, None}
use Rattle.std.specs.List.{list_any}
use Rattle.worker_parts.specs.Told.{Told, telling}
use Rattle.worker_parts.specs.declared.list_sink.Sent.{Sent}

-- the calls at which it fails, how many there were, what it tells, and how often it failed
pub record Kept : Type 0 where
  pub fails : List ℕ
  pub calls : ℕ
  pub told : Option (List Told)
  pub failed : ℕ

abbrev pub told_in : Sent → Told
told_in s = telling s.out s.bytes.items s.took

abbrev pub is_among : ℕ → List ℕ → Bool
is_among n fails = list_any (λ k. k == n) fails

abbrev pub with_told : Option (List Told) → Kept → Kept
with_told told s = record { fails = s.fails; calls = s.calls; told = told; failed = s.failed }

abbrev pub called : ℕ → Kept → Kept
called calls s = record { fails = s.fails; calls = calls; told = s.told; failed = s.failed }

abbrev pub failing : Kept → Kept
failing s = record { fails = s.fails; calls = s.calls; told = s.told; failed = s.failed + 1 }

-- one entry more where it tells; where there is no memory for it, it tells no more
abbrev pub Notes : Bool → Told → Kept → Kept → Type 0
Notes true t old new =
    ((old.told ≡ None) × (new ≡ old)) ⊎ ((before : List Told) × (old.told ≡ Some before) × (new ≡ with_told (Some (before ++ t ∷ [])) old))
Notes false t old new = (before : List Told) × (old.told ≡ Some before) × (new ≡ with_told None old)

-- it fails at the calls of its list, and else only where it stops telling
abbrev pub Sends : Bool → Kept → Kept → Type 0
Sends took old new =
    (new.fails ≡ old.fails)
    × (is_among new.calls old.fails ≡ true → took ≡ false)
    × (is_among new.calls old.fails ≡ false → (took ≡ true) ⊎ ((before : List Told) × (old.told ≡ Some before) × (new.told ≡ None)))
