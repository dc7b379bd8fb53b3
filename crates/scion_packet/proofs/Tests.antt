-- No test fails exactly where each one passes.
use Rattle.std.proofs.Common.{◌≡◌, true, false, None, List, [], ◌∷◌, ◌++◌, refl}
use Rattle.std.specs.List.{AllByRecursion}
use Rattle.scion_packet.specs.Fault.{Test, first_failing}

abbrev pub AllPass : List Test → Type 0
AllPass ts = AllByRecursion (λ t. t.0 ≡ true) ts

pub all_pass : (ts : List Test) → first_failing ts ≡ None → AllPass ts
all_pass [] none = tt
all_pass ((true, f) ∷ ts) none = (refl, all_pass ts none)
all_pass ((false, f) ∷ ts) none = absurd cc

pub none_fails : (ts : List Test) → AllPass ts → first_failing ts ≡ None
none_fails [] all = refl
none_fails ((true, f) ∷ ts) all = none_fails ts all.1
none_fails ((false, f) ∷ ts) all = absurd cc

-- tests one after the other
pub parts_pass : (ts us : List Test) → first_failing (ts ++ us) ≡ None → (first_failing ts ≡ None) × (first_failing us ≡ None)
parts_pass [] us none = (refl, none)
parts_pass ((true, f) ∷ ts) us none = parts_pass ts us none
parts_pass ((false, f) ∷ ts) us none = absurd cc

pub pass_parts : (ts us : List Test) → first_failing ts ≡ None → first_failing us ≡ None → first_failing (ts ++ us) ≡ None
pass_parts [] us first rest = rest
pass_parts ((true, f) ∷ ts) us first rest = pass_parts ts us first rest
pass_parts ((false, f) ∷ ts) us first rest = absurd cc
