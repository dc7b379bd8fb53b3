-- Faults of the import, by what they say.
use Rattle.std.proofs.Common.{◌≡◌, subst, sym}
use Rattle.cli_faults.specs.declared.fault.Fault.{Fault}
use Rattle.cli_faults.specs.declared.fault.Fault.TheVariants as fault
use Rattle.cli_import.specs.Faults.{IsOfTopology}

-- what holds of a topology's fault may be said in other words
pub topology_maps : (P Q : Type 0) (told : Fault) → (P → Q) → IsOfTopology P told → IsOfTopology Q told
topology_maps P Q fault.Memory f h = tt
topology_maps P Q (fault.Topology words) f h = f h
topology_maps P Q _ f h = absurd h

pub topology_memory : (P : Type 0) (told : Fault) → told ≡ fault.Memory → IsOfTopology P told
topology_memory P told is = subst (λ (f : Fault). IsOfTopology P f) (sym is) tt
