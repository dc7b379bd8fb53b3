-- What is told of a net that doesn't agree.
use Rattle.std.specs.Prelude.{◌≡◌, ◌⊎◌, ℕ, List, Result, Ok, Err, String, string_bytes}
use Rattle.std.specs.declared.alloc.AllocError.{AllocError}
use Rattle.std.specs.declared.alloc.Global.{Global}
use Rattle.cli_faults.specs.declared.fault.Fault.{Fault}
use Rattle.cli_faults.specs.declared.fault.Fault.TheVariants as fault
use Rattle.net_check.specs.Words.{words_of}
use Rattle.net_laws.specs.Misfit.{IsFirst}
use Rattle.net_laws.specs.Net.{net_of}
use Rattle.net_laws.specs.declared.misfit.Misfit.{Misfit}
use Rattle.net_laws.specs.declared.net.Net as declared

-- words as a fault, if there was memory for them
abbrev pub fault_of : Result (String Global) AllocError → Fault
fault_of (Ok words) = fault.Net words
fault_of (Err e) = fault.Memory

-- The fault has the words of a misfit, by the names of the net's files.
pub record HasWords (net : declared.Net) (names : List (List ℕ)) (m : Misfit) (f : Fault) : Type 0 where
  pub words : String Global
  pub is : f ≡ fault.Net words
  pub text : string_bytes words ≡ words_of net.configs.items names m

-- The fault is that of a misfit, or that there was no memory for its words.
abbrev pub Tells : declared.Net → List (List ℕ) → Misfit → Fault → Type 0
Tells net names m f = (f ≡ fault.Memory) ⊎ HasWords net names m f

-- It is that of the first thing that doesn't fit.
pub record TellsFirst (net : declared.Net) (names : List (List ℕ)) (f : Fault) : Type 0 where
  pub misfit : Misfit
  pub first : IsFirst (net_of net) misfit
  pub told : Tells net names misfit f
