-- What is told of a misfit.
use Rattle.std.proofs.Common.{◌≡◌, ◌∙◌, ℕ, List, Result, Ok, Err, refl, inl, inr, string_bytes}
use Rattle.std.specs.Prelude.{IfOk, String}
use Rattle.std.specs.declared.alloc.AllocError.{AllocError}
use Rattle.std.specs.declared.alloc.Global.{Global}
use Rattle.cli_faults.specs.declared.fault.Fault.{Fault}
use Rattle.cli_check.specs.Net.{Tells, fault_of}
use Rattle.net_check.specs.Words.{words_of}
use Rattle.net_laws.specs.declared.misfit.Misfit.{Misfit}
use Rattle.net_laws.specs.declared.net.Net as declared

pub told_of : (r : Result (String Global) AllocError) (net : declared.Net) (names : List (List ℕ)) (m : Misfit) (f : Fault) → f ≡ fault_of r
    → IfOk r (λ text. string_bytes text ≡ words_of net.configs.items names m) → Tells net names m f
told_of (Ok words) net names m f is text = inr (record { words = words; is = is; text = text })
told_of (Err e) net names m f is text = inl is
