-- From the engine's words to those of a router over its sockets.
use Rattle.std.proofs.Common.{◌≡◌, inl, inr, ℕ, List, Option, Some, None, Result, Ok, Err, refl, sym, subst, IfErr, IfSome, ◌⊎◌}
use Rattle.process_packet.specs.declared.config.Config.{Config}
use Rattle.cli_io.specs.Lines.{lines_of}
use Rattle.cli_io.specs.declared.fault.LinesFault.{LinesFault}
use Rattle.cli_io.specs.declared.fault.LinesFault.TheVariants as faults
use Rattle.router_run.specs.declared.fault.StartFault.{StartFault}
use Rattle.router_run.specs.declared.fault.StartFault.TheVariants as begin
use Rattle.cli_run.specs.Run.{Ran}
use Rattle.cli_run.specs.declared.fault.RunFault.{RunFault}
use Rattle.cli_run.specs.declared.fault.RunFault.TheVariants as fault
use Rattle.udp_devices.specs.declared.binding.BindFault.{BindFault}
use Rattle.udp_devices.specs.declared.binding.BindFault.TheVariants as bind
use Rattle.udp_devices.specs.Devices.{Reading, Sending}
use Rattle.udp_router.specs.OverUdp.{Closes, Router, Tells}
use Rattle.udp_router.specs.Run.{IsFault, IsNew, Leads, Runs, ascending, unbound, unstarted}

module _ (c : Config) (ids : List ℕ) (r : Router) (are : ids ≡ ascending c) (new : IsNew c r) (before after : Option (List ℕ)) where
  leads : (result : Result (Unit {0}) LinesFault) (input : List ℕ) → Ran Closes Tells ids r result (lines_of input) before after → Leads c result (lines_of input) before after
  leads result input ran =
      let P : List ℕ → Type 0 = λ xs. Ran Closes Tells xs r result (lines_of input) before after in
      (r, new, subst P are ran)

  pub led_well : (known : Option (List ℕ)) → IfSome known (λ input. Ran Closes Tells ids r (Ok tt) (lines_of input) before after)
      → IfSome known (λ input. Runs c (Ok tt) (lines_of input) before after)
  led_well None ran = tt
  led_well (Some input) ran = leads (Ok tt) input ran

  pub led_ill : (known : Option (List ℕ)) (e : LinesFault) → IfSome known (λ input. Ran Closes Tells ids r (Err e) (lines_of input) before after)
      → IfSome known (λ input. Runs c (Err (fault.Lines e)) (lines_of input) before after)
  led_ill None e ran = tt
  led_ill (Some input) e ran = inr (leads (Err e) input ran)

-- nothing was written where memory lacked first
pub lacked : (c : Config) (known before : Option (List ℕ)) → IfSome known (λ input. Runs c (Err (fault.Lines faults.Memory)) (lines_of input) before before)
lacked c None before = tt
lacked c (Some input) before = inl (refl, refl)

-- nor where sockets couldn't be had, nor where the router wasn't started
pub not_bound : (c : Config) (f : BindFault) (e : RunFault) (known before : Option (List ℕ)) → e ≡ unbound f → IfSome known (λ input. Runs c (Err e) (lines_of input) before before)
not_bound c f e None before is = tt
not_bound c (bind.Socket link) e (Some input) before is = subst (λ (x : RunFault). Runs c (Err x) (lines_of input) before before) (sym is) refl
not_bound c bind.Memory e (Some input) before is = subst (λ (x : RunFault). Runs c (Err x) (lines_of input) before before) (sym is) (inl (refl, refl))

pub not_started : (c : Config) (f : StartFault Reading Sending) (e : RunFault) (known before : Option (List ℕ)) → e ≡ unstarted f → IfSome known (λ input. Runs c (Err e) (lines_of input) before before)
not_started c f e None before is = tt
not_started c (begin.NoMemory a b) e (Some input) before is = subst (λ (x : RunFault). Runs c (Err x) (lines_of input) before before) (sym is) refl
not_started c (begin.Count a b) e (Some input) before is = subst (λ (x : RunFault). Runs c (Err x) (lines_of input) before before) (sym is) refl
not_started c begin.Thread e (Some input) before is = subst (λ (x : RunFault). Runs c (Err x) (lines_of input) before before) (sym is) refl

-- nor where the counts can't be shown
pub no_listener : (c : Config) (e : RunFault) (known before : Option (List ℕ)) → e ≡ fault.Metrics → IfSome known (λ input. Runs c (Err e) (lines_of input) before before)
no_listener c e None before is = tt
no_listener c e (Some input) before is = subst (λ (x : RunFault). Runs c (Err x) (lines_of input) before before) (sym is) refl

pub no_listener_fault : (c : Config) (e : RunFault) → e ≡ fault.Metrics → IsFault c e
no_listener_fault c e is = let P : RunFault → Type 0 = λ x. IsFault c x in subst P (sym is) tt

pub not_shown : (c : Config) (e : RunFault) (known before : Option (List ℕ)) → (e ≡ fault.NoMemory) ⊎ (e ≡ fault.Thread) → IfSome known (λ input. Runs c (Err e) (lines_of input) before before)
not_shown c e None before is = tt
not_shown c e (Some input) before (inl is) = subst (λ (x : RunFault). Runs c (Err x) (lines_of input) before before) (sym is) refl
not_shown c e (Some input) before (inr is) = subst (λ (x : RunFault). Runs c (Err x) (lines_of input) before before) (sym is) refl

pub not_shown_fault : (c : Config) (e : RunFault) → (e ≡ fault.NoMemory) ⊎ (e ≡ fault.Thread) → IsFault c e
not_shown_fault c e (inl is) = let P : RunFault → Type 0 = λ x. IsFault c x in subst P (sym is) tt
not_shown_fault c e (inr is) = let P : RunFault → Type 0 = λ x. IsFault c x in subst P (sym is) tt

-- ---- from the router's own configuration

pub from_own : (c d : Config) (result : Result (Unit {0}) RunFault) (known before after : Option (List ℕ)) → d ≡ c
    → IfSome known (λ input. Runs d result (lines_of input) before after) → IfSome known (λ input. Runs c result (lines_of input) before after)
from_own c d result known before after is ran = let P : Config → Type 0 = λ x. IfSome known (λ input. Runs x result (lines_of input) before after) in subst P is ran

pub fault_from_own : (c d : Config) (result : Result (Unit {0}) RunFault) → d ≡ c → IfErr result (IsFault d) → IfErr result (IsFault c)
fault_from_own c d result is told = let P : Config → Type 0 = λ x. IfErr result (IsFault x) in subst P is told
