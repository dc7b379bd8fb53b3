-- What comes of a text as a configuration.
use Rattle.std.specs.Prelude.{◌≡◌, ◌⊎◌, Result, Ok, Err}
use Rattle.cli_faults.specs.declared.fault.Fault.{Fault}
use Rattle.cli_faults.specs.declared.fault.Fault.TheVariants as fault
use Rattle.process_packet.specs.declared.config.Config.{Config}
use Rattle.router_config.specs.Config.{Values, values}
use Rattle.router_config.specs.declared.fault.ConfigFault.{ConfigFault}
use Rattle.router_config.specs.declared.fault.ConfigFault.TheVariants.{Memory}

-- The fault is this one of a configuration, with its words or without.
abbrev pub Tells : ConfigFault → Fault → Type 0
Tells f (fault.Config g) = g ≡ f
Tells f (fault.Told g words) = g ≡ f
Tells f _ = ⊥

-- The text gives nothing for the reason that is told.
pub record TellsFault (wanted : Result Values ConfigFault) (told : Fault) : Type 0 where
  pub why : ConfigFault
  pub is : wanted ≡ Err why
  pub tells : Tells why told

-- The answer is this configuration, or the fault of a text that gives none; or memory ran out.
abbrev pub GivesConfig : Result Config Fault → Result Values ConfigFault → Type 0
GivesConfig (Ok config) wanted = wanted ≡ Ok (values config)
GivesConfig (Err told) wanted = Tells Memory told ⊎ TellsFault wanted told
