use Rattle.std.proofs.Common.{refl, ◌∙◌}
use Rattle.cli_faults.proofs.fault.Fault.of_import.Goals as goal

pub returns-in_default : goal.returns-in_default
returns-in_default c = record { memory = λ is. absurd (c.in_default.not-OutOfMemory (c.kind.ensures ∙ is)); file = λ other. refl }
