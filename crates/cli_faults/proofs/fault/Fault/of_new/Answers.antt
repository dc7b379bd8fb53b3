use Rattle.std.proofs.Common.{refl, rules, ◌∙◌}
use Rattle.cli_faults.proofs.fault.Fault.of_new.Goals as goal

pub returns-in-AlreadyExists : goal.returns-in-AlreadyExists
returns-in-AlreadyExists c = search rules

pub returns-in_default : goal.returns-in_default
returns-in_default c =
    record {
      memory = λ is. absurd (c.in_default.not-OutOfMemory (c.kind.ensures ∙ is));
      exists = λ is. absurd (c.in_default.not-AlreadyExists (c.kind.ensures ∙ is));
      out = λ memory exists. refl;
    }
