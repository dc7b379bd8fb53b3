use Rattle.std.proofs.Common.{◌≡◌, ◌++◌, drop}
use Rattle.config_text.specs.Members.{services_text}
use Rattle.config_text.proofs.members.push_services.Given as goal

abbrev pub invariant-loop-service : goal.invariant-loop-service
invariant-loop-service l = l.text.items ++ services_text (drop l.service-index l.services) ≡ l.fn.text.items ++ services_text l.services
