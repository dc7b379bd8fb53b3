use Rattle.std.proofs.Common.{◌≡◌, ◌==◌, ◌&&◌, ℕ, Bool, Option, Some, sym, ap, ◌∙◌}
use Rattle.std.proofs.lemmas.Bool.{eq-eqb}
use Rattle.scion_header.specs.declared.domain.Domain.{Domain}
use Rattle.scion_packet.specs.Header.{HostAddress}
use Rattle.process_packet.specs.Network.{is_neighbor}
use Rattle.process_packet.proofs.config.Config.is_there.Goals as goal

-- of the same ISD, by the AS number
by_its_number : (o : Option Domain) (there : Domain) (a : HostAddress) (number : ℕ) → o ≡ Some there → a.isd ≡ there.isd → a.autonomous_system ≡ number
    → (number == there.autonomous_system) ≡ is_neighbor o a
by_its_number o there a number is isd number-is =
    ap (λ (n : ℕ). n == there.autonomous_system) (sym number-is)
    ∙ sym (ap (λ (b : Bool). b && a.autonomous_system == there.autonomous_system) (eq-eqb a.isd there.isd isd))
    ∙ sym (ap (λ (d : Option Domain). is_neighbor d a) is)

pub returns-then-domain-there : goal.returns-then-domain-there
returns-then-domain-there c a isd number =
    by_its_number _ c.in-Some.there a c.args.domain.autonomous_system (sym c.neighbor.ensures ∙ c.in-Some.is) (isd ∙ c.if-domain-there.true) number
