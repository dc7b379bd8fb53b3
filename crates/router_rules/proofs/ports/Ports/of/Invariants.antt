use Rattle.std.proofs.Common.{false}
use Rattle.router_rules.specs.Links.{has_two_bands, interface_at}
use Rattle.router_rules.proofs.PortLemmas.{IsFilled}
use Rattle.router_rules.proofs.ports.Ports.of.Given as goal

abbrev pub invariant-loop-link : goal.invariant-loop-link
invariant-loop-link l = IsFilled 33 l.link (interface_at l.config) 0 l.interfaces × IsFilled 33 l.link (has_two_bands l.config) false l.two_bands
