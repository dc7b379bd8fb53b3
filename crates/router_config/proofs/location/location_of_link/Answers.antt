use Rattle.router_config.specs.Neighbours.{link_of}
use Rattle.std.proofs.Common.{rules}
use Rattle.router_config.proofs.location.location_of_link.Goals as goal

pub returns-in-Err-address_at-clause-location : goal.returns-in-Err-address_at-clause-location
unfolding link_of
returns-in-Err-address_at-clause-location c = search rules
