use Rattle.router_rules.specs.Links.{has_two_bands}
use Rattle.worker_parts.specs.Outlets.{Trying}
use Rattle.worker_processor.proofs.UsedLemmas.{used_to}
use Rattle.worker_processor.proofs.exits.end_links.Given as goal

abbrev pub invariant-loop-link : goal.invariant-loop-link
invariant-loop-link g l = Trying (used_to (has_two_bands l.shared.config) l.link) l.initial.ends.items l.ends.items l.all
