use Rattle.std.proofs.Common.{codes}
use Rattle.metrics_text.specs.Reasons.{every_cause}
use Rattle.metrics_text.specs.Families.{drops_family}
use Rattle.metrics_text.specs.Samples.{drops_of, heading}
use Rattle.metrics_text.proofs.Joined.{two_parts}
use Rattle.metrics_text.proofs.families.push_dropped.Goals as goal

pub returns : goal.returns
unfolding drops_family
returns c =
    two_parts c.push_drops.result c.args.text.now.items c.push_heading.new.text.items c.push_drops.new.text.items (heading (codes "router_dropped_pkts_total") (codes "Packets and answers that were dropped, by cause.") (codes "counter")) (drops_of c.args.totals.now every_cause)
    c.in_ok-push_heading.ensures c.push_drops.ensures
