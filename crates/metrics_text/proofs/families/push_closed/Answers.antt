use Rattle.std.proofs.Common.{codes}
use Rattle.metrics_text.specs.declared.link_counts.Figure.TheVariants.{Closed}
use Rattle.metrics_text.specs.Families.{closed_family}
use Rattle.metrics_text.specs.Samples.{heading, links_text}
use Rattle.metrics_text.proofs.Joined.{two_parts}
use Rattle.metrics_text.proofs.families.push_closed.Goals as goal

pub returns : goal.returns
unfolding closed_family
returns c =
    two_parts c.push_links.result c.args.text.now.items c.push_heading.new.text.items c.push_links.new.text.items (heading (codes "router_link_closed") (codes "1 where the link was closed, else 0.") (codes "gauge")) (links_text (codes "router_link_closed") Closed c.args.links.now)
    c.in_ok-push_heading.ensures c.push_links.ensures
