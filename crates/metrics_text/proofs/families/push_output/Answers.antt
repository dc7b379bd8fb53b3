use Rattle.std.proofs.Common.{codes}
use Rattle.metrics_text.specs.declared.link_counts.Figure.TheVariants.{Output}
use Rattle.metrics_text.specs.Families.{output_family}
use Rattle.metrics_text.specs.Samples.{heading, links_text}
use Rattle.metrics_text.proofs.Joined.{two_parts}
use Rattle.metrics_text.proofs.families.push_output.Goals as goal

pub returns : goal.returns
unfolding output_family
returns c =
    two_parts c.push_links.result c.args.text.now.items c.push_heading.new.text.items c.push_links.new.text.items (heading (codes "router_output_pkts_total") (codes "Packets and answers that a link's forwarder handed to its socket.") (codes "counter")) (links_text (codes "router_output_pkts_total") Output c.args.links.now)
    c.in_ok-push_heading.ensures c.push_links.ensures
