use Rattle.std.proofs.Common.{codes}
use Rattle.metrics_text.specs.declared.link_counts.Figure.TheVariants.{Input}
use Rattle.metrics_text.specs.Families.{input_family}
use Rattle.metrics_text.specs.Samples.{heading, links_text}
use Rattle.metrics_text.proofs.Joined.{two_parts}
use Rattle.metrics_text.proofs.families.push_input.Goals as goal

pub returns : goal.returns
unfolding input_family
returns c =
    two_parts c.push_links.result c.args.text.now.items c.push_heading.new.text.items c.push_links.new.text.items (heading (codes "router_input_pkts_total") (codes "Datagrams that a link's receiver took from its socket.") (codes "counter")) (links_text (codes "router_input_pkts_total") Input c.args.links.now)
    c.in_ok-push_heading.ensures c.push_links.ensures
