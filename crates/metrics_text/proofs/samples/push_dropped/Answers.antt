use Rattle.std.proofs.Common.{codes}
use Rattle.metrics_text.specs.Samples.{cause_text, dropped_text, value_text}
use Rattle.metrics_text.proofs.Joined.{three_parts}
use Rattle.metrics_text.proofs.samples.push_dropped.Goals as goal

pub returns : goal.returns
unfolding dropped_text
returns c =
    three_parts c.push_value.result c.args.text.now.items c.extend_from_slice.new.self.items c.push_cause.new.text.items c.push_value.new.text.items (codes "router_dropped_pkts_total{cause=\"") (cause_text c.args.cause) (value_text c.args.count)
    c.in_ok-extend_from_slice.ensures.items c.in_ok-push_cause.ensures c.push_value.ensures
