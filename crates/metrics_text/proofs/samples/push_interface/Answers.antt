use Rattle.std.proofs.Common.{codes, decimal}
use Rattle.metrics_text.specs.Samples.{interface_text}
use Rattle.metrics_text.proofs.Joined.{two_parts}
use Rattle.metrics_text.proofs.samples.push_interface.Goals as goal

pub returns : goal.returns
unfolding interface_text
returns c =
    two_parts c.push_decimal.result c.args.text.now.items c.extend_from_slice.new.self.items c.push_decimal.new.text.items (codes "{interface=\"") (decimal c.args.interface)
    c.in_ok-extend_from_slice.ensures.items c.push_decimal.ensures
