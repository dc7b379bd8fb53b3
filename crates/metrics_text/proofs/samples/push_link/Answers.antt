use Rattle.std.proofs.Common.{◌≡◌, ◌++◌, rules}
use Rattle.metrics_text.specs.Samples.{interface_text, value_text}
use Rattle.metrics_text.proofs.Joined.{three_parts}
use Rattle.metrics_text.proofs.samples.push_link.Goals as goal

pub returns : goal.returns
returns c =
    let named : c.extend_from_slice.new.self.items ≡ c.args.text.now.items ++ c.args.name.now = search rules in
    three_parts c.push_value.result c.args.text.now.items c.extend_from_slice.new.self.items c.push_interface.new.text.items c.push_value.new.text.items c.args.name.now (interface_text c.args.interface) (value_text c.args.value)
    named c.in_ok-push_interface.ensures c.push_value.ensures
