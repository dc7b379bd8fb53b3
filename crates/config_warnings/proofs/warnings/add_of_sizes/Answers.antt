use Rattle.config_warnings.specs.Warnings.{of_sizes}
use Rattle.config_warnings.proofs.Added.{three_added}
use Rattle.config_warnings.proofs.warnings.add_of_sizes.Goals as goal

pub returns : goal.returns
unfolding of_sizes
returns c =
    let first = rw c.is_unspecified-unspecified.ensures at c.in_ok-add_when.ensures in
    let last = rw c.from.ensures at c.add_when-3.ensures in
    three_added c.add_when-3.result c.args.list.now.items c.add_when.new.list.items c.add_when-2.new.list.items c.add_when-3.new.list.items _ _ _ first c.in_ok-add_when-2.ensures last
