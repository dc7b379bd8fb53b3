use Rattle.config_warnings.specs.Warnings.{of_ends}
use Rattle.config_warnings.proofs.Added.{three_added}
use Rattle.config_warnings.proofs.warnings.add_of_ends.Goals as goal

pub returns : goal.returns
unfolding of_ends
returns c =
    let first = rw c.is_same-comes_back.ensures at c.in_ok-add_when.ensures in
    let second = rw c.is_one_version-other_version.ensures at c.in_ok-add_when-2.ensures in
    let last = rw c.is_host_for-no_host.ensures at c.add_when-3.ensures in
    three_added c.add_when-3.result c.args.list.now.items c.add_when.new.list.items c.add_when-2.new.list.items c.add_when-3.new.list.items _ _ _ first second last
