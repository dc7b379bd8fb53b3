use Rattle.text_values.specs.Shown.{first_groups, group, with_colon}
use Rattle.text_values.proofs.ShownLemmas.{four_added}
use Rattle.text_values.proofs.shown.push_first.Goals as goal

pub returns : goal.returns
unfolding first_groups
returns c =
    four_added c.push_with_colon-3.result c.args.text.now.items c.push_group_at.new.text.items c.push_with_colon.new.text.items c.push_with_colon-2.new.text.items c.push_with_colon-3.new.text.items
    (group c.args.bytes.now 0) (with_colon c.args.bytes.now 1) (with_colon c.args.bytes.now 2) (with_colon c.args.bytes.now 3)
    c.in_ok-push_group_at.ensures c.in_ok-push_with_colon.ensures c.in_ok-push_with_colon-2.ensures c.push_with_colon-3.ensures
