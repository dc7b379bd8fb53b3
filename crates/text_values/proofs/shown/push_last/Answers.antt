use Rattle.text_values.specs.Shown.{last_groups, with_colon}
use Rattle.text_values.proofs.ShownLemmas.{four_added}
use Rattle.text_values.proofs.shown.push_last.Goals as goal

pub returns : goal.returns
unfolding last_groups
returns c =
    four_added c.push_with_colon-4.result c.args.text.now.items c.push_with_colon.new.text.items c.push_with_colon-2.new.text.items c.push_with_colon-3.new.text.items c.push_with_colon-4.new.text.items
    (with_colon c.args.bytes.now 4) (with_colon c.args.bytes.now 5) (with_colon c.args.bytes.now 6) (with_colon c.args.bytes.now 7)
    c.in_ok-push_with_colon.ensures c.in_ok-push_with_colon-2.ensures c.in_ok-push_with_colon-3.ensures c.push_with_colon-4.ensures
