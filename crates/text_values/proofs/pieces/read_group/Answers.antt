use Rattle.std.proofs.lemmas.Grind.{common_steps}
use Rattle.std.proofs.Common.{◌≤◌, length, arith, rules}
use Rattle.std.specs.Prelude.{slice_index, ◌≢◌}
use Rattle.text_values.proofs.NumberLemmas.{group_read, group_refused}
use Rattle.text_values.proofs.pieces.read_group.Goals as goal

pub returns-in-Ok : goal.returns-in-Ok
returns-in-Ok c =
    let few : length c.args.text.now ≤ 4 = omega arith in
    let other : slice_index c.args.text.now 0 ≢ 43 = search rules in
    group_read c.args.text.now c.in-Ok.group c.in-Ok.ensures.value few other

pub returns-in-Err : goal.returns-in-Err
returns-in-Err c =
    let few : length c.args.text.now ≤ 4 = omega arith in
    let other : slice_index c.args.text.now 0 ≢ 43 = search rules in
    group_refused c.args.text.now c.in-Err.ensures.value few other

pub returns-then-is_empty : goal.returns-then-is_empty
returns-then-is_empty c = grind (arith, common_steps)
