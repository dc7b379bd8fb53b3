use Rattle.std.proofs.Common.{Ok, ap, rules, ◌∙◌}
use Rattle.cli_io.specs.declared.fault.LinesFault.TheVariants as faults
use Rattle.cli_route.proofs.RouteLemmas.{answered, cut_short, ended, refused, stopped}
use Rattle.cli_route.proofs.route.route_lines.Goals as goal

pub loop-number-init : goal.loop-number-init
loop-number-init g c = search rules

pub returns-in-Ok-false : goal.returns-in-Ok-false
returns-in-Ok-false g c =
    ended _ _ _ _ _ _ c.loop-number.invariant (rw (c.in-Ok-false.is ∙ ap (λ b. Ok b) c.in-Ok-false.field-0-test) at c.next_line.ensures.lines)

pub returns-in-Err : goal.returns-in-Err
returns-in-Err g c = stopped _ _ _ _ _ _ c.in-Err.fault c.in-Err.ensures.fault c.loop-number.invariant

pub returns-in-Ok-false-answer_line : goal.returns-in-Ok-false-answer_line
returns-in-Ok-false-answer_line g c =
    let read = rw (c.in-Ok-true.is ∙ ap (λ b. Ok b) c.in-Ok-true.field-0-test) at c.next_line.ensures.lines in
    let answer = rw c.in-Ok-false-answer_line.field-0-test at c.in-Ok-false-answer_line.ensures in
    refused _ _ _ _ _ _ _ c.as_slice.result.now c.loop-number.invariant (rw (← c.as_slice.ensures.value) at read) answer

pub returns-in-Err-answer_line : goal.returns-in-Err-answer_line
returns-in-Err-answer_line g c = stopped _ _ _ _ _ _ faults.Memory tt c.loop-number.invariant

pub returns-in-Err-send : goal.returns-in-Err-send
returns-in-Err-send g c =
    let read = rw (c.in-Ok-true.is ∙ ap (λ b. Ok b) c.in-Ok-true.field-0-test) at c.next_line.ensures.lines in
    let answer = rw c.in-Ok-true-answer_line.field-0-test at c.in-Ok-true-answer_line.ensures in
    cut_short _ _ _ _ _ _ _ _ _ c.as_slice.result.now _ faults.Output tt c.loop-number.invariant (rw (← c.as_slice.ensures.value) at read) answer
    (rw c.as_slice-in-loop-number.ensures.value at c.send.ensures.begins.1)

pub loop-number-preserved : goal.loop-number-preserved
loop-number-preserved g c =
    let read = rw (c.in-Ok-true.is ∙ ap (λ b. Ok b) c.in-Ok-true.field-0-test) at c.next_line.ensures.lines in
    let answer = rw c.in-Ok-true-answer_line.field-0-test at c.in-Ok-true-answer_line.ensures in
    answered _ _ _ _ _ _ _ _ c.as_slice.result.now _ c.loop-number.invariant (rw (← c.as_slice.ensures.value) at read) answer
    (rw c.as_slice-in-loop-number.ensures.value at c.in-Ok.ensures.ok)

pub returns : goal.returns
returns g c = stopped _ _ _ _ _ _ faults.Input tt c.loop-number.invariant
