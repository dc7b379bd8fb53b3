use Rattle.std.proofs.Common.{◌≡◌, Some, Err, ap, sym, ◌∙◌}
use Rattle.cli_replay.specs.StepLine.{step_of_line}
use Rattle.cli_replay.proofs.ReplayLemmas.{acted_lack, acted_note}
use Rattle.cli_replay.proofs.replay.act.Goals as goal

pub returns-in-Err-NotNow : goal.returns-in-Err-NotNow
returns-in-Err-NotNow g c =
    let p = c.args.world.now in
    let step : step_of_line p.config c.args.line.now ≡ Some c.in-Some.step =
    ap (λ k. step_of_line k c.args.line.now) (sym c.config.ensures) ∙ sym c.read_step.ensures ∙ c.in-Some.is in
    let told = c.in-Err-NotNow.is ∙ ap (λ e. Err e) c.in-Err-NotNow.field-0-is in
    acted_note c.args.number p c.args.line.now c.in-Some.step c.step.new.self c.note.result (g.W.Write.contents c.args.writer.now) (g.W.Write.contents c.note.new.writer)
    step (c.step.ensures.not_now.0 told) (rw told at c.step.ensures.err) c.note.ensures.ok c.note.ensures.begins c.note.ensures.fault

pub returns-in-Err-NoMemory : goal.returns-in-Err-NoMemory
returns-in-Err-NoMemory g c =
    let p = c.args.world.now in
    let step : step_of_line p.config c.args.line.now ≡ Some c.in-Some.step =
    ap (λ k. step_of_line k c.args.line.now) (sym c.config.ensures) ∙ sym c.read_step.ensures ∙ c.in-Some.is in
    acted_lack c.args.number p c.args.line.now c.in-Some.step c.step.new.self (g.W.Write.contents c.args.writer.now) step
