use Rattle.std.proofs.Common.{arith}
use Rattle.replay_steps.proofs.state.State.answer.Goals as goal

pub returns-in_default-clause-not_now : goal.returns-in_default-clause-not_now
returns-in_default-clause-not_now c = grind arith steps 1000000

pub returns-in_err-made-clause-not_now : goal.returns-in_err-made-clause-not_now
returns-in_err-made-clause-not_now c = grind arith steps 1000000

pub returns-in_err-note-in-Ends-clause-not_now : goal.returns-in_err-note-in-Ends-clause-not_now
returns-in_err-note-in-Ends-clause-not_now c = grind arith steps 1000000

pub returns-in-Makes-clause-not_now : goal.returns-in-Makes-clause-not_now
returns-in-Makes-clause-not_now c = grind arith steps 1000000

pub returns-in_ok-note-in-Ends-clause-not_now : goal.returns-in_ok-note-in-Ends-clause-not_now
returns-in_ok-note-in-Ends-clause-not_now c = grind arith steps 1000000
