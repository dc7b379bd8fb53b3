use Rattle.std.proofs.Common.{arith, rules}
use Rattle.replay_steps.proofs.state.State.route.Goals as goal

pub returns-then-processor-config-clause-not_now : goal.returns-then-processor-config-clause-not_now
returns-then-processor-config-clause-not_now c = grind arith steps 1000000

pub returns-in_default-clause-not_now : goal.returns-in_default-clause-not_now
returns-in_default-clause-not_now c = grind arith steps 1000000

pub returns-in_err-made-clause-not_now : goal.returns-in_err-made-clause-not_now
returns-in_err-made-clause-not_now c = grind arith steps 1000000

pub returns-in_err-note-in-Ends-clause-not_now : goal.returns-in_err-note-in-Ends-clause-not_now
returns-in_err-note-in-Ends-clause-not_now c = grind arith steps 1000000

pub returns-in-Makes-clause-not_now : goal.returns-in-Makes-clause-not_now
returns-in-Makes-clause-not_now c = search rules

pub returns-in_ok-note-in-Ends-clause-not_now : goal.returns-in_ok-note-in-Ends-clause-not_now
returns-in_ok-note-in-Ends-clause-not_now c = grind arith steps 1000000
