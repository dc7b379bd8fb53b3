use Rattle.std.proofs.Common.{arith}
use Rattle.replay_steps.proofs.state.State.take.Goals as goal

pub returns-clause-ok : goal.returns-clause-ok
returns-clause-ok c = grind arith steps 1000000

pub returns-clause-not_now : goal.returns-clause-not_now
returns-clause-not_now c = grind arith steps 1000000

pub returns-then-not-is_there-clause-not_now : goal.returns-then-not-is_there-clause-not_now
returns-then-not-is_there-clause-not_now c = grind arith steps 1000000

pub returns-then-is_shut-clause-not_now : goal.returns-then-is_shut-clause-not_now
returns-then-is_shut-clause-not_now c = grind arith steps 1000000

pub returns-in-Some-Got-clause-not_now : goal.returns-in-Some-Got-clause-not_now
returns-in-Some-Got-clause-not_now c = grind arith steps 1000000

pub returns-in_default-clause-not_now : goal.returns-in_default-clause-not_now
returns-in_default-clause-not_now c = grind arith steps 1000000

pub returns-in_err-item-clause-not_now : goal.returns-in_err-item-clause-not_now
returns-in_err-item-clause-not_now c = grind arith steps 1000000
