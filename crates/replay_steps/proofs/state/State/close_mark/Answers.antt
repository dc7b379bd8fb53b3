use Rattle.std.proofs.Common.{arith}
use Rattle.replay_steps.proofs.state.State.close_mark.Goals as goal

pub returns-in_err-push-clause-not_now : goal.returns-in_err-push-clause-not_now
returns-in_err-push-clause-not_now c = grind arith steps 1000000

pub returns-clause-ok : goal.returns-clause-ok
returns-clause-ok c = grind arith steps 1000000

pub returns-clause-not_now : goal.returns-clause-not_now
returns-clause-not_now c = grind arith steps 1000000

pub returns-then-not-is_there-clause-not_now : goal.returns-then-not-is_there-clause-not_now
returns-then-not-is_there-clause-not_now c = grind arith steps 1000000

pub returns-then-is_marked-clause-not_now : goal.returns-then-is_marked-clause-not_now
returns-then-is_marked-clause-not_now c = grind arith steps 1000000

pub returns-then-has_end_of-clause-not_now : goal.returns-then-has_end_of-clause-not_now
returns-then-has_end_of-clause-not_now c = grind arith steps 1000000
