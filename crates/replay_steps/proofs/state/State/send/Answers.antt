use Rattle.std.proofs.Common.{arith}
use Rattle.replay_steps.proofs.state.State.send.Goals as goal

pub returns-clause-ok : goal.returns-clause-ok
returns-clause-ok c = grind arith steps 2000000

pub returns-then-from-link_count-clause-not_now : goal.returns-then-from-link_count-clause-not_now
returns-then-from-link_count-clause-not_now c = grind arith steps 1000000

pub returns-in_default-clause-not_now : goal.returns-in_default-clause-not_now
returns-in_default-clause-not_now c = grind arith steps 1000000

pub returns-in_err-copy-clause-not_now : goal.returns-in_err-copy-clause-not_now
returns-in_err-copy-clause-not_now c = grind arith steps 1000000

pub returns-in_err-push-clause-not_now : goal.returns-in_err-push-clause-not_now
returns-in_err-push-clause-not_now c = grind arith steps 1000000

pub returns-in_err-note-clause-not_now : goal.returns-in_err-note-clause-not_now
returns-in_err-note-clause-not_now c = grind arith steps 1000000

pub returns-clause-not_now : goal.returns-clause-not_now
returns-clause-not_now c = grind arith steps 1000000
