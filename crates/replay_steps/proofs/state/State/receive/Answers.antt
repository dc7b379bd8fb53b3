use Rattle.std.proofs.Common.{arith, rules}
use Rattle.replay_steps.proofs.state.State.receive.Goals as goal

pub returns-in_ok-note-clause-ok : goal.returns-in_ok-note-clause-ok
returns-in_ok-note-clause-ok c = search rules

pub returns-then-seat-link_count-clause-not_now : goal.returns-then-seat-link_count-clause-not_now
returns-then-seat-link_count-clause-not_now c = grind arith steps 1000000

pub returns-in-Some-Got-clause-not_now : goal.returns-in-Some-Got-clause-not_now
returns-in-Some-Got-clause-not_now c = grind arith steps 1000000

pub returns-in_default-clause-not_now : goal.returns-in_default-clause-not_now
returns-in_default-clause-not_now c = grind arith steps 1000000

pub returns-in_err-note-clause-not_now : goal.returns-in_err-note-clause-not_now
returns-in_err-note-clause-not_now c = search rules

pub returns-in_err-came-clause-not_now : goal.returns-in_err-came-clause-not_now
returns-in_err-came-clause-not_now c = grind arith steps 1000000

pub returns-in_ok-note-clause-not_now : goal.returns-in_ok-note-clause-not_now
returns-in_ok-note-clause-not_now c = search rules

pub returns-in_ok-came-clause-not_now : goal.returns-in_ok-came-clause-not_now
returns-in_ok-came-clause-not_now c = search rules
