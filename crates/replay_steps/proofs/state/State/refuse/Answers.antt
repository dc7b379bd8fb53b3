use Rattle.std.proofs.lemmas.Grind.{common_steps}
use Rattle.std.proofs.Common.{arith}
use Rattle.replay_steps.proofs.state.State.refuse.Goals as goal

pub returns-then-is_err-clause-err : goal.returns-then-is_err-clause-err
returns-then-is_err-clause-err c = grind (arith, common_steps) steps 1000000

pub returns-clause-ok : goal.returns-clause-ok
returns-clause-ok c = grind arith steps 1000000

pub returns-then-not-is_there-clause-not_now : goal.returns-then-not-is_there-clause-not_now
returns-then-not-is_there-clause-not_now c = grind arith steps 1000000

pub returns-in_default-clause-not_now : goal.returns-in_default-clause-not_now
returns-in_default-clause-not_now c = grind arith steps 1000000

pub returns-then-has_room-clause-not_now : goal.returns-then-has_room-clause-not_now
returns-then-has_room-clause-not_now c = grind arith steps 1000000

pub returns-in_err-note-clause-not_now : goal.returns-in_err-note-clause-not_now
returns-in_err-note-clause-not_now c = grind arith steps 1000000

pub returns-then-is_err-clause-not_now : goal.returns-then-is_err-clause-not_now
returns-then-is_err-clause-not_now c = grind arith steps 1000000

pub returns-clause-not_now : goal.returns-clause-not_now
returns-clause-not_now c = grind arith steps 1000000
