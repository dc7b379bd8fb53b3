use Rattle.std.proofs.Common.{arith}
use Rattle.replay_steps.proofs.state.State.step.Goals as goal

pub returns-in-Look-clause-ok : goal.returns-in-Look-clause-ok
returns-in-Look-clause-ok c = grind arith steps 1000000

pub returns-in-Look-clause-not_now : goal.returns-in-Look-clause-not_now
returns-in-Look-clause-not_now c = grind arith steps 1000000

pub returns-in-Receive-clause-ok : goal.returns-in-Receive-clause-ok
returns-in-Receive-clause-ok c = grind arith steps 1000000

pub returns-in-Receive-clause-not_now : goal.returns-in-Receive-clause-not_now
returns-in-Receive-clause-not_now c = grind arith steps 1000000

pub returns-in-NoBuffer-clause-ok : goal.returns-in-NoBuffer-clause-ok
returns-in-NoBuffer-clause-ok c = grind arith steps 1000000

pub returns-in-NoBuffer-clause-not_now : goal.returns-in-NoBuffer-clause-not_now
returns-in-NoBuffer-clause-not_now c = grind arith steps 1000000

pub returns-in-Offer-clause-ok : goal.returns-in-Offer-clause-ok
returns-in-Offer-clause-ok c = grind arith steps 1000000

pub returns-in-Offer-clause-not_now : goal.returns-in-Offer-clause-not_now
returns-in-Offer-clause-not_now c = grind arith steps 1000000

pub returns-in-Refuse-clause-ok : goal.returns-in-Refuse-clause-ok
returns-in-Refuse-clause-ok c = grind arith steps 1000000

pub returns-in-Refuse-clause-not_now : goal.returns-in-Refuse-clause-not_now
returns-in-Refuse-clause-not_now c = grind arith steps 1000000

pub returns-in-Take-clause-ok : goal.returns-in-Take-clause-ok
returns-in-Take-clause-ok c = grind arith steps 1000000

pub returns-in-Take-clause-not_now : goal.returns-in-Take-clause-not_now
returns-in-Take-clause-not_now c = grind arith steps 1000000

pub returns-in-Route-clause-ok : goal.returns-in-Route-clause-ok
returns-in-Route-clause-ok c = grind arith steps 1000000

pub returns-in-Route-clause-not_now : goal.returns-in-Route-clause-not_now
returns-in-Route-clause-not_now c = grind arith steps 1000000

pub returns-in-Answer-clause-ok : goal.returns-in-Answer-clause-ok
returns-in-Answer-clause-ok c = grind arith steps 1000000

pub returns-in-Answer-clause-not_now : goal.returns-in-Answer-clause-not_now
returns-in-Answer-clause-not_now c = grind arith steps 1000000

pub returns-in-Lack-clause-ok : goal.returns-in-Lack-clause-ok
returns-in-Lack-clause-ok c = grind arith steps 1000000

pub returns-in-Lack-clause-not_now : goal.returns-in-Lack-clause-not_now
returns-in-Lack-clause-not_now c = grind arith steps 1000000

pub returns-in-CloseMark-clause-ok : goal.returns-in-CloseMark-clause-ok
returns-in-CloseMark-clause-ok c = grind arith steps 1000000

pub returns-in-CloseMark-clause-not_now : goal.returns-in-CloseMark-clause-not_now
returns-in-CloseMark-clause-not_now c = grind arith steps 1000000

pub returns-in-EndMark-clause-ok : goal.returns-in-EndMark-clause-ok
returns-in-EndMark-clause-ok c = grind arith steps 1000000

pub returns-in-EndMark-clause-not_now : goal.returns-in-EndMark-clause-not_now
returns-in-EndMark-clause-not_now c = grind arith steps 1000000

pub returns-in-Send-clause-ok : goal.returns-in-Send-clause-ok
returns-in-Send-clause-ok c = grind arith steps 1000000

pub returns-in-Send-clause-not_now : goal.returns-in-Send-clause-not_now
returns-in-Send-clause-not_now c = grind arith steps 1000000

pub returns-in-Sweep-clause-ok : goal.returns-in-Sweep-clause-ok
returns-in-Sweep-clause-ok c = grind arith steps 1000000

pub returns-in-Sweep-clause-not_now : goal.returns-in-Sweep-clause-not_now
returns-in-Sweep-clause-not_now c = grind arith steps 1000000
