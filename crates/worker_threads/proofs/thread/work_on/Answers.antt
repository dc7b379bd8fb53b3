use Rattle.worker_threads.proofs.thread.work_on.Goals as goal

pub loop-init : goal.loop-init
loop-init g c = g.met.W.Turns.same_self c.args.worker

pub returns-then-has_ended-clause-same : goal.returns-then-has_ended-clause-same
returns-then-has_ended-clause-same g c = g.met.W.Turns.same_then c.args.worker c.loop.worker c.advance-has_ended.new.worker c.loop.invariant c.advance-has_ended.ensures.same

pub returns-then-has_ended-clause-ended : goal.returns-then-has_ended-clause-ended
returns-then-has_ended-clause-ended g c = (c.advance-has_ended.ensures.ended c.if-has_ended.true).0

pub returns-then-has_ended-clause-posted : goal.returns-then-has_ended-clause-posted
returns-then-has_ended-clause-posted g c = (c.advance-has_ended.ensures.ended c.if-has_ended.true).1

pub loop-preserved : goal.loop-preserved
loop-preserved g c = g.met.W.Turns.same_then c.args.worker c.loop.worker c.advance-has_ended.new.worker c.loop.invariant c.advance-has_ended.ensures.same
