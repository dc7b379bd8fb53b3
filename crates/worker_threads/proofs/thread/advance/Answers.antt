use Rattle.std.proofs.Common.{sym, true≢false}
use Rattle.worker_threads.proofs.thread.advance.Goals as goal

pub wait_posted-requires : goal.wait_posted-requires
wait_posted-requires g c = (g.met.W.Turns.post_keeps c.attempt.new.worker c.post.new.self c.post.ensures).2

pub returns-then-waits_at_once-clause-same : goal.returns-then-waits_at_once-clause-same
returns-then-waits_at_once-clause-same g c =
    let posted = g.met.W.Turns.post_keeps c.attempt.new.worker c.post.new.self c.post.ensures in
    let waited = g.met.W.Turns.same_then c.attempt.new.worker c.post.new.self c.wait_posted.new.worker posted.0 c.wait_posted.ensures in
    g.met.W.Turns.same_then c.args.worker.now c.attempt.new.worker c.wait_posted.new.worker c.attempt.ensures.same waited

pub returns-then-waits_at_once-clause-ended : goal.returns-then-waits_at_once-clause-ended
returns-then-waits_at_once-clause-ended g c = λ e. absurd (true≢false (sym e))

pub returns-else-is_none-clause-same : goal.returns-else-is_none-clause-same
returns-else-is_none-clause-same g c = c.attempt.ensures.same

pub returns-else-is_none-clause-ended : goal.returns-else-is_none-clause-ended
returns-else-is_none-clause-ended g c = λ e. absurd (true≢false (sym e))

pub returns-in-Quiet-clause-same : goal.returns-in-Quiet-clause-same
returns-in-Quiet-clause-same g c = g.met.W.Turns.same_then c.args.worker.now c.attempt.new.worker c.pause.new.worker c.attempt.ensures.same c.pause.ensures.same

pub returns-in-Quiet-clause-ended : goal.returns-in-Quiet-clause-ended
returns-in-Quiet-clause-ended g c = c.pause.ensures.ended

pub returns-in-Ended-clause-same : goal.returns-in-Ended-clause-same
returns-in-Ended-clause-same g c = c.attempt.ensures.same

pub returns-in-Ended-clause-ended : goal.returns-in-Ended-clause-ended
returns-in-Ended-clause-ended g c = λ e. c.attempt.ensures.ended c.in-Ended.is
