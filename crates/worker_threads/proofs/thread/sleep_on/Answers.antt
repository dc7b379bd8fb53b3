use Rattle.std.proofs.Common.{sym, true≢false}
use Rattle.worker_threads.proofs.thread.sleep_on.Goals as goal

pub returns-in-Did-clause-same : goal.returns-in-Did-clause-same
returns-in-Did-clause-same g c = c.attempt.ensures.same

pub returns-in-Did-clause-ended : goal.returns-in-Did-clause-ended
returns-in-Did-clause-ended g c = λ e. absurd (true≢false (sym e))

pub sleep_posted-requires : goal.sleep_posted-requires
sleep_posted-requires g c = (g.met.W.Turns.post_keeps c.attempt.new.worker c.post.new.self c.post.ensures).2

pub returns-in-Quiet-clause-same : goal.returns-in-Quiet-clause-same
returns-in-Quiet-clause-same g c =
    let posted = g.met.W.Turns.post_keeps c.attempt.new.worker c.post.new.self c.post.ensures in
    g.met.W.Turns.same_then c.args.worker.now c.attempt.new.worker c.post.new.self c.attempt.ensures.same posted.0

pub returns-in-Quiet-clause-ended : goal.returns-in-Quiet-clause-ended
returns-in-Quiet-clause-ended g c = λ e. absurd (true≢false (sym e))

pub returns-in-Ended-clause-same : goal.returns-in-Ended-clause-same
returns-in-Ended-clause-same g c = c.attempt.ensures.same

pub returns-in-Ended-clause-ended : goal.returns-in-Ended-clause-ended
returns-in-Ended-clause-ended g c = λ e. c.attempt.ensures.ended c.in-Ended.is
