use Rattle.std.proofs.Common.{sym, true≢false}
use Rattle.worker_threads.proofs.thread.pause.Goals as goal

pub nap_posted-requires : goal.nap_posted-requires
nap_posted-requires g c = (g.met.W.Turns.post_keeps c.args.worker.now c.post.new.self c.post.ensures).2

pub returns-then-gathers-clause-same : goal.returns-then-gathers-clause-same
returns-then-gathers-clause-same g c = (g.met.W.Turns.post_keeps c.args.worker.now c.post.new.self c.post.ensures).0

pub returns-then-gathers-clause-ended : goal.returns-then-gathers-clause-ended
returns-then-gathers-clause-ended g c = λ e. absurd (true≢false (sym e))

pub returns-in-Some-clause-same : goal.returns-in-Some-clause-same
returns-in-Some-clause-same g c = c.sleep_on.ensures.same

pub returns-in-Some-clause-ended : goal.returns-in-Some-clause-ended
returns-in-Some-clause-ended g c = c.sleep_on.ensures.ended

pub rest_posted-requires : goal.rest_posted-requires
rest_posted-requires g c = (g.met.W.Turns.post_keeps c.args.worker.now c.post-2.new.self c.post-2.ensures).2

pub returns-clause-same : goal.returns-clause-same
returns-clause-same g c =
    let posted = g.met.W.Turns.post_keeps c.args.worker.now c.post-2.new.self c.post-2.ensures in
    g.met.W.Turns.same_then c.args.worker.now c.post-2.new.self c.rest_posted.new.worker posted.0 c.rest_posted.ensures

pub returns-clause-ended : goal.returns-clause-ended
returns-clause-ended g c = λ e. absurd (true≢false (sym e))
