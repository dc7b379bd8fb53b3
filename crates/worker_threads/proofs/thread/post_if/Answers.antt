use Rattle.std.proofs.Common.{sym, ◌∙◌, true≢false}
use Rattle.worker_threads.proofs.thread.post_if.Goals as goal

pub returns-then-due-clause-same : goal.returns-then-due-clause-same
returns-then-due-clause-same g c = (g.met.W.Turns.post_keeps c.args.worker.now c.post.new.self c.post.ensures).0

pub returns-then-due-clause-ended : goal.returns-then-due-clause-ended
returns-then-due-clause-ended g c = (g.met.W.Turns.post_keeps c.args.worker.now c.post.new.self c.post.ensures).1

pub returns-then-due-clause-drained : goal.returns-then-due-clause-drained
returns-then-due-clause-drained g c = λ due. (g.met.W.Turns.post_keeps c.args.worker.now c.post.new.self c.post.ensures).2

pub returns-else-due-clause-same : goal.returns-else-due-clause-same
returns-else-due-clause-same g c = g.met.W.Turns.same_self c.args.worker.now

pub returns-else-due-clause-ended : goal.returns-else-due-clause-ended
returns-else-due-clause-ended g c = λ ended. ended

pub returns-else-due-clause-drained : goal.returns-else-due-clause-drained
returns-else-due-clause-drained g c = λ due. absurd (true≢false (sym due ∙ c.if-due.false))
