use Rattle.worker_threads.proofs.thread.work_on.Given as goal

abbrev pub invariant-loop : goal.invariant-loop
invariant-loop g l = g.W.Stage.same l.fn.worker l.worker
