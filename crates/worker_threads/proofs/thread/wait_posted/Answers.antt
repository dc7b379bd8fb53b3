use Rattle.worker_threads.proofs.thread.wait_posted.Goals as goal

pub returns : goal.returns
returns g c = g.met.W.Turns.wait_keeps c.wait.result c.args.worker.now c.wait.new.self c.wait.ensures
