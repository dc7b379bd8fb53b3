use Rattle.worker_threads.proofs.BackLemmas.{one_made}
use Rattle.worker_threads.proofs.starting.start_next.Goals as goal

pub returns-in-Some-start_worker-clause-same : goal.returns-in-Some-start_worker-clause-same
returns-in-Some-start_worker-clause-same g c = λ all.
    one_made (λ h. h.promise.0.value) c.args.handles.now.items c.push_reserved.new.self.items c.args.workers.now.items c.pop-2.new.self.items c.in-Some-start_worker.handle c.in-Some-pop.worker
    c.push_reserved.ensures.items c.in-Some-pop.ensures.items c.in-Some-start_worker.ensures
