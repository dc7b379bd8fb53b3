use Rattle.worker_threads.proofs.thread.rest_posted.Goals as goal

pub returns-then-not-wait_posted : goal.returns-then-not-wait_posted
returns-then-not-wait_posted g c = c.wait_posted.ensures

pub returns-else-not-wait_posted : goal.returns-else-not-wait_posted
returns-else-not-wait_posted g c = c.wait_posted.ensures
