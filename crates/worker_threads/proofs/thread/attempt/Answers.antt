use Rattle.worker_threads.proofs.thread.attempt.Goals as goal

pub returns-then-not-has_room-clause-same : goal.returns-then-not-has_room-clause-same
returns-then-not-has_room-clause-same g c = (g.met.W.Turns.post_keeps c.args.worker.now c.post.new.self c.post.ensures).0

pub returns-clause-same : goal.returns-clause-same
returns-clause-same g c =
    let turned = g.met.W.Turns.turn_keeps c.turn-turn.result c.args.worker.now c.turn-turn.new.self c.turn-turn.ensures in
    g.met.W.Turns.same_then c.args.worker.now c.turn-turn.new.self c.post_if.new.worker turned.0 c.post_if.ensures.same

pub returns-clause-ended : goal.returns-clause-ended
returns-clause-ended g c =
    let turned = g.met.W.Turns.turn_keeps c.turn-turn.result c.args.worker.now c.turn-turn.new.self c.turn-turn.ensures in
    λ e. (c.post_if.ensures.ended (turned.1 e), c.post_if.ensures.drained (c.is_due-due.ensures e))
