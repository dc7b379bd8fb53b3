use Rattle.std.proofs.Common.{◌≤◌, arith, length, length-take-le, refl, rules, take}
use Rattle.metrics_server.proofs.Heads.{none_yet}
use Rattle.metrics_server.proofs.Heard.{heard}
use Rattle.metrics_server.proofs.exchange.read_request.Goals as goal

pub loop-turn-init : goal.loop-turn-init
loop-turn-init g c = (refl, omega arith, omega arith, search rules, none_yet)

pub returns-then-ne-clause-heard : goal.returns-then-ne-clause-heard
returns-then-ne-clause-heard g c =
    let fits : c.in-Some.more ≤ length c.args.buffer.now = omega (arith, c.in-Some.ensures.within.1, c.in-Some.ensures.same, c.loop-turn.invariant.0) in
    heard (g.I.Read.remaining c.args.reader.now) (g.I.Read.remaining c.read_more.new.reader) c.in-Some.more (take c.in-Some.more c.read_more.new.buffer) c.asked_within-so_far.result
    (omega (arith, fits, c.requires)) (length-take-le c.in-Some.more c.read_more.new.buffer c.in-Some.ensures.within.1) (c.in-Some.ensures.bytes (g.I.Read.remaining c.args.reader.now) c.loop-turn.invariant.3) c.asked_within-so_far.ensures
