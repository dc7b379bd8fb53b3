use Rattle.std.proofs.Common.{◌∙◌, ap, arith}
use Rattle.order_laws.specs.Counts.{count}
use Rattle.replay_laws.specs.Pipe.{Pipe, held}
use Rattle.replay_laws.specs.Totals.{is_packet}
use Rattle.router_rules.specs.Rules.{kinds}
use Rattle.pipe_model.proofs.Sums.{total_more}
use Rattle.pipe_model.proofs.counting.in_pipes.Goals as goal

pub loop-pipe-preserved : goal.loop-pipe-preserved
loop-pipe-preserved c =
    let more = total_more (λ p. count is_packet (held p)) c.args.pipes.now c.loop-pipe.pipe-index c.pipe-item.result c.loop-pipe-test.true in
    let here = c.held_packets.ensures ∙ ap (λ (p : Pipe kinds). count is_packet (held p)) c.pipe-item.is in
    record { count = omega (arith, more, here, c.loop-pipe.invariant.count); few = omega (arith, c.loop-pipe.invariant.few, c.held_packets.type_inv) }
