use Rattle.std.proofs.Common.{◌∙◌, ap}
use Rattle.order_laws.specs.Counts.{count}
use Rattle.replay_laws.specs.Pipe.{Entry}
use Rattle.replay_laws.specs.Totals.{is_packet}
use Rattle.router_rules.specs.Rules.{kinds}
use Rattle.pipe_model.proofs.Sums.{held_count}
use Rattle.pipe_model.proofs.counting.held_packets.Goals as goal

pub returns : goal.returns
returns c = c.packets.ensures ∙ (ap (count (λ (e : Entry kinds). is_packet e.item)) c.held.ensures ∙ held_count c.args.pipe.now)
