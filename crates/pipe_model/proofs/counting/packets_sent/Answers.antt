use Rattle.std.proofs.Common.{◌∙◌, ℕ, List, [], not, get_or, ap, arith}
use Rattle.order_laws.specs.Counts.{count}
use Rattle.order_laws.specs.Item.{Outgoing}
use Rattle.router_rules.specs.Rules.{kinds}
use Rattle.replay_state.specs.Sent.{left}
use Rattle.router_rules.specs.declared.outgoing.Outgoing.{Outgoing as Left}
use Rattle.pipe_model.proofs.Sums.{count-map, total_more}
use Rattle.pipe_model.proofs.counting.packets_sent.Goals as goal

pub loop-link-preserved : goal.loop-link-preserved
loop-link-preserved c =
    let sent = c.args.sent.now in
    let link = c.loop-link.link in
    let none : List (Outgoing kinds) = [] in
    let more = total_more (count (λ (o : Outgoing kinds). not o.answer)) sent link none (omega arith) in
    let here = c.packets_among.ensures ∙ (ap (count (λ (e : Left × List ℕ). not e.0.answer)) c.on.ensures ∙ count-map left (λ (e : Left × List ℕ). not e.0.answer) (get_or sent link none)) in
    record { count = omega (arith, more, here, c.loop-link.invariant.count); few = omega (arith, c.loop-link.invariant.few, c.packets_among.type_inv) }
