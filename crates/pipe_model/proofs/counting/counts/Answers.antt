use Rattle.std.proofs.Common.{◌≡◌, ℕ, ◌∙◌, ap, subst, take}
use Rattle.order_laws.specs.Counts.{total}
use Rattle.replay_laws.specs.Pipe.{Pipe}
use Rattle.replay_laws.specs.World.{World}
use Rattle.process_packet.specs.declared.totals.Totals.{Totals}
use Rattle.router_rules.specs.Rules.{kinds}
use Rattle.pipe_model.specs.Pipeline.{Pipeline}
use Rattle.pipe_model.specs.Shown.{totals_of}
use Rattle.pipe_model.proofs.counting.counts.Goals as goal

pub returns : goal.returns
returns c =
    let config = c.args.config.now in
    let told : Totals = record { received = c.taken_of.result; sent = c.packets_sent.result; answered = c.answers_sent.result; dropped = c.dropped.result } in
    let received = c.taken_of.ensures ∙ ap (total (λ (p : Pipe kinds). p.taken)) (c.up_to.ensures ∙ ap (λ (k : ℕ). take k c.state.inside.pipes) c.link_count.ensures.count) in
    let of_world : World kinds → Pipeline = λ w. record { config = config; world = w } in
    let P : World kinds → Type 0 = λ w. told ≡ totals_of (of_world w) in
    subst P c.state.view_is (λ i. record { received = received i; sent = c.packets_sent.ensures i; answered = c.answers_sent.ensures i; dropped = c.dropped.ensures i })
