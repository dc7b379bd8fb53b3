use Rattle.std.proofs.Common.{◌≡◌, ℕ, ◌+◌, true, sym, subst, ap, ◌∙◌}
use Rattle.std.specs.List.{sum}
use Rattle.replay_laws.specs.Totals.{answered_count, dropped_count, received_count, sent_count}
use Rattle.process_packet.specs.declared.totals.Totals.{Totals}
use Rattle.pipe_model.specs.Pipeline.{Pipeline, rules_in}
use Rattle.pipe_model.specs.Shown.{totals_of, waiting_of}
use Rattle.pipe_model.proofs.AllCauses.{sum_of_causes}
use Rattle.pipe_model.proofs.world.World.totals.Goals as goal

counted : (p : Pipeline) (t : Totals) → received_count (rules_in p) p.world ≡ sent_count p.world + answered_count p.world + waiting_of p + dropped_count (λ c. true) p.world → t ≡ totals_of p → t.received ≡ t.sent + t.answered + waiting_of p + sum t.dropped
counted p t all e =
    let P : Totals → Type 0 = λ u. u.received ≡ u.sent + u.answered + waiting_of p + sum u.dropped in
    subst P (sym e) (all ∙ ap (λ (k : ℕ). sent_count p.world + answered_count p.world + waiting_of p + k) (sym (sum_of_causes p.world.fates)))

pub returns : goal.returns
returns c =
    let P : Pipeline → Type 0 = λ p. c.counts.result ≡ totals_of p in
    let told = subst P c.self.view_is c.counts.ensures in
    record { counts = told; sum = counted c.args.self.now c.counts.result c.headline.ensures.headline.totals told }
