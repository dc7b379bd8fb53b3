use Rattle.std.proofs.Common.{◌≡◌, ◌∙◌, ℕ, inr, ap, subst}
use Rattle.order_laws.specs.Settled.{SlowPathRequest}
use Rattle.process_packet.specs.declared.cause.Cause.TheVariants as cause
use Rattle.router_rules.specs.Rules.{kinds}
use Rattle.worker_processor.specs.Exits.{DroppedAs}
use Rattle.worker_processor.proofs.exits.Exits.ask.Goals as goal

pub returns-in-Err : goal.returns-in-Err
returns-in-Err g c =
    let link : c.link-link.result ≡ c.args.request.arrival.link = c.link-link.ensures.link ∙ ap (λ (q : SlowPathRequest kinds). q.arrival.link) c.in-Err.ensures.0 in
    inr (c.in-Err.ensures.1, subst (λ (k : ℕ). DroppedAs k cause.AnswerFull c.args.self.now c.drop_for.new.self) link c.drop_for.ensures)
