use Rattle.std.proofs.Common.{◌≡◌, ◌∙◌, ℕ, List, ap, sym}
use Rattle.packet_answer.specs.Answer.{answered}
use Rattle.replay_laws.specs.Next as next
use Rattle.router_rules.specs.Rules.{by_outcome}
use Rattle.scmp_answer.specs.Outcome.{Outcome, Stays, outcome_in}
use Rattle.replay_state.specs.Items.{arrival_in}
use Rattle.replay_state.proofs.rules.reply.Goals as goal

pub returns-in-Drop : goal.returns-in-Drop
returns-in-Drop c =
    let r = c.args.config.now in
    let x = c.args.request.now.came in
    let problem = c.args.request.now.problem in
    let told : Stays c.in-Drop.reason ≡ answered r x.interface x.source x.now x.bytes problem =
    ap (outcome_in c.answer_into.new.out) (sym c.in-Drop.is)
    ∙ c.answer_into.ensures.answer
    ∙ ap (λ (t : List ℕ). answered r x.interface x.source x.now t problem) c.as_slice-bytes.ensures in
    ap (λ (o : Outcome). next.replied (arrival_in x) (by_outcome r x.interface o)) told
