use Rattle.std.proofs.Common.{◌≡◌, ◌++◌, ◌∙◌, ℕ, List, ap, append_assoc, subst, sym, take}
use Rattle.std.specs.Prelude.{codes}
use Rattle.std.specs.Result.{OnOk}
use Rattle.packet_answer.specs.Answer.{answered}
use Rattle.scmp_answer.specs.Outcome.{Leaves, Outcome, outcome_in}
use Rattle.cli_route.specs.Answers.{outcome_text, sent_text}
use Rattle.cli_route.proofs.answers.push_answer.Goals as goal

pub returns-in_ok-extend_from_slice-in-Send : goal.returns-in_ok-extend_from_slice-in-Send
returns-in_ok-extend_from_slice-in-Send c =
    let a = c.args.arriving.now in
    let old = c.args.text.now.items in
    let new = c.push_sent.new.text.items in
    let bytes = take c.in-Send.len c.answer_into.new.out in
    let told : Leaves c.in-Send.link c.in-Send.to bytes ≡ answered c.args.config.now a.link a.source a.moment c.args.bytes.now c.args.problem.now =
    ap (outcome_in c.answer_into.new.out) (sym c.in-Send.is) ∙ c.answer_into.ensures.answer in
    let sent = sent_text c.in-Send.link c.in-Send.to bytes in
    let both = ap (λ (t : List ℕ). t ++ sent) c.in_ok-extend_from_slice-in-Send.ensures.items ∙ append_assoc old (codes "answer ") sent in
    subst (λ (o : Outcome). OnOk c.push_sent.result (new ≡ old ++ outcome_text o)) told
    (subst (λ (t : List ℕ). OnOk c.push_sent.result (new ≡ t)) both c.push_sent.ensures)
