use Rattle.std.proofs.Common.{◌∙◌, ℕ, List, ap}
use Rattle.scmp_answer.specs.Outcome.{Leaves, outcome}
use Rattle.scmp_answer.specs.Reply.{local_address, reply}
use Rattle.scmp_answer.proofs.ReplyLemmas.{was_sent}
use Rattle.scmp_answer.proofs.answering.answer.Goals as goal

pub returns-in-Drop-clause-answer : goal.returns-in-Drop-clause-answer
returns-in-Drop-clause-answer c =
    let a = c.args.arrival.now in
    let same = ap (λ (t : List ℕ). outcome (reply (local_address c.args.config.now) a.link a.source t c.args.problem.now)) c.as_slice-bytes.ensures.value in
    c.in-Drop.ensures.answer ∙ same

pub returns-in-Ok-clause-answer : goal.returns-in-Ok-clause-answer
returns-in-Ok-clause-answer c =
    let a = c.args.arrival.now in
    let same = ap (λ (t : List ℕ). outcome (reply (local_address c.args.config.now) a.link a.source t c.args.problem.now)) c.as_slice-bytes.ensures.value in
    ap (λ (t : List ℕ). Leaves c.in-Send.link c.in-Send.to t) c.in-Ok.ensures.items ∙ c.in-Send.ensures.answer ∙ same

pub returns-in-Err-clause-refused : goal.returns-in-Err-clause-refused
returns-in-Err-clause-refused c =
    let a = c.args.arrival.now in
    let same = ap (λ (t : List ℕ). outcome (reply (local_address c.args.config.now) a.link a.source t c.args.problem.now)) c.as_slice-bytes.ensures.value in
    was_sent (reply (local_address c.args.config.now) a.link a.source a.bytes.items c.args.problem.now) _ _ _ (c.in-Send.ensures.answer ∙ same)
