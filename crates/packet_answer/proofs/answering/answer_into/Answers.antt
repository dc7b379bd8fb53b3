use Rattle.std.proofs.Common.{sym, ◌∙◌}
use Rattle.packet_answer.proofs.AnswerLemmas.{by_bfd, by_scmp}
use Rattle.packet_answer.proofs.answering.answer_into.Goals as goal

pub returns-then-problem-clause-answer : goal.returns-then-problem-clause-answer
returns-then-problem-clause-answer c =
    let a = c.args in
    c.control_answer_into.ensures.answer ∙ sym (by_bfd a.config.now a.link a.source a.now a.bytes.now a.problem.now c.if-problem.true)

pub returns-else-problem-clause-answer : goal.returns-else-problem-clause-answer
returns-else-problem-clause-answer c =
    let a = c.args in
    c.answer_into.ensures.answer ∙ sym (by_scmp a.config.now a.link a.source a.now a.bytes.now a.problem.now c.if-problem.false)
