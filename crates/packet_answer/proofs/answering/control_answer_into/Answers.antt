use Rattle.std.proofs.Common.{take}
use Rattle.bfd_answer.specs.Answer.{bfd_reply}
use Rattle.process_packet.specs.Network.{network}
use Rattle.packet_answer.proofs.AnswerLemmas.{control_kept, control_sent}
use Rattle.packet_answer.proofs.answering.control_answer_into.Goals as goal

pub returns-in-Some-clause-answer : goal.returns-in-Some-clause-answer
returns-in-Some-clause-answer c =
    let a = c.args in
    control_sent a.link (bfd_reply (network a.config.now) a.link a.now a.bytes.now) (take c.in-Some.len c.bfd_answer_into.new.out) c.in-Some.ensures.answer

pub returns-in-None-clause-answer : goal.returns-in-None-clause-answer
returns-in-None-clause-answer c =
    let a = c.args in
    control_kept a.link (bfd_reply (network a.config.now) a.link a.now a.bytes.now) c.in-None.ensures.answer
