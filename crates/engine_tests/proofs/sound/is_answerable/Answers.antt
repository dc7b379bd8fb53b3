use Rattle.engine_tests.proofs.sound.is_answerable.Goals as goal

pub returns-then-problem : goal.returns-then-problem
returns-then-problem c is_so = record {
  by_bfd = λ _. record { sound = c.is_whole_control.ensures.sound is_so; whole = c.is_whole_control.ensures.whole is_so };
  by_scmp = λ other. absurd (other c.if-problem.true);
}

pub returns-else-problem : goal.returns-else-problem
returns-else-problem c is_so = record { by_bfd = λ is. absurd (c.if-problem.false is); by_scmp = λ _. c.is_sound.ensures is_so }
