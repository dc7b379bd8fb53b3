use Rattle.run_pipes.proofs.handing.outlets.Goals as goal

pub next_ends-requires-clause-pipes : goal.next_ends-requires-clause-pipes
next_ends-requires-clause-pipes g c = c.requires.pipes

pub next_ends-requires-clause-fits : goal.next_ends-requires-clause-fits
next_ends-requires-clause-fits g c = λ j lt. c.requires.each

pub returns-clause-ends : goal.returns-clause-ends
returns-clause-ends g c = c.in_ok-ends.ensures.ends
