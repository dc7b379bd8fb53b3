use Rattle.counts_page.proofs.Tally.{Counted}
use Rattle.counts_page.proofs.counts_page.tally.Given as goal

abbrev pub invariant-loop-place : goal.invariant-loop-place
invariant-loop-place g l = Counted l.look l.initial.links l.links l.place
