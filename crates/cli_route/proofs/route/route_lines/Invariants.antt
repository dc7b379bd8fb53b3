use Rattle.cli_route.specs.Answers.{answer_to}
use Rattle.cli_route.proofs.RouteLemmas.{Progress}
use Rattle.cli_route.proofs.route.route_lines.Given as goal

abbrev pub invariant-loop-number : goal.invariant-loop-number
invariant-loop-number g l =
    Progress (answer_to l.fn.config l.fn.arriving) (g.R.Read.remaining l.initial.reader) (g.R.Read.remaining l.reader) (g.W.Write.contents l.initial.writer) (g.W.Write.contents l.writer) l.number
