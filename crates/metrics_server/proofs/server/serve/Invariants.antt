use Rattle.metrics_server.proofs.server.serve.Given as goal

abbrev pub invariant-loop : goal.invariant-loop
invariant-loop g l = g.P.Page.becomes l.fn.page l.page
