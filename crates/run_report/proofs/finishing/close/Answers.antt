use Rattle.run_report.proofs.finishing.close.Goals as goal

pub returns-in-Some-clause-totals : goal.returns-in-Some-clause-totals
returns-in-Some-clause-totals g c = c.close_after.ensures.totals
