use Rattle.std.proofs.Common.{refl}
use Rattle.run_report.proofs.finishing.report_of.Goals as goal

pub close-totals-requires : goal.close-totals-requires
close-totals-requires g c = c.requires

pub returns-clause-totals : goal.returns-clause-totals
returns-clause-totals g c = c.close-totals.ensures.totals

pub returns-clause-seen : goal.returns-clause-seen
returns-clause-seen g c = c.close-totals.ensures.seen

pub returns-clause-sent : goal.returns-clause-sent
returns-clause-sent g c = refl

pub returns-clause-rows : goal.returns-clause-rows
returns-clause-rows g c = c.close-totals.ensures.rows
