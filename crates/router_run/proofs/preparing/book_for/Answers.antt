use Rattle.run_workers.proofs.Making.{new_shares}
use Rattle.router_run.proofs.preparing.book_for.Goals as goal

pub returns : goal.returns
returns g c = new_shares _ _ c.in_ok-made.ensures.count c.in_ok-made.ensures.shares
