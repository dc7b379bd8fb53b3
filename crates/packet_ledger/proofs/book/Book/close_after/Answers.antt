use Rattle.packet_ledger.proofs.Looking.{within}
use Rattle.packet_ledger.proofs.book.Book.close_after.Goals as goal

pub returns-clause-within : goal.returns-clause-within
returns-clause-within g c = within c.args.shares.items c.args.look.now _ _ c.close_after.ensures.grown c.close_after.ensures.last c.close_after.ensures.totals
