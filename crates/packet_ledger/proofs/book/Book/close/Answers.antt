use Rattle.std.proofs.Common.{rules}
use Rattle.packet_ledger.proofs.book.Book.close.Goals as goal

pub close-requires-clause-shares : goal.close-requires-clause-shares
close-requires-clause-shares g c = search rules

pub returns : goal.returns
returns g c = search rules
