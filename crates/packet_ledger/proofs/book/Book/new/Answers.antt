use Rattle.std.proofs.Common.{rules}
use Rattle.packet_ledger.proofs.book.Book.new.Goals as goal

pub new-requires-clause-token : goal.new-requires-clause-token
new-requires-clause-token g c = search rules

pub returns-clause-count : goal.returns-clause-count
returns-clause-count g c = search rules
