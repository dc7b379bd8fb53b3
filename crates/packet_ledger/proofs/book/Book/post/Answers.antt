use Rattle.std.proofs.Common.{rules}
use Rattle.packet_ledger.proofs.book.Book.post.Goals as goal

pub returns : goal.returns
returns g c = search rules
