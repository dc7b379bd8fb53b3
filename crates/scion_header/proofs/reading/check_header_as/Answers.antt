use Rattle.std.proofs.Common.{rules}
use Rattle.scion_header.proofs.reading.check_header_as.Goals as goal

pub returns-clause-addresses : goal.returns-clause-addresses
returns-clause-addresses c = search rules
