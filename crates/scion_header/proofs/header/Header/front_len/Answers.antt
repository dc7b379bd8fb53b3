use Rattle.std.proofs.Common.{rules}
use Rattle.scion_header.proofs.header.Header.front_len.Goals as goal

pub returns : goal.returns
returns c = search rules
