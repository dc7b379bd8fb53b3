use Rattle.std.proofs.Common.{rules}
use Rattle.address_kinds.proofs.kind.kind_of_v6.Goals as goal

pub returns-then-eq-3 : goal.returns-then-eq-3
returns-then-eq-3 c = search rules
