use Rattle.std.proofs.Common.{rules}
use Rattle.path_fields.proofs.lengths.segment_of.Goals as goal

pub returns-then-hop-from-clause-segment : goal.returns-then-hop-from-clause-segment
returns-then-hop-from-clause-segment c = search rules
