use Rattle.std.proofs.Common.{sym}
use Rattle.path_fields.proofs.ReadingLemmas.{clear_more, peering_found}
use Rattle.path_fields.proofs.meta.no_peering.Goals as goal

pub returns-then-path-k-ne0 : goal.returns-then-path-k-ne0
returns-then-path-k-ne0 c = sym (peering_found c.loop-k.k c.args.count c.args.path.now c.loop-k-test.true c.if-path-k-ne0.true)

pub loop-k-preserved : goal.loop-k-preserved
loop-k-preserved c = clear_more c.loop-k.k c.args.path.now c.loop-k.invariant c.if-path-k-ne0.false
