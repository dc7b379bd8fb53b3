use Rattle.std.proofs.Common.{arith}
use Rattle.counts_page.proofs.Tally.{all_done, none_yet, one_more}
use Rattle.counts_page.proofs.counts_page.tally.Goals as goal

pub loop-place-init : goal.loop-place-init
loop-place-init g c = none_yet c.args.look.now c.args.links.now

pub loop-place-preserved : goal.loop-place-preserved
loop-place-preserved g c = one_more c.args.look.now c.args.links.now c.loop-place.links c.loop-place.place c.counts_at.result (omega arith) c.loop-place.invariant _ c.counts_at.ensures

pub returns : goal.returns
returns g c = all_done c.args.look.now c.args.links.now c.loop-place.links c.loop-place.place (omega arith) c.loop-place.invariant
