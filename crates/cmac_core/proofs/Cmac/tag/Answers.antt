use Rattle.std.proofs.Common.{◌<◌, ◌≤◌, length, arith}
use Rattle.cmac_core.proofs.Chain.{tag_from_more, tag_from_last, last_whole, last_filled}
use Rattle.cmac_core.proofs.Cmac.tag.Goals as goal
use Rattle.cmac_core.proofs.Cmac.tag.Goals.{then-rest-eq16, else-rest-eq16}

pub loop-rest-preserved : goal.loop-rest-preserved
loop-rest-preserved c =
    let long : 16 < length c.loop-rest.rest.now = omega arith in
    let more = tag_from_more c.args.self.now c.loop-rest.chained c.loop-rest.rest.now long in
    cc

pub returns : goal.returns
returns c =
    let short : length c.loop-rest.rest.now ≤ 16 = omega arith in
    let last = tag_from_last c.args.self.now c.loop-rest.chained c.loop-rest.rest.now short in
    elim c.if-rest-eq16.branch [
      | then-rest-eq16 w ↦ (let e = last_whole c.args.self.now c.loop-rest.rest.now w.if-rest-eq16.true in cc)
      | else-rest-eq16 w ↦ (let e = last_filled c.args.self.now c.loop-rest.rest.now w.if-rest-eq16.false in cc)
    ]
