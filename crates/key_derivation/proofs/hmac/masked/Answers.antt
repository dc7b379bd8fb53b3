use Rattle.std.proofs.Common.{◌<◌, length, arith}
use Rattle.key_derivation.proofs.KeyLemmas.{masked_more}
use Rattle.key_derivation.proofs.hmac.masked.Goals as goal

pub loop-byte-preserved : goal.loop-byte-preserved
loop-byte-preserved c =
    let here : c.loop-byte.byte-index < length c.args.key.now = omega arith in
    masked_more c.args.mask c.args.key.now c.loop-byte.byte-items c.loop-byte.byte-index here c.loop-byte.invariant
