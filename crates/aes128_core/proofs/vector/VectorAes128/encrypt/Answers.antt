use Rattle.std.proofs.Common.{arith}
use Rattle.aes128_core.proofs.LaneRoundLemmas.{encrypts}
use Rattle.aes128_core.proofs.vector.VectorAes128.encrypt.Goals as goal

pub returns : goal.returns
returns c =
    encrypts c.args.self.now c.self.inside.key c.self.inside.inner c.self.inside.last c.args.block.now _ _ _ _ _ _ _ _ _ _ _
    (omega arith) (omega arith) c.fits-block
    c.self.invariant.0 c.self.invariant.1 c.self.invariant.2 c.self.view_is c.coordinates-x.ensures
    c.round-x.ensures c.round-x-2.ensures c.round-x-3.ensures c.round-x-4.ensures c.round-x-5.ensures
    c.round-x-6.ensures c.round-x-7.ensures c.round-x-8.ensures c.round-x-9.ensures c.last_round.ensures
