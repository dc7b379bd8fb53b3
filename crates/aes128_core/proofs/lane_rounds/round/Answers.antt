use Rattle.aes128_core.proofs.LaneRoundLemmas.{round_lanes_of}
use Rattle.aes128_core.proofs.lane_rounds.round.Goals as goal

pub returns : goal.returns
returns c =
    round_lanes_of c.args.below c.args.above c.args.x c.args.key c.substituted.result.0 c.substituted.result.1 _ _ _ c.substituted.ensures.0 c.substituted.ensures.1
    c.moved.ensures c.moved-2.ensures c.moved-3.ensures
