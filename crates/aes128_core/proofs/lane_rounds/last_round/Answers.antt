use Rattle.std.proofs.Common.{ap, ◌∙◌, List, ℕ}
use Rattle.aes128_core.specs.Lanes.{moved}
use Rattle.aes128_core.specs.LaneRounds.{last_round_lanes, xor_lanes}
use Rattle.aes128_core.specs.declared.lane_tables.TheConstants.{LAST_SHIFT}
use Rattle.aes128_core.proofs.lane_rounds.last_round.Goals as goal

pub returns : goal.returns
unfolding last_round_lanes
returns c = ap (λ (v : List ℕ). xor_lanes v c.args.key) (c.moved.ensures ∙ ap (λ (v : List ℕ). moved v LAST_SHIFT) c.last_substituted.ensures)
