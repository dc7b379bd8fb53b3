use Rattle.aes128_core.specs.Lanes.{last_of}
use Rattle.aes128_core.specs.declared.lane_tables.TheConstants.{LAST_P, LAST_Q}
use Rattle.aes128_core.proofs.SubstitutionLemmas.{sum_of}
use Rattle.aes128_core.proofs.lanes.last_substituted.Goals as goal

pub returns : goal.returns
unfolding last_of
returns c = sum_of LAST_P LAST_Q c.args.x _ _ _ c.sum_at.ensures c.inverse_parts.ensures.p c.inverse_parts.ensures.q
