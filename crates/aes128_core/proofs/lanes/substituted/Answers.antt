use Rattle.aes128_core.specs.Lanes.{substituted_of, doubled_of}
use Rattle.aes128_core.specs.declared.lane_tables.TheConstants.{SUBSTITUTED_P, SUBSTITUTED_Q, DOUBLED_P, DOUBLED_Q}
use Rattle.aes128_core.proofs.SubstitutionLemmas.{sum_of}
use Rattle.aes128_core.proofs.lanes.substituted.Goals as goal

pub returns : goal.returns
unfolding substituted_of doubled_of
returns c = (
  sum_of SUBSTITUTED_P SUBSTITUTED_Q c.args.x _ _ _ c.sum_at.ensures c.inverse_parts.ensures.p c.inverse_parts.ensures.q,
  sum_of DOUBLED_P DOUBLED_Q c.args.x _ _ _ c.sum_at-2.ensures c.inverse_parts.ensures.p c.inverse_parts.ensures.q,
)
