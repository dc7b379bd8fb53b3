use Rattle.std.proofs.lemmas.Grind.{common_steps}
use Rattle.std.proofs.Common.{arith, rules}
use Rattle.path_fields.proofs.meta.check_path.Goals as goal

pub returns-then-hop-hop_count-clause-fault : goal.returns-then-hop-hop_count-clause-fault
returns-then-hop-hop_count-clause-fault c = search rules

pub returns-then-meta-segment_of-clause-fault : goal.returns-then-meta-segment_of-clause-fault
returns-then-meta-segment_of-clause-fault c = search rules

pub returns-then-not-no_peering-clause-fault : goal.returns-then-not-no_peering-clause-fault
returns-then-not-no_peering-clause-fault c = search rules

pub returns-clause-fault : goal.returns-clause-fault
returns-clause-fault c = grind (arith, common_steps)

pub returns-clause-whole : goal.returns-clause-whole
returns-clause-whole c = search rules
