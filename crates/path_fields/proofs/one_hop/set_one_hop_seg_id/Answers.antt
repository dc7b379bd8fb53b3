use Rattle.path_fields.proofs.OneHopLemmas.{one_hop_id_changed}
use Rattle.path_fields.proofs.one_hop.set_one_hop_seg_id.Goals as goal

pub returns-clause-bytes : goal.returns-clause-bytes
returns-clause-bytes c = c.put_u16.ensures

pub returns-clause-changed : goal.returns-clause-changed
returns-clause-changed c = λ p old-is. one_hop_id_changed p c.args.segment_id c.args.path.now c.put_u16.new.out c.put_u16.ensures old-is
