use Rattle.std.proofs.Common.{refl}
use Rattle.path_fields.proofs.InPlaceLemmas.{id_changed}
use Rattle.path_fields.proofs.in_place.set_seg_id.Goals as goal

pub returns-clause-changed : goal.returns-clause-changed
returns-clause-changed c = λ p old-is there. id_changed p c.args.segment c.args.segment_id _ c.args.path.now c.put_u16.new.out c.put_u16.ensures refl old-is there
