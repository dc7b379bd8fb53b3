use Rattle.aes128_core.proofs.LookUpLemmas.{each_place}
use Rattle.aes128_core.proofs.lanes.moved.Goals as goal

pub look_up-requires : goal.look_up-requires
look_up-requires c = each_place c.args.places c.requires
