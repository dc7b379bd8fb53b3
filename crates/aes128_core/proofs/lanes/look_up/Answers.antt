use Rattle.aes128_core.proofs.LookUpLemmas.{places_ok, looked_up}
use Rattle.aes128_core.proofs.lanes.look_up.Goals as goal

pub swizzle : goal.swizzle
swizzle c = places_ok c.args.at c.fits-at c.requires

pub returns : goal.returns
returns c = looked_up c.args.table c.args.at c.fits-at
