use Rattle.std.proofs.Common.{refl, bit_xor}
use Rattle.std.proofs.lemmas.Simd.{zip2_of_maps}
use Rattle.aes128_core.specs.Lanes.{low_of, high_of, entry_at, coordinates_of}
use Rattle.aes128_core.specs.declared.lane_tables.TheConstants.{LOW_COORDINATES, HIGH_COORDINATES}
use Rattle.aes128_core.proofs.LookUpLemmas.{places_of, look_of}
use Rattle.aes128_core.proofs.lanes.coordinates.Goals as goal

pub look_up-low-requires : goal.look_up-low-requires
look_up-low-requires c = places_of low_of c.args.x _ c.fits-x c.halves.ensures.0 refl

pub look_up-high-requires : goal.look_up-high-requires
look_up-high-requires c = places_of high_of c.args.x _ c.fits-x c.halves.ensures.1 refl

pub returns : goal.returns
unfolding coordinates_of
returns c =
    zip2_of_maps bit_xor (λ b. entry_at LOW_COORDINATES (low_of b)) (λ b. entry_at HIGH_COORDINATES (high_of b)) c.args.x
    (look_of LOW_COORDINATES low_of c.args.x _ _ c.look_up-low.ensures c.halves.ensures.0)
    (look_of HIGH_COORDINATES high_of c.args.x _ _ c.look_up-high.ensures c.halves.ensures.1)
