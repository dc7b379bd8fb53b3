use Rattle.std.proofs.Common.{refl}
use Rattle.aes128_core.specs.Lanes.{low_of, high_of, j_of, under_p, under_q, p_of, q_of}
use Rattle.aes128_core.proofs.InverseLemmas.{j_is, under_p_is, under_q_is, p_is, q_is}
use Rattle.aes128_core.proofs.LookUpLemmas.{places_of}
use Rattle.aes128_core.proofs.lanes.inverse_parts.Goals as goal

pub look_up-ratio-requires : goal.look_up-ratio-requires
look_up-ratio-requires c = places_of low_of c.args.x _ c.fits-x c.halves.ensures.0 refl

pub look_up-requires : goal.look_up-requires
look_up-requires c = places_of high_of c.args.x _ c.fits-x c.halves.ensures.1 refl

pub look_up-requires-2 : goal.look_up-requires-2
look_up-requires-2 c = places_of j_of c.args.x _ c.fits-x (j_is c.args.x c.halves.result.0 c.halves.result.1 c.halves.ensures.0 c.halves.ensures.1) refl

pub look_up-requires-3 : goal.look_up-requires-3
look_up-requires-3 c =
    places_of under_p c.args.x _ c.fits-x
    (under_p_is c.args.x c.halves.result.0 c.halves.result.1 c.halves.ensures.0 c.halves.ensures.1 c.look_up-ratio.result c.look_up.result c.look_up-ratio.ensures c.look_up.ensures) refl

pub look_up-requires-4 : goal.look_up-requires-4
look_up-requires-4 c =
    places_of under_q c.args.x _ c.fits-x
    (under_q_is c.args.x c.halves.result.0 c.halves.result.1 c.halves.ensures.0 c.halves.ensures.1 c.look_up-ratio.result c.look_up-2.result c.look_up-ratio.ensures c.look_up-2.ensures) refl

pub returns : goal.returns
returns c =
    let under_p = under_p_is c.args.x c.halves.result.0 c.halves.result.1 c.halves.ensures.0 c.halves.ensures.1 c.look_up-ratio.result c.look_up.result c.look_up-ratio.ensures c.look_up.ensures in
    let under_q = under_q_is c.args.x c.halves.result.0 c.halves.result.1 c.halves.ensures.0 c.halves.ensures.1 c.look_up-ratio.result c.look_up-2.result c.look_up-ratio.ensures c.look_up-2.ensures in
    let p = p_is c.args.x c.halves.result.0 c.halves.result.1 c.halves.ensures.0 c.halves.ensures.1 _ c.look_up-3.result under_p c.look_up-3.ensures in
    let q = q_is c.args.x c.halves.result.0 c.halves.result.1 c.halves.ensures.0 c.halves.ensures.1 _ c.look_up-4.result under_q c.look_up-4.ensures in
    record { p = p; q = q; places = (places_of p_of c.args.x _ c.fits-x p refl, places_of q_of c.args.x _ c.fits-x q refl) }
