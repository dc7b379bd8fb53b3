-- Look-ups, lane by lane.
use Rattle.std.proofs.Common.{◌≡◌, ℕ, ◌+◌, ◌*◌, ◌/◌, ◌<◌, Bool, true, false, ◌&&◌, [], ◌∷◌, cond, leb, T, List, length, map, get_or, refl, sym, ap, ◌∙◌, subst, Fits, w8, arith}
use Rattle.std.proofs.lemmas.Bool.{agree_below, agree_below_at}
use Rattle.std.proofs.lemmas.List.{get_or-map, length-map, ext_get_or}
use Rattle.std.proofs.lemmas.Simd.{Each1-get_or, Each1-from_get_or, map-map, swz_l, SwzOk, SwzOk-from_Each1, length-swz_l, get_or-swz_l}
use lib.Lanes.{Each1}
use Rattle.aes128_core.specs.Lanes.{entry_at, is_place, all_places}

abbrev pub IsVector : List ℕ → Type 0
IsVector v = (length v ≡ 16) × Each1 (Fits w8) v

and_parts : (b c : Bool) → T (b && c) → T b × T c
and_parts true true h = (tt, tt)
and_parts true false h = absurd h
and_parts false c h = absurd h

pub each_place : (places : List ℕ) → T (all_places places) → Each1 (λ j. T (is_place j)) places
each_place [] h = tt
each_place (j ∷ js) h = let parts = and_parts (is_place j) (all_places js) h in (parts.0, each_place js parts.1)

-- ---- a look-up

pub places_ok : (at : List ℕ) → IsVector at → Each1 (λ j. T (is_place j)) at → SwzOk w8 16 16 0 at
places_ok at fits places = SwzOk-from_Each1 w8 16 1 16 0 at refl (omega (arith, fits.0)) places

pub looked_up : (table at : List ℕ) → IsVector at → swz_l w8 16 table 0 at ≡ map (entry_at table) at
looked_up table at fits =
    ext_get_or 0 _ _ (length-swz_l w8 16 table 0 at ∙ sym (length-map at (entry_at table))) (λ i h.
    let within : i < length at = omega (arith, length-swz_l w8 16 table 0 at) in
    let lane : i < 16 = omega (arith, fits.0) in
    let here : 16 * ((0 + i) / 16) + get_or at i 0 ≡ get_or at i 0 = omega arith in
    get_or-swz_l w8 16 table 0 at i within
    ∙ ap (λ (k : ℕ). cond (leb 128 (get_or at i 0)) 0 (get_or table k 0)) here
    ∙ sym (get_or-map (entry_at table) at i 0 0 within))

-- the lanes g x are places, by a test of every byte
pub places_of : (g : ℕ → ℕ) (x at : List ℕ) → IsVector x → at ≡ map g x
    → agree_below (λ b. is_place (g b)) (λ _. true) 256 ≡ true → Each1 (λ j. T (is_place j)) at
places_of g x at fits e test =
    subst (Each1 (λ j. T (is_place j))) (sym e)
    (Each1-from_get_or (λ j. T (is_place j)) (map g x) 0 (λ i h.
    let within : i < length x = omega (arith, length-map x g) in
    let lt : get_or x i 0 < 256 = (Each1-get_or (Fits w8) x i 0 within fits.1).fits in
    let is = agree_below_at (λ b. is_place (g b)) (λ _. true) 256 (get_or x i 0) test lt in
    subst (λ (j : ℕ). T (is_place j)) (sym (get_or-map g x i 0 0 within)) (subst T (sym is) tt)))

-- a look-up at lanes that are a function of x
pub look_of : (table : List ℕ) (g : ℕ → ℕ) (x at r : List ℕ) → r ≡ map (entry_at table) at → at ≡ map g x → r ≡ map (λ b. entry_at table (g b)) x
look_of table g x at r e is = e ∙ ap (map (entry_at table)) is ∙ map-map (entry_at table) g x
