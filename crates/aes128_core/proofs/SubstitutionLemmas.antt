-- The S-box on lanes: its sum of two look-ups, and its value.
use Rattle.std.proofs.Common.{◌≡◌, ℕ, ◌<◌, List, [], ◌∷◌, map, bit_xor, refl, ap, ap₂, ◌∙◌, length, replicate, Fits, w8}
use Rattle.std.proofs.lemmas.Simd.{zip2_of_maps, zip2_splat, map-map}
use lib.Lanes.{zip2, Each1}
use Rattle.aes128_core.specs.SBox.{s_box}
use Rattle.aes128_core.specs.Lanes.{p_of, q_of, entry_at, sum_at, coordinates_of, last_of}
use Rattle.aes128_core.proofs.LaneTableRules.{last_at}
use Rattle.aes128_core.proofs.LookUpLemmas.{look_of}

-- two tables, at p and q of each lane
pub sum_of : (for_p for_q x p q r : List ℕ) → r ≡ zip2 bit_xor (map (entry_at for_p) p) (map (entry_at for_q) q)
    → p ≡ map p_of x → q ≡ map q_of x → r ≡ map (sum_at for_p for_q) x
sum_of for_p for_q x p q r e is_p is_q =
    e ∙ zip2_of_maps bit_xor (λ c. entry_at for_p (p_of c)) (λ c. entry_at for_q (q_of c)) x
    (look_of for_p p_of x p _ refl is_p)
    (look_of for_q q_of x q _ refl is_q)

-- two functions that agree at each byte
map_bytes : (f g : ℕ → ℕ) → ((b : ℕ) → b < 256 → f b ≡ g b) → (xs : List ℕ) → Each1 (Fits w8) xs → map f xs ≡ map g xs
map_bytes f g same [] fits = refl
map_bytes f g same (x ∷ xs) fits = ap₂ (λ (y : ℕ) (ys : List ℕ). y ∷ ys) (same x fits.0.fits) (map_bytes f g same xs fits.1)

pub s_box_of : (x coordinates last : List ℕ) → Each1 (Fits w8) x → length last ≡ 16 → coordinates ≡ map coordinates_of x → last ≡ map last_of coordinates
    → zip2 bit_xor last (replicate 16 0x63) ≡ map s_box x
s_box_of x coordinates last fits long e f =
    zip2_splat bit_xor last 16 0x63 long
    ∙ ap (map (λ (a : ℕ). bit_xor a 0x63)) (f ∙ ap (map last_of) e ∙ map-map last_of coordinates_of x)
    ∙ map-map (λ (a : ℕ). bit_xor a 0x63) (λ b. last_of (coordinates_of b)) x
    ∙ map_bytes (λ b. bit_xor (last_of (coordinates_of b)) 0x63) s_box last_at x fits
