-- Which pipes of links are used: of each link the low band's, and the high band's where it has two.
use Rattle.std.proofs.Common.{◌≡◌, ℕ, zero, suc, ◌+◌, ◌*◌, Bool, true, refl, ap, ◌∙◌, arith}
use Rattle.worker_parts.specs.Outlets.{is_used}

pub used_low : (two : ℕ → Bool) (l : ℕ) → is_used two (2 * l) ≡ true
used_low two zero = refl
used_low two (suc l) = let e : 2 * suc l ≡ suc (suc (2 * l)) = omega arith in ap (λ (k : ℕ). is_used two k) e ∙ used_low (λ k. two (suc k)) l

pub used_high : (two : ℕ → Bool) (l : ℕ) → is_used two (2 * l + 1) ≡ two l
used_high two zero = refl
used_high two (suc l) = let e : 2 * suc l + 1 ≡ suc (suc (2 * l + 1)) = omega arith in ap (λ (k : ℕ). is_used two k) e ∙ used_high (λ k. two (suc k)) l
