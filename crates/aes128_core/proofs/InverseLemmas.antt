-- The steps to p and q, of which the inverse is made: each vector is a function of the vector x, lane by lane.
use Rattle.std.proofs.Common.{◌≡◌, ℕ, List, map, bit_xor}
use Rattle.std.proofs.lemmas.Simd.{zip2_of_maps}
use lib.Lanes.{zip2}
use Rattle.aes128_core.specs.Lanes.{low_of, high_of, j_of, ratio_of, under_p, under_q, p_of, q_of, entry_at}
use Rattle.aes128_core.specs.declared.lane_tables.TheConstants.{INVERSES, RATIOS}
use Rattle.aes128_core.proofs.LookUpLemmas.{look_of}

module _ (x k i : List ℕ) (is_low : k ≡ map low_of x) (is_high : i ≡ map high_of x) where
  pub j_is : zip2 bit_xor i k ≡ map j_of x
  j_is = zip2_of_maps bit_xor high_of low_of x is_high is_low

  pub ratio_is : (r : List ℕ) → r ≡ map (entry_at RATIOS) k → r ≡ map ratio_of x
  ratio_is r e = look_of RATIOS low_of x k r e is_low

  pub under_p_is : (r a : List ℕ) → r ≡ map (entry_at RATIOS) k → a ≡ map (entry_at INVERSES) i → zip2 bit_xor a r ≡ map under_p x
  under_p_is r a e f =
      zip2_of_maps bit_xor (λ b. entry_at INVERSES (high_of b)) ratio_of x (look_of INVERSES high_of x i a f is_high) (ratio_is r e)

  pub under_q_is : (r a : List ℕ) → r ≡ map (entry_at RATIOS) k → a ≡ map (entry_at INVERSES) (zip2 bit_xor i k) → zip2 bit_xor a r ≡ map under_q x
  under_q_is r a e f =
      zip2_of_maps bit_xor (λ b. entry_at INVERSES (j_of b)) ratio_of x (look_of INVERSES j_of x (zip2 bit_xor i k) a f j_is) (ratio_is r e)

  pub p_is : (under a : List ℕ) → under ≡ map under_p x → a ≡ map (entry_at INVERSES) under → zip2 bit_xor a (zip2 bit_xor i k) ≡ map p_of x
  p_is under a e f = zip2_of_maps bit_xor (λ b. entry_at INVERSES (under_p b)) j_of x (look_of INVERSES under_p x under a f e) j_is

  pub q_is : (under a : List ℕ) → under ≡ map under_q x → a ≡ map (entry_at INVERSES) under → zip2 bit_xor a i ≡ map q_of x
  q_is under a e f = zip2_of_maps bit_xor (λ b. entry_at INVERSES (under_q b)) high_of x (look_of INVERSES under_q x under a f e) is_high
