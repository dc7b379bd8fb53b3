-- Bands: that of a flow, and the pipes of a link.
use Rattle.std.proofs.Common.{◌≡◌, ◌≢◌, ℕ, Bool, true, false, not, refl, arith}
use Rattle.order_laws.specs.Expected.{both}
use Rattle.order_laws.specs.Kinds.{Kinds}
use Rattle.order_laws.specs.Pipes.{link_pipe}
use Rattle.order_laws.specs.Rules.{Rules}

pub both_same : (b c : Bool) → both b c ≡ true → c ≡ b
both_same true c h = h
both_same false true h = cc
both_same false false h = refl

module _ {K : Kinds} where
  -- the two pipes of a link are not those of others
  pub same_link : (R : Rules K) (b c : Bool) (k l : ℕ) → link_pipe R b k ≡ link_pipe R c l → k ≡ l
  same_link R true true k l e = omega arith
  same_link R true false k l e = omega arith
  same_link R false true k l e = omega arith
  same_link R false false k l e = omega arith

  pub other_band : (R : Rules K) (b : Bool) (l : ℕ) → link_pipe R (not b) l ≢ link_pipe R b l
  other_band R true l = omega arith
  other_band R false l = omega arith
