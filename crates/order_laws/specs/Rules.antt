-- What the pipeline asks of the router's decision.
use Rattle.std.specs.Prelude.{◌≡◌, ◌<◌, ℕ, Bool, true, Option, Some}
use Rattle.order_laws.specs.Kinds.{Kinds}
use Rattle.order_laws.specs.Item.{Arrival}

-- what is done with a packet
pub data Decision (K : Kinds) : Type 0 where
  Sends : ℕ → K.Parcel → Decision K  -- on a link
  Asks : K.Problem → Decision K  -- it is to be answered
  Drops : K.RuleCause → Decision K

-- what is done with a packet that is to be answered
pub data Reply (K : Kinds) : Type 0 where
  Replies : ℕ → K.Parcel → Reply K  -- an answer, on a link
  Withholds : K.RuleCause → Reply K

pub record Rules (K : Kinds) : Type 0 where
  pub links : ℕ
  pub processors : ℕ
  pub two_bands : ℕ → Bool  -- of a link
  pub inspect : Arrival K → Option K.RuleCause  -- a fault that the receiver sees
  pub decide : Arrival K → Decision K
  pub reply : Arrival K → K.Problem → Reply K
  pub key : Arrival K → K.Key
  pub same_key : K.Key → K.Key → Bool
  pub processor : K.Key → ℕ
  pub urgent : Arrival K → Bool
  pub urgent_parcel : K.Parcel → Bool

-- Rules that the pipeline works with, for those arrivals that arrive.
pub record IsLawful {K : Kinds} (R : Rules K) (Arrives : Arrival K → Type 0) : Type 0 where
  -- each key has a processor
  pub processors : (k : K.Key) → R.processor k < R.processors
  pub keys : (k m : K.Key) → R.same_key k m ≡ true → k ≡ m
  -- the receiver's fault is the decision's
  pub faults : (x : Arrival K) (c : K.RuleCause) → Arrives x → R.inspect x ≡ Some c → R.decide x ≡ Drops c
  -- what leaves has a link
  pub sends : (x : Arrival K) (l : ℕ) (y : K.Parcel) → Arrives x → R.decide x ≡ Sends l y → l < R.links
  pub replies : (x : Arrival K) (p : K.Problem) (l : ℕ) (y : K.Parcel) → Arrives x → R.decide x ≡ Asks p → R.reply x p ≡ Replies l y → l < R.links
  -- a packet keeps its band
  pub bands : (x : Arrival K) (l : ℕ) (y : K.Parcel) → Arrives x → R.decide x ≡ Sends l y → R.urgent_parcel y ≡ R.urgent x
