-- Of a running pipeline that has ended: each packet at one place.
use Rattle.std.specs.Prelude.{◌≡◌, ◌<◌, ◌≤◌, ℕ, Bool, List, length, if◌then◌else◌}
use Rattle.order_laws.specs.Kinds.{Kinds}
use Rattle.order_laws.specs.Item.{is_one}
use Rattle.order_laws.specs.Rules.{Rules, IsLawful}
use Rattle.order_laws.specs.Settled.{Views, told, IsTold}
use Rattle.order_laws.specs.Counted.{SlowViews}
use Rattle.worker_laws.specs.Forwards.{Handed}
use Rattle.worker_laws.specs.Ended.{Ended}
use Rattle.worker_laws.specs.Weighed.{places, through_processors, through_slow, through_links}

-- 1 for the packet number n of link a alone
abbrev pub only_of : (a n link number : ℕ) → ℕ
only_of a n link number = if is_one a n link number then 1 else 0

-- The packet number n of link a, or the answer to it.
pub record StandsOnce {K : Kinds} (R : Rules K) (v : Views K) (s : SlowViews K) (a n : ℕ) : Type 0 where
  -- at one place, where its receiver numbered it, and else at none
  pub place : a < R.links → 1 ≤ n → n ≤ length (told v a) → places {K = K} (only_of a n) R v s ≡ 1
  pub none : ((a < R.links) × (1 ≤ n) × (n ≤ length (told v a)) → ⊥) → places {K = K} (only_of a n) R v s ≡ 0
  -- no two pipes of a kind had it, and none had it twice
  pub processors : through_processors {K = K} (only_of a n) R v ≤ 1
  pub slow : through_slow {K = K} (only_of a n) s ≤ 1
  pub links : through_links {K = K} (only_of a n) R v ≤ 1

abbrev pub StandsEach : Kinds → Type 0
StandsEach K = (R : Rules K) (v : Views K) (s : SlowViews K) (went : ℕ → List (Handed K)) (closed : ℕ → Bool) → IsLawful R (IsTold v) → Ended R v s went closed → (a n : ℕ) → StandsOnce R v s a n
