-- Workers before their threads.
use Rattle.std.specs.Prelude.{◌≡◌, ℕ, List, []}

-- workers of one kind, for how many there is room in their list, and for how many handles of threads
pub record Seated (W : Type 0) : Type 0 where
  pub workers : List W
  pub seats : ℕ
  pub handles : ℕ

-- no worker yet, and room for this number
abbrev pub IsFor : {W : Type 0} → ℕ → Seated W → Type 0
IsFor n t = (t.workers ≡ []) × (t.seats ≡ n) × (t.handles ≡ n)
