-- Nothing is pushed twice.
use Rattle.std.specs.Prelude.{◌≢◌, ◌≤◌, ℕ, Bool, true, false, ◌&&◌, ◌+◌, drop}
use Rattle.order_laws.specs.Kinds.{Kinds}
use Rattle.order_laws.specs.Item.{Item, Packet, Request, Out, is_one}
use Rattle.replay_laws.specs.Marks.{is_named}
use Rattle.order_laws.specs.Counts.{total, count}
use Rattle.replay_laws.specs.Pipe.{items, held}
use Rattle.order_laws.specs.Rules.{Rules}
use Rattle.replay_laws.specs.World.{World, pipe}
use Rattle.replay_laws.specs.Start.{Reached, IsLawfulFor}

-- what a packet is pushed as: itself to a processor, its problem to the slow path, itself or its answer to a forwarder
pub data Stage : Type 0 where
  AsPacket : Stage
  AsProblem : Stage
  AsOutgoing : Stage

module _ {K : Kinds} where
  abbrev pub is_at : Stage → Item K → Bool
  is_at AsPacket (Packet x) = true
  is_at AsProblem (Request x p) = true
  is_at AsOutgoing (Out o) = true
  is_at _ _ = false

  -- how often packets that are looked for were ever pushed on a stage, over all pipes
  abbrev pub pushed_count : Rules K → (ℕ → ℕ → Bool) → Stage → World K → ℕ
  pushed_count R named g w = total (λ p. count (λ x. is_named named x && is_at g x) (items p.history)) (drop R.links w.pipes)

pub record IsOnce {K : Kinds} (R : Rules K) (w : World K) : Type 0 where
  -- over all pipes a packet is pushed at most once as a packet, once as a problem, and once it or its answer on its way out
  pub stages : (a n : ℕ) (g : Stage) → pushed_count R (is_one a n) g w ≤ 1
  -- it stands at most once in one history
  pub histories : (a n q : ℕ) → R.links ≤ q → count (is_named (is_one a n)) (items (pipe w q).history) ≤ 1
  -- and at most once in what two pipes hold
  pub held_parts : (a n p q : ℕ) → R.links ≤ p → R.links ≤ q → p ≢ q → count (is_named (is_one a n)) (held (pipe w p)) + count (is_named (is_one a n)) (held (pipe w q)) ≤ 1

abbrev pub KeepsOnce : Kinds → Type 0
KeepsOnce K = (R : Rules K) (w : World K) (r : Reached R w) → IsLawfulFor R w r → IsOnce R w
