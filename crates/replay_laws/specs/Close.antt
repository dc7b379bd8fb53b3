-- What a closing mark does.
use Rattle.std.specs.Prelude.{◌≡◌, ◌≤◌, ℕ, Bool, true, false, ◌&&◌, ◌==◌, if◌then◌else◌, List, [], ◌∷◌, ◌++◌, take, drop, Option, Some, None}
use Rattle.order_laws.specs.Kinds.{Kinds}
use Rattle.order_laws.specs.Item.{Item, is_one}
use Rattle.replay_laws.specs.Marks.{is_close, is_named, before_close, after_close}
use Rattle.order_laws.specs.Counts.{total, count}
use Rattle.replay_laws.specs.Pipe.{gone, held, passed}
use Rattle.order_laws.specs.Rules.{Rules}
use Rattle.replay_laws.specs.World.{World, pipe, pipe_of}
use Rattle.order_laws.specs.Cause.{Cause}
use Rattle.replay_laws.specs.Step.{Step}
use Rattle.replay_laws.specs.Next.{next}
use Rattle.replay_laws.specs.Run.{or_same}
use Rattle.replay_laws.specs.Start.{Reached, IsLawfulFor}

module _ {K : Kinds} where
  abbrev pub if_done : Option (World K) → List (Item K) → List (Item K)
  if_done None xs = []
  if_done (Some w) xs = xs

  -- the front of pipe q, where that is the pipe of which the step takes
  abbrev pub front_if : Bool → World K → ℕ → List (Item K)
  front_if b w q = if b then take 1 (held (pipe w q)) else []

  -- what a step takes of pipe q to work on it or to send it
  abbrev pub took_by : Rules K → World K → Step → ℕ → List (Item K)
  took_by R w (Step.Take k) q = if_done (next R w (Step.Take k)) (front_if (pipe_of R k == q) w q)
  took_by R w _ q = []

  -- what a step sweeps of it
  abbrev pub swept_by : Rules K → World K → Step → ℕ → List (Item K)
  swept_by R w (Step.Sweep k) q = if_done (next R w (Step.Sweep k)) (front_if (pipe_of R k == q) w q)
  swept_by R w _ q = []

  -- what a list of steps takes of pipe q, in order
  abbrev pub took : Rules K → World K → List Step → ℕ → List (Item K)
  took R w [] q = []
  took R w (s ∷ ss) q = took_by R w s q ++ took R (or_same w (next R w s)) ss q

  abbrev pub swept : Rules K → World K → List Step → ℕ → List (Item K)
  swept R w [] q = []
  swept R w (s ∷ ss) q = swept_by R w s q ++ swept R (or_same w (next R w s)) ss q

  -- what stands up to the first closing mark, the mark included
  abbrev pub up_to_close : List (Item K) → List (Item K)
  up_to_close [] = []
  up_to_close (x ∷ xs) = x ∷ (if is_close x then [] else up_to_close xs)

  abbrev pub is_closed : Cause K → Bool
  is_closed Cause.Closed = true
  is_closed _ = false

  abbrev pub closed_count : (ℕ → ℕ → Bool) → World K → ℕ
  closed_count named w = count (λ f. named f.link f.number && is_closed f.cause) w.fates

  -- packets and answers that were taken after a closing mark
  abbrev pub swept_count : Rules K → (ℕ → ℕ → Bool) → World K → ℕ
  swept_count R named w = total (λ p. count (is_named named) (after_close (gone p))) (drop R.links w.pipes)

-- The steps that lead from the start s to the world w close as they are to.
pub record IsClosing {K : Kinds} (R : Rules K) (s w : World K) (ss : List Step) : Type 0 where
  -- no item after a closing mark was taken but by a sweep, and nothing else was swept
  pub by_take : (q : ℕ) → R.links ≤ q → took R s ss q ≡ up_to_close (gone (pipe w q))
  pub by_sweep : (q : ℕ) → R.links ≤ q → swept R s ss q ≡ after_close (gone (pipe w q))
  -- what was taken for sending is what was taken, less the mark
  pub for_sending : (q : ℕ) → R.links ≤ q → passed (pipe w q) ≡ before_close (took R s ss q)
  -- a packet or an answer is counted as closed exactly where it was swept
  pub causes : (a n : ℕ) → closed_count (is_one a n) w ≡ swept_count R (is_one a n) w

abbrev pub KeepsClose : Kinds → Type 0
KeepsClose K = (R : Rules K) (w : World K) (r : Reached R w) → IsLawfulFor R w r → IsClosing R r.start w r.steps
