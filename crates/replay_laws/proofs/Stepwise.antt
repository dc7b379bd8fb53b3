-- Steps one after the other.
use Rattle.std.proofs.Common.{◌≡◌, ℕ, ◌+◌, List, [], ◌∷◌, ◌++◌, length, refl, sym, ◌∙◌, ap, arith, append_assoc}
use Rattle.order_laws.specs.Kinds.{Kinds}
use Rattle.order_laws.specs.Rules.{Rules}
use Rattle.replay_laws.specs.World.{World}
use Rattle.replay_laws.specs.Step.{Step}
use Rattle.replay_laws.specs.Next.{next}
use Rattle.replay_laws.specs.Run.{or_same, run, skip_if, skipped_from, RunsStepwise}

module _ {K : Kinds} (R : Rules K) (s : Step) (after : List Step) where
  world : (before : List Step) (w : World K) → run R w (before ++ s ∷ after) ≡ run R (or_same (run R w before) (next R (run R w before) s)) after
  world [] w = refl
  world (t ∷ before) w = world before (or_same w (next R w t))

  skips :
      (before : List Step) (w : World K) (i : ℕ) →
      skipped_from R w i (before ++ s ∷ after) ≡
      skipped_from R w i before ++ (skip_if (i + length before) (next R (run R w before) s) ++ skipped_from R (or_same (run R w before) (next R (run R w before) s)) (i + length before + 1) after)
  skips [] w i =
      let e : i ≡ i + 0 = omega arith in
      ap (λ (k : ℕ). skip_if k (next R w s) ++ skipped_from R (or_same w (next R w s)) (k + 1) after) e
  skips (t ∷ before) w i =
      let v = or_same w (next R w t) in
      let u = run R v before in
      let e : (i + 1) + length before ≡ i + length (t ∷ before) = omega arith in
      ap (λ (ks : List ℕ). skip_if i (next R w t) ++ ks) (
      skips before v (i + 1)
      ∙ ap (λ (k : ℕ). skipped_from R v (i + 1) before ++ (skip_if k (next R u s) ++ skipped_from R (or_same u (next R u s)) (k + 1) after)) e
      )
      ∙ sym (append_assoc (skip_if i (next R w t)) (skipped_from R v (i + 1) before) _)

pub stepwise : (K : Kinds) → RunsStepwise K
stepwise K R w before s after = record { world = world R s after before w; skips = λ i. skips R s after before w i }
