-- What some steps lead to, and one step of a loop over them.
use Rattle.std.proofs.Common.{◌≡◌, ℕ, ◌+◌, ◌<◌, List, [], ◌∷◌, ◌++◌, length, take, drop, get_or, refl, sym, ◌∙◌, ap}
use Rattle.std.specs.Prelude.{Some}
use Rattle.std.proofs.lemmas.List.{take_more, drop_more}
use Rattle.order_laws.specs.Kinds.{Kinds}
use Rattle.order_laws.specs.Rules.{Rules}
use Rattle.replay_laws.specs.World.{World}
use Rattle.replay_laws.specs.Step.{Step}
use Rattle.replay_laws.specs.Next.{next}
use Rattle.replay_laws.specs.Run.{or_same, run, skip_if, skipped_from}
use Rattle.replay_laws.specs.Start.{Reached, ReachesOn}

module _ {K : Kinds} where
  pub run-append : (R : Rules K) (xs ys : List Step) (w : World K) → run R w (xs ++ ys) ≡ run R (run R w xs) ys
  run-append R [] ys w = refl
  run-append R (s ∷ ss) ys w = run-append R ss ys (or_same w (next R w s))

  pub reached_more : (R : Rules K) (w v : World K) (s : Step) → next R w s ≡ Some v → Reached R w → Reached R v
  reached_more R w v s e r = record {
    start = r.start;
    steps = r.steps ++ s ∷ [];
    is_start = r.is_start;
    by_steps = sym (run-append R r.steps (s ∷ []) r.start ∙ (ap (λ (u : World K). or_same u (next R u s)) (sym r.by_steps) ∙ ap (or_same w) e));
  }

  pub reached_run : (R : Rules K) (w : World K) (ss : List Step) → Reached R w → Reached R (run R w ss)
  reached_run R w ss r = record {
    start = r.start;
    steps = r.steps ++ ss;
    is_start = r.is_start;
    by_steps = sym (run-append R r.steps ss r.start ∙ ap (λ (u : World K). run R u ss) (sym r.by_steps));
  }

  -- one more step of a run
  pub run_more : (R : Rules K) (w : World K) (ss : List Step) (i : ℕ) (s : Step) → i < length ss → run R w (take (i + 1) ss) ≡ or_same (run R w (take i ss)) (next R (run R w (take i ss)) (get_or ss i s))
  run_more R w ss i s h = ap (run R w) (take_more ss i s h) ∙ run-append R (take i ss) (get_or ss i s ∷ []) w

  pub skipped_more : (R : Rules K) (w : World K) (ss : List Step) (i : ℕ) (s : Step) → i < length ss → skipped_from R w i (drop i ss) ≡ skip_if i (next R w (get_or ss i s)) ++ skipped_from R (or_same w (next R w (get_or ss i s))) (i + 1) (drop (i + 1) ss)
  skipped_more R w ss i s h = ap (skipped_from R w i) (drop_more ss i s h)

pub reaches_on : (K : Kinds) → ReachesOn K
unfolding reached_run
reaches_on K R w ss r = (reached_run R w ss r, refl, refl)
