-- What a run keeps.
use Rattle.std.proofs.Common.{◌≡◌, ◌≢◌, ◌⊎◌, inl, inr, ℕ, ◌<◌, List, [], ◌∷◌, refl, sym, ◌∙◌, ap, arith}
use Rattle.std.specs.Prelude.{Option, Some, None}
use Rattle.order_laws.specs.Kinds.{Kinds}
use Rattle.order_laws.specs.Item.{Item, Arrived, Packet, Request, Out, Close, End}
use Rattle.replay_laws.specs.Pipe.{Pipe, items, pushed, refused, refusal_of, one_taken}
use Rattle.order_laws.specs.Rules.{Rules}
use Rattle.replay_laws.specs.World.{World, pipe, with_pipe}
use Rattle.order_laws.specs.Pipes.{home}
use Rattle.replay_laws.specs.Step.{Step}
use Rattle.replay_laws.specs.Next.{Makes, Ends, next}
use Rattle.replay_laws.specs.Run.{or_same, run}
use Rattle.replay_laws.specs.Start.{arrivals}
use Rattle.replay_laws.proofs.Moves.{Move, Receives, Starves, Offers, Refuses, Takes, Looks, Works, Lacks, Marks, Sends, Fails, Sweeps, moves}
use Rattle.replay_laws.proofs.Parts.{pipe_cases, pipe_other}

module _ {K : Kinds} where
  -- receivers' arrivals stay
  module _ (R : Rules K) (a : ℕ) (a_in : a < R.links) where
    same_arrivals : (w : World K) (q : ℕ) (p : Pipe K) → p.history ≡ (pipe w q).history → arrivals (with_pipe w q p) a ≡ arrivals w a
    same_arrivals w q p h = go (pipe_cases w q p a)
      where
        go : (pipe (with_pipe w q p) a ≡ pipe w a) ⊎ ((a ≡ q) × (pipe (with_pipe w q p) a ≡ p)) → arrivals (with_pipe w q p) a ≡ arrivals w a
        go (inl e) = ap (λ (z : Pipe K). items z.history) e
        go (inr e) = ap (λ (z : Pipe K). items z.history) e.1 ∙ (ap items h ∙ ap (λ (k : ℕ). items (pipe w k).history) (sym e.0))

    far_home : (x : Item K) → a ≢ home R x
    far_home (Arrived x) = omega arith
    far_home (Packet x) = omega arith
    far_home (Request x n) = omega arith
    far_home (Out o) = omega arith
    far_home Close = omega arith
    far_home End = omega arith

    other_arrivals : (w : World K) (q : ℕ) (p : Pipe K) → a ≢ q → arrivals (with_pipe w q p) a ≡ arrivals w a
    other_arrivals w q p h = ap (λ (z : Pipe K). items z.history) (pipe_other w q p a h)

    pub keeps_arrivals : (w v : World K) → Move R w v → arrivals v a ≡ arrivals w a
    keeps_arrivals w v (Receives b x None i e k q) = same_arrivals w b (one_taken (pipe w b)) refl
    keeps_arrivals w v (Receives b x (Some c) i e k q) = same_arrivals w b (one_taken (pipe w b)) refl
    keeps_arrivals w v (Starves b x h) = refl
    keeps_arrivals w v (Offers from j x h r) = other_arrivals w (home R x) (pushed (pipe w (home R x)) from x) (far_home x)
    keeps_arrivals w v (Refuses j x h r) = other_arrivals w (home R x) (refused (pipe w (home R x)) (refusal_of x (pipe w (home R x)))) (far_home x)
    keeps_arrivals w v (Takes q j x ls s i u e k) = same_arrivals w q (one_taken (pipe w q)) refl
    keeps_arrivals w v (Looks ls) = refl
    keeps_arrivals w v (Works j x (Makes y) h k) = refl
    keeps_arrivals w v (Works j x (Ends c) h k) = refl
    keeps_arrivals w v (Lacks j x h k) = refl
    keeps_arrivals w v (Marks q from x i m r) = other_arrivals w q (pushed (pipe w q) from x) (omega arith)
    keeps_arrivals w v (Sends k j o i s' h) = refl
    keeps_arrivals w v (Fails j o h) = refl
    keeps_arrivals w v (Sweeps q j x ls s i u e k) = same_arrivals w q (one_taken (pipe w q)) refl

  -- what a whole run keeps, if each move does
  pub run_keeps : (R : Rules K) (P : World K → Type 0) → ((w v : World K) → Move R w v → P w → P v) → (ss : List Step) (w : World K) → P w → P (run R w ss)
  run_keeps R P each [] w h = h
  run_keeps R P each (s ∷ ss) w h = run_keeps R P each ss (or_same w (next R w s)) (go (next R w s) refl)
    where
      go : (o : Option (World K)) → next R w s ≡ o → P (or_same w o)
      go None e = h
      go (Some v) e = each w v (moves R w v s e) h
