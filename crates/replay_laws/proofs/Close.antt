-- Each move takes before a closing mark, or sweeps after it.
use Rattle.std.proofs.Common.{◌≡◌, ◌≢◌, ◌⊎◌, inl, inr, ℕ, Bool, true, false, ◌||◌, ◌&&◌, ◌+◌, ◌<◌, ◌≤◌, cond, List, [], ◌∷◌, ◌++◌, take, drop, refl, sym, subst, ◌∙◌, ap, arith, eqb, append_assoc}
use Rattle.std.specs.Prelude.{Option, Some, None}
use Rattle.std.proofs.lemmas.List.{append-nil}
use Rattle.std.proofs.lemmas.Bool.{cases_eq, eq-eqb, ne_eqb}
use Rattle.order_laws.specs.Kinds.{Kinds}
use Rattle.order_laws.specs.Item.{Arrival, Arrived, Packet, Request, Out, Close, End, Item, is_one}
use Rattle.replay_laws.specs.Marks.{is_close, is_named, has_close, before_close, after_close}
use Rattle.order_laws.specs.Counts.{total, count}
use Rattle.replay_laws.specs.Pipe.{Pipe, empty_pipe, front, gone, held, items, is_shut, one_taken, pushed, refused, refusal_of}
use Rattle.order_laws.specs.Rules.{Rules, Decision, Reply, Replies, Withholds, IsLawful}
use Rattle.order_laws.specs.Fate.{Fate}
use Rattle.replay_laws.specs.World.{World, Hand, Empty, Owes, pipe, with_pipe, with_fate, fate_of, pipe_of}
use Rattle.order_laws.specs.Cause.{Cause}
use Rattle.order_laws.specs.Pipes.{home}
use Rattle.replay_laws.specs.Step.{Step}
use Rattle.replay_laws.specs.Next.{Outcome, Makes, Ends, decided, replied, hand_after, taken_from, next, full_of}
use Rattle.replay_laws.specs.Run.{or_same, run}
use Rattle.replay_laws.specs.Start.{HasArrival, IsStart, Numbered, arrivals}
use Rattle.replay_laws.specs.Close.{if_done, front_if, took_by, swept_by, took, swept, up_to_close, is_closed, closed_count, swept_count, KeepsClose}
use Rattle.replay_laws.proofs.Moves.{Move, Receives, Starves, Offers, Refuses, Takes, Looks, Works, Lacks, Marks, Sends, Fails, Sweeps, work, Act, Took, Swept, Other, act, act_of, moves, moves-act}
use Rattle.replay_laws.proofs.Parts.{pipe_cases, pipe_same, pipe_other, pipe_there, held_front, gone_front, gone_pushed}
use Rattle.replay_laws.proofs.Weights.{Whole, one, one_if}
use Rattle.replay_laws.proofs.Place.{Sound, sound, keeps_sound, start_sound, numbered_take}
use Rattle.replay_laws.proofs.Runs.{run_keeps}
use Rattle.order_laws.proofs.Sums.{below-none, total-set, total-append, total-set-same, total-below, total-nothing, total-agree, count-total}

closed_one : (b : Bool) → one_if (b && true) ≡ one_if b
closed_one true = refl
closed_one false = refl

module _ {K : Kinds} where
  -- one more, before the mark or after it
  pub up_open : (xs : List (Item K)) (x : Item K) → has_close xs ≡ false → up_to_close (xs ++ x ∷ []) ≡ up_to_close xs ++ x ∷ []
  up_open [] x h = go (is_close x)
    where
      go : (b : Bool) → x ∷ cond b [] [] ≡ x ∷ []
      go true = refl
      go false = refl
  up_open (y ∷ xs) x h = go (is_close y) h (up_open xs x)
    where
      go : (b : Bool) → (b || has_close xs) ≡ false → (has_close xs ≡ false → up_to_close (xs ++ x ∷ []) ≡ up_to_close xs ++ x ∷ []) → y ∷ cond b [] (up_to_close (xs ++ x ∷ [])) ≡ (y ∷ cond b [] (up_to_close xs)) ++ x ∷ []
      go true h f = cc
      go false h f = ap (λ (ys : List (Item K)). y ∷ ys) (f h)

  pub up_shut : (xs : List (Item K)) (x : Item K) → has_close xs ≡ true → up_to_close (xs ++ x ∷ []) ≡ up_to_close xs
  up_shut [] x h = cc
  up_shut (y ∷ xs) x h = go (is_close y) h (up_shut xs x)
    where
      go : (b : Bool) → (b || has_close xs) ≡ true → (has_close xs ≡ true → up_to_close (xs ++ x ∷ []) ≡ up_to_close xs) → y ∷ cond b [] (up_to_close (xs ++ x ∷ [])) ≡ y ∷ cond b [] (up_to_close xs)
      go true h f = refl
      go false h f = ap (λ (ys : List (Item K)). y ∷ ys) (f h)

  pub after_none : (xs : List (Item K)) → has_close xs ≡ false → after_close xs ≡ []
  after_none [] h = refl
  after_none (y ∷ xs) h = go (is_close y) h (after_none xs)
    where
      go : (b : Bool) → (b || has_close xs) ≡ false → (has_close xs ≡ false → after_close xs ≡ []) → cond b xs (after_close xs) ≡ []
      go true h f = cc
      go false h f = f h

  after_open : (xs : List (Item K)) (x : Item K) → has_close xs ≡ false → after_close (xs ++ x ∷ []) ≡ []
  after_open [] x h = go (is_close x)
    where
      go : (b : Bool) → cond {A = List (Item K)} b [] [] ≡ []
      go true = refl
      go false = refl
  after_open (y ∷ xs) x h = go (is_close y) h (after_open xs x)
    where
      go : (b : Bool) → (b || has_close xs) ≡ false → (has_close xs ≡ false → after_close (xs ++ x ∷ []) ≡ []) → cond b (xs ++ x ∷ []) (after_close (xs ++ x ∷ [])) ≡ []
      go true h f = cc
      go false h f = f h

  pub after_shut : (xs : List (Item K)) (x : Item K) → has_close xs ≡ true → after_close (xs ++ x ∷ []) ≡ after_close xs ++ x ∷ []
  after_shut [] x h = cc
  after_shut (y ∷ xs) x h = go (is_close y) h (after_shut xs x)
    where
      go : (b : Bool) → (b || has_close xs) ≡ true → (has_close xs ≡ true → after_close (xs ++ x ∷ []) ≡ after_close xs ++ x ∷ []) → cond b (xs ++ x ∷ []) (after_close (xs ++ x ∷ [])) ≡ cond b xs (after_close xs) ++ x ∷ []
      go true h f = refl
      go false h f = f h

  before_up : (xs : List (Item K)) → before_close (up_to_close xs) ≡ before_close xs
  before_up [] = refl
  before_up (x ∷ xs) = go (is_close x) (before_up xs)
    where
      go : (b : Bool) → before_close (up_to_close xs) ≡ before_close xs → cond b [] (x ∷ before_close (cond b [] (up_to_close xs))) ≡ cond b [] (x ∷ before_close xs)
      go true h = refl
      go false h = ap (λ (ys : List (Item K)). x ∷ ys) h

  -- what a move takes and sweeps of a pipe
  abbrev pub new_took : Act → World K → ℕ → List (Item K)
  new_took (Took k) w q = front_if (eqb k q) w q
  new_took (Swept k) w q = []
  new_took Other w q = []

  abbrev pub new_swept : Act → World K → ℕ → List (Item K)
  new_swept (Swept k) w q = front_if (eqb k q) w q
  new_swept (Took k) w q = []
  new_swept Other w q = []

  -- a pipe from one moment to the next
  pub record Goes (p z : Pipe K) (took swept : List (Item K)) : Type 0 where
    pub up : up_to_close (gone z) ≡ up_to_close (gone p) ++ took
    pub after : after_close (gone z) ≡ after_close (gone p) ++ swept

  stays : (p z : Pipe K) → gone z ≡ gone p → Goes p z [] []
  stays p z e = record { up = ap up_to_close e ∙ sym (append-nil (up_to_close (gone p))); after = ap after_close e ∙ sym (append-nil (after_close (gone p))) }

  pub first_held : (p : Pipe K) (x : Item K) → front p ≡ Some x → take 1 (held p) ≡ x ∷ []
  first_held p x e = ap (take 1) (held_front p x e)

  goes_taken : (p : Pipe K) (x : Item K) → front p ≡ Some x → is_shut p ≡ false → Goes p (one_taken p) (take 1 (held p)) []
  goes_taken p x e u = record {
    up = ap up_to_close (gone_front p x e) ∙ (up_open (gone p) x u ∙ ap (λ (ys : List (Item K)). up_to_close (gone p) ++ ys) (sym (first_held p x e)));
    after = ap after_close (gone_front p x e) ∙ (after_open (gone p) x u ∙ sym (append-nil (after_close (gone p)) ∙ after_none (gone p) u));
  }

  goes_swept : (p : Pipe K) (x : Item K) → front p ≡ Some x → is_shut p ≡ true → Goes p (one_taken p) [] (take 1 (held p))
  goes_swept p x e u = record {
    up = ap up_to_close (gone_front p x e) ∙ (up_shut (gone p) x u ∙ sym (append-nil (up_to_close (gone p))));
    after = ap after_close (gone_front p x e) ∙ (after_shut (gone p) x u ∙ ap (λ (ys : List (Item K)). after_close (gone p) ++ ys) (sym (first_held p x e)));
  }

  module _ (R : Rules K) (w : World K) (u : Whole R w) (q : ℕ) where
    -- a pipe is replaced by one of which as much was taken
    as_much : (k : ℕ) (p : Pipe K) → gone p ≡ gone (pipe w k) → Goes (pipe w q) (pipe (with_pipe w k p) q) [] []
    as_much k p e = stays (pipe w q) (pipe (with_pipe w k p) q) (go (pipe_cases w k p q))
      where
        go : (pipe (with_pipe w k p) q ≡ pipe w q) ⊎ ((q ≡ k) × (pipe (with_pipe w k p) q ≡ p)) → gone (pipe (with_pipe w k p) q) ≡ gone (pipe w q)
        go (inl f) = ap (λ (z : Pipe K). gone z) f
        go (inr f) = ap (λ (z : Pipe K). gone z) f.1 ∙ (e ∙ ap (λ (i : ℕ). gone (pipe w i)) (sym f.0))

    one_more : (k : ℕ) (x : Item K) → front (pipe w k) ≡ Some x → (f s : List (Item K)) → (q ≡ k → Goes (pipe w k) (one_taken (pipe w k)) f s) → (q ≢ k → (f ≡ []) × (s ≡ [])) → Goes (pipe w q) (pipe (with_pipe w k (one_taken (pipe w k))) q) f s
    one_more k x e f s here far = go (cases_eq q k)
      where
        go : (q ≡ k) ⊎ (q ≡ k → ⊥) → Goes (pipe w q) (pipe (with_pipe w k (one_taken (pipe w k))) q) f s
        go (inl i) =
            let P : ℕ → Type 0 = λ n. Goes (pipe w n) (pipe (with_pipe w k (one_taken (pipe w k))) n) f s in
            let Q : Pipe K → Type 0 = λ z. Goes (pipe w k) z f s in
            subst P (sym i) (subst Q (sym (pipe_same w k (one_taken (pipe w k)) (pipe_there w k x e))) (here i))
        go (inr n) =
            let z = far n in
            let Q : List (Item K) → List (Item K) → Type 0 = λ a b. Goes (pipe w q) (pipe (with_pipe w k (one_taken (pipe w k))) q) a b in
            let g = stays (pipe w q) (pipe (with_pipe w k (one_taken (pipe w k))) q) (ap (λ (z : Pipe K). gone z) (pipe_other w k (one_taken (pipe w k)) q n)) in
            record { up = g.up ∙ ap (λ (ys : List (Item K)). up_to_close (gone (pipe w q)) ++ ys) (sym z.0); after = g.after ∙ ap (λ (ys : List (Item K)). after_close (gone (pipe w q)) ++ ys) (sym z.1) }

    -- at q the front is taken, or swept; at any other pipe nothing is
    pub front_at : (k : ℕ) → q ≡ k → front_if (eqb k q) w q ≡ take 1 (held (pipe w k))
    front_at k e = ap (λ (b : Bool). front_if b w q) (eq-eqb k q (sym e)) ∙ ap (λ (i : ℕ). take 1 (held (pipe w i))) e

    pub front_far : (k : ℕ) → q ≢ k → front_if (eqb k q) w q ≡ []
    front_far k n = ap (λ (b : Bool). front_if b w q) (ne_eqb k q (λ e. n (sym e)))

    pub goes_far : R.links ≤ q → (v : World K) (m : Move R w v) → Goes (pipe w q) (pipe v q) (new_took (act m) w q) (new_swept (act m) w q)
    goes_far far v (Receives b x None i e k c) = stays (pipe w q) _ (ap (λ (z : Pipe K). gone z) (pipe_other w b (one_taken (pipe w b)) q (omega arith)))
    goes_far far v (Receives b x (Some d) i e k c) = stays (pipe w q) _ (ap (λ (z : Pipe K). gone z) (pipe_other w b (one_taken (pipe w b)) q (omega arith)))
    goes_far far v (Starves b x h) = stays (pipe w q) (pipe w q) refl
    goes_far far v (Offers from j x h r) = as_much (home R x) (pushed (pipe w (home R x)) from x) (gone_pushed (pipe w (home R x)) from x (u.fits (home R x)))
    goes_far far v (Refuses j x h r) = as_much (home R x) (refused (pipe w (home R x)) (refusal_of x (pipe w (home R x)))) refl
    goes_far far v (Takes k j x ls s i n e f) =
        one_more k x f (front_if (eqb k q) w q) []
        (λ p. let P : List (Item K) → Type 0 = λ a. Goes (pipe w k) (one_taken (pipe w k)) a [] in subst P (sym (front_at k p)) (goes_taken (pipe w k) x f n))
        (λ p. (front_far k p, refl))
    goes_far far v (Looks ls) = stays (pipe w q) (pipe w q) refl
    goes_far far v (Works j x (Makes y) h k) = stays (pipe w q) (pipe w q) refl
    goes_far far v (Works j x (Ends c) h k) = stays (pipe w q) (pipe w q) refl
    goes_far far v (Lacks j x h k) = stays (pipe w q) (pipe w q) refl
    goes_far far v (Marks k from x i m r) = as_much k (pushed (pipe w k) from x) (gone_pushed (pipe w k) from x (u.fits k))
    goes_far far v (Sends l j o i s h) = stays (pipe w q) (pipe w q) refl
    goes_far far v (Fails j o h) = stays (pipe w q) (pipe w q) refl
    goes_far far v (Sweeps k j x ls s i n e f) =
        one_more k x f [] (front_if (eqb k q) w q)
        (λ p. let P : List (Item K) → Type 0 = λ a. Goes (pipe w k) (one_taken (pipe w k)) [] a in subst P (sym (front_at k p)) (goes_swept (pipe w k) x f n))
        (λ p. (refl, front_far k p))

  -- what a possible step takes and sweeps is what its move does
  pub took_is : (R : Rules K) (w v : World K) (s : Step) (q : ℕ) → next R w s ≡ Some v → took_by R w s q ≡ new_took (act_of R s) w q
  took_is R w v (Step.Take k) q e = ap (λ o. if_done o (front_if (eqb (pipe_of R k) q) w q)) e
  took_is R w v (Step.Receive a) q e = refl
  took_is R w v (Step.NoBuffer a) q e = refl
  took_is R w v (Step.Offer W) q e = refl
  took_is R w v (Step.Refuse W) q e = refl
  took_is R w v (Step.Look l) q e = refl
  took_is R w v (Step.Route i) q e = refl
  took_is R w v Step.Answer q e = refl
  took_is R w v (Step.Lack W) q e = refl
  took_is R w v (Step.Close k) q e = refl
  took_is R w v (Step.End W k) q e = refl
  took_is R w v (Step.Send l ok) q e = refl
  took_is R w v (Step.Sweep k) q e = refl

  swept_is : (R : Rules K) (w v : World K) (s : Step) (q : ℕ) → next R w s ≡ Some v → swept_by R w s q ≡ new_swept (act_of R s) w q
  swept_is R w v (Step.Sweep k) q e = ap (λ o. if_done o (front_if (eqb (pipe_of R k) q) w q)) e
  swept_is R w v (Step.Receive a) q e = refl
  swept_is R w v (Step.NoBuffer a) q e = refl
  swept_is R w v (Step.Offer W) q e = refl
  swept_is R w v (Step.Refuse W) q e = refl
  swept_is R w v (Step.Look l) q e = refl
  swept_is R w v (Step.Route i) q e = refl
  swept_is R w v Step.Answer q e = refl
  swept_is R w v (Step.Lack W) q e = refl
  swept_is R w v (Step.Close k) q e = refl
  swept_is R w v (Step.End W k) q e = refl
  swept_is R w v (Step.Send l ok) q e = refl
  swept_is R w v (Step.Take k) q e = refl

  pub took_none : (R : Rules K) (w : World K) (s : Step) (q : ℕ) → next R w s ≡ None → took_by R w s q ≡ []
  took_none R w (Step.Take k) q e = ap (λ o. if_done o (front_if (eqb (pipe_of R k) q) w q)) e
  took_none R w (Step.Receive a) q e = refl
  took_none R w (Step.NoBuffer a) q e = refl
  took_none R w (Step.Offer W) q e = refl
  took_none R w (Step.Refuse W) q e = refl
  took_none R w (Step.Look l) q e = refl
  took_none R w (Step.Route i) q e = refl
  took_none R w Step.Answer q e = refl
  took_none R w (Step.Lack W) q e = refl
  took_none R w (Step.Close k) q e = refl
  took_none R w (Step.End W k) q e = refl
  took_none R w (Step.Send l ok) q e = refl
  took_none R w (Step.Sweep k) q e = refl

  swept_none : (R : Rules K) (w : World K) (s : Step) (q : ℕ) → next R w s ≡ None → swept_by R w s q ≡ []
  swept_none R w (Step.Sweep k) q e = ap (λ o. if_done o (front_if (eqb (pipe_of R k) q) w q)) e
  swept_none R w (Step.Receive a) q e = refl
  swept_none R w (Step.NoBuffer a) q e = refl
  swept_none R w (Step.Offer W) q e = refl
  swept_none R w (Step.Refuse W) q e = refl
  swept_none R w (Step.Look l) q e = refl
  swept_none R w (Step.Route i) q e = refl
  swept_none R w Step.Answer q e = refl
  swept_none R w (Step.Lack W) q e = refl
  swept_none R w (Step.Close k) q e = refl
  swept_none R w (Step.End W k) q e = refl
  swept_none R w (Step.Send l ok) q e = refl
  swept_none R w (Step.Take k) q e = refl

  module _ (R : Rules K) (s : World K) (law : IsLawful R (HasArrival s)) (q : ℕ) (far : R.links ≤ q) where
    pub one_step : (w : World K) (t : Step) → Sound R s law w → Sound R s law (or_same w (next R w t)) × Goes (pipe w q) (pipe (or_same w (next R w t)) q) (took_by R w t q) (swept_by R w t q)
    one_step w t u = go (next R w t) refl
      where
        go : (o : Option (World K)) → next R w t ≡ o → Sound R s law (or_same w o) × Goes (pipe w q) (pipe (or_same w o) q) (took_by R w t q) (swept_by R w t q)
        go None e =
            let g = stays (pipe w q) (pipe w q) refl in
            (u, record { up = g.up ∙ ap (λ (ys : List (Item K)). up_to_close (gone (pipe w q)) ++ ys) (sym (took_none R w t q e)); after = g.after ∙ ap (λ (ys : List (Item K)). after_close (gone (pipe w q)) ++ ys) (sym (swept_none R w t q e)) })
        go (Some v) e =
            let m = moves R w v t e in
            let g = goes_far R w u.whole q far v m in
            let a = moves-act R w v t e in
            let i = took_is R w v t q e in
            let k = swept_is R w v t q e in
            (keeps_sound R s law w v m u, record { up = g.up ∙ ap (λ (ys : List (Item K)). up_to_close (gone (pipe w q)) ++ ys) (ap (λ (c : Act). new_took c w q) a ∙ sym i); after = g.after ∙ ap (λ (ys : List (Item K)). after_close (gone (pipe w q)) ++ ys) (ap (λ (c : Act). new_swept c w q) a ∙ sym k) })

    all_steps : (ss : List Step) (w : World K) → Sound R s law w → Goes (pipe w q) (pipe (run R w ss) q) (took R w ss q) (swept R w ss q)
    all_steps [] w u = stays (pipe w q) (pipe w q) refl
    all_steps (t ∷ ss) w u =
        let one = one_step w t u in
        let v = or_same w (next R w t) in
        let rest = all_steps ss v one.0 in
        record {
          up = rest.up ∙ (ap (λ (ys : List (Item K)). ys ++ took R v ss q) one.1.up ∙ append_assoc (up_to_close (gone (pipe w q))) (took_by R w t q) (took R v ss q));
          after = rest.after ∙ (ap (λ (ys : List (Item K)). ys ++ swept R v ss q) one.1.after ∙ append_assoc (after_close (gone (pipe w q))) (swept_by R w t q) (swept R v ss q));
        }

  numbered_open : (b m : ℕ) (xs : List (Item K)) → Numbered b m xs → has_close xs ≡ false
  numbered_open b m [] h = refl
  numbered_open b m (Arrived x ∷ xs) h = numbered_open b (m + 1) xs h.2
  numbered_open b m (_ ∷ xs) h = absurd h

  -- no cause of the rules is a closed link
  decided_open : (x : Arrival K) (r : Decision K) (c : Cause K) → decided x r ≡ Ends c → is_closed c ≡ false
  decided_open x (Decision.Sends l y) c e = cc
  decided_open x (Decision.Asks p) c e = cc
  decided_open x (Decision.Drops d) c e = let P : Outcome K → Type 0 = elim [ Makes z ↦ Unit {0} | Ends k ↦ is_closed k ≡ false ] in subst P e refl

  replied_open : (x : Arrival K) (r : Reply K) (c : Cause K) → replied x r ≡ Ends c → is_closed c ≡ false
  replied_open x (Replies l y) c e = cc
  replied_open x (Withholds d) c e = let P : Outcome K → Type 0 = elim [ Makes z ↦ Unit {0} | Ends k ↦ is_closed k ≡ false ] in subst P e refl

  work_open : (R : Rules K) (x : Item K) (c : Cause K) → work R x ≡ Some (Ends c) → is_closed c ≡ false
  work_open R (Packet x) c e = decided_open x (R.decide x) c cc
  work_open R (Request x p) c e = replied_open x (R.reply x p) c cc
  work_open R (Arrived x) c e = cc
  work_open R (Out o) c e = cc
  work_open R Close c e = cc
  work_open R End c e = cc

  full_open : (x : Item K) → is_closed (full_of x) ≡ false
  full_open (Arrived x) = refl
  full_open (Packet x) = refl
  full_open (Request x p) = refl
  full_open (Out o) = refl
  full_open Close = refl
  full_open End = refl

  module _ (named : ℕ → ℕ → Bool) where
    closed : Fate K → ℕ
    closed f = cond (named f.link f.number && is_closed f.cause) 1 0

    tail : Pipe K → ℕ
    tail p = total (one named) (after_close (gone p))

    -- what was counted as closed, and what was swept
    Even : World K → Type 0
    Even w = total closed w.fates ≡ total tail w.pipes

    other_one : (b : Bool) (c : Cause K) → is_closed c ≡ false → one_if (b && is_closed c) ≡ 0
    other_one true c h = ap one_if h
    other_one false c h = refl

    other_fate : (x : Item K) (c : Cause K) → is_closed c ≡ false → total closed (fate_of x c) ≡ 0
    unfolding closed
    other_fate (Arrived x) c h = let e = other_one (named x.link x.number) c h in omega arith
    other_fate (Packet x) c h = let e = other_one (named x.link x.number) c h in omega arith
    other_fate (Request x p) c h = let e = other_one (named x.link x.number) c h in omega arith
    other_fate (Out o) c h = let e = other_one (named o.arrived o.number) c h in omega arith
    other_fate Close c h = refl
    other_fate End c h = refl

    closed_fate : (x : Item K) → total closed (fate_of x Cause.Closed) ≡ one named x
    unfolding closed one
    closed_fate (Arrived x) = let e = closed_one (named x.link x.number) in omega arith
    closed_fate (Packet x) = let e = closed_one (named x.link x.number) in omega arith
    closed_fate (Request x p) = let e = closed_one (named x.link x.number) in omega arith
    closed_fate (Out o) = let e = closed_one (named o.arrived o.number) in omega arith
    closed_fate Close = refl
    closed_fate End = refl

    even_fate : (w : World K) (x : Item K) (c : Cause K) → is_closed c ≡ false → Even w → Even (with_fate w x c)
    unfolding Even
    even_fate w x c h e = let t = total-append closed w.fates (fate_of x c) in let z = other_fate x c h in omega arith

    even_pipe : (w : World K) (k : ℕ) (p : Pipe K) → after_close (gone p) ≡ after_close (gone (pipe w k)) → Even w → Even (with_pipe w k p)
    unfolding Even tail
    even_pipe w k p h e = e ∙ sym (total-set-same tail w.pipes k p (empty_pipe 0) (ap (total (one named)) h))

    even_taken : (w : World K) (k j : ℕ) (x : Item K) (h : Hand K) → front (pipe w k) ≡ Some x → is_shut (pipe w k) ≡ false → Even w → Even (taken_from w k j h)
    unfolding Even
    even_taken w k j x h f u e = even_pipe w k (one_taken (pipe w k)) ((goes_taken (pipe w k) x f u).after ∙ append-nil (after_close (gone (pipe w k)))) e

    even_swept : (w : World K) (k j : ℕ) (x : Item K) → front (pipe w k) ≡ Some x → is_shut (pipe w k) ≡ true → Even w → Even (with_fate (taken_from w k j Empty) x Cause.Closed)
    unfolding Even tail
    even_swept w k j x f u e =
        let t = total-append closed w.fates (fate_of x Cause.Closed) in
        let z = closed_fate x in
        let s = total-set tail w.pipes k (one_taken (pipe w k)) (empty_pipe 0) (pipe_there w k x f) in
        let g : after_close (gone (one_taken (pipe w k))) ≡ after_close (gone (pipe w k)) ++ x ∷ [] = ap after_close (gone_front (pipe w k) x f) ∙ after_shut (gone (pipe w k)) x u in
        let b : total (one named) (after_close (gone (one_taken (pipe w k)))) ≡ total (one named) (after_close (gone (pipe w k))) + (one named x + 0) = ap (total (one named)) g ∙ total-append (one named) (after_close (gone (pipe w k))) (x ∷ []) in
        omega arith

    module _ (R : Rules K) (s : World K) (law : IsLawful R (HasArrival s)) (st : IsStart R s) where
      source_open : (w : World K) → Sound R s law w → (b : ℕ) → b < R.links → is_shut (pipe w b) ≡ false
      source_open w u b i =
          let N : List (Item K) → Type 0 = λ xs. Numbered b 1 xs in
          numbered_open b 1 (gone (pipe w b)) (numbered_take b 1 (pipe w b).taken (arrivals w b) (subst N (sym (u.same b i)) (st.numbered b i)))

      keeps_even : (w v : World K) → Move R w v → Sound R s law w → Even w → Even v
      unfolding Even
      keeps_even w v (Receives b x None i e k q) u h = even_taken w b b (Arrived x) (Owes (Packet x)) k (source_open w u b i) h
      keeps_even w v (Receives b x (Some c) i e k q) u h = even_fate (taken_from w b b Empty) (Arrived x) (Cause.Ruled c) refl (even_taken w b b (Arrived x) Empty k (source_open w u b i) h)
      keeps_even w v (Starves b x e) u h = even_fate w x Cause.NoBuffer refl h
      keeps_even w v (Offers from j x e r) u h = even_pipe w (home R x) (pushed (pipe w (home R x)) from x) (ap after_close (gone_pushed (pipe w (home R x)) from x (u.whole.fits (home R x)))) h
      keeps_even w v (Refuses j x e r) u h = even_fate (with_pipe w (home R x) (refused (pipe w (home R x)) (refusal_of x (pipe w (home R x))))) x (full_of x) (full_open x) (even_pipe w (home R x) (refused (pipe w (home R x)) (refusal_of x (pipe w (home R x)))) refl h)
      keeps_even w v (Takes q j x ls i n m e k) u h = even_taken w q j x (hand_after x) k m h
      keeps_even w v (Looks ls) u h = h
      keeps_even w v (Works j x (Makes y) e k) u h = h
      keeps_even w v (Works j x (Ends c) e k) u h = even_fate w x c (work_open R x c k) h
      keeps_even w v (Lacks j x e k) u h = even_fate w x Cause.NoMemory refl h
      keeps_even w v (Marks q from x i m r) u h = even_pipe w q (pushed (pipe w q) from x) (ap after_close (gone_pushed (pipe w q) from x (u.whole.fits q))) h
      keeps_even w v (Sends l j o i n e) u h = h
      keeps_even w v (Fails j o e) u h = even_fate w (Out o) Cause.SendFailed refl h
      keeps_even w v (Sweeps q j x ls i n m e k) u h = even_swept w q j x k m h

      start_even : Even s
      unfolding Even tail
      start_even = ap (total closed) st.fates ∙ sym (total-nothing tail (empty_pipe 0) s.pipes (λ q. ap (λ (k : ℕ). total (one named) (after_close (take k (items (pipe s q).history)))) (st.taken q)))

      counted : (w : World K) → Sound R s law w → Even w → closed_count named w ≡ swept_count R named w
      unfolding Even closed tail one
      counted w u e =
          let f = count-total (λ (f : Fate K). named f.link f.number && is_closed f.cause) w.fates in
          let a = total-agree (λ (p : Pipe K). count (is_named named) (after_close (gone p))) tail (drop R.links w.pipes) (λ p. count-total (is_named named) (after_close (gone p))) in
          let c = u.whole.pipe_count in
          let b = total-below tail (empty_pipe 0) w.pipes R.links (omega arith) in
          let z = below-none (λ q. tail (pipe w q)) R.links (λ q i. ap (total (one named)) (after_none (gone (pipe w q)) (source_open w u q i))) in
          omega arith

pub keeps_close : (K : Kinds) → KeepsClose K
unfolding Even
keeps_close K R w r law =
    let u = sound R w r law in
    let first = start_sound R r.start law r.is_start in
    let up : (q : ℕ) → R.links ≤ q → Goes (pipe r.start q) (pipe (run R r.start r.steps) q) (took R r.start r.steps q) (swept R r.start r.steps q) = λ q i. all_steps R r.start law q i r.steps r.start first in
    let none : (q : ℕ) → gone (pipe r.start q) ≡ [] = λ q. ap (λ (k : ℕ). take k (items (pipe r.start q).history)) (r.is_start.taken q) in
    let by_take : (q : ℕ) → R.links ≤ q → took R r.start r.steps q ≡ up_to_close (gone (pipe w q)) =
    λ q i. sym (ap (λ (v : World K). up_to_close (gone (pipe v q))) r.by_steps ∙ ((up q i).up ∙ ap (λ (xs : List (Item K)). up_to_close xs ++ took R r.start r.steps q) (none q))) in
    let by_sweep : (q : ℕ) → R.links ≤ q → swept R r.start r.steps q ≡ after_close (gone (pipe w q)) =
    λ q i. sym (ap (λ (v : World K). after_close (gone (pipe v q))) r.by_steps ∙ ((up q i).after ∙ ap (λ (xs : List (Item K)). after_close xs ++ swept R r.start r.steps q) (none q))) in
    let even : (a n : ℕ) → Even (is_one a n) w =
    λ a n. subst (Even (is_one a n)) (sym r.by_steps) (run_keeps R (λ v. Sound R r.start law v × Even (is_one a n) v) (λ x y m i. (keeps_sound R r.start law x y m i.0, keeps_even (is_one a n) R r.start law r.is_start x y m i.0 i.1)) r.steps r.start (first, start_even (is_one a n) R r.start law r.is_start)).1 in
    record {
      by_take = by_take;
      by_sweep = by_sweep;
      for_sending = λ q i. sym (ap before_close (by_take q i) ∙ before_up (gone (pipe w q)));
      causes = λ a n. counted (is_one a n) R r.start law r.is_start w u (even a n);
    }
