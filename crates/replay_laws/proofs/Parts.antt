-- Hands and pipes after one change.
use Rattle.std.proofs.Common.{◌≡◌, ◌≢◌, ◌⊎◌, inl, inr, ℕ, Bool, true, false, ◌||◌, ◌+◌, ◌<◌, ◌≤◌, cond, List, [], ◌∷◌, ◌++◌, length, take, drop, get_or, set, refl, ◌∙◌, ap}
use Rattle.std.specs.Prelude.{Some}
use Rattle.std.specs.List.{All}
use Rattle.std.proofs.lemmas.List.Elements.{All-nil, All-cons, All-head, All-tail}
use Rattle.std.proofs.lemmas.List.{get_or-set_same, get_or-set_other, get_or_past, set_past, drop-append-le, take-append-le, take_more, drop_more, map-append}
use Rattle.std.proofs.lemmas.Option.{slice_get_within, get_or_from_slice_get}
use Rattle.std.proofs.lemmas.Bool.{cases_eq, cases_lt}
use Rattle.order_laws.specs.Item.{Item}
use Rattle.replay_laws.specs.Marks.{before_close, has_close, is_close}
use Rattle.order_laws.specs.Kinds.{Kinds}
use Rattle.replay_laws.specs.Pipe.{Pipe, empty_pipe, front, gone, held, items, one_taken, pushed}
use Rattle.replay_laws.specs.Worker.{Worker}
use Rattle.replay_laws.specs.World.{Empty, Hand, World, hand, pipe, with_hand, with_pipe}

-- a list's element after one was replaced
module _ {X : Type 0} (xs : List X) (j : ℕ) (x d : X) where
  pub at_cases : (i : ℕ) → (get_or (set xs j x) i d ≡ get_or xs i d) ⊎ ((i ≡ j) × (get_or (set xs j x) i d ≡ x))
  at_cases i = go (cases_eq i j) (cases_lt j (length xs))
    where
      go : (i ≡ j) ⊎ (i ≡ j → ⊥) → (j < length xs) ⊎ (length xs ≤ j) → (get_or (set xs j x) i d ≡ get_or xs i d) ⊎ ((i ≡ j) × (get_or (set xs j x) i d ≡ x))
      go (inl e) (inl h) = inr (e, rw e (get_or-set_same xs j x d h))
      go (inl e) (inr h) = inl (ap (λ (ys : List X). get_or ys i d) (set_past xs j x h))
      go (inr n) _ = inl (get_or-set_other xs j i x d n)

module _ {K : Kinds} where
  pub hand_cases : (w : World K) (j : ℕ) (h : Hand K) (i : ℕ) → (hand (with_hand w j h) i ≡ hand w i) ⊎ ((i ≡ j) × (hand (with_hand w j h) i ≡ h))
  hand_cases w j h i = at_cases w.hands j h Empty i

  pub hand_other : (w : World K) (j : ℕ) (h : Hand K) (i : ℕ) → i ≢ j → hand (with_hand w j h) i ≡ hand w i
  hand_other w j h i n = get_or-set_other w.hands j i h Empty n

  pub hand_same : (w : World K) (j : ℕ) (h : Hand K) → j < length w.hands → hand (with_hand w j h) j ≡ h
  hand_same w j h i = get_or-set_same w.hands j h Empty i

  pub pipe_cases : (w : World K) (q : ℕ) (p : Pipe K) (i : ℕ) → (pipe (with_pipe w q p) i ≡ pipe w i) ⊎ ((i ≡ q) × (pipe (with_pipe w q p) i ≡ p))
  pipe_cases w q p i = at_cases w.pipes q p (empty_pipe 0) i

  pub pipe_other : (w : World K) (q : ℕ) (p : Pipe K) (i : ℕ) → i ≢ q → pipe (with_pipe w q p) i ≡ pipe w i
  pipe_other w q p i n = get_or-set_other w.pipes q i p (empty_pipe 0) n

  pub pipe_same : (w : World K) (q : ℕ) (p : Pipe K) → q < length w.pipes → pipe (with_pipe w q p) q ≡ p
  pipe_same w q p i = get_or-set_same w.pipes q p (empty_pipe 0) i

  -- the first of what is held
  pub held_front : (p : Pipe K) (x : Item K) → front p ≡ Some x → held p ≡ x ∷ held (one_taken p)
  held_front p x h =
      drop_more (items p.history) p.taken x (slice_get_within (items p.history) p.taken x h)
      ∙ ap (λ (y : Item K). y ∷ drop (p.taken + 1) (items p.history)) (get_or_from_slice_get (items p.history) p.taken x x h)

  pub gone_front : (p : Pipe K) (x : Item K) → front p ≡ Some x → gone (one_taken p) ≡ gone p ++ x ∷ []
  gone_front p x h =
      take_more (items p.history) p.taken x (slice_get_within (items p.history) p.taken x h)
      ∙ ap (λ (y : Item K). take p.taken (items p.history) ++ y ∷ []) (get_or_from_slice_get (items p.history) p.taken x x h)

  pub items_pushed : (p : Pipe K) (from : Worker) (x : Item K) → items (pushed p from x).history ≡ items p.history ++ x ∷ []
  items_pushed p from x = map-append (λ e. e.item) p.history (record { from = from; item = x } ∷ [])

  pub held_pushed : (p : Pipe K) (from : Worker) (x : Item K) → p.taken ≤ length (items p.history) → held (pushed p from x) ≡ held p ++ x ∷ []
  held_pushed p from x h = ap (drop p.taken) (items_pushed p from x) ∙ drop-append-le p.taken (items p.history) (x ∷ []) h

  pub gone_pushed : (p : Pipe K) (from : Worker) (x : Item K) → p.taken ≤ length (items p.history) → gone (pushed p from x) ≡ gone p
  gone_pushed p from x h = ap (take p.taken) (items_pushed p from x) ∙ take-append-le p.taken (items p.history) (x ∷ []) h

  -- what stands before the mark, after one more
  pub before_open : (xs : List (Item K)) (x : Item K) → has_close xs ≡ false → before_close (xs ++ x ∷ []) ≡ xs ++ before_close (x ∷ [])
  before_open [] x h = refl
  before_open (y ∷ xs) x h = go (is_close y) h (before_open xs x)
    where
      go : (b : Bool) → (b || has_close xs) ≡ false → (has_close xs ≡ false → before_close (xs ++ x ∷ []) ≡ xs ++ before_close (x ∷ [])) → cond b [] (y ∷ before_close (xs ++ x ∷ [])) ≡ y ∷ (xs ++ before_close (x ∷ []))
      go true h f = cc
      go false h f = ap (λ (ys : List (Item K)). y ∷ ys) (f h)

  pub before_all : (xs : List (Item K)) → has_close xs ≡ false → before_close xs ≡ xs
  before_all [] h = refl
  before_all (y ∷ xs) h = go (is_close y) h (before_all xs)
    where
      go : (b : Bool) → (b || has_close xs) ≡ false → (has_close xs ≡ false → before_close xs ≡ xs) → cond b [] (y ∷ before_close xs) ≡ y ∷ xs
      go true h f = cc
      go false h f = ap (λ (ys : List (Item K)). y ∷ ys) (f h)

  pub before_shut : (xs : List (Item K)) (x : Item K) → has_close xs ≡ true → before_close (xs ++ x ∷ []) ≡ before_close xs
  before_shut [] x h = cc
  before_shut (y ∷ xs) x h = go (is_close y) h (before_shut xs x)
    where
      go : (b : Bool) → (b || has_close xs) ≡ true → (has_close xs ≡ true → before_close (xs ++ x ∷ []) ≡ before_close xs) → cond b [] (y ∷ before_close (xs ++ x ∷ [])) ≡ cond b [] (y ∷ before_close xs)
      go true h f = refl
      go false h f = ap (λ (ys : List (Item K)). y ∷ ys) (f h)

  -- a hand that isn't empty is there
  pub hand_there : (w : World K) (j : ℕ) → hand w j ≢ Empty → j < length w.hands
  hand_there w j h = go (cases_lt j (length w.hands))
    where
      go : (j < length w.hands) ⊎ (length w.hands ≤ j) → j < length w.hands
      go (inl i) = i
      go (inr n) = absurd (h (get_or_past w.hands j Empty n))

  pub pipe_there : (w : World K) (q : ℕ) (x : Item K) → front (pipe w q) ≡ Some x → q < length w.pipes
  pipe_there w q x h = go (cases_lt q (length w.pipes))
    where
      go : (q < length w.pipes) ⊎ (length w.pipes ≤ q) → q < length w.pipes
      go (inl i) = i
      go (inr n) = absurd (let e = ap front (get_or_past w.pipes q (empty_pipe 0) n) in let P : ⊥ = cc in P)

  pub All-before_close : (P : Item K → Type 0) (xs : List (Item K)) → All P xs → All P (before_close xs)
  All-before_close P [] h = h
  All-before_close P (x ∷ xs) h = go (is_close x) (All-before_close P xs (All-tail P x xs h))
    where
      go : (b : Bool) → All P (before_close xs) → All P (cond b [] (x ∷ before_close xs))
      go true t = All-nil P
      go false t = All-cons P x (before_close xs) (All-head P x xs h) t
