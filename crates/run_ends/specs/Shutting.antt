-- Ends of pipes that push marks alone.
use Rattle.std.specs.Prelude.{◌≡◌, ℕ, zero, suc, Bool, true, false, List, [], ◌∷◌, map, length, slice_get, Some, slice_index_or, MatchBool}
use Rattle.order_laws.specs.Deeds.{Each, has_mark, payloads}
use Rattle.ruled_pipe.specs.declared.entry.Load.TheVariants.{Marked}
use Rattle.ruled_pipe.specs.declared.entry.Mark.TheVariants.{Close}
use Rattle.ruled_pipe.specs.Producer.{Sender, entry, offered, refused}
use Rattle.ruled_pipe.specs.Pipe.{Shape, IsEndOf}
use Rattle.ruled_pipe.specs.Gathered.{EndsWithMark, ends_in}
use Rattle.worker_laws.specs.Ends.{pushes}
use Rattle.run_ends.specs.Opened.{AreMadeOf}

-- its producer, whether its pipe is used, and whether its closing mark and its end mark are there
pub record Shutting (T : Type 0) : Type 0 where
  pub end : Sender T
  pub used : Bool
  pub closed : Bool
  pub ended : Bool

-- It pushes marks alone: whether a closing mark is there, and an end mark only as the last push
pub record IsShutting {T : Type 0} (s : Shutting T) : Type 0 where
  pub silent : payloads (pushes s.end.offers) ≡ []
  pub marked : has_mark (pushes s.end.offers) ≡ s.closed
  pub owed : s.ended ≡ false → ends_in s.end.offers ≡ 0
  pub there : s.ended ≡ true → EndsWithMark s.end.offers
  pub spared : s.used ≡ false → s.end.offers ≡ []

module _ {T : Type 0} where
  abbrev pub shutting : Sender T → Bool → Bool → Bool → Shutting T
  shutting end used closed ended = record { end = end; used = used; closed = closed; ended = ended }

  -- the same end of the same pipe
  abbrev pub IsSameShutter : Shutting T → Shutting T → Type 0
  IsSameShutter a b = (b.used ≡ a.used) × (b.end.pipe ≡ a.end.pipe) × (b.end.number ≡ a.end.number) × (b.end.producers ≡ a.end.producers) × (b.end.capacity ≡ a.end.capacity)

  -- after a try of its closing mark, which was pushed or refused
  abbrev pub tried : Bool → Shutting T → Shutting T
  tried true s = shutting (offered s.end (entry s.end.number (Marked Close))) s.used true s.ended
  tried false s = shutting (refused s.end (entry s.end.number (Marked Close))) s.used false s.ended

  -- The mark was there before, and nothing changed; or it was tried, and is there now if it was pushed.
  abbrev pub Closes : Bool → Shutting T → Shutting T → Type 0
  Closes is_there s t = MatchBool s.closed ((is_there ≡ true) × (t ≡ s)) (t ≡ tried is_there s)

  -- the end mark is there where the pipe is used, and no other mark was pushed
  pub record Ends (s t : Shutting T) : Type 0 where
    pub same : IsSameShutter s t
    pub closed : t.closed ≡ s.closed
    pub ended : t.ended ≡ t.used

  -- no mark was pushed
  abbrev pub IsStill : Shutting T → Shutting T → Type 0
  IsStill s t = IsSameShutter s t × (t.closed ≡ s.closed) × (t.ended ≡ false)

  abbrev pub EachEnds : List (Shutting T) → List (Shutting T) → Type 0
  EachEnds [] [] = Unit {0}
  EachEnds (s ∷ ss) (t ∷ ts) = Ends s t × EachEnds ss ts
  EachEnds _ _ = ⊥

  -- of the first k, each got its end mark, and the others are as they were
  abbrev pub EndsUpTo : ℕ → List (Shutting T) → List (Shutting T) → Type 0
  EndsUpTo zero olds news = news ≡ olds
  EndsUpTo (suc k) (a ∷ xs) (b ∷ ys) = Ends a b × EndsUpTo k xs ys
  EndsUpTo (suc k) _ _ = ⊥

  -- no end mark is there yet
  abbrev pub AreUnended : List (Shutting T) → Type 0
  AreUnended [] = Unit {0}
  AreUnended (s ∷ ss) = (s.ended ≡ false) × AreUnended ss

  -- producer p of each pipe from number k on, by whether it is used
  abbrev pub AreShutters : (uses : ℕ → Bool) → (k p : ℕ) → List Shape → List (Shutting T) → Type 0
  AreShutters uses k p [] [] = Unit {0}
  AreShutters uses k p (s ∷ ss) (h ∷ hs) = (IsEndOf s p h.end × (h.used ≡ uses k)) × AreShutters uses (suc k) p ss hs
  AreShutters uses k p _ _ = ⊥

  -- new ones of these ends, from number k on
  abbrev pub AreNew : (uses : ℕ → Bool) → ℕ → List (Sender T) → List (Shutting T) → Type 0
  AreNew uses k es hs = AreMadeOf (λ j e h. h ≡ shutting e (uses j) false false) k es hs

  abbrev pub shutter_ends : List (Shutting T) → List (Sender T)
  shutter_ends hs = map (λ (h : Shutting T). h.end) hs

  -- each pushed marks alone
  abbrev pub AreMarking : List (Shutting T) → Type 0
  AreMarking hs = Each (λ (h : Shutting T). IsShutting h) hs

  -- whether the closing mark of pipe j is there
  abbrev pub closed_at : List (Shutting T) → ℕ → Bool
  closed_at [] j = false
  closed_at (h ∷ hs) zero = h.closed
  closed_at (h ∷ hs) (suc j) = closed_at hs j

  -- each pushed marks alone, and a closing mark where it says so
  abbrev pub PushMarks : List (Shutting T) → Type 0
  PushMarks hs = (j : ℕ) (s : Sender T) → slice_get (shutter_ends hs) j ≡ Some s → (payloads (pushes s.offers) ≡ []) × (has_mark (pushes s.offers) ≡ closed_at hs j)

  -- the one at a place tried its closing mark, and the others nothing; all are of the same pipes as before
  pub record ClosesAt (at : ℕ) (is_there : Bool) (old new : List (Shutting T)) : Type 0 where
    pub closes : (d : Shutting T) → Closes is_there (slice_index_or old at d) (slice_index_or new at d)
    pub closed : closed_at new at ≡ is_there
    pub long : length new ≡ length old
    pub others : (j : ℕ) → (j ≡ at → ⊥) → slice_get new j ≡ slice_get old j
    pub unended : AreUnended new
    pub same : (uses : ℕ → Bool) (k p : ℕ) (shapes : List Shape) → AreShutters uses k p shapes old → AreShutters uses k p shapes new
