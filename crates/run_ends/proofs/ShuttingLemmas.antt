-- The controller's ends.
use Rattle.std.proofs.Common.{◌≡◌, ℕ, zero, suc, ◌+◌, ◌<◌, Bool, true, false, ◌||◌, List, [], ◌∷◌, ◌++◌, length, MatchBool, slice_get, slice_index_or, slice_set, refl, sym, ap, subst, ◌∙◌, arith}
use Rattle.std.proofs.Math.Bool.{or-true}
use Rattle.std.proofs.lemmas.List.{get_or-set_same, length-set}
use Rattle.order_laws.specs.Deeds.{closes, has_mark, payload_of, payloads}
use Rattle.ruled_pipe.specs.declared.entry.Entry.{Entry}
use Rattle.ruled_pipe.specs.declared.entry.Load.TheVariants.{Marked}
use Rattle.ruled_pipe.specs.declared.entry.Mark.{Mark}
use Rattle.ruled_pipe.specs.declared.entry.Mark.TheVariants.{Close, End}
use Rattle.ruled_pipe.specs.Gathered.{end_of, ends_in}
use Rattle.ruled_pipe.specs.Producer.{Sender, entry, offered, refused}
use Rattle.ruled_pipe.specs.Pipe.{Shape, IsEndOf}
use Rattle.worker_laws.specs.Ends.{load_in, pushes}
use Rattle.run_ends.specs.Rows.{AreEndsOf}
use Rattle.run_ends.specs.Settled.{IsFinal, AreFinished}
use Rattle.run_ends.specs.Shutting.{AreMarking, AreNew, AreUnended, AreShutters, Closes, ClosesAt, EachEnds, Ends, EndsUpTo, IsSameShutter, IsShutting, IsStill, PushMarks, Shutting, closed_at, shutter_ends, shutting, tried}

module _ {X : Type 0} where
  get_set : (xs : List X) (at j : ℕ) (x : X) → (j ≡ at → ⊥) → slice_get (slice_set xs at x) j ≡ slice_get xs j
  get_set [] at j x other = refl
  get_set (y ∷ xs) zero zero x other = absurd (other refl)
  get_set (y ∷ xs) zero (suc j) x other = refl
  get_set (y ∷ xs) (suc at) zero x other = refl
  get_set (y ∷ xs) (suc at) (suc j) x other = get_set xs at j x (λ e. other (ap suc e))

module _ {T : Type 0} where
  ends_more : (es : List (Entry T)) (e : Entry T) → ends_in (es ++ e ∷ []) ≡ ends_in es + end_of e.load
  ends_more [] e = omega arith
  ends_more (x ∷ es) e = let r = ends_more es e in omega arith

  silent_front : (xs ys zs : List T) → (ys ≡ [] → zs ≡ []) → xs ++ ys ≡ [] → xs ++ zs ≡ []
  silent_front [] ys zs f e = f e
  silent_front (x ∷ xs) ys zs f e = absurd cc

  silent_more : (es : List (Entry T)) (n : ℕ) (m : Mark) → payloads (pushes es) ≡ [] → payloads (pushes (es ++ entry n (Marked m) ∷ [])) ≡ []
  silent_more [] n Close none = refl
  silent_more [] n End none = refl
  silent_more (e ∷ es) n m none = silent_front (payload_of (load_in e.load)) (payloads (pushes es)) (payloads (pushes (es ++ entry n (Marked m) ∷ []))) (silent_more es n m) none

  close_more : (es : List (Entry T)) (n : ℕ) → has_mark (pushes (es ++ entry n (Marked Close) ∷ [])) ≡ true
  close_more [] n = refl
  close_more (e ∷ es) n = rw (close_more es n) (or-true (closes (load_in e.load)))

  end_more : (es : List (Entry T)) (n : ℕ) → has_mark (pushes (es ++ entry n (Marked End) ∷ [])) ≡ has_mark (pushes es)
  end_more [] n = refl
  end_more (e ∷ es) n = ap (λ (b : Bool). closes (load_in e.load) || b) (end_more es n)

  pub closed_now : (s : Sender T) (used ended : Bool) → IsShutting (shutting s used false ended) → used ≡ true → ended ≡ false → IsShutting (shutting (offered s (entry s.number (Marked Close))) used true ended)
  closed_now s used ended is u e = record {
    silent = silent_more s.offers s.number Close is.silent;
    marked = close_more s.offers s.number;
    owed = λ z. let m = ends_more s.offers (entry s.number (Marked Close)) in let o = is.owed e in omega arith;
    there = λ z. absurd (let w = sym e ∙ z in cc);
    spared = λ z. absurd (let w = sym u ∙ z in cc);
  }

  -- the mark was there before; or it is there now; or it was refused
  pub closing_was : (s : Sender T) (used closed ended : Bool) (h : Shutting T) → shutting s used closed ended ≡ h → closed ≡ true → Closes true h h
  closing_was s used closed ended h is there =
      subst (λ (x : Shutting T). Closes true x x) is
      (subst (λ (b : Bool). Closes true (shutting s used b ended) (shutting s used b ended)) (sym there) (refl, refl))

  pub closing_there : (s new : Sender T) (used closed ended : Bool) (h : Shutting T) → shutting s used closed ended ≡ h → closed ≡ false → new ≡ offered s (entry s.number (Marked Close)) → Closes true h (shutting new used true ended)
  closing_there s new used closed ended h is un step =
      subst (λ (x : Shutting T). Closes true x (shutting new used true ended)) is
      (subst (λ (b : Bool). Closes true (shutting s used b ended) (shutting new used true ended)) (sym un) (ap (λ (x : Sender T). shutting x used true ended) step))

  pub closing_full : (s new : Sender T) (used closed ended : Bool) (h : Shutting T) → shutting s used closed ended ≡ h → closed ≡ false → new ≡ refused s (entry s.number (Marked Close)) → Closes false h (shutting new used closed ended)
  closing_full s new used closed ended h is un step =
      subst (λ (x : Shutting T). Closes false x (shutting new used closed ended)) is
      (subst (λ (b : Bool). Closes false (shutting s used b ended) (shutting new used b ended)) (sym un) (ap (λ (x : Sender T). shutting x used false ended) step))

  -- the mark was refused, and that is all
  pub still_full : (s new : Sender T) (e : Entry T) (used closed ended : Bool) (h : Shutting T) → shutting s used closed ended ≡ h → ended ≡ false → new ≡ refused s e → IsStill h (shutting new used closed ended)
  still_full s new e used closed ended h is un step =
      subst (λ (x : Shutting T). IsStill x (shutting new used closed ended)) is
      (subst (λ (n : Sender T). IsStill (shutting s used closed ended) (shutting n used closed ended)) (sym step) ((refl, refl, refl, refl, refl), refl, un))

  pub ended_now : (s : Sender T) (used closed ended : Bool) → IsShutting (shutting s used closed ended) → used ≡ true → ended ≡ false → IsShutting (shutting (offered s (entry s.number (Marked End))) used closed true)
  ended_now s used closed ended is u e = record {
    silent = silent_more s.offers s.number End is.silent;
    marked = end_more s.offers s.number ∙ is.marked;
    owed = λ z. absurd cc;
    there = λ z. (s.offers, entry s.number (Marked End), refl, is.owed e, refl);
    spared = λ z. absurd (let w = sym u ∙ z in cc);
  }

  pub ends_then : (a b c : Shutting T) → IsStill a b → Ends b c → Ends a c
  ends_then a b c s e = record {
    same = (e.same.0 ∙ s.0.0, e.same.1 ∙ s.0.1, e.same.2 ∙ s.0.2, e.same.3 ∙ s.0.3, e.same.4 ∙ s.0.4);
    closed = e.closed ∙ s.1;
    ended = e.ended;
  }

  -- ---- one after another gets its end mark

  pub ended_next : (k : ℕ) (olds news : List (Shutting T)) (n d : Shutting T) → EndsUpTo k olds news → k < length olds → Ends (slice_index_or news k d) n → EndsUpTo (suc k) olds (slice_set news k n)
  ended_next zero [] news n d at lt one = absurd (omega arith)
  ended_next zero (o ∷ os) news n d at lt one =
      let P : List (Shutting T) → Type 0 = λ ns. Ends (slice_index_or ns 0 d) n in
      subst (λ (ns : List (Shutting T)). EndsUpTo 1 (o ∷ os) (slice_set ns 0 n)) (sym at) (subst P at one, refl)
  ended_next (suc k) [] news n d at lt one = absurd (omega arith)
  ended_next (suc k) (o ∷ os) [] n d at lt one = absurd at
  ended_next (suc k) (o ∷ os) (m ∷ ms) n d at lt one = (at.0, ended_next k os ms n d at.1 (omega arith) one)

  pub still_open : (k : ℕ) (olds news : List (Shutting T)) (d : Shutting T) → EndsUpTo k olds news → k < length olds → AreUnended olds → (slice_index_or news k d).ended ≡ false
  still_open zero [] news d at lt all = absurd (omega arith)
  still_open zero (o ∷ os) news d at lt all = subst (λ (ns : List (Shutting T)). (slice_index_or ns 0 d).ended ≡ false) (sym at) all.0
  still_open (suc k) [] news d at lt all = absurd (omega arith)
  still_open (suc k) (o ∷ os) [] d at lt all = absurd at
  still_open (suc k) (o ∷ os) (m ∷ ms) d at lt all = still_open k os ms d at.1 (omega arith) all.1

  pub all_ended : (k : ℕ) (olds news : List (Shutting T)) → EndsUpTo k olds news → k ≡ length olds → EachEnds olds news
  all_ended zero [] news at e = subst (λ (ns : List (Shutting T)). EachEnds [] ns) (sym at) tt
  all_ended zero (o ∷ os) news at e = absurd (omega arith)
  all_ended (suc k) [] news at e = absurd at
  all_ended (suc k) (o ∷ os) [] at e = absurd at
  all_ended (suc k) (o ∷ os) (m ∷ ms) at e = (at.0, all_ended k os ms at.1 (omega arith))

  -- ---- new ones

  pub new_open : (uses : ℕ → Bool) (k : ℕ) (es : List (Sender T)) (hs : List (Shutting T)) → AreNew uses k es hs → AreUnended hs
  new_open uses k [] [] a = tt
  new_open uses k [] (h ∷ hs) a = absurd a
  new_open uses k (e ∷ es) [] a = absurd a
  new_open uses k (e ∷ es) (h ∷ hs) a = (ap (λ (x : Shutting T). x.ended) a.0, new_open uses (suc k) es hs a.1)

  new_shutters : (uses : ℕ → Bool) (k p : ℕ) (ss : List Shape) (es : List (Sender T)) (hs : List (Shutting T)) → AreNew uses k es hs → AreEndsOf p ss es → AreShutters uses k p ss hs
  new_shutters uses k p [] [] [] a b = tt
  new_shutters uses k p [] [] (h ∷ hs) a b = absurd a
  new_shutters uses k p [] (e ∷ es) hs a b = absurd b
  new_shutters uses k p (s ∷ ss) [] hs a b = absurd b
  new_shutters uses k p (s ∷ ss) (e ∷ es) [] a b = absurd a
  new_shutters uses k p (s ∷ ss) (e ∷ es) (h ∷ hs) a b =
      (subst (λ (x : Shutting T). IsEndOf s p x.end × (x.used ≡ uses k)) (sym a.0) (b.0, refl), new_shutters uses (suc k) p ss es hs a.1 b.1)

  pub shutters_of_new : (uses : ℕ → Bool) (es : List (Sender T)) (hs : List (Shutting T)) → AreNew uses 0 es hs → (p : ℕ) (shapes : List Shape) → AreEndsOf p shapes es → AreShutters uses 0 p shapes hs
  shutters_of_new uses es hs a p shapes b = new_shutters uses 0 p shapes es hs a b

  -- ---- one is closed

  set_closed : (hs : List (Shutting T)) (at : ℕ) (h : Shutting T) → at < length hs → closed_at (slice_set hs at h) at ≡ h.closed
  set_closed [] at h lt = absurd (omega arith)
  set_closed (x ∷ hs) zero h lt = refl
  set_closed (x ∷ hs) (suc at) h lt = set_closed hs at h (omega arith)

  same_set : (uses : ℕ → Bool) (k p : ℕ) (ss : List Shape) (hs : List (Shutting T)) (at : ℕ) (d n : Shutting T) → IsSameShutter (slice_index_or hs at d) n → at < length hs → AreShutters uses k p ss hs → AreShutters uses k p ss (slice_set hs at n)
  same_set uses k p [] [] at d n same lt a = tt
  same_set uses k p [] (h ∷ hs) at d n same lt a = absurd a
  same_set uses k p (s ∷ ss) [] at d n same lt a = absurd a
  same_set uses k p (s ∷ ss) (h ∷ hs) zero d n same lt a = (((same.1 ∙ a.0.0.0, same.2 ∙ a.0.0.1, same.3 ∙ a.0.0.2, same.4 ∙ a.0.0.3), same.0 ∙ a.0.1), a.1)
  same_set uses k p (s ∷ ss) (h ∷ hs) (suc at) d n same lt a = (a.0, same_set uses (suc k) p ss hs at d n same (omega arith) a.1)

  open_set : (hs : List (Shutting T)) (at : ℕ) (n : Shutting T) → n.ended ≡ false → AreUnended hs → AreUnended (slice_set hs at n)
  open_set [] at n e a = tt
  open_set (h ∷ hs) zero n e a = (e, a.1)
  open_set (h ∷ hs) (suc at) n e a = (a.0, open_set hs at n e a.1)

  pub open_at : (hs : List (Shutting T)) (at : ℕ) (d : Shutting T) → AreUnended hs → at < length hs → (slice_index_or hs at d).ended ≡ false
  open_at [] at d a lt = absurd (omega arith)
  open_at (h ∷ hs) zero d a lt = a.0
  open_at (h ∷ hs) (suc at) d a lt = open_at hs at d a.1 (omega arith)

  index_same : (hs : List (Shutting T)) (at : ℕ) (d e : Shutting T) → at < length hs → slice_index_or hs at d ≡ slice_index_or hs at e
  index_same [] at d e lt = absurd (omega arith)
  index_same (h ∷ hs) zero d e lt = refl
  index_same (h ∷ hs) (suc at) d e lt = index_same hs at d e (omega arith)

  -- by whether its closing mark was there
  closes_same : (is_there was : Bool) (s t : Shutting T) → s.ended ≡ false → MatchBool was ((is_there ≡ true) × (t ≡ s)) (t ≡ tried is_there s) → IsSameShutter s t × (t.ended ≡ false)
  closes_same is_there true s t e c = subst (λ (u : Shutting T). IsSameShutter s u × (u.ended ≡ false)) (sym c.1) ((refl, refl, refl, refl, refl), e)
  closes_same true false s t e c = subst (λ (u : Shutting T). IsSameShutter s u × (u.ended ≡ false)) (sym c) ((refl, refl, refl, refl, refl), e)
  closes_same false false s t e c = subst (λ (u : Shutting T). IsSameShutter s u × (u.ended ≡ false)) (sym c) ((refl, refl, refl, refl, refl), e)

  closes_closed : (is_there was : Bool) (s t : Shutting T) → s.closed ≡ was → MatchBool was ((is_there ≡ true) × (t ≡ s)) (t ≡ tried is_there s) → t.closed ≡ is_there
  closes_closed is_there true s t is c = ap (λ (h : Shutting T). h.closed) c.1 ∙ (is ∙ sym c.0)
  closes_closed true false s t is c = ap (λ (h : Shutting T). h.closed) c
  closes_closed false false s t is c = ap (λ (h : Shutting T). h.closed) c

  pub closes_at : (is_there : Bool) (old new : List (Shutting T)) (at : ℕ) (d n : Shutting T) → at < length old → AreUnended old → Closes is_there (slice_index_or old at d) n → new ≡ slice_set old at n → ClosesAt at is_there old new
  closes_at is_there old new at d n lt all closes is =
      let s = slice_index_or old at d in
      let same = closes_same is_there s.closed s n (open_at old at d all lt) closes in
      let Q : (ℕ → Bool) → ℕ → ℕ → List Shape → List (Shutting T) → Type 0 = λ u k p ss l. AreShutters u k p ss l in
      record {
        closes = λ e. subst (λ (h : Shutting T). Closes is_there (slice_index_or old at e) h) (sym (ap (λ (hs : List (Shutting T)). slice_index_or hs at e) is ∙ get_or-set_same old at n e lt))
            (subst (λ (h : Shutting T). Closes is_there h n) (index_same old at d e lt) closes);
        closed = ap (λ (hs : List (Shutting T)). closed_at hs at) is ∙ (set_closed old at n lt ∙ closes_closed is_there s.closed s n refl closes);
        long = ap length is ∙ length-set old at n;
        others = λ j other. ap (λ (hs : List (Shutting T)). slice_get hs j) is ∙ get_set old at j n other;
        unended = subst (λ (l : List (Shutting T)). AreUnended l) (sym is) (open_set old at n same.1 all);
        same = λ u k p ss a. subst (λ (l : List (Shutting T)). Q u k p ss l) (sym is) (same_set u k p ss old at d n same.0 lt a);
      }

  -- ---- as they come back

  pub push_marks : (hs : List (Shutting T)) → AreMarking hs → PushMarks hs
  push_marks [] a j s at = cc
  push_marks (x ∷ hs) a zero s at =
      let same : x.end ≡ s = cc in
      let P : Sender T → Type 0 = λ e. (payloads (pushes e.offers) ≡ []) × (has_mark (pushes e.offers) ≡ x.closed) in
      subst P same (a.0.silent, a.0.marked)
  push_marks (x ∷ hs) a (suc j) s at = push_marks hs a.1 j s at

  final_of : (used : Bool) (h : Shutting T) → IsShutting h → h.used ≡ used → h.ended ≡ h.used → IsFinal used h.end.offers
  final_of true h is u e = is.there (e ∙ u)
  final_of false h is u e = is.spared u

  finished : (uses : ℕ → Bool) (k p : ℕ) (ss : List Shape) (old new : List (Shutting T)) → AreShutters uses k p ss old → EachEnds old new → AreMarking new → AreFinished uses k p ss (shutter_ends new)
  finished uses k p [] [] [] a e m = tt
  finished uses k p [] [] (n ∷ ns) a e m = absurd e
  finished uses k p [] (o ∷ os) new a e m = absurd a
  finished uses k p (s ∷ ss) [] new a e m = absurd a
  finished uses k p (s ∷ ss) (o ∷ os) [] a e m = absurd e
  finished uses k p (s ∷ ss) (o ∷ os) (n ∷ ns) a e m =
      let same = e.0.same in (
        ((same.1 ∙ a.0.0.0, same.2 ∙ a.0.0.1, same.3 ∙ a.0.0.2, same.4 ∙ a.0.0.3), final_of (uses k) n m.0 (same.0 ∙ a.0.1) e.0.ended),
        finished uses (suc k) p ss os ns a.1 e.1 m.1,
      )

  -- shutters that got their end marks have ended
  pub shutters_finish : (uses : ℕ → Bool) (p : ℕ) (shapes : List Shape) (old new : List (Shutting T)) → AreShutters uses 0 p shapes old → EachEnds old new → AreMarking new → AreFinished uses 0 p shapes (shutter_ends new)
  shutters_finish uses p shapes old new a e m = finished uses 0 p shapes old new a e m
