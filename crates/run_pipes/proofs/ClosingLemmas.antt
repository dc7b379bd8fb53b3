-- Closing marks, tried one by one.
use Rattle.std.proofs.Common.{◌≡◌, ℕ, zero, suc, ◌+◌, ◌<◌, ◌≤◌, Bool, true, false, List, [], ◌∷◌, Ok, Err, length, slice_get, slice_index_or, Option, unwrap_or, refl, sym, ap, subst, ◌∙◌, arith}
use Rattle.std.proofs.lemmas.Bool.{cond-false, false≢true}
use Rattle.std.proofs.lemmas.Option.{unwrap_or-slice_get}
use Rattle.process_packet.specs.declared.config.Config.{Config}
use Rattle.ruled_pipe.specs.Pipe.{Shape}
use Rattle.process_packet.specs.Network.{has_link, network}
use Rattle.router_rules.specs.Links.{link_count, link_index}
use Rattle.router_rules.proofs.LinkLemmas.{index_within}
use Rattle.run_ends.specs.Shutting.{AreShutters, Closes, ClosesAt, Shutting, closed_at}
use Rattle.run_pipes.specs.declared.closing.CloseFault.TheVariants.{Full, AlreadyClosed}
use Rattle.run_pipes.specs.Closing.{AreClosed, ClosesMarks, TriesAt, TriesMarks}

module _ {X : Type 0} where
  index_got : (xs ys : List X) (j : ℕ) (d : X) → slice_get xs j ≡ slice_get ys j → slice_index_or xs j d ≡ slice_index_or ys j d
  index_got xs ys j d same = sym (unwrap_or-slice_get xs j d) ∙ (ap (λ (o : Option X). unwrap_or o d) same ∙ unwrap_or-slice_get ys j d)

module _ {T : Type 0} where
  closed_index : (hs : List (Shutting T)) (j : ℕ) (d : Shutting T) → j < length hs → closed_at hs j ≡ (slice_index_or hs j d).closed
  closed_index [] j d lt = absurd (omega arith)
  closed_index (h ∷ hs) zero d lt = refl
  closed_index (h ∷ hs) (suc j) d lt = closed_index hs j d (omega arith)

  pub closed_read : (hs : List (Shutting T)) (j : ℕ) (x : Shutting T) (b : Bool) → j < length hs → x ≡ slice_index_or hs j x → b ≡ x.closed → closed_at hs j ≡ b
  closed_read hs j x b lt is read = closed_index hs j x lt ∙ (ap (λ (h : Shutting T). h.closed) (sym is) ∙ sym read)

  closed_got : (xs ys : List (Shutting T)) (j : ℕ) → slice_get xs j ≡ slice_get ys j → closed_at xs j ≡ closed_at ys j
  closed_got [] [] j same = refl
  closed_got [] (b ∷ ys) zero same = absurd cc
  closed_got [] (b ∷ ys) (suc j) same = closed_got [] ys j same
  closed_got (a ∷ xs) [] zero same = absurd cc
  closed_got (a ∷ xs) [] (suc j) same = closed_got xs [] j same
  closed_got (a ∷ xs) (b ∷ ys) zero same = let e : a ≡ b = cc in ap (λ (h : Shutting T). h.closed) e
  closed_got (a ∷ xs) (b ∷ ys) (suc j) same = closed_got xs ys j same

  -- ---- one mark

  pub is_tried : (at : ℕ) (is_there : Bool) (old new : List (Shutting T)) → ClosesAt at is_there old new → TriesAt at old new
  is_tried at is_there old new c = record { is_there = is_there; closes = c.closes }

  -- ---- one band

  pub single_tried : (low : ℕ) (old new : List (Shutting T)) → TriesAt low old new → ((j : ℕ) → (j ≡ low → ⊥) → slice_get new j ≡ slice_get old j) → TriesMarks false low old new
  single_tried low old new tried others = record { low = tried; high = λ e. absurd (false≢true e); others = λ j other high. others j other }

  single_closed : (low : ℕ) (hs : List (Shutting T)) → closed_at hs low ≡ true → AreClosed false low hs
  single_closed low hs e = (e, λ f. absurd (false≢true f))

  pub single_already : (low : ℕ) (hs : List (Shutting T)) → closed_at hs low ≡ true → ClosesMarks false low (Err AlreadyClosed) hs hs
  single_already low hs e = (single_closed low hs e, refl)

  pub single_pushed : (low : ℕ) (x : Unit {0}) (old new : List (Shutting T)) → closed_at old low ≡ false → closed_at new low ≡ true → TriesMarks false low old new → ClosesMarks false low (Ok x) old new
  single_pushed low x old new was is tries = (λ all. false≢true (sym was ∙ all.0), single_closed low new is, tries)

  -- ---- two bands

  pub used_after : (at j : ℕ) (d : Shutting T) (old new : List (Shutting T)) → ((k : ℕ) → (k ≡ at → ⊥) → slice_get new k ≡ slice_get old k) → (j ≡ at → ⊥) → (slice_index_or old j d).used ≡ true → (slice_index_or new j d).used ≡ true
  used_after at j d old new others other used = ap (λ (h : Shutting T). h.used) (index_got new old j d (others j other)) ∙ used

  pub double_tried : (low : ℕ) (old mid new : List (Shutting T))
      → TriesAt (low + 1) old mid → ((j : ℕ) → (j ≡ low + 1 → ⊥) → slice_get mid j ≡ slice_get old j)
      → TriesAt low mid new → ((j : ℕ) → (j ≡ low → ⊥) → slice_get new j ≡ slice_get mid j) → TriesMarks true low old new
  double_tried low old mid new first above second below =
      let apart : low ≡ low + 1 → ⊥ = λ e. absurd (omega arith) in
      let back : low + 1 ≡ low → ⊥ = λ e. absurd (omega arith) in
      record {
        low = record {
          is_there = second.is_there;
          closes = λ d. subst (λ (h : Shutting T). Closes second.is_there h (slice_index_or new low d)) (index_got mid old low d (above low apart)) (second.closes d);
        };
        high = λ two. record {
          is_there = first.is_there;
          closes = λ d. subst (λ (h : Shutting T). Closes first.is_there (slice_index_or old (low + 1) d) h) (sym (index_got new mid (low + 1) d (below (low + 1) back))) (first.closes d);
        };
        others = λ j other high. below j other ∙ above j (high refl);
      }

  pub high_then : (low : ℕ) (mid new : List (Shutting T)) (b : Bool) → ((j : ℕ) → (j ≡ low → ⊥) → slice_get new j ≡ slice_get mid j) → closed_at mid (low + 1) ≡ b → closed_at new (low + 1) ≡ b
  high_then low mid new b below is = closed_got new mid (low + 1) (below (low + 1) (λ e. absurd (omega arith))) ∙ is

  pub double_already : (low : ℕ) (hs : List (Shutting T)) → closed_at hs (low + 1) ≡ true → closed_at hs low ≡ true → ClosesMarks true low (Err AlreadyClosed) hs hs
  double_already low hs high is = ((is, λ two. high), refl)

  pub double_pushed : (low : ℕ) (x : Unit {0}) (old new : List (Shutting T)) → ((closed_at old (low + 1) ≡ true) → (closed_at old low ≡ true) → ⊥) → closed_at new (low + 1) ≡ true → closed_at new low ≡ true → TriesMarks true low old new → ClosesMarks true low (Ok x) old new
  double_pushed low x old new was high is tries = (λ all. was (all.1 refl) all.0, (is, λ two. high), tries)

  pub double_full : (low : ℕ) (old new : List (Shutting T)) → ((closed_at new (low + 1) ≡ true) → (closed_at new low ≡ true) → ⊥) → TriesMarks true low old new → ClosesMarks true low (Err Full) old new
  double_full low old new is tries = (λ all. is (all.1 refl) all.0, tries)

  -- ---- the controller's ends

  pub used_at : (uses : ℕ → Bool) (k p : ℕ) (ss : List Shape) (hs : List (Shutting T)) (j : ℕ) (d : Shutting T) → AreShutters uses k p ss hs → j < length hs → (slice_index_or hs j d).used ≡ uses (k + j)
  used_at uses k p [] [] j d are lt = absurd (omega arith)
  used_at uses k p [] (h ∷ hs) j d are lt = absurd are
  used_at uses k p (s ∷ ss) [] j d are lt = absurd are
  used_at uses k p (s ∷ ss) (h ∷ hs) zero d are lt = let e : k ≡ k + 0 = omega arith in are.0.1 ∙ ap uses e
  used_at uses k p (s ∷ ss) (h ∷ hs) (suc j) d are lt = let e : suc k + j ≡ k + suc j = omega arith in used_at uses (suc k) p ss hs j d are.1 (omega arith) ∙ ap uses e

  pub shutters_long : (uses : ℕ → Bool) (k p : ℕ) (ss : List Shape) (hs : List (Shutting T)) → AreShutters uses k p ss hs → length hs ≡ length ss
  shutters_long uses k p [] [] are = refl
  shutters_long uses k p [] (h ∷ hs) are = absurd are
  shutters_long uses k p (s ∷ ss) [] are = absurd are
  shutters_long uses k p (s ∷ ss) (h ∷ hs) are = let e = shutters_long uses (suc k) p ss hs are.1 in omega arith

-- an interface that no link has is numbered after all links
index_cases : (c : Config) (id : ℕ) (b : Bool) → has_link (network c) id ≡ b → link_index c id ≤ link_count c
index_cases c id true e = let lt = index_within c id e in omega arith
index_cases c id false e = let z : link_index c id ≡ link_count c = cond-false _ _ _ e in omega arith

pub no_link : (c : Config) (id : ℕ) → link_count c ≤ link_index c id → link_index c id ≡ link_count c
no_link c id le = let w = index_cases c id (has_link (network c) id) refl in omega arith
