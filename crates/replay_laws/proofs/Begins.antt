-- The first world is a start.
use Rattle.std.proofs.Common.{◌≡◌, ◌⊎◌, inl, inr, ℕ, false, zero, suc, ◌+◌, ◌*◌, ◌-◌, ◌<◌, ◌≤◌, List, [], ◌∷◌, ◌++◌, replicate, length, get_or, refl, sym, subst, ◌∙◌, arith, length-append}
use Rattle.std.specs.List.{All}
use Rattle.std.proofs.lemmas.List.{get_or_past, get_or-append_right, length-replicate}
use Rattle.std.proofs.lemmas.List.Elements.{All-nil, All-cons, All-append, All-replicate, All-get_or}
use Rattle.std.proofs.lemmas.Bool.{cases_lt}
use Rattle.order_laws.specs.Item.{Outgoing}
use Rattle.order_laws.specs.Kinds.{Kinds}
use Rattle.replay_laws.specs.Pipe.{Pipe, empty_pipe, items}
use Rattle.order_laws.specs.Rules.{Rules}
use Rattle.replay_laws.specs.Start.{Begins, AreSources, IsStart, Numbered, first_world}
use Rattle.replay_laws.specs.World.{Empty}

at_any : {X : Type 0} (P : X → Type 0) (d : X) (xs : List X) → All P xs → P d → (j : ℕ) → P (get_or xs j d)
at_any P d xs h n j = go (cases_lt j (length xs))
  where
    go : (j < length xs) ⊎ (length xs ≤ j) → P (get_or xs j d)
    go (inl i) = All-get_or P xs j d i h
    go (inr i) = subst P (sym (get_or_past xs j d i)) n

none_of : {X : Type 0} (n : ℕ) (d : X) (j : ℕ) → get_or (replicate n d) j d ≡ d
none_of zero d j = refl
none_of (suc n) d zero = refl
none_of (suc n) d (suc j) = none_of n d j

module _ {K : Kinds} where
  -- nothing of it was taken, and nothing refused
  abbrev IsFresh : Pipe K → Type 0
  IsFresh p = (p.taken ≡ 0) × (p.refusals ≡ [])

  abbrev IsBare : Pipe K → Type 0
  IsBare p = p.history ≡ []

  fresh_sources : (k : ℕ) (ps : List (Pipe K)) → AreSources k ps → All IsFresh ps
  fresh_sources k [] h = All-nil IsFresh
  fresh_sources k (p ∷ ps) h = All-cons IsFresh p ps (h.0.0, h.0.1) (fresh_sources (k + 1) ps h.1)

  source_at : (k : ℕ) (ps rest : List (Pipe K)) → AreSources k ps → (j : ℕ) → j < length ps → Numbered (k + j) 1 (items (get_or (ps ++ rest) j (empty_pipe 0)).history)
  source_at k [] rest h j i = absurd (omega arith)
  source_at k (p ∷ ps) rest h zero i = let P : ℕ → Type 0 = λ z. Numbered z 1 (items p.history) in let e : k ≡ k + 0 = omega arith in subst P e h.0.2
  source_at k (p ∷ ps) rest h (suc j) i =
      let P : ℕ → Type 0 = λ z. Numbered z 1 (items (get_or (ps ++ rest) j (empty_pipe 0)).history) in
      let e : (k + 1) + j ≡ k + suc j = omega arith in
      subst P e (source_at (k + 1) ps rest h.1 j (omega arith))

  pub first_is_start : (R : Rules K) (capacity : ℕ) (ps : List (Pipe K)) → length ps ≡ R.links → AreSources 0 ps → IsStart R (first_world R capacity ps)
  first_is_start R capacity ps n h = record {
    hand_count = length-replicate _ _;
    pipe_count = length-append ps rest ∙ (let t : length rest ≡ R.processors + 1 + 2 * R.links = length-replicate (R.processors + 1 + 2 * R.links) (empty_pipe capacity) in omega arith);
    sent_count = length-replicate _ _;
    hands = λ j. none_of _ Empty j;
    taken = λ q. (fresh q).0;
    numbered = λ a i. (let P : ℕ → Type 0 = λ z. Numbered z 1 (items (get_or (ps ++ rest) a (empty_pipe 0)).history) in let e : 0 + a ≡ a = omega arith in subst P e (source_at 0 ps rest h a (omega arith)));
    empty = λ q i. (subst IsBare (sym (get_or-append_right ps rest R.links q (empty_pipe 0) n i)) (at_any IsBare (empty_pipe 0) rest (All-replicate IsBare (R.processors + 1 + 2 * R.links) (empty_pipe capacity) refl) refl (q - R.links)));
    refusals = λ q. (fresh q).1;
    looks = λ l. none_of R.links false l;
    fates = refl;
    sent = λ l. (let none : List (Outgoing K) = [] in none_of R.links none l);
  }
    where
      rest : List (Pipe K)
      rest = replicate (R.processors + 1 + 2 * R.links) (empty_pipe capacity)

      fresh : (q : ℕ) → IsFresh (get_or (ps ++ replicate (R.processors + 1 + 2 * R.links) (empty_pipe capacity)) q (empty_pipe 0))
      fresh q = at_any IsFresh (empty_pipe 0) (ps ++ rest) (All-append IsFresh ps rest (fresh_sources 0 ps h) (All-replicate IsFresh (R.processors + 1 + 2 * R.links) (empty_pipe capacity) (refl, refl))) (refl, refl) q

pub begins : (K : Kinds) → Begins K
begins K = first_is_start
