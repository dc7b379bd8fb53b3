-- Ends that stay the same ones.
use Rattle.std.proofs.Common.{◌≡◌, inl, inr, ℕ, zero, suc, Bool, true, false, MatchBool, ◌&&◌, List, [], ◌∷◌, Some, slice_index_or, slice_set, refl, sym, subst, ◌∙◌, arith}
use Rattle.atomic_table.specs.Seated.{TableId}
use Rattle.ruled_pipe.specs.Producer.{new_sender}
use Rattle.worker_parts.specs.Outlet.{Offering, Tried, gave, kept, offering}
use Rattle.worker_parts.specs.Outlets.{GaveAt, KeptAt, TriedIf, TriedWhere, HaveEnded}
use Rattle.worker_parts.specs.Turn.{ending}
use Rattle.worker_parts.specs.declared.turn.Turn.TheVariants.{Quiet, Ended}
use Rattle.worker_parts.specs.Same.{AreSameEnds, IsSameEnd, IsSameWhere, end_self, ends_self, where_self}

module _ {T : Type 0} where
  pub ends_as : (used : ℕ → Bool) (xs ys : List (Offering T)) → ys ≡ xs → AreSameEnds used xs ys
  ends_as used xs ys e = subst (λ (zs : List (Offering T)). AreSameEnds used xs zs) (sym e) (ends_self used xs)

  where_used : (b : Bool) (o t : Offering T) → b ≡ true → IsSameEnd o.sender t.sender → IsSameWhere b o t
  where_used true o t e is = is
  where_used false o t e is = absurd cc

  -- one end that is used becomes another state of itself
  set_same : (used : ℕ → Bool) (k : ℕ) (xs : List (Offering T)) (d : Offering T) (f : Offering T → Offering T) → used k ≡ true → ((o : Offering T) → IsSameEnd o.sender (f o).sender) → AreSameEnds used xs (slice_set xs k (f (slice_index_or xs k d)))
  set_same used k [] d f e is = tt
  set_same used zero (x ∷ xs) d f e is = (where_used (used 0) x (f x) e (is x), ends_self (λ j. used (suc j)) xs)
  set_same used (suc k) (x ∷ xs) d f e is = (where_self (used 0) x, set_same (λ j. used (suc j)) k xs d f e is)

  -- an offer, accepted or refused; any pipe's name serves
  module _ (id : TableId) (used : ℕ → Bool) (k : ℕ) (x : T) (old new : List (Offering T)) (e : used k ≡ true) where
    abbrev none : Offering T
    none = offering (new_sender id 0 0 0) false false

    pub gave_same : GaveAt k x old new → AreSameEnds used old new
    gave_same is = subst (λ (zs : List (Offering T)). AreSameEnds used old zs) (sym (is none)) (set_same used k old none (λ o. gave o x) e (λ o. end_self o.sender))

    pub kept_same : KeptAt k x old new → AreSameEnds used old new
    kept_same is = subst (λ (zs : List (Offering T)). AreSameEnds used old zs) (sym (is none)) (set_same used k old none (λ o. kept o x) e (λ o. end_self o.sender))

  -- end marks that were tried
  pub mark_same : (s t : Offering T) → Tried s t → IsSameEnd s.sender t.sender
  mark_same s t (inl is) = subst (λ (o : Offering T). IsSameEnd s.sender o.sender) (sym is.1) (end_self s.sender)
  mark_same s t (inr (inl is)) = subst (λ (o : Offering T). IsSameEnd s.sender o.sender) (sym is.1) (end_self s.sender)
  mark_same s t (inr (inr is)) = subst (λ (o : Offering T). IsSameEnd s.sender o.sender) (sym is.1) (end_self s.sender)

  if_same : (b : Bool) (x y s : Offering T) → Some x ≡ Some s → TriedIf b s y → IsSameWhere b x y
  if_same true x y s e is = let z : x ≡ s = cc in subst (λ (o : Offering T). IsSameEnd o.sender y.sender) (sym z) (mark_same s y is)
  if_same false x y s e is = let z : x ≡ s = cc in is ∙ sym z

  pub tried_same : (used : ℕ → Bool) (old new : List (Offering T)) → TriedWhere used old new → AreSameEnds used old new
  tried_same used [] [] is = tt
  tried_same used [] (y ∷ ys) is = absurd (let l = is.0 in omega arith)
  tried_same used (x ∷ xs) [] is = absurd (let l = is.0 in omega arith)
  tried_same used (x ∷ xs) (y ∷ ys) is = (
    (let u = is.1 0 y refl in if_same (used 0) x y u.0 u.1 u.2),
    tried_same (λ j. used (suc j)) xs ys ((let l = is.0 in omega arith), λ j t at. is.1 (suc j) t at),
  )

  -- all are there where the turn was the last
  pub all_there : (all : Bool) (used : ℕ → Bool) (ends : List (Offering T)) → Ended ≡ ending all → MatchBool all (HaveEnded used ends) (HaveEnded used ends → ⊥) → HaveEnded used ends
  all_there true used ends e there = there
  all_there false used ends e there = absurd (let z : Ended ≡ Quiet = e in cc)

  pub both_there : (a all : Bool) (used : ℕ → Bool) (ends : List (Offering T)) → Ended ≡ ending (a && all) → MatchBool all (HaveEnded used ends) (HaveEnded used ends → ⊥) → (a ≡ true) × HaveEnded used ends
  both_there true true used ends e there = (refl, there)
  both_there true false used ends e there = absurd (let z : Ended ≡ Quiet = e in cc)
  both_there false all used ends e there = absurd (let z : Ended ≡ Quiet = e in cc)
