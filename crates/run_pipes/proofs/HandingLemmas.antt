-- Ends in the workers' hands.
use Rattle.std.proofs.Common.{◌≡◌, ℕ, zero, suc, ◌+◌, Bool, true, false, List, [], ◌∷◌, ◌++◌, length, slice_get, Some, refl, sym, ap, subst, ◌∙◌, arith, append_assoc, append-nil}
use Rattle.order_laws.specs.Deeds.{closes, has_mark}
use Rattle.ruled_pipe.specs.declared.entry.Entry.{Entry}
use Rattle.ruled_pipe.specs.declared.entry.Load.{Load}
use Rattle.ruled_pipe.specs.declared.entry.Load.TheVariants.{Payload, Marked}
use Rattle.ruled_pipe.specs.declared.entry.Mark.TheVariants.{Close, End}
use Rattle.ruled_pipe.specs.Producer.{Sender}
use Rattle.ruled_pipe.specs.Pipe.{Shape}
use Rattle.worker_laws.specs.Ends.{load_in, pushes}
use Rattle.worker_parts.specs.Outlet.{Offering, IsMarked, NoClose, is_closing}
use Rattle.worker_parts.specs.Outlets.{HaveEnded, senders}
use Rattle.run_ends.specs.Rows.{AreEndsOf}
use Rattle.run_ends.specs.Settled.{IsFinal, AreFinished}
use Rattle.run_pipes.specs.Handing.{AreMarked, AreSpared, NeverClosed}

-- ---- what is taken of a list, from the front

module _ {X : Type 0} where
  -- what is left begins with the next one
  pub with_next : (xs old new all : List X) (x : X) → old ≡ x ∷ new → xs ++ old ≡ all → xs ++ x ∷ new ≡ all
  with_next xs old new all x is split = ap (λ (l : List X). xs ++ l) (sym is) ∙ split

  -- one more was taken, and all were
  pub one_taken : (xs old new all : List X) (x : X) → old ≡ x ∷ new → xs ++ old ≡ all → (xs ++ x ∷ []) ++ new ≡ all
  one_taken xs old new all x is split = append_assoc xs (x ∷ []) new ∙ with_next xs old new all x is split

  pub all_taken : (xs old all : List X) (n : ℕ) → xs ++ old ≡ all → n ≡ length old → n ≡ 0 → xs ≡ all
  all_taken xs [] all n split long none = sym (append-nil xs) ∙ split
  all_taken xs (y ∷ old) all n split long none = absurd (omega arith)

module _ {T : Type 0} where
  closes_as : (l : Load T) → closes (load_in l) ≡ is_closing l
  closes_as (Payload x) = refl
  closes_as (Marked Close) = refl
  closes_as (Marked End) = refl

  no_mark : (es : List (Entry T)) → NoClose es → has_mark (pushes es) ≡ false
  no_mark [] n = refl
  no_mark (e ∷ es) n = rw (closes_as e.load ∙ n.0) (no_mark es n.1)

  pub never_closed : (os : List (Offering T)) → AreMarked os → NeverClosed (senders os)
  never_closed [] a j s at = cc
  never_closed (o ∷ os) a zero s at = let same : o.sender ≡ s = cc in subst (λ (x : Sender T). has_mark (pushes x.offers) ≡ false) same (no_mark o.sender.offers a.0.unclosed)
  never_closed (o ∷ os) a (suc j) s at = never_closed os a.1 j s at

  final_of : (used : Bool) (o : Offering T) → IsMarked o.sender o.ended → (used ≡ true → o.ended ≡ true) → (used ≡ false → o.sender.offers ≡ []) → IsFinal used o.sender.offers
  final_of true o is ended spared = is.there (ended refl)
  final_of false o is ended spared = spared refl

  finished : (uses : ℕ → Bool) (k p : ℕ) (ss : List Shape) (os : List (Offering T)) → AreEndsOf p ss (senders os) → AreMarked os
      → ((j : ℕ) (o : Offering T) → slice_get os j ≡ Some o → uses (k + j) ≡ true → o.ended ≡ true) → ((j : ℕ) (s : Sender T) → slice_get (senders os) j ≡ Some s → uses (k + j) ≡ false → s.offers ≡ []) → AreFinished uses k p ss (senders os)
  finished uses k p [] [] ends marked ended spared = tt
  finished uses k p [] (o ∷ os) ends marked ended spared = absurd ends
  finished uses k p (s ∷ ss) [] ends marked ended spared = absurd ends
  finished uses k p (s ∷ ss) (o ∷ os) ends marked ended spared =
      let z : k + 0 ≡ k = omega arith in
      let at : (b : Bool) → uses k ≡ b → uses (k + 0) ≡ b = λ b e. ap uses z ∙ e in (
        (ends.0, final_of (uses k) o marked.0 (λ e. ended 0 o refl (at true e)) (λ e. spared 0 o.sender refl (at false e))),
        finished uses (suc k) p ss os ends.1 marked.1
            (λ j x is e. let n : k + suc j ≡ suc k + j = omega arith in ended (suc j) x is (ap uses n ∙ e))
            (λ j x is e. let n : k + suc j ≡ suc k + j = omega arith in spared (suc j) x is (ap uses n ∙ e)),
      )

  -- a worker's ends, of which those that are used got their end marks, have ended
  pub finishes : (uses : ℕ → Bool) (p : ℕ) (ss : List Shape) (os : List (Offering T)) → AreEndsOf p ss (senders os) → AreMarked os → HaveEnded uses os → AreSpared uses (senders os) → AreFinished uses 0 p ss (senders os)
  finishes uses p ss os ends marked ended spared =
      finished uses 0 p ss os ends marked (λ j o is e. let n : j ≡ 0 + j = omega arith in ended j o is (ap uses n ∙ e)) (λ j s is e. let n : j ≡ 0 + j = omega arith in spared j s is (ap uses n ∙ e))
