-- The marks among a producer's pushes, one push more.
use Rattle.std.proofs.Common.{◌≡◌, ℕ, ◌+◌, ◌<◌, ◌≤◌, Bool, true, false, List, [], ◌∷◌, ◌++◌, Result, Ok, Err, MatchResult, refl, sym, subst, arith}
use Rattle.ruled_pipe.specs.declared.entry.Entry.{Entry}
use Rattle.ruled_pipe.specs.declared.entry.Load.{Load}
use Rattle.ruled_pipe.specs.declared.entry.Load.TheVariants.{Payload, Marked}
use Rattle.ruled_pipe.specs.declared.entry.Mark.TheVariants.{Close, End}
use Rattle.ruled_pipe.specs.declared.producer.Full.{Full}
use Rattle.ruled_pipe.specs.Producer.{Sender, entry, offered, refused}
use Rattle.ruled_pipe.specs.Consumer.{Taker, took}
use Rattle.ruled_pipe.specs.Gathered.{end_of, ends_in}
use Rattle.worker_parts.specs.Outlet.{IsMarked, NoClose, is_closing}

module _ {T : Type 0} where
  pub ends_more : (es : List (Entry T)) (e : Entry T) → ends_in (es ++ e ∷ []) ≡ ends_in es + end_of e.load
  ends_more [] e = omega arith
  ends_more (x ∷ es) e = let r = ends_more es e in omega arith

  pub open_more : (es : List (Entry T)) (e : Entry T) → NoClose es → is_closing e.load ≡ false → NoClose (es ++ e ∷ [])
  open_more [] e o is = (is, tt)
  open_more (x ∷ es) e o is = (o.0, open_more es e o.1 is)

  pub marked_offer : (s : Sender T) (x : T) → IsMarked s false → IsMarked (offered s (entry s.number (Payload x))) false
  marked_offer s x is = record {
    unclosed = open_more s.offers (entry s.number (Payload x)) is.unclosed refl;
    owed = λ e. let m = ends_more s.offers (entry s.number (Payload x)) in let z = is.owed e in omega arith;
    there = λ e. absurd cc;
  }

  pub marked_refused : (s : Sender T) (e : Entry T) (ended : Bool) → IsMarked s ended → IsMarked (refused s e) ended
  marked_refused s e ended is = record { unclosed = is.unclosed; owed = is.owed; there = is.there }

  pub marked_either : (r : Result (Unit {0}) (Full T)) (s t : Sender T) (x : T) (ended : Bool) → ended ≡ false → IsMarked s ended
      → MatchResult r (λ (u : Unit {0}). t ≡ offered s (entry s.number (Payload x))) (λ (full : Full T). (full.0 ≡ x) × (t ≡ refused s (entry s.number (Payload x)))) → IsMarked t ended
  marked_either (Ok u) s t x ended owed is step =
      let P : Bool → Type 0 = λ b. IsMarked t b in
      let Q : Sender T → Type 0 = λ u. IsMarked u false in
      let R : Bool → Type 0 = λ b. IsMarked s b in
      subst P (sym owed) (subst Q (sym step) (marked_offer s x (subst R owed is)))
  marked_either (Err full) s t x ended owed is step =
      let Q : Sender T → Type 0 = λ u. IsMarked u ended in
      subst Q (sym step.1) (marked_refused s (entry s.number (Payload x)) ended is)

  pub marked_end : (s : Sender T) → IsMarked s false → IsMarked (offered s (entry s.number (Marked End))) true
  marked_end s is = record {
    unclosed = open_more s.offers (entry s.number (Marked End)) is.unclosed refl;
    owed = λ e. absurd cc;
    there = λ e. (s.offers, entry s.number (Marked End), refl, is.owed refl, refl);
  }

  -- a take counts the end mark that it met
  pub taken_more : (t t' : Taker T) (e : Entry T) (producers ends n : ℕ) → t' ≡ took t e → n ≡ end_of e.load → (producers ≡ t.producers) × (ends ≡ ends_in t.taken) × (ends ≤ producers) → ends_in t.taken < t.producers
      → (producers ≡ t'.producers) × (ends + n ≡ ends_in t'.taken) × (ends + n ≤ producers)
  taken_more t t' e producers ends n step is inv lt =
      let m = ends_more t.taken e in
      let one = small e.load in
      let a = inv.0 in
      let b = inv.1 in
      let P : Taker T → Type 0 = λ u. (producers ≡ u.producers) × (ends + n ≡ ends_in u.taken) × (ends + n ≤ producers) in
      subst P (sym step) (inv.0, omega arith, omega arith)
    where
      small : (l : Load T) → end_of l ≤ 1
      small (Payload x) = omega arith
      small (Marked Close) = omega arith
      small (Marked End) = omega arith
