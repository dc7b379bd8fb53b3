-- A pipe whose producers have all ended, and whose end marks were all taken, holds nothing.
use Rattle.std.proofs.Common.{◌≡◌, ◌≢◌, ℕ, zero, suc, eq-eqb, ne_eqb, ◌+◌, ◌<◌, ◌≤◌, Bool, cond, List, [], ◌∷◌, ◌++◌, length, Some, slice_get, sym, refl, ap, ◌∙◌, subst, lt_of_not-le, append-nil, length-append, arith}
use mathlib.Core.Logic.{dite}
use native.Mathlib.Decide.{ℕ_discrete}
use Rattle.ruled_pipe.specs.declared.entry.Entry.{Entry}
use Rattle.ruled_pipe.specs.Rule.{of_producer}
use Rattle.ruled_pipe.specs.Producer.{Sender}
use Rattle.std.specs.List.{sum_by}
use Rattle.std.proofs.lemmas.List.Sums.{sum_by-cons}
use Rattle.ruled_pipe.specs.Gathered.{IsWhole, IsSettled, end_of, ends_in, EndsWithMark, EachEndsWithMark}
use Rattle.ruled_pipe.proofs.Moves.{of_append, stands}

-- f 0 + f 1 + .. up to n
sum_to : ℕ → (ℕ → ℕ) → ℕ
sum_to zero f = 0
sum_to (suc n) f = f n + sum_to n f

sum_same : (n : ℕ) (f g : ℕ → ℕ) → ((p : ℕ) → p < n → f p ≡ g p) → sum_to n f ≡ sum_to n g
unfolding sum_to
sum_same zero f g e = refl
sum_same (suc n) f g e = let a = e n (omega arith) in let b = sum_same n f g (λ p lt. e p (omega arith)) in omega arith

sum_ones : (n : ℕ) → sum_to n (λ _. 1) ≡ n
unfolding sum_to
sum_ones zero = refl
sum_ones (suc n) = let b = sum_ones n in omega arith

sum_zeros : (n : ℕ) → sum_to n (λ _. 0) ≡ 0
unfolding sum_to
sum_zeros zero = refl
sum_zeros (suc n) = let b = sum_zeros n in omega arith

sum_none : (f : ℕ → ℕ) → sum_to zero f ≡ 0
unfolding sum_to
sum_none f = refl

-- the first summand alone
sum_first : (n : ℕ) (f : ℕ → ℕ) → sum_to (suc n) f ≡ f 0 + sum_to n (λ p. f (suc p))
unfolding sum_to
sum_first zero f = refl
sum_first (suc n) f = let b = sum_first n f in omega arith

-- one summand is larger by k
sum_bump : (n q k : ℕ) (f g : ℕ → ℕ) → q < n → f q ≡ k + g q → ((p : ℕ) → p ≢ q → f p ≡ g p) → sum_to n f ≡ k + sum_to n g
unfolding sum_to
sum_bump zero q k f g lt at else' = absurd (omega arith)
sum_bump (suc n) q k f g lt at else' = dite (ℕ_discrete n q)
    (λ e. let rest = sum_same n f g (λ p l. else' p (λ x. omega arith)) in let here : f n ≡ k + g n = subst (λ (j : ℕ). f j ≡ k + g j) (sym e) at in omega arith)
    (λ ne. let rest = sum_bump n q k f g (omega arith) at else' in let here = else' n ne in omega arith)

module _ {X : Type 0} where
  pub no_entry : (xs : List X) → length xs ≡ 0 → xs ≡ []
  no_entry [] none = refl
  no_entry (x ∷ xs) none = absurd (omega arith)

module _ {T : Type 0} where
  pub ends_append : (xs ys : List (Entry T)) → ends_in (xs ++ ys) ≡ ends_in xs + ends_in ys
  ends_append [] ys = omega arith
  ends_append (x ∷ xs) ys = let r = ends_append xs ys in omega arith

  pub of_here : (p : ℕ) (x : Entry T) (xs : List (Entry T)) → x.from ≡ p → of_producer p (x ∷ xs) ≡ x ∷ of_producer p xs
  of_here p x xs e = ap (λ (t : Bool). cond t (x ∷ of_producer p xs) (of_producer p xs)) (eq-eqb x.from p e)

  of_away : (p : ℕ) (x : Entry T) (xs : List (Entry T)) → x.from ≢ p → of_producer p (x ∷ xs) ≡ of_producer p xs
  of_away p x xs n = ap (λ (t : Bool). cond t (x ∷ of_producer p xs) (of_producer p xs)) (ne_eqb x.from p n)

  pub below : (n : ℕ) (x : Entry T) (xs : List (Entry T)) → ((p : ℕ) → n ≤ p → of_producer p (x ∷ xs) ≡ []) → x.from < n
  below n x xs none = lt_of_not-le (λ le. stands [] xs x (none x.from le))

  pub rest_none : (n : ℕ) (x : Entry T) (xs : List (Entry T)) → ((p : ℕ) → n ≤ p → of_producer p (x ∷ xs) ≡ []) → (p : ℕ) → n ≤ p → of_producer p xs ≡ []
  rest_none n x xs none p le = let b = below n x xs none in sym (of_away p x xs (λ e. omega arith)) ∙ none p le

  -- what each entry counts for by w, added up to f, producer by producer
  by_producers : (f : List (Entry T) → ℕ) (w : Entry T → ℕ) → f [] ≡ 0 → ((x : Entry T) (xs : List (Entry T)) → f (x ∷ xs) ≡ w x + f xs)
      → (n : ℕ) (xs : List (Entry T)) → ((p : ℕ) → n ≤ p → of_producer p xs ≡ []) → sum_to n (λ p. f (of_producer p xs)) ≡ f xs
  by_producers f w nil cons n [] none = sum_same n (λ _. f []) (λ _. 0) (λ _ _. nil) ∙ sum_zeros n ∙ sym nil
  by_producers f w nil cons n (x ∷ xs) none =
      sum_bump n x.from (w x) (λ p. f (of_producer p (x ∷ xs))) (λ p. f (of_producer p xs)) (below n x xs none) (ap f (of_here x.from x xs refl) ∙ cons x (of_producer x.from xs)) (λ p ne. ap f (of_away p x xs (λ e. ne (sym e))))
      ∙ ap (λ (k : ℕ). w x + k) (by_producers f w nil cons n xs (rest_none n x xs none))
      ∙ sym (cons x xs)

  of_fewer : (p : ℕ) (xs : List (Entry T)) → ends_in (of_producer p xs) ≤ ends_in xs
  of_fewer p [] = omega arith
  of_fewer p (x ∷ xs) = let r = of_fewer p xs in dite (ℕ_discrete x.from p)
      (λ e. let s = ap ends_in (of_here p x xs e) in omega arith)
      (λ ne. let s = ap ends_in (of_away p x xs ne) in omega arith)

  long : (xs : List (Entry T)) (y : Entry T) (ys : List (Entry T)) → 1 ≤ length (xs ++ y ∷ ys)
  long [] y ys = omega arith
  long (x ∷ xs) y ys = omega arith

  -- a part at the end that is not empty has the last element
  has_last : (xs : List (Entry T)) (y : Entry T) (ys front : List (Entry T)) (e : Entry T) → xs ++ y ∷ ys ≡ front ++ e ∷ [] → end_of e.load ≡ 1 → 1 ≤ ends_in (y ∷ ys)
  has_last [] y ys front e is one = let s = ap ends_in is in let a = ends_append front (e ∷ []) in omega arith
  has_last (x ∷ xs) y ys [] e is one = let l = ap length is in absurd (omega (arith, long xs y ys))
  has_last (x ∷ xs) y ys (f ∷ front) e is one = has_last xs y ys front e (cc) one

  one_end : (offers : List (Entry T)) → EndsWithMark offers → ends_in offers ≡ 1
  one_end offers h = let a = ends_append h.0 (h.1 ∷ []) in let b = ap ends_in h.2 in let c = h.3 in let d = h.4 in omega arith

  found : (senders : List (Sender T)) (p : ℕ) → p < length senders → (s : Sender T) × (slice_get senders p ≡ Some s)
  found [] p lt = absurd (omega arith)
  found (x ∷ xs) zero lt = (x, refl)
  found (x ∷ xs) (suc p) lt = found xs p (omega arith)

  nothing : (n : ℕ) (senders : List (Sender T)) (taken held : List (Entry T)) → IsWhole n senders taken held → EachEndsWithMark senders → ends_in held ≡ 0 → held ≡ []
  nothing n senders taken [] whole marked none = refl
  nothing n senders taken (h ∷ hs) whole marked none =
      let lt : h.from < length senders = lt_of_not-le (λ le. stands taken hs h (whole.carried h.from le)) in
      let at = found senders h.from lt in
      let m = marked h.from at.0 at.1 in
      let split : of_producer h.from taken ++ h ∷ of_producer h.from hs ≡ m.0 ++ m.1 ∷ [] =
      ap (λ (l : List (Entry T)). of_producer h.from taken ++ l) (sym (of_here h.from h hs refl)) ∙ sym (of_append h.from taken (h ∷ hs)) ∙ whole.ordered h.from at.0 at.1 ∙ m.2 in
      let one = has_last (of_producer h.from taken) h (of_producer h.from hs) m.0 m.1 split m.4 in
      let few = of_fewer h.from (h ∷ hs) in
      let same = ap ends_in (of_here h.from h hs refl) in
      absurd (omega arith)

  pub drained : (n : ℕ) (senders : List (Sender T)) (taken held : List (Entry T)) → IsWhole n senders taken held → EachEndsWithMark senders → length senders ≤ ends_in taken → held ≡ []
  drained n senders taken held whole marked all =
      let count = by_producers ends_in (λ (e : Entry T). end_of e.load) refl (λ x xs. refl) (length senders) (taken ++ held) whole.carried in
      let each = sum_same (length senders) (λ p. ends_in (of_producer p (taken ++ held))) (λ _. 1)
      (λ p lt. let at = found senders p lt in ap ends_in (whole.ordered p at.0 at.1) ∙ one_end at.0.offers (marked p at.0 at.1)) in
      let ones = sum_ones (length senders) in
      let parts = ends_append taken held in
      nothing n senders taken held whole marked (omega arith)

  -- a number for each producer, added up over the numbers and over the producers
  over_senders : (g : Sender T → ℕ) (f : ℕ → ℕ) (senders : List (Sender T)) → ((p : ℕ) (s : Sender T) → slice_get senders p ≡ Some s → f p ≡ g s) → sum_to (length senders) f ≡ sum_by g senders
  over_senders g f [] each = sum_none f
  over_senders g f (s ∷ senders) each =
      let first = each 0 s refl in let rest = over_senders g (λ p. f (suc p)) senders (λ p t at. each (suc p) t at) in
      sum_first (length senders) f ∙ (let a = first in let b = rest in let c = sum_by-cons g s senders in omega arith)

  -- where nothing is held, what was taken is all that was accepted
  pub settles : (n : ℕ) (senders : List (Sender T)) (taken held : List (Entry T)) → IsWhole n senders taken held → held ≡ [] → IsSettled senders taken
  settles n senders taken held whole empty =
      let all : taken ++ held ≡ taken = ap (λ (l : List (Entry T)). taken ++ l) empty ∙ append-nil taken in
      let ordered : (p : ℕ) (s : Sender T) → slice_get senders p ≡ Some s → of_producer p taken ≡ s.offers = λ p s at. ap (of_producer p) (sym all) ∙ whole.ordered p s at in
      let carried : (p : ℕ) → length senders ≤ p → of_producer p taken ≡ [] = λ p le. ap (of_producer p) (sym all) ∙ whole.carried p le in record {
        ordered = ordered;
        carried = carried;
        counted = sym (by_producers length (λ _. 1) refl (λ x xs. omega arith) (length senders) taken carried)
            ∙ over_senders (λ (s : Sender T). length s.offers) (λ p. length (of_producer p taken)) senders (λ p s at. ap length (ordered p s at));
      }

  -- where as many were taken as were accepted, nothing is held
  pub all_taken : (n : ℕ) (senders : List (Sender T)) (taken held : List (Entry T)) → IsWhole n senders taken held → length taken ≡ sum_by (λ (s : Sender T). length s.offers) senders → held ≡ []
  all_taken n senders taken held whole all =
      let count = by_producers length (λ _. 1) refl (λ x xs. omega arith) (length senders) (taken ++ held) whole.carried in
      let each = over_senders (λ (s : Sender T). length s.offers) (λ p. length (of_producer p (taken ++ held))) senders (λ p s at. ap length (whole.ordered p s at)) in
      no_entry held (omega (arith, length-append taken held))
