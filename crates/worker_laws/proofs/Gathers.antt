-- A settled pipe, as the pipeline's laws read it.
use Rattle.std.proofs.Common.{◌≡◌, ◌⊎◌, inl, inr, ℕ, zero, suc, ◌+◌, ◌<◌, ◌≤◌, Bool, true, false, eqb, ◌||◌, cond, List, [], ◌∷◌, ◌++◌, length, Some, slice_get, refl, sym, ◌∙◌, ap, subst, arith, length-append}
use Rattle.ruled_pipe.specs.declared.entry.Entry.{Entry}
use Rattle.ruled_pipe.specs.Rule as rule
use Rattle.ruled_pipe.specs.Producer.{Sender}
use Rattle.ruled_pipe.specs.Gathered.{IsSettled}
use Rattle.ruled_pipe.proofs.Drained.{drained, of_here, settles}
use Rattle.order_laws.specs.Kinds.{Kinds}
use Rattle.order_laws.specs.Item.{Arrival, Outgoing, Out}
use Rattle.order_laws.specs.Rules.{Rules, Decision, Sends, Asks}
use Rattle.order_laws.specs.Pipes.{home}
use Rattle.order_laws.specs.Counts.{total}
use Rattle.order_laws.specs.Deeds.{Pushed, closes, has_mark, of_producer}
use Rattle.order_laws.specs.Settled.{if_so, sent_out, to_link, to_slow, asked_of}
use Rattle.order_laws.specs.Counted.{sum_to, place_of, link_pipes}
use Rattle.order_laws.proofs.Counted.{sum_below, sum_zero, sum_one}
use Rattle.std.proofs.lemmas.Bool.{cases_eq, cases_lt, ne_eqb, eq-eqb}
use Rattle.worker_laws.specs.Ends.{pushed_in, pushes}
use Rattle.worker_laws.specs.Gathers.{offers_at, TookAll, Drains, StaysEmpty}
use Rattle.worker_laws.specs.Weighed.{request_weight, outgoing_weight}

module _ {X : Type 0} where
  -- the entries of a producer, read either way
  pub of_producer_in : (p : ℕ) (es : List (Entry X)) → of_producer p (pushes es) ≡ pushes (rule.of_producer p es)
  of_producer_in p [] = refl
  of_producer_in p (e ∷ es) = go (eqb e.from p) (of_producer_in p es)
    where
      go : (b : Bool) → of_producer p (pushes es) ≡ pushes (rule.of_producer p es) → cond b (pushed_in e ∷ of_producer p (pushes es)) (of_producer p (pushes es)) ≡ pushes (cond b (e ∷ rule.of_producer p es) (rule.of_producer p es))
      go true r = ap (λ xs. pushed_in e ∷ xs) r
      go false r = r

  found : (ss : List (Sender X)) (k : ℕ) → k < length ss → (s : Sender X) × ((slice_get ss k ≡ Some s) × (offers_at ss k ≡ pushes s.offers))
  found [] k lt = absurd (omega arith)
  found (s ∷ ss) zero lt = (s, (refl, refl))
  found (s ∷ ss) (suc k) lt = found ss k (omega arith)

  pub took_all : (senders : List (Sender X)) (taken : List (Entry X)) → IsSettled senders taken → TookAll senders (pushes taken)
  took_all senders taken is = (
    (λ p lt. let f = found senders p lt in of_producer_in p taken ∙ ap pushes (is.ordered p f.0 f.1.0) ∙ sym f.1.1),
    (λ p ge. of_producer_in p taken ∙ ap pushes (is.carried p ge)),
  )

right : (x y : Bool) → (x || y) ≡ false → y ≡ false
right true y z = absurd cc
right false y z = z

left : (x y : Bool) → (x || y) ≡ false → x ≡ false
left true y z = absurd cc
left false y z = refl

module _ {X : Type 0} where
  of_rest : (e : Pushed X) (es : List (Pushed X)) (b : Bool) → has_mark (cond b (e ∷ es) es) ≡ false → has_mark es ≡ false
  of_rest e es true h = right (closes e.load) (has_mark es) h
  of_rest e es false h = h

  -- Where no other producer pushes a closing mark, a mark is there where this one pushed one.
  closed_by : (c : ℕ) (es : List (Pushed X)) → ((p : ℕ) → (p ≡ c → ⊥) → has_mark (of_producer p es) ≡ false) → has_mark es ≡ has_mark (of_producer c es)
  closed_by c [] none = refl
  closed_by c (e ∷ es) none = go (cases_eq e.from c) (closed_by c es (λ p n. of_rest e (of_producer p es) (eqb e.from p) (none p n)))
    where
      go : (e.from ≡ c) ⊎ (e.from ≡ c → ⊥) → has_mark es ≡ has_mark (of_producer c es) → has_mark (e ∷ es) ≡ has_mark (of_producer c (e ∷ es))
      go (inl q) r = rw (eq-eqb e.from c q) (ap (λ (b : Bool). closes e.load || b) r)
      go (inr n) r =
          let mine = none e.from n in
          let first : closes e.load ≡ false = left (closes e.load) (has_mark (of_producer e.from es)) (subst (λ (b : Bool). has_mark (cond b (e ∷ of_producer e.from es) (of_producer e.from es)) ≡ false) (eq-eqb e.from e.from refl) mine) in
          rw (ne_eqb e.from c n, first) r

  at_end : (ss : List (Sender X)) (s : Sender X) → offers_at (ss ++ s ∷ []) (length ss) ≡ pushes s.offers
  at_end [] s = refl
  at_end (x ∷ ss) s = at_end ss s

  before_end : (ss : List (Sender X)) (s : Sender X) (k : ℕ) → k < length ss → offers_at (ss ++ s ∷ []) k ≡ offers_at ss k
  before_end [] s k lt = absurd (omega arith)
  before_end (x ∷ ss) s zero lt = refl
  before_end (x ∷ ss) s (suc k) lt = before_end ss s k (omega arith)

  -- Where only the last producer pushed closing marks
  pub closes_by_last : (senders : List (Sender X)) (last : Sender X) (taken : List (Pushed X)) → TookAll (senders ++ last ∷ []) taken → ((p : ℕ) (s : Sender X) → slice_get senders p ≡ Some s → has_mark (pushes s.offers) ≡ false)
      → has_mark taken ≡ has_mark (pushes last.offers)
  closes_by_last senders last taken all none =
      closed_by (length senders) taken (λ p ne. go p ne (cases_lt p (length senders))) ∙ ap has_mark (all.0 (length senders) (omega (arith, length-append senders (last ∷ []))) ∙ at_end senders last)
    where
      go : (p : ℕ) → (p ≡ length senders → ⊥) → (p < length senders) ⊎ (length senders ≤ p) → has_mark (of_producer p taken) ≡ false
      go p ne (inl lt) =
          let f = found senders p lt in
          ap has_mark (all.0 p (omega (arith, length-append senders (last ∷ []))) ∙ before_end senders last p lt ∙ f.1.1) ∙ none p f.0 f.1.0
      go p ne (inr ge) = ap has_mark (all.1 p (omega (arith, length-append senders (last ∷ []))))

module _ {X : Type 0} where
  pub drains : Drains X
  drains capacity senders taken held whole marked all =
      let empty = drained capacity senders taken held whole marked all in
      record { empty = empty; all = took_all senders taken (settles capacity senders taken held whole empty); full = whole.refused }

  no_entries : (es : List (Entry X)) → ((p : ℕ) → rule.of_producer p es ≡ []) → es ≡ []
  no_entries [] none = refl
  no_entries (e ∷ es) none = absurd (let w : e ∷ rule.of_producer e.from es ≡ [] = sym (of_here e.from e es refl) ∙ none e.from in cc)

  front_none : (xs ys : List (Entry X)) → xs ++ ys ≡ [] → xs ≡ []
  front_none [] ys e = refl
  front_none (x ∷ xs) ys e = absurd cc

  back_none : (xs ys : List (Entry X)) → xs ++ ys ≡ [] → ys ≡ []
  back_none [] ys e = e
  back_none (x ∷ xs) ys e = absurd cc

  pub stays_empty : StaysEmpty X
  stays_empty capacity senders taken held whole none =
      let all : taken ++ held ≡ [] = no_entries (taken ++ held) (λ p. go p (cases_lt p (length senders))) in
      let empty = back_none taken held all in
      (front_none taken held all, record { empty = empty; all = took_all senders taken (settles capacity senders taken held whole empty); full = whole.refused })
    where
      go : (p : ℕ) → (p < length senders) ⊎ (length senders ≤ p) → rule.of_producer p (taken ++ held) ≡ []
      go p (inl lt) = let f = found senders p lt in whole.ordered p f.0 f.1.0 ∙ none p f.0 f.1.0
      go p (inr ge) = whole.carried p ge

pub picked : {K : Kinds} (R : Rules K) (f : Outgoing K → ℕ) (o : Outgoing K) (h k : ℕ) → h ≡ place_of R k → (j : ℕ) → (k ≡ j) ⊎ (k ≡ j → ⊥) → total f (if_so (eqb h (place_of R j)) (o ∷ [])) ≡ cond (eqb k j) (f o) 0
picked R f o h k at j (inl e) = rw (eq-eqb h (place_of R j) (at ∙ ap (λ i. place_of R i) e), eq-eqb k j e) (omega arith)
picked R f o h k at j (inr n) = rw (ne_eqb h (place_of R j) (λ z. let q = sym at ∙ z in n (omega arith)), ne_eqb k j n) refl

-- What a processor makes of a packet that is sent or asked about has the packet's weight.
module _ {K : Kinds} (R : Rules K) (w : (link number : ℕ) → ℕ) (x : Arrival K) where
  abbrev W : ℕ
  W = w x.link x.number

  pub send_weighed : (l k : ℕ) (y : K.Parcel) → R.decide x ≡ Sends l y → home R (Out (record { arrived = x.link; number = x.number; answer = false; link = l; parcel = y })) ≡ place_of R k → k < link_pipes R
      → sum_to (link_pipes R) (λ j. total (outgoing_weight w) (to_link R (place_of R j) x)) + total (request_weight w) (to_slow R x) ≡ W
  send_weighed l k y sends at lt =
      let o : Outgoing K = record { arrived = x.link; number = x.number; answer = false; link = l; parcel = y } in
      let one : (j : ℕ) → total (outgoing_weight w) (to_link R (place_of R j) x) ≡ cond (eqb k j) W 0 =
      λ j. ap (λ (r : Decision K). total (outgoing_weight w) (sent_out R (place_of R j) x r)) sends ∙ picked R (outgoing_weight w) o (home R (Out o)) k at j (cases_eq k j) in
      let none : total (request_weight w) (to_slow R x) ≡ 0 = ap (λ (r : Decision K). total (request_weight w) (asked_of x r)) sends in
      let s = sum_below (link_pipes R) (λ j. total (outgoing_weight w) (to_link R (place_of R j) x)) (λ j. cond (eqb k j) W 0) (λ j b. one j) in
      let t = sum_one (link_pipes R) k W lt in
      omega arith

  pub ask_weighed : (p : K.Problem) → R.decide x ≡ Asks p
      → sum_to (link_pipes R) (λ j. total (outgoing_weight w) (to_link R (place_of R j) x)) + total (request_weight w) (to_slow R x) ≡ W
  ask_weighed p asks =
      let none : (j : ℕ) → total (outgoing_weight w) (to_link R (place_of R j) x) ≡ 0 = λ j. ap (λ (r : Decision K). total (outgoing_weight w) (sent_out R (place_of R j) x r)) asks in
      let one : total (request_weight w) (to_slow R x) ≡ W + 0 = ap (λ (r : Decision K). total (request_weight w) (asked_of x r)) asks in
      let s = sum_below (link_pipes R) (λ j. total (outgoing_weight w) (to_link R (place_of R j) x)) (λ j. 0) (λ j b. none j) in
      let z = sum_zero (link_pipes R) in
      omega arith
