-- The premises of the sums, from those that the workers give.
use Rattle.std.proofs.Common.{◌≡◌, ℕ, ◌+◌, ◌*◌, ◌<◌, Bool, true, false, eqb, cond, [], ◌∷◌, refl, ◌∙◌, ap, subst, arith}
use Rattle.std.proofs.lemmas.Bool.{cases_eq}
use Rattle.order_laws.specs.Kinds.{Kinds}
use Rattle.order_laws.specs.Item.{Arrival, Outgoing, Out}
use Rattle.order_laws.specs.Rules.{Rules, Decision, Sends, Asks, Drops, Reply, Replies, Withholds, IsLawful}
use Rattle.order_laws.specs.Pipes.{home, is_high, link_pipe}
use Rattle.order_laws.specs.Counts.{total}
use Rattle.order_laws.specs.Deeds.{Ending, Accepted, Refused, Lacked, Counted, Deed}
use Rattle.order_laws.specs.Settled.{SlowPathRequest, if_so, to_processor, to_link, to_slow}
use Rattle.order_laws.specs.Counted.{sum_to, is_offer, place_of, link_pipes, no_side}
use Rattle.order_laws.proofs.Counted.{sum_below, sum_one}
use Rattle.worker_laws.specs.Weighed.{IsWeighed, arrival_weight, request_weight, outgoing_weight}
use Rattle.worker_laws.specs.Works.{leaves, IsOffered}
use Rattle.worker_laws.specs.Answers.{is_answered, IsAnswered, answer_to, replied_out, to_back}
use Rattle.worker_laws.proofs.Gathers.{picked, send_weighed, ask_weighed}

pub map_offer : {C : Type 0} {P Q : Type 0} (o : Ending C) → (P → Q) → is_offer o P → is_offer o Q
map_offer Accepted f p = f p
map_offer Refused f p = f p
map_offer Lacked f p = tt
map_offer (Counted c) f p = tt

-- the place of a link's pipe among those of the links
pub home_at : {K : Kinds} (R : Rules K) (o : Outgoing K) (l : ℕ) → o.link ≡ l → l < R.links → (k : ℕ) × ((home R (Out o) ≡ place_of R k) × (k < link_pipes R))
home_at R o l is lt = go (is_high R o) refl
  where
    high : link_pipe R true o.link ≡ place_of R (2 * o.link + 1)
    high = omega arith

    low : link_pipe R false o.link ≡ place_of R (2 * o.link)
    low = omega arith

    go : (b : Bool) → is_high R o ≡ b → (k : ℕ) × ((home R (Out o) ≡ place_of R k) × (k < link_pipes R))
    go true e = (2 * o.link + 1, (ap (λ (c : Bool). link_pipe R c o.link) e ∙ high, omega arith))
    go false e = (2 * o.link, (ap (λ (c : Bool). link_pipe R c o.link) e ∙ low, omega arith))

module _ {K : Kinds} (R : Rules K) (w : (link number : ℕ) → ℕ) (Arrives : Arrival K → Type 0) (lawful : IsLawful R Arrives) where
  -- a receiver's offer has one processor
  pub receiver_weighed : (d : Deed K.RuleCause (Arrival K)) → IsWeighed R.processors (to_processor R) (no_side {X = Arrival K} {Y = SlowPathRequest K}) (arrival_weight w) (arrival_weight w) (request_weight w) d
  receiver_weighed d = go d.end
    where
      x : Arrival K
      x = d.item

      same : (i : ℕ) → total (arrival_weight w) (to_processor R i d.item) ≡ cond (eqb (R.processor (R.key d.item)) i) (w d.item.link d.item.number) 0
      same i = by (eqb (R.processor (R.key d.item)) i)
        where
          by : (b : Bool) → total (arrival_weight w) (if_so b (d.item ∷ [])) ≡ cond b (w d.item.link d.item.number) 0
          by true = omega arith
          by false = refl

      all : sum_to R.processors (λ i. total (arrival_weight w) (to_processor R i d.item)) + 0 ≡ w d.item.link d.item.number
      all =
          let s = sum_below R.processors (λ i. total (arrival_weight w) (to_processor R i d.item)) (λ i. cond (eqb (R.processor (R.key d.item)) i) (w d.item.link d.item.number) 0) (λ i lt. same i) in
          let t = sum_one R.processors (R.processor (R.key d.item)) (w d.item.link d.item.number) (lawful.processors (R.key d.item)) in
          omega arith

      go : (o : Ending K.RuleCause) → is_offer o (sum_to R.processors (λ i. total (arrival_weight w) (to_processor R i d.item)) + 0 ≡ w d.item.link d.item.number)
      go Accepted = all
      go Refused = all
      go Lacked = tt
      go (Counted c) = tt

  -- a processor's offer has one pipe
  pub processor_weighed : (d : Deed K.RuleCause (Arrival K)) → Arrives d.item → IsOffered R d
      → IsWeighed (link_pipes R) (λ j. to_link R (place_of R j)) (to_slow R) (arrival_weight w) (outgoing_weight w) (request_weight w) d
  processor_weighed d arrives offered = map_offer d.end (λ l. go (R.decide d.item) refl l) offered
    where
      go : (r : Decision K) → R.decide d.item ≡ r → leaves (R.decide d.item)
          → sum_to (link_pipes R) (λ j. total (outgoing_weight w) (to_link R (place_of R j) d.item)) + total (request_weight w) (to_slow R d.item) ≡ w d.item.link d.item.number
      go (Sends l y) e v =
          let h = home_at R (record { arrived = d.item.link; number = d.item.number; answer = false; link = l; parcel = y }) l refl (lawful.sends d.item l y arrives e) in
          send_weighed R w d.item l h.0 y e h.1.0 h.1.1
      go (Asks p) e v = ask_weighed R w d.item p e
      go (Drops c) e v = absurd (subst leaves e v)

-- The slow path's offer has one pipe.
module _ {K : Kinds} (R : Rules K) (w : (link number : ℕ) → ℕ) (Arrives : Arrival K → Type 0) (lawful : IsLawful R Arrives) where
  back_sum : (x : SlowPathRequest K) (l k : ℕ) (y : K.Parcel) → R.reply x.arrival x.problem ≡ Replies l y → home R (Out (answer_to x l y)) ≡ place_of R k → k < link_pipes R
      → sum_to (link_pipes R) (λ j. total (outgoing_weight w) (to_back R (place_of R j) x)) + 0 ≡ w x.arrival.link x.arrival.number
  back_sum x l k y replies at lt =
      let o : Outgoing K = answer_to x l y in
      let one : (j : ℕ) → total (outgoing_weight w) (to_back R (place_of R j) x) ≡ cond (eqb k j) (w x.arrival.link x.arrival.number) 0 =
      λ j. ap (λ (r : Reply K). total (outgoing_weight w) (replied_out R (place_of R j) x r)) replies ∙ picked R (outgoing_weight w) o (home R (Out o)) k at j (cases_eq k j) in
      let s = sum_below (link_pipes R) (λ j. total (outgoing_weight w) (to_back R (place_of R j) x)) (λ j. cond (eqb k j) (w x.arrival.link x.arrival.number) 0) (λ j b. one j) in
      let t = sum_one (link_pipes R) k (w x.arrival.link x.arrival.number) lt in
      omega arith

  pub slow_weighed : (d : Deed K.RuleCause (SlowPathRequest K)) → Arrives d.item.arrival → R.decide d.item.arrival ≡ Asks d.item.problem → IsAnswered R d
      → IsWeighed (link_pipes R) (λ j. to_back R (place_of R j)) (no_side {X = SlowPathRequest K} {Y = SlowPathRequest K}) (request_weight w) (outgoing_weight w) (request_weight w) d
  slow_weighed d arrives asks answered = map_offer d.end (λ a. go (R.reply d.item.arrival d.item.problem) refl a) answered
    where
      go : (r : Reply K) → R.reply d.item.arrival d.item.problem ≡ r → is_answered (R.reply d.item.arrival d.item.problem)
          → sum_to (link_pipes R) (λ j. total (outgoing_weight w) (to_back R (place_of R j) d.item)) + 0 ≡ w d.item.arrival.link d.item.arrival.number
      go (Replies l y) e a =
          let h = home_at R (answer_to d.item l y) l refl (lawful.replies d.item.arrival d.item.problem l y arrives asks e) in
          back_sum d.item l h.0 y e h.1.0 h.1.1
      go (Withholds c) e a = absurd (subst is_answered e a)
