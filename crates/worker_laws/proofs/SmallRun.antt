-- The small run is one that has ended.
use Rattle.std.proofs.Common.{◌≡◌, ◌⊎◌, inl, inr, ℕ, zero, suc, ◌<◌, ◌≤◌, Bool, true, false, eqb, ltb, ◌&&◌, cond, List, [], ◌∷◌, ◌++◌, length, Option, Some, None, slice_get, refl, sym, ap, subst, ◌∙◌, arith}
use Rattle.std.proofs.lemmas.Bool.{and_parts, cases_eq, ltb-true, ne_eqb}
use Rattle.atomic_table.specs.Seated.{TableId}
use Rattle.ruled_pipe.specs.Producer.{Sender}
use Rattle.order_laws.specs.Item.{Arrival, Outgoing}
use Rattle.order_laws.specs.Rules.{Decision, Sends, Asks, Drops, Reply, Replies, Withholds, IsLawful}
use Rattle.order_laws.specs.Deeds.{Pushed, payloads, has_mark, of_producer}
use Rattle.order_laws.specs.Settled.{to_processor, to_link}
use Rattle.order_laws.specs.Counted.{place_of}
use Rattle.worker_laws.specs.Ends.{pushes, EndTells}
use Rattle.worker_laws.specs.Works.{Keeps}
use Rattle.worker_laws.specs.Answers.{to_back}
use Rattle.worker_laws.specs.Receives.{KeepsReceiver}
use Rattle.worker_laws.specs.Forwards.{handed_items, WentOn}
use Rattle.worker_laws.specs.Gathers.{offers_at, TookAll}
use Rattle.worker_laws.specs.Workers.{Workers, IsColumn, taken_at, slow_ends, processor_ends, link_ends, passed_at, HaveEnded}
use Rattle.worker_laws.specs.Example.{samples, rules, answer, received, worked, workers, IsExample}

some_same : {X : Type 0} (x y : X) → Some x ≡ Some y → x ≡ y
some_same x y e = cc

-- of a list of one, of two
one : {X : Type 0} (P : ℕ → X → Type 0) (x : X) → P 0 x → (k : ℕ) (y : X) → slice_get (x ∷ []) k ≡ Some y → P k y
one P x p zero y at = subst (P 0) (some_same x y at) p
one P x p (suc k) y at = absurd cc

two : {X : Type 0} (P : ℕ → X → Type 0) (x z : X) → P 0 x → P 1 z → (k : ℕ) (y : X) → slice_get (x ∷ z ∷ []) k ≡ Some y → P k y
two P x z p q zero y at = subst (P 0) (some_same x y at) p
two P x z p q (suc zero) y at = subst (P 1) (some_same z y at) q
two P x z p q (suc (suc k)) y at = absurd cc

-- below one, below two, below three
below_one : (P : ℕ → Type 0) → P 0 → (k : ℕ) → k < 1 → P k
below_one P p zero lt = p
below_one P p (suc k) lt = absurd (omega arith)

below_two : (P : ℕ → Type 0) → P 0 → P 1 → (k : ℕ) → k < 2 → P k
below_two P p q zero lt = p
below_two P p q (suc zero) lt = q
below_two P p q (suc (suc k)) lt = absurd (omega arith)

below_three : (P : ℕ → Type 0) → P 0 → P 1 → P 2 → (k : ℕ) → k < 3 → P k
below_three P p q r zero lt = p
below_three P p q r (suc zero) lt = q
below_three P p q r (suc (suc zero)) lt = r
below_three P p q r (suc (suc (suc k))) lt = absurd (omega arith)

-- producers of numbers below n
abbrev few : {X : Type 0} → ℕ → List (Pushed X) → Bool
few n [] = true
few n (e ∷ es) = ltb e.from n && few n es

none_from : {X : Type 0} (n p : ℕ) (es : List (Pushed X)) → few n es ≡ true → n ≤ p → of_producer p es ≡ []
none_from n p [] all ge = refl
none_from n p (e ∷ es) all ge =
    let both = and_parts (ltb e.from n) (few n es) all in
    let lt = ltb-true e.from n both.0 in
    ap (λ (b : Bool). cond b (e ∷ of_producer p es) (of_producer p es)) (ne_eqb e.from p (λ q. omega arith)) ∙ none_from n p es both.1 ge

-- the producers of pipe j
abbrev pick : {X : Type 0} → Option X → List X
pick None = []
pick (Some x) = x ∷ []

abbrev column : {X : Type 0} → ℕ → List (List X) → List X
column j [] = []
column j (r ∷ rows) = pick (slice_get r j) ++ column j rows

-- ---- the rules

abbrev decision : (a b c e : Bool) → ℕ → Decision samples
decision a b c e d = cond a (Drops 4) (cond b (Drops 6) (cond c (Asks 52) (cond e (Asks 53) (Sends 0 d))))

sends_is : (a b c e : Bool) (d l y : ℕ) → decision a b c e d ≡ Sends l y → (l ≡ 0) × (y ≡ d)
sends_is true b c e d l y is = absurd cc
sends_is false true c e d l y is = absurd cc
sends_is false false true e d l y is = absurd cc
sends_is false false false true d l y is = absurd cc
sends_is false false false false d l y is = (let m : 0 ≡ l = cc in sym m, let n : d ≡ y = cc in sym n)

faults_is : (a b c e : Bool) (d r : ℕ) → cond a (Some 4) None ≡ Some r → decision a b c e d ≡ Drops r
faults_is true b c e d r is = ap Drops (some_same 4 r is)
faults_is false b c e d r is = absurd cc

replies_is : (b : Bool) (l y : ℕ) → cond {A = Reply samples} b (Withholds 10) (Replies 0 55) ≡ Replies l y → l ≡ 0
replies_is true l y is = absurd cc
replies_is false l y is = let m : 0 ≡ l = cc in sym m

pub lawful : IsLawful rules (λ x. Unit {0})
lawful = record {
  processors = λ k. omega arith;
  keys = λ k m is. go k m is (cases_eq k m);
  faults = λ x r at is. faults_is (eqb x.datagram 9) (eqb x.datagram 7) (eqb x.datagram 5) (eqb x.datagram 6) x.datagram r is;
  sends = λ x l y at is. let z = (sends_is (eqb x.datagram 9) (eqb x.datagram 7) (eqb x.datagram 5) (eqb x.datagram 6) x.datagram l y is).0 in omega arith;
  replies = λ x p l y at asks is. let z = replies_is (eqb p 53) l y is in omega arith;
  bands = λ x l y at is. ap (λ (n : ℕ). eqb n 2) (sends_is (eqb x.datagram 9) (eqb x.datagram 7) (eqb x.datagram 5) (eqb x.datagram 6) x.datagram l y is).1;
}
  where
    go : (k m : ℕ) → eqb k m ≡ true → (k ≡ m) ⊎ (k ≡ m → ⊥) → k ≡ m
    go k m is (inl e) = e
    go k m is (inr n) = absurd (let z : false ≡ true = sym (ne_eqb k m n) ∙ is in cc)

-- ---- the workers

module _ (id : TableId) where
  abbrev w : Workers samples
  w = workers id

  pub ended : HaveEnded rules w (λ l. true)
  ended = record {
    receiver_count = refl;
    processor_count = refl;
    forwarder_count = refl;
    receivers = one (λ p r. KeepsReceiver rules p r.log r.senders × (length r.senders ≡ 1)) _ (
      record {
        numbered = (refl, refl, (refl, refl, (refl, refl, (refl, refl, (refl, refl, (refl, refl, (refl, refl, (refl, refl, (refl, refl, (refl, refl, (refl, refl, tt)))))))))));
        just = (tt, (tt, (tt, (tt, (refl, (tt, (tt, (tt, (tt, (tt, (tt, tt)))))))))));
        clear = (refl, (refl, (refl, (refl, (tt, (refl, (refl, (refl, (refl, (refl, (refl, tt)))))))))));
        ends = one (λ i s. EndTells {C = ℕ} (to_processor rules i) received s) _ (refl, refl);
      },
      refl,
    );
    processors = one (λ i p. Keeps rules p.log p.taker None p.links p.slow × (length p.links ≡ 2)) _ (
      record {
        took = refl;
        just = (tt, (tt, (tt, (tt, (refl, (tt, (tt, (tt, tt))))))));
        offers = (tt, (tt, (tt, (tt, (tt, (tt, (tt, (tt, tt))))))));
        ample = (tt, (tt, (tt, (tt, (tt, (tt, (tt, (tt, tt))))))));
        links = two (λ j s. EndTells {C = ℕ} (to_link rules (place_of rules j)) worked s) _ _ (refl, refl) (refl, refl);
        asks = (refl, refl);
      },
      refl,
    );
    slow = (
      record {
        took = refl;
        just = (tt, (refl, tt));
        answered = (tt, (tt, tt));
        ample = (tt, (tt, tt));
        links = two (λ j s. EndTells {C = ℕ} (to_back rules (place_of rules j)) w.slow.log s) _ _ (refl, refl) (refl, refl);
      },
      refl,
    );
    forwarders = one (λ l f. WentOn (pushes f.low.taken) (pushes f.high.taken) (handed_items f.went)) _ (inl (answer 6 ∷ [], refl, inr ([], refl, inl ([], refl, (refl, refl)))));
    packets = below_one (λ i. (row : List (Sender (Arrival samples))) × IsColumn i (processor_ends w) row × TookAll row (taken_at w i))
        (column 0 (processor_ends w), (refl, tt), (below_one (λ p. of_producer p (taken_at w 0) ≡ offers_at (column 0 (processor_ends w)) p) refl, λ p ge. none_from 1 p (taken_at w 0) refl ge));
    requests = (below_one (λ p. of_producer p (pushes w.slow.taker.taken) ≡ offers_at (slow_ends w) p) refl, λ p ge. none_from 1 p (pushes w.slow.taker.taken) refl ge);
    egress_packets = below_two (λ j. (row : List (Sender (Outgoing samples))) × IsColumn j (link_ends w) row × TookAll row (passed_at w.forwarders j))
        (column 0 (link_ends w), (refl, (refl, (refl, tt))), (below_three (λ p. of_producer p (passed_at w.forwarders 0) ≡ offers_at (column 0 (link_ends w)) p) refl refl refl, λ p ge. none_from 3 p (passed_at w.forwarders 0) refl ge))
        (column 1 (link_ends w), (refl, (refl, (refl, tt))), (below_three (λ p. of_producer p (passed_at w.forwarders 1) ≡ offers_at (column 1 (link_ends w)) p) refl refl refl, λ p ge. none_from 3 p (passed_at w.forwarders 1) refl ge));
    controller_count = refl;
    controller = two (λ j s. payloads (pushes s.offers) ≡ []) _ _ refl refl;
    closes = two (λ j s. has_mark (pushes s.offers) ≡ true) _ _ refl refl;
    processors_close_none = λ i j p s at got. one (λ i p. (j : ℕ) (s : Sender (Outgoing samples)) → slice_get p.links j ≡ Some s → has_mark (pushes s.offers) ≡ false) _ (two (λ j s. has_mark (pushes s.offers) ≡ false) _ _ refl refl) i p at j s got;
    slow_closes_none = two (λ j s. has_mark (pushes s.offers) ≡ false) _ _ refl refl;
  }

  pub is_example : IsExample id
  is_example = record { lawful = lawful; ended = ended; low = refl; high = refl; swept = refl; sums = refl; causes = refl; places_each = refl }
