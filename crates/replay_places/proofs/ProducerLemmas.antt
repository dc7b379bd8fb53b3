-- The workers that feed a pipe are numbered.
use Rattle.std.proofs.Common.{◌≡◌, ℕ, ◌+◌, ◌<◌, true, Some, refl, arith}
use Rattle.std.proofs.lemmas.Bool.{eq-eqb, false≢true, ltb-true}
use Rattle.order_laws.specs.Kinds.{Kinds}
use Rattle.replay_laws.specs.Next.{feeds}
use Rattle.order_laws.specs.Rules.{Rules}
use Rattle.replay_laws.specs.Worker.{Worker, Receiver, Processor, Slow, Forwarder, Controller, Queue, Of, High, same_worker}
use Rattle.replay_laws.specs.World.{has_worker}
use Rattle.replay_places.specs.Producers.{IsProducer, producer_of}

module _ {K : Kinds} (R : Rules K) where
  -- ---- a processor's pipe: the receivers

  alone_before : (i a : ℕ) (V : Worker) → feeds V (Of (Processor i)) ≡ true → producer_of R V ≡ Some a → same_worker V (Receiver a) ≡ true
  alone_before i a (Receiver b) fed is = eq-eqb b a cc
  alone_before i a (Processor j) fed is = absurd (false≢true fed)
  alone_before i a Slow fed is = absurd (false≢true fed)
  alone_before i a (Forwarder l) fed is = absurd (false≢true fed)
  alone_before i a Controller fed is = absurd (false≢true fed)

  before : (i : ℕ) (W : Worker) → feeds W (Of (Processor i)) ≡ true → has_worker R W ≡ true → IsProducer R (Of (Processor i)) W
  before i (Receiver a) fed there = record { number = a; is = refl; within = ltb-true a R.links there; alone = λ V f t is. alone_before i a V f is }
  before i (Processor j) fed there = absurd (false≢true fed)
  before i Slow fed there = absurd (false≢true fed)
  before i (Forwarder l) fed there = absurd (false≢true fed)
  before i Controller fed there = absurd (false≢true fed)

  -- ---- the slow path's: the processors

  alone_aside : (i : ℕ) (V : Worker) → feeds V (Of Slow) ≡ true → producer_of R V ≡ Some i → same_worker V (Processor i) ≡ true
  alone_aside i (Receiver b) fed is = absurd (false≢true fed)
  alone_aside i (Processor j) fed is = eq-eqb j i cc
  alone_aside i Slow fed is = absurd (false≢true fed)
  alone_aside i (Forwarder l) fed is = absurd (false≢true fed)
  alone_aside i Controller fed is = absurd (false≢true fed)

  aside : (W : Worker) → feeds W (Of Slow) ≡ true → has_worker R W ≡ true → IsProducer R (Of Slow) W
  aside (Receiver a) fed there = absurd (false≢true fed)
  aside (Processor i) fed there = record { number = i; is = refl; within = ltb-true i R.processors there; alone = λ V f t is. alone_aside i V f is }
  aside Slow fed there = absurd (false≢true fed)
  aside (Forwarder l) fed there = absurd (false≢true fed)
  aside Controller fed there = absurd (false≢true fed)

  -- ---- a link's pipes: the processors, the slow path, the controller

  abbrev Out : Worker → Type 0
  Out W = (V : Worker) (n : ℕ) → has_worker R V ≡ true → has_worker R W ≡ true → producer_of R W ≡ Some n → producer_of R V ≡ Some n → feeds V (High 0) ≡ true → same_worker V W ≡ true

  of_processor : (i : ℕ) → Out (Processor i)
  of_processor i (Receiver b) n there here is also fed = absurd (false≢true fed)
  of_processor i (Processor j) n there here is also fed = eq-eqb j i cc
  of_processor i Slow n there here is also fed = let e : R.processors ≡ i = cc in absurd (omega (arith, e, ltb-true i R.processors here))
  of_processor i (Forwarder l) n there here is also fed = absurd (false≢true fed)
  of_processor i Controller n there here is also fed = let e : R.processors + 1 ≡ i = cc in absurd (omega (arith, e, ltb-true i R.processors here))

  of_slow : Out Slow
  of_slow (Receiver b) n there here is also fed = absurd (false≢true fed)
  of_slow (Processor j) n there here is also fed = let e : j ≡ R.processors = cc in absurd (omega (arith, e, ltb-true j R.processors there))
  of_slow Slow n there here is also fed = refl
  of_slow (Forwarder l) n there here is also fed = absurd (false≢true fed)
  of_slow Controller n there here is also fed = let e : R.processors + 1 ≡ R.processors = cc in absurd (omega (arith, e))

  of_controller : Out Controller
  of_controller (Receiver b) n there here is also fed = absurd (false≢true fed)
  of_controller (Processor j) n there here is also fed = let e : j ≡ R.processors + 1 = cc in absurd (omega (arith, e, ltb-true j R.processors there))
  of_controller Slow n there here is also fed = let e : R.processors ≡ R.processors + 1 = cc in absurd (omega (arith, e))
  of_controller (Forwarder l) n there here is also fed = absurd (false≢true fed)
  of_controller Controller n there here is also fed = refl

  record IsOut (W : Worker) : Type 0 where
    number : ℕ
    is : producer_of R W ≡ Some number
    within : number < R.processors + 2
    alone : (V : Worker) → feeds V (High 0) ≡ true → has_worker R V ≡ true → producer_of R V ≡ Some number → same_worker V W ≡ true

  out : (W : Worker) → feeds W (High 0) ≡ true → has_worker R W ≡ true → IsOut W
  out (Receiver a) fed there = absurd (false≢true fed)
  out (Processor i) fed there = record { number = i; is = refl; within = omega (arith, ltb-true i R.processors there); alone = λ V f t is. of_processor i V i t there refl is f }
  out Slow fed there = record { number = R.processors; is = refl; within = omega arith; alone = λ V f t is. of_slow V R.processors t there refl is f }
  out (Forwarder l) fed there = absurd (false≢true fed)
  out Controller fed there = record { number = R.processors + 1; is = refl; within = omega arith; alone = λ V f t is. of_controller V (R.processors + 1) t there refl is f }

  -- all links' pipes have the same producers
  same_out : (W : Worker) (l : ℕ) → feeds W (Of (Forwarder l)) ≡ true → feeds W (High 0) ≡ true
  same_out (Receiver a) l fed = fed
  same_out (Processor i) l fed = fed
  same_out Slow l fed = fed
  same_out (Forwarder k) l fed = fed
  same_out Controller l fed = fed

  same_high : (W : Worker) (l : ℕ) → feeds W (High l) ≡ true → feeds W (High 0) ≡ true
  same_high (Receiver a) l fed = fed
  same_high (Processor i) l fed = fed
  same_high Slow l fed = fed
  same_high (Forwarder k) l fed = fed
  same_high Controller l fed = fed

  pub numbered : (q : Queue) (W : Worker) → feeds W q ≡ true → has_worker R W ≡ true → IsProducer R q W
  numbered (Of (Processor i)) W fed there = before i W fed there
  numbered (Of Slow) W fed there = aside W fed there
  numbered (Of (Forwarder l)) W fed there =
      let o = out W (same_out W l fed) there in
      record { number = o.number; is = o.is; within = o.within; alone = λ V f t is. o.alone V (same_out V l f) t is }
  numbered (High l) W fed there =
      let o = out W (same_high W l fed) there in
      record { number = o.number; is = o.is; within = o.within; alone = λ V f t is. o.alone V (same_high V l f) t is }
  numbered (Of (Receiver a)) (Receiver b) fed there = absurd (false≢true fed)
  numbered (Of (Receiver a)) (Processor i) fed there = absurd (false≢true fed)
  numbered (Of (Receiver a)) Slow fed there = absurd (false≢true fed)
  numbered (Of (Receiver a)) (Forwarder l) fed there = absurd (false≢true fed)
  numbered (Of (Receiver a)) Controller fed there = absurd (false≢true fed)
  numbered (Of Controller) (Receiver b) fed there = absurd (false≢true fed)
  numbered (Of Controller) (Processor i) fed there = absurd (false≢true fed)
  numbered (Of Controller) Slow fed there = absurd (false≢true fed)
  numbered (Of Controller) (Forwarder l) fed there = absurd (false≢true fed)
  numbered (Of Controller) Controller fed there = absurd (false≢true fed)
