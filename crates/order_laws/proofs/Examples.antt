-- The rules of the examples are lawful.
use Rattle.std.proofs.Common.{◌≡◌, ℕ, Bool, true, false, ◌<◌, cond, sym, ap, arith, eqb}
use Rattle.std.proofs.lemmas.Bool.{eqb-true}
use Rattle.order_laws.specs.Rules.{Decision, Reply, Sends, Asks, Replies}
use Rattle.order_laws.specs.Example.{samples, Sample, Lawful}

two : (b : Bool) → cond b 0 1 < 2
two true = omega arith
two false = omega arith

of_link : (b c : Bool) (d : Sample) (l : ℕ) (y : Sample) → cond {A = Decision samples} b (Asks 52) (Sends (cond c 1 2) d) ≡ Sends l y → l < 4
of_link true c d l y e = cc
of_link false true d l y e = let f : 1 ≡ l = cc in omega arith
of_link false false d l y e = let f : 2 ≡ l = cc in omega arith

of_band : (b c : Bool) (d : Sample) (l : ℕ) (y : Sample) → cond {A = Decision samples} b (Asks 52) (Sends (cond c 1 2) d) ≡ Sends l y → y.urgent ≡ d.urgent
of_band true c d l y e = cc
of_band false c d l y e = let f : d ≡ y = cc in ap (λ (z : Sample). z.urgent) (sym f)

of_reply : (c : Bool) (d : Sample) (l : ℕ) (y : Sample) → ◌≡◌ {A = Reply samples} (Replies (cond c 1 0) d) (Replies l y) → l < 4
of_reply true d l y e = let f : 1 ≡ l = cc in omega arith
of_reply false d l y e = let f : 0 ≡ l = cc in omega arith

pub lawful : Lawful
lawful banded = record {
  processors = λ k. two (eqb k 0);
  keys = λ k m h. eqb-true k m h;
  faults = λ x c v e. (let P : ⊥ = cc in absurd P);
  sends = λ x l y v e. of_link x.datagram.faulty (eqb x.link 2) x.datagram l y e;
  replies = λ x p l y v d e. of_reply (eqb x.link 1) x.datagram l y e;
  bands = λ x l y v e. of_band x.datagram.faulty (eqb x.link 2) x.datagram l y e;
}
