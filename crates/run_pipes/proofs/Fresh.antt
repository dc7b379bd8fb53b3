-- New ends and consumers, by their numbers.
use Rattle.std.proofs.Common.{◌≡◌, ℕ, suc, ◌+◌, Bool, false, List, [], ◌∷◌, length, Some, slice_get, refl, sym, ap, subst, ◌∙◌, arith}
use Rattle.std.proofs.lemmas.List.{length-map}
use Rattle.ruled_pipe.specs.Consumer.{Taker}
use Rattle.ruled_pipe.specs.Producer.{Sender}
use Rattle.ruled_pipe.specs.Pipe.{Shape}
use Rattle.worker_order.specs.Returned.{AllAt}
use Rattle.worker_parts.specs.Outlet.{Offering, offering}
use Rattle.worker_parts.specs.Outlets.{AreFresh, senders}
use Rattle.run_ends.specs.Opened.{AreMadeOf}
use Rattle.run_ends.specs.Rows.{AreEndsOf, fresh_end, fresh_ends, new_takers, taker_of}
use Rattle.run_pipes.specs.Piping.{IsTakerThere}
use Rattle.run_pipes.specs.Rest.{IsRest}

-- the consumers, from pipe i on
takers_from : (T : Type 0) (whole : List Shape) (i : ℕ) (ss : List Shape) → ((j : ℕ) (s : Shape) → slice_get ss j ≡ Some s → slice_get whole (i + j) ≡ Some s) → AllAt (IsTakerThere {T = T} whole) i (new_takers {T = T} ss)
takers_from T whole i [] at = tt
takers_from T whole i (s ∷ ss) at =
    let z : i + 0 ≡ i = omega arith in (
      record { own = s; there = subst (λ (j : ℕ). slice_get whole j ≡ Some s) z (at 0 s refl); fresh = refl },
      takers_from T whole (i + 1) ss (λ j x got. let e : i + suc j ≡ i + 1 + j = omega arith in subst (λ (k : ℕ). slice_get whole k ≡ Some x) e (at (suc j) x got)),
    )

pub takers_are : {T : Type 0} (ss : List Shape) (n : ℕ) (ts : List (Taker T)) → ts ≡ new_takers ss → length ss ≡ n → IsRest (IsTakerThere ss) 0 n ts
takers_are {T = T} ss n ts is long = record {
  each = subst (λ (xs : List (Taker T)). AllAt (IsTakerThere ss) 0 xs) (sym is) (takers_from T ss 0 ss (λ j s at. let z : j ≡ 0 + j = omega arith in subst (λ (k : ℕ). slice_get ss k ≡ Some s) z at));
  count = let a = ap length is in let b = length-map ss (taker_of {T = T}) in omega arith;
}

pub fresh_long : (T : Type 0) (p : ℕ) (ss : List Shape) → length (fresh_ends {T = T} p ss) ≡ length ss
fresh_long T p ss = length-map ss (fresh_end {T = T} p)

pub fresh_are : (T : Type 0) (p : ℕ) (ss : List Shape) → AreEndsOf p ss (fresh_ends {T = T} p ss)
fresh_are T p [] = tt
fresh_are T p (s ∷ ss) = ((refl, refl, refl, refl), fresh_are T p ss)

-- new ends in a worker's hands
module _ {T : Type 0} (wakes : ℕ → Bool) where
  pub outlets_fresh : (k p : ℕ) (ss : List Shape) (os : List (Offering T)) → AreMadeOf (λ at s o. o ≡ offering s false (wakes at)) k (fresh_ends p ss) os → (senders os ≡ fresh_ends p ss) × AreFresh os
  outlets_fresh k p [] [] all = (refl, tt)
  outlets_fresh k p [] (o ∷ os) all = absurd all
  outlets_fresh k p (s ∷ ss) [] all = absurd all
  outlets_fresh k p (s ∷ ss) (o ∷ os) all =
      let rest = outlets_fresh (suc k) p ss os all.1 in
      let end = ap (λ (x : Offering T). x.sender) all.0 in (
        ap (λ (x : Sender T). x ∷ senders os) end ∙ ap (λ (l : List (Sender T)). fresh_end p s ∷ l) rest.0,
        (ap (λ (x : Offering T). x.ended) all.0, ap (λ (x : Sender T). x.offers) end, ap (λ (x : Sender T). x.refusals) end, rest.1),
      )

  pub outlets_long : (p : ℕ) (ss : List Shape) (os : List (Offering T)) → AreMadeOf (λ at s o. o ≡ offering s false (wakes at)) 0 (fresh_ends p ss) os → length os ≡ length ss
  outlets_long p ss os all = sym (length-map os (λ (o : Offering T). o.sender)) ∙ (ap length (outlets_fresh 0 p ss os all).0 ∙ fresh_long T p ss)

  -- they are of these pipes
  pub outlets_of : (p : ℕ) (ss : List Shape) (os : List (Offering T)) → AreMadeOf (λ at s o. o ≡ offering s false (wakes at)) 0 (fresh_ends p ss) os → AreEndsOf p ss (senders os)
  outlets_of p ss os all = subst (λ (es : List (Sender T)). AreEndsOf p ss es) (sym (outlets_fresh 0 p ss os all).0) (fresh_are T p ss)
