-- A worker made of what is next of each list.
use Rattle.std.proofs.Common.{◌≡◌, ◌≤◌, ℕ, zero, suc, ◌+◌, List, [], ◌∷◌, ◌++◌, length, Some, slice_get, sym, ◌∙◌, ap, subst, arith, append_assoc, append-nil}
use Rattle.packet_ledger.specs.Share.{AreNew, Held, new_share}
use Rattle.ruled_pipe.specs.Consumer.{Taker, new_taker}
use Rattle.ruled_pipe.specs.Pipe.{Shape, IsTakerOf}
use Rattle.run_ends.specs.Rows.{AreFor}
use Rattle.run_pipes.specs.Piping.{IsTakerThere}
use Rattle.run_workers.specs.Kits.{paired}
use Rattle.run_workers.specs.Shares.{AreNewShares, HaveGone}

pub new_shares : (n : ℕ) (xs : List Held) → length xs ≡ n → AreNew 0 xs → AreNewShares 0 n xs
new_shares n xs long all = record { each = all; enough = omega arith }

-- the shares, before the first is taken, and after the next
pub none_gone : (place n : ℕ) (xs : List Held) → AreNewShares place n xs → HaveGone place 0 xs xs
none_gone place n xs new = record { each = subst (λ (k : ℕ). AreNew k xs) (omega arith) new.each; count = omega arith }

pub one_gone : (place n : ℕ) (all old new : List Held) (x : Held) → old ≡ x ∷ new → HaveGone place n all old → HaveGone place (n + 1) all new
one_gone place n all old new x is gone =
    let e = subst (λ (xs : List Held). AreNew (place + n) xs) is gone.each in
    record { each = subst (λ (k : ℕ). AreNew k new) (omega arith) e.1; count = let c = gone.count in let l = ap length is in omega arith }

-- the next of them is new, and stands at the next place
pub next_new : (place n : ℕ) (all old new : List Held) (x : Held) → old ≡ x ∷ new → HaveGone place n all old → x ≡ new_share (place + n)
next_new place n all old new x is gone =
    let e = subst (λ (xs : List Held). AreNew (place + n) xs) is gone.each in
    e.0

-- the shares that are left, for those who come next
pub left_new : (place n m next : ℕ) (old new : List Held) → HaveGone place n old new → place + n ≡ next → n + m ≤ length old → AreNewShares next m new
left_new place n m next old new gone at enough = record { each = subst (λ (k : ℕ). AreNew k new) at gone.each; enough = let c = gone.count in omega arith }

producers_at : (n : ℕ) (ss : List Shape) (i : ℕ) (s : Shape) → AreFor n ss → slice_get ss i ≡ Some s → s.producers ≡ n
producers_at n [] i s all at = cc
producers_at n (x ∷ ss) zero s all at = let e : x ≡ s = cc in ap (λ (y : Shape). y.producers) (sym e) ∙ all.0
producers_at n (x ∷ ss) (suc i) s all at = producers_at n ss i s all.1 at

module _ {T : Type 0} where
  pub taker_new : (n : ℕ) (pipes : List Shape) (i : ℕ) (t : Taker T) → AreFor n pipes → IsTakerThere pipes i t → (t.taken ≡ []) × (t.producers ≡ n)
  taker_new n pipes i t all is = (ap (λ (x : Taker T). x.taken) is.fresh, ap (λ (x : Taker T). x.producers) is.fresh ∙ producers_at n pipes i is.own all is.there)

  -- the consumer of a pipe
  pub taker_of : (s : Shape) (t u : Taker T) → u ≡ t → t ≡ new_taker s.pipe s.producers s.capacity → IsTakerOf s u
  taker_of s t u same fresh = let e = same ∙ fresh in (ap (λ (x : Taker T). x.pipe) e, ap (λ (x : Taker T). x.producers) e, ap (λ (x : Taker T). x.capacity) e)

-- all have been made
pub all_taken : (k count n : ℕ) → k ≤ count → count ≤ k → count ≡ n → k ≡ n
all_taken k count n a b e = omega arith

-- what two lists make one by one, after what was made already: at first, after one more, and once nothing is left
module _ {X Y Z : Type 0} (make : X → Y → Z) where
  pub paired_first : (room : List Z) (xs us : List X) (ys vs : List Y) → room ≡ [] → xs ≡ us → ys ≡ vs → room ++ paired make xs ys ≡ paired make us vs
  paired_first room xs us ys vs a b d = ap (λ (zs : List Z). zs ++ paired make xs ys) a ∙ (ap (λ (ws : List X). paired make ws ys) b ∙ ap (λ (ws : List Y). paired make us ws) d)

  pub paired_next : (made new : List Z) (z : Z) (xs us : List X) (ys vs : List Y) (x : X) (y : Y) (all : List Z)
      → z ≡ make x y → xs ≡ x ∷ us → ys ≡ y ∷ vs → new ≡ made ++ z ∷ [] → made ++ paired make xs ys ≡ all → new ++ paired make us vs ≡ all
  paired_next made new z xs us ys vs x y all same a b pushed is =
      let back : z ∷ paired make us vs ≡ paired make xs ys = ap (λ (w : Z). w ∷ paired make us vs) same ∙ (ap (λ (ws : List X). paired make ws (y ∷ vs)) (sym a) ∙ ap (λ (ws : List Y). paired make xs ws) (sym b)) in
      ap (λ (zs : List Z). zs ++ paired make us vs) pushed ∙ (append_assoc made (z ∷ []) (paired make us vs) ∙ (ap (λ (zs : List Z). made ++ zs) back ∙ is))

  pub paired_last : (made : List Z) (xs : List X) (ys : List Y) (all : List Z) → length xs ≡ 0 → made ++ paired make xs ys ≡ all → made ≡ all
  paired_last made [] ys all long is = sym (append-nil made) ∙ is
  paired_last made (x ∷ xs) ys all long is = absurd (omega arith)
