-- Pipes whose workers have ended, settled.
use Rattle.std.proofs.Common.{◌≡◌, ℕ, zero, suc, ◌+◌, Bool, true, false, List, [], ◌∷◌, slice_get, Some, refl, subst, arith}
use Rattle.ruled_pipe.specs.declared.entry.Entry.{Entry}
use Rattle.ruled_pipe.specs.Producer.{Sender}
use Rattle.ruled_pipe.specs.Consumer.{Taker}
use Rattle.ruled_pipe.specs.Pipe.{Shape, IsEndOf}
use Rattle.ruled_pipe.specs.Gathered.{IsWhole}
use Rattle.worker_laws.specs.Ends.{pushes}
use Rattle.worker_laws.specs.Gathers.{Drains, StaysEmpty, IsDrained, TookAll}
use Rattle.worker_laws.specs.Workers.{IsColumn}
use Rattle.run_ends.specs.Settled.{IsFinal, AreOfPipe, IsEnded, IsDone, AreSettled}

module _ {T : Type 0} where
  of_pipe_at : (used : Bool) (p : ℕ) (s : Shape) (row : List (Sender T)) → AreOfPipe used p s row → (k : ℕ) (e : Sender T) → slice_get row k ≡ Some e → IsEndOf s (p + k) e × IsFinal used e.offers
  of_pipe_at used p s [] all k e at = cc
  of_pipe_at used p s (x ∷ xs) all zero e at =
      let same : x ≡ e = cc in
      let z : p ≡ p + 0 = omega arith in
      subst (λ (y : Sender T). IsEndOf s (p + 0) y × IsFinal used y.offers) same (subst (λ (n : ℕ). IsEndOf s n x × IsFinal used x.offers) z all.0)
  of_pipe_at used p s (x ∷ xs) all (suc k) e at =
      let z : suc p + k ≡ p + suc k = omega arith in subst (λ (n : ℕ). IsEndOf s n e × IsFinal used e.offers) z (of_pipe_at used (suc p) s xs all.1 k e at)

  pub drained : Drains T → StaysEmpty T → (used : Bool) (s : Shape) (row : List (Sender T)) (t : Taker T) → IsEnded used s row t → (held : List (Entry T)) → IsWhole s.capacity row t.taken held → IsDrained s.capacity row t.taken held
  drained drains stays true s row t is held whole = drains s.capacity row t.taken held whole (λ k e at. (of_pipe_at true 0 s row is.ends k e at).1) (let x = is.taker.taken refl in let y = is.count in omega arith)
  drained drains stays false s row t is held whole = (stays s.capacity row t.taken held whole (λ k e at. (of_pipe_at false 0 s row is.ends k e at).1)).1

  pub is_done : Drains T → StaysEmpty T → (used : Bool) (s : Shape) (row : List (Sender T)) (t : Taker T) → IsEnded used s row t → (held : List (Entry T)) × IsWhole s.capacity row t.taken held → IsDone s row t
  is_done drains stays used s row t is whole = record {
    whole = whole;
    drained = drained drains stays used s row t is;
    took = (drained drains stays used s row t is whole.0 whole.1).all;
  }

  settled_at : (rows : List (List (Sender T))) (k : ℕ) (ss : List Shape) (ts : List (Taker T)) → AreSettled k rows ss ts → (j : ℕ) (t : Taker T) → slice_get ts j ≡ Some t → (row : List (Sender T)) × IsColumn (k + j) rows row × TookAll row (pushes t.taken)
  settled_at rows k [] [] a j t at = cc
  settled_at rows k [] (u ∷ ts) a j t at = absurd a
  settled_at rows k (s ∷ ss) [] a j t at = absurd a
  settled_at rows k (s ∷ ss) (u ∷ ts) a zero t at =
      let same : u ≡ t = cc in
      let z : k ≡ k + 0 = omega arith in
      (a.0.row, subst (λ (n : ℕ). IsColumn n rows a.0.row) z a.0.column, subst (λ (x : Taker T). TookAll a.0.row (pushes x.taken)) same a.0.done.took)
  settled_at rows k (s ∷ ss) (u ∷ ts) a (suc j) t at =
      let r = settled_at rows (suc k) ss ts a.1 j t at in
      let z : suc k + j ≡ k + suc j = omega arith in
      (r.0, subst (λ (n : ℕ). IsColumn n rows r.0) z r.1, r.2)

  pub column_of : (rows : List (List (Sender T))) (ss : List Shape) (ts : List (Taker T)) → AreSettled 0 rows ss ts → (j : ℕ) (t : Taker T) → slice_get ts j ≡ Some t → (row : List (Sender T)) × IsColumn j rows row × TookAll row (pushes t.taken)
  column_of rows ss ts a j t at =
      let r = settled_at rows 0 ss ts a j t at in
      let z : 0 + j ≡ j = omega arith in
      (r.0, subst (λ (n : ℕ). IsColumn n rows r.0) z r.1, r.2)
