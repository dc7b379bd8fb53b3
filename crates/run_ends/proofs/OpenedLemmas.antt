-- Pipes and their producers, one more at a time.
use Rattle.std.proofs.Common.{◌≡◌, ℕ, zero, suc, ◌+◌, ◌<◌, List, [], ◌∷◌, ◌++◌, length, map, slice_get, slice_set, slice_index_or, Some, refl, sym, ap, subst, ◌∙◌, arith, length-append}
use Rattle.std.proofs.lemmas.List.{map-append}
use Rattle.ruled_pipe.specs.Producer.{Sender, new_sender}
use Rattle.ruled_pipe.specs.Consumer.{Taker, new_taker}
use Rattle.ruled_pipe.specs.Pipe.{Keeping, Shape, one_made, shape_of}
use Rattle.run_ends.specs.Rows.{AreFor, AreWideAs, fresh_ends, new_takers}
use Rattle.run_ends.specs.Opened.{AreMadeOf, AreNewPipes, made_pipe, made_pipes, minted, minted_ends, next_end}

for_more : (n : ℕ) (ss : List Shape) (s : Shape) → AreFor n ss → s.producers ≡ n → AreFor n (ss ++ s ∷ [])
for_more n [] s all is = (is, tt)
for_more n (t ∷ ss) s all is = (all.0, for_more n ss s all.1 is)

wide_more : (f : ℕ → ℕ) (k : ℕ) (ss : List Shape) (s : Shape) → AreWideAs f k ss → s.capacity ≡ f (k + length ss) → AreWideAs f k (ss ++ s ∷ [])
wide_more f k [] s all is = let z : k + 0 ≡ k = omega arith in (is ∙ ap f z, tt)
wide_more f k (t ∷ ss) s all is = let z : k + suc (length ss) ≡ suc k + length ss = omega arith in (all.0, wide_more f (suc k) ss s all.1 (is ∙ ap f z))

module _ {X Y : Type 0} (makes : ℕ → X → Y → Type 0) where
  pub made_of_more : (k : ℕ) (xs : List X) (ys : List Y) (x : X) (y : Y) → AreMadeOf makes k xs ys → makes (k + length ys) x y → AreMadeOf makes k (xs ++ x ∷ []) (ys ++ y ∷ [])
  made_of_more k [] [] x y all is = let z : k + 0 ≡ k = omega arith in (subst (λ (j : ℕ). makes j x y) z is, tt)
  made_of_more k [] (b ∷ ys) x y all is = absurd all
  made_of_more k (a ∷ xs) [] x y all is = absurd all
  made_of_more k (a ∷ xs) (b ∷ ys) x y all is =
      let z : k + suc (length ys) ≡ suc k + length ys = omega arith in (all.0, made_of_more (suc k) xs ys x y all.1 (subst (λ (j : ℕ). makes j x y) z is))

pub same_ends : {X : Type 0} (k : ℕ) (xs ys : List X) → AreMadeOf (λ _ x y. y ≡ x) k xs ys → ys ≡ xs
same_ends k [] [] all = refl
same_ends k [] (y ∷ ys) all = absurd all
same_ends k (x ∷ xs) [] all = absurd all
same_ends {X = X} k (x ∷ xs) (y ∷ ys) all = ap (λ (z : X). z ∷ ys) all.0 ∙ ap (λ (zs : List X). x ∷ zs) (same_ends (suc k) xs ys all.1)

module _ {T : Type 0} where
  -- ---- new pipes

  pub open_more : (f : ℕ → ℕ) (n k c : ℕ) (os : List (Keeping T)) (ts : List (Taker T)) (o : Keeping T) (t : Taker T) → AreNewPipes f n k os ts
      → o.made ≡ 0 → o.senders ≡ [] → o.producers ≡ n → o.capacity ≡ c → t ≡ new_taker o.pipe n c → c ≡ f k → AreNewPipes f n (k + 1) (os ++ o ∷ []) (ts ++ t ∷ [])
  open_more f n k c os ts o t new made none for wide taker at =
      let ss = new.shapes in
      let s : Shape = shape_of o in
      let pipe : o ≡ made_pipe 0 s =
      ap (λ (m : ℕ). record { pipe = o.pipe; producers = o.producers; capacity = o.capacity; made = m; senders = o.senders }) made
      ∙ ap (λ (l : List (Sender T)). record { pipe = o.pipe; producers = o.producers; capacity = o.capacity; made = 0; senders = l }) none in
      let own : t ≡ new_taker o.pipe o.producers o.capacity = taker ∙ (ap (λ (m : ℕ). new_taker o.pipe m c) (sym for) ∙ ap (λ (m : ℕ). new_taker o.pipe o.producers m) (sym wide)) in
      record {
        shapes = ss ++ s ∷ [];
        pipes = ap (λ (l : List (Keeping T)). l ++ o ∷ []) new.pipes ∙ (ap (λ (x : Keeping T). made_pipes 0 ss ++ x ∷ []) pipe ∙ sym (map-append (made_pipe 0) ss (s ∷ [])));
        takers = ap (λ (l : List (Taker T)). l ++ t ∷ []) new.takers ∙ (ap (λ (x : Taker T). new_takers ss ++ x ∷ []) own ∙ sym (map-append (λ (x : Shape). new_taker x.pipe x.producers x.capacity) ss (s ∷ [])));
        producers = for_more n ss s new.producers for;
        wide = wide_more f 0 ss s new.wide (wide ∙ (at ∙ ap f (let l = new.counted in omega arith)));
        counted = let l = new.counted in omega (arith, length-append ss (s ∷ []));
      }

  -- ---- making

  pub minted_all : (os : List (Keeping T)) → minted (length os) os ≡ map one_made os
  minted_all [] = refl
  minted_all (o ∷ os) = ap (λ (l : List (Keeping T)). one_made o ∷ l) (minted_all os)

  pub there_is : (os : List (Keeping T)) (k : ℕ) → k < length os → (d : Keeping T) → slice_get os k ≡ Some (slice_index_or (minted k os) k d)
  there_is [] k lt d = absurd (omega arith)
  there_is (o ∷ os) zero lt d = refl
  there_is (o ∷ os) (suc k) lt d = there_is os k (omega arith) d

  pub minted_next : (os : List (Keeping T)) (k : ℕ) (d : Keeping T) → k < length os → slice_set (minted k os) k (one_made (slice_index_or (minted k os) k d)) ≡ minted (suc k) os
  minted_next [] k d lt = absurd (omega arith)
  minted_next (o ∷ os) zero d lt = refl
  minted_next (o ∷ os) (suc k) d lt = ap (λ (l : List (Keeping T)). one_made o ∷ l) (minted_next os k d (omega arith))

  pub ends_all : (os : List (Keeping T)) → minted_ends {T = T} (length os) os ≡ map next_end os
  ends_all [] = refl
  ends_all (o ∷ os) = ap (λ (l : List (Sender T)). next_end o ∷ l) (ends_all os)

  pub ends_next : (os : List (Keeping T)) (k : ℕ) (d : Keeping T) → k < length os → minted_ends {T = T} k os ++ next_end (slice_index_or (minted k os) k d) ∷ [] ≡ minted_ends (suc k) os
  ends_next [] k d lt = absurd (omega arith)
  ends_next (o ∷ os) zero d lt = refl
  ends_next (o ∷ os) (suc k) d lt = ap (λ (l : List (Sender T)). next_end o ∷ l) (ends_next os k d (omega arith))

  next_of : (k n : ℕ) (ss : List Shape) → AreFor n ss → k < n → (j : ℕ) (o : Keeping T) → slice_get (made_pipes k ss) j ≡ Some o → (o.made < o.producers) × (o.senders ≡ [])
  next_of k n [] for lt j o at = cc
  next_of k n (s ∷ ss) for lt zero o at =
      let e : made_pipe k s ≡ o = cc in let b = for.0 in
      let own : k < s.producers = omega arith in
      subst (λ (x : Keeping T). (x.made < x.producers) × (x.senders ≡ [])) e (own, refl)
  next_of k n (s ∷ ss) for lt (suc j) o at = next_of k n ss for.1 lt j o at

  -- each is to have one more
  pub have_next : (k n : ℕ) (ss : List Shape) (os : List (Keeping T)) → os ≡ made_pipes k ss → AreFor n ss → k < n → (j : ℕ) (o : Keeping T) → slice_get os j ≡ Some o → (o.made < o.producers) × (o.senders ≡ [])
  have_next k n ss os is for lt j o at = next_of k n ss for lt j o (ap (λ (l : List (Keeping T)). slice_get l j) (sym is) ∙ at)

  made_next : (k : ℕ) (ss : List Shape) → map one_made (made_pipes {T = T} k ss) ≡ made_pipes (k + 1) ss
  made_next k [] = refl
  made_next k (s ∷ ss) = ap (λ (l : List (Keeping T)). made_pipe (k + 1) s ∷ l) (made_next k ss)

  fresh_next : (k : ℕ) (ss : List Shape) → map next_end (made_pipes {T = T} k ss) ≡ fresh_ends k ss
  fresh_next k [] = refl
  fresh_next k (s ∷ ss) = ap (λ (l : List (Sender T)). new_sender s.pipe k s.producers s.capacity ∷ l) (fresh_next k ss)

  -- once one more of each was made
  pub row_made : (k n : ℕ) (ss : List Shape) (os now : List (Keeping T)) → os ≡ made_pipes k ss → n ≡ length os → now ≡ minted n os → now ≡ made_pipes (k + 1) ss
  row_made k n ss os now is all made = made ∙ (ap (λ (m : ℕ). minted m os) all ∙ (minted_all os ∙ (ap (map one_made) is ∙ made_next k ss)))

  pub row_fresh : {Y : Type 0} (makes : ℕ → Sender T → Y → Type 0) (k n : ℕ) (ss : List Shape) (os : List (Keeping T)) (ys : List Y) → os ≡ made_pipes k ss → n ≡ length os → AreMadeOf makes 0 (minted_ends n os) ys → AreMadeOf makes 0 (fresh_ends k ss) ys
  row_fresh makes k n ss os ys is all made =
      subst (λ (es : List (Sender T)). AreMadeOf makes 0 es ys) (ap (λ (m : ℕ). minted_ends m os) all ∙ (ends_all os ∙ (ap (map next_end) is ∙ fresh_next k ss))) made
