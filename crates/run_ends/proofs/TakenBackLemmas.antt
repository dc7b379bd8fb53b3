-- Pipes that take back their producers, one more at a time, and are settled.
use Rattle.std.proofs.Common.{◌≡◌, ℕ, zero, suc, ◌+◌, ◌<◌, Bool, List, [], ◌∷◌, ◌++◌, length, map, slice_get, slice_set, slice_index_or, Some, refl, sym, ap, subst, ◌∙◌, arith}
use Rattle.ruled_pipe.specs.Producer.{Sender}
use Rattle.ruled_pipe.specs.Consumer.{Taker}
use Rattle.ruled_pipe.specs.Pipe.{Keeping, Shape, IsEndOf, IsNext, shape_of, took_back}
use Rattle.worker_laws.specs.Workers.{IsColumn}
use Rattle.order_laws.specs.Deeds.{Each}
use Rattle.run_ends.specs.Rows.{AreEndsOf, AreFor}
use Rattle.run_ends.specs.Opened.{made_pipes}
use Rattle.run_ends.specs.Settled.{IsFinal, AreFinished, AreOfPipe, AreTaken, AreSettled, IsDone}
use Rattle.run_ends.specs.Finished.{AreRows, AreDone, AreReady, HaveFinished, IsReady}
use Rattle.run_ends.specs.TakenBack.{AreColumns, AreNext, HaveBack, after_row}

-- ---- one more end, whatever holds it

module _ {X T : Type 0} (f : X → Sender T) where
  next_room : (xs rest : List X) (x : X) (os : List (Keeping T)) → AreNext (map f (xs ++ x ∷ rest)) os → length xs < length (after_row (map f xs) os)
  next_room [] rest x [] next = absurd next
  next_room [] rest x (o ∷ os) next = omega arith
  next_room (y ∷ xs) rest x [] next = absurd next
  next_room (y ∷ xs) rest x (o ∷ os) next = let lt = next_room xs rest x os next.1 in omega arith

  next_there : (xs rest : List X) (x : X) (os : List (Keeping T)) → AreNext (map f (xs ++ x ∷ rest)) os → (d : Keeping T) → IsNext (slice_index_or (after_row (map f xs) os) (length xs) d) (f x)
  next_there [] rest x [] next d = absurd next
  next_there [] rest x (o ∷ os) next d = next.0
  next_there (y ∷ xs) rest x [] next d = absurd next
  next_there (y ∷ xs) rest x (o ∷ os) next d = next_there xs rest x os next.1 d

  after_next : (xs : List X) (x : X) (os : List (Keeping T)) (d : Keeping T) → length xs < length (after_row (map f xs) os)
      → slice_set (after_row (map f xs) os) (length xs) (took_back (slice_index_or (after_row (map f xs) os) (length xs) d) (f x)) ≡ after_row (map f (xs ++ x ∷ [])) os
  after_next [] x [] d lt = absurd (omega arith)
  after_next [] x (o ∷ os) d lt = refl
  after_next (y ∷ xs) x [] d lt = absurd (omega arith)
  after_next (y ∷ xs) x (o ∷ os) d lt = ap (λ (l : List (Keeping T)). took_back o (f y) ∷ l) (after_next xs x os d (omega arith))

  -- in a loop: the pipe at the place of the next one takes it back
  pub taken_room : (all xs rest : List X) (x : X) (os now : List (Keeping T)) (at : ℕ) → xs ++ x ∷ rest ≡ all → AreNext (map f all) os → now ≡ after_row (map f xs) os → at ≡ length xs → at < length now
  taken_room all xs rest x os now at split next is here =
      let lt = next_room xs rest x os (subst (λ (l : List X). AreNext (map f l) os) (sym split) next) in
      let long = ap length is in
      omega arith

  held_is : (xs : List X) (os now : List (Keeping T)) (at : ℕ) (d held : Keeping T) → now ≡ after_row (map f xs) os → at ≡ length xs → held ≡ slice_index_or now at d → held ≡ slice_index_or (after_row (map f xs) os) (length xs) d
  held_is xs os now at d held is here got = got ∙ (ap (λ (l : List (Keeping T)). slice_index_or l at d) is ∙ ap (λ (k : ℕ). slice_index_or (after_row (map f xs) os) k d) here)

  pub taken_there : (all xs rest : List X) (x : X) (os now : List (Keeping T)) (at : ℕ) (d held : Keeping T) (e : Sender T) → xs ++ x ∷ rest ≡ all → AreNext (map f all) os → now ≡ after_row (map f xs) os → at ≡ length xs
      → held ≡ slice_index_or now at d → e ≡ f x → IsNext held e
  taken_there all xs rest x os now at d held e split next is here got own =
      let P : Keeping T → Type 0 = λ o. IsNext o e in
      let Q : Sender T → Type 0 = λ s. IsNext (slice_index_or (after_row (map f xs) os) (length xs) d) s in
      subst P (sym (held_is xs os now at d held is here got)) (subst Q (sym own) (next_there xs rest x os (subst (λ (l : List X). AreNext (map f l) os) (sym split) next) d))

  pub taken_next : (all xs rest : List X) (x : X) (os now : List (Keeping T)) (at : ℕ) (d held new : Keeping T) (e : Sender T) → xs ++ x ∷ rest ≡ all → AreNext (map f all) os → now ≡ after_row (map f xs) os → at ≡ length xs
      → held ≡ slice_index_or now at d → e ≡ f x → new ≡ took_back held e → slice_set now at new ≡ after_row (map f (xs ++ x ∷ [])) os
  taken_next all xs rest x os now at d held new e split next is here got own made =
      let so : List (Keeping T) = after_row (map f xs) os in
      let lt = next_room xs rest x os (subst (λ (l : List X). AreNext (map f l) os) (sym split) next) in
      let same : new ≡ took_back (slice_index_or so (length xs) d) (f x) =
      made ∙ (ap (λ (s : Sender T). took_back held s) own ∙ ap (λ (o : Keeping T). took_back o (f x)) (held_is xs os now at d held is here got)) in
      ap (λ (l : List (Keeping T)). slice_set l at new) is ∙ (ap (λ (k : ℕ). slice_set so k new) here ∙ (ap (λ (o : Keeping T). slice_set so (length xs) o) same ∙ after_next xs x os d lt))

-- ---- before the first is back

pub made_shapes : (T : Type 0) (n : ℕ) (ss : List Shape) → map shape_of (made_pipes {T = T} n ss) ≡ ss
made_shapes T n [] = refl
made_shapes T n (s ∷ ss) = ap (λ (l : List Shape). s ∷ l) (made_shapes T n ss)

none_back : (T : Type 0) (n : ℕ) (ss : List Shape) → AreFor n ss → Each (λ (o : Keeping T). o.made ≡ o.producers) (made_pipes n ss) × ((j : ℕ) → AreColumns {T = T} j [] (made_pipes n ss))
none_back T n [] for = (tt, λ j. tt)
none_back T n (s ∷ ss) for =
    let rest = none_back T n ss for.1 in
    ((sym for.0, rest.0), λ j. (tt, rest.1 (suc j)))

module _ {T : Type 0} where
  -- ---- one more row

  after_shapes : (row : List (Sender T)) (os : List (Keeping T)) → AreNext row os → map shape_of (after_row row os) ≡ map shape_of os
  after_shapes [] os next = refl
  after_shapes (s ∷ row) [] next = absurd next
  after_shapes (s ∷ row) (o ∷ os) next = ap (λ (l : List Shape). shape_of o ∷ l) (after_shapes row os next.1)

  abbrev AreMade : List (Keeping T) → Type 0
  AreMade os = Each (λ (o : Keeping T). o.made ≡ o.producers) os

  after_made : (row : List (Sender T)) (os : List (Keeping T)) → AreMade os → AreMade (after_row row os)
  after_made [] os made = made
  after_made (s ∷ row) [] made = tt
  after_made (s ∷ row) (o ∷ os) made = (made.0, after_made row os made.1)

  column_more : (j : ℕ) (rows : List (List (Sender T))) (column row : List (Sender T)) (x : Sender T) → IsColumn j rows column → slice_get row j ≡ Some x → IsColumn j (rows ++ row ∷ []) (column ++ x ∷ [])
  column_more j [] [] row x is at = (at, tt)
  column_more j [] (c ∷ cs) row x is at = absurd is
  column_more j (r ∷ rs) [] row x is at = absurd is
  column_more j (r ∷ rs) (c ∷ cs) row x is at = (is.0, column_more j rs cs row x is.1 at)

  columns_from : (j : ℕ) (rows : List (List (Sender T))) (row ss : List (Sender T)) (os : List (Keeping T)) → AreNext ss os → ((i : ℕ) (s : Sender T) → slice_get ss i ≡ Some s → slice_get row (j + i) ≡ Some s)
      → AreColumns j rows os → AreColumns j (rows ++ row ∷ []) (after_row ss os)
  columns_from j rows row [] [] next at are = tt
  columns_from j rows row [] (o ∷ os) next at are = absurd next
  columns_from j rows row (s ∷ ss) [] next at are = tt
  columns_from j rows row (s ∷ ss) (o ∷ os) next at are =
      let z : j + 0 ≡ j = omega arith in (
        column_more j rows o.senders row s are.0 (subst (λ (k : ℕ). slice_get row k ≡ Some s) z (at 0 s refl)),
        columns_from (suc j) rows row ss os next.1 (λ i t got. let e : j + suc i ≡ suc j + i = omega arith in subst (λ (k : ℕ). slice_get row k ≡ Some t) e (at (suc i) t got)) are.1,
      )

  pub back_more : (rows : List (List (Sender T))) (ss : List Shape) (row : List (Sender T)) (os : List (Keeping T)) → AreNext row os → HaveBack rows ss os → HaveBack (rows ++ row ∷ []) ss (after_row row os)
  back_more rows ss row os next back = record {
    own = after_shapes row os next ∙ back.own;
    made = after_made row os back.made;
    columns = columns_from 0 rows row row os next (λ i s got. let e : i ≡ 0 + i = omega arith in subst (λ (k : ℕ). slice_get row k ≡ Some s) e got) back.columns;
  }

  column_long : (j : ℕ) (rows : List (List (Sender T))) (column : List (Sender T)) → IsColumn j rows column → length column ≡ length rows
  column_long j [] [] is = refl
  column_long j [] (c ∷ cs) is = absurd is
  column_long j (r ∷ rs) [] is = absurd is
  column_long j (r ∷ rs) (c ∷ cs) is = ap suc (column_long j rs cs is.1)

  -- worker p's ends are next, after those of the workers before it
  next_from : (j p : ℕ) (rows : List (List (Sender T))) (row : List (Sender T)) (os : List (Keeping T)) → AreColumns j rows os → AreEndsOf p (map shape_of os) row → length rows ≡ p → AreNext row os
  next_from j p rows [] [] are ends long = tt
  next_from j p rows (s ∷ row) [] are ends long = absurd ends
  next_from j p rows [] (o ∷ os) are ends long = absurd ends
  next_from j p rows (s ∷ row) (o ∷ os) are ends long =
      let at = column_long j rows o.senders are.0 in
      ((ends.0.0, ends.0.1 ∙ (sym long ∙ sym at), ends.0.2, ends.0.3), next_from (suc j) p rows row os are.1 ends.1 long)

  pub row_next : (rows : List (List (Sender T))) (ss : List Shape) (row : List (Sender T)) (os : List (Keeping T)) → HaveBack rows ss os → AreEndsOf (length rows) ss row → AreNext row os
  row_next rows ss row os back ends = next_from 0 (length rows) rows row os back.columns (subst (λ (l : List Shape). AreEndsOf (length rows) l row) (sym back.own) ends) refl

  pub none_are_back : (n : ℕ) (ss : List Shape) (os : List (Keeping T)) → os ≡ made_pipes n ss → AreFor n ss → HaveBack [] ss os
  none_are_back n ss os is for =
      let back = none_back T n ss for in
      subst (λ (l : List (Keeping T)). HaveBack [] ss l) (sym is) (record { own = made_shapes T n ss; made = back.0; columns = back.1 0 })

  -- ---- once all are back

  finished_at : (uses : ℕ → Bool) (k p : ℕ) (ss : List Shape) (es : List (Sender T)) (j : ℕ) (s : Shape) (e : Sender T) → AreFinished uses k p ss es → slice_get ss j ≡ Some s → slice_get es j ≡ Some e → IsEndOf s p e × IsFinal (uses (k + j)) e.offers
  finished_at uses k p [] es j s e all a b = cc
  finished_at uses k p (r ∷ ss) [] j s e all a b = absurd all
  finished_at uses k p (r ∷ ss) (d ∷ es) zero s e all a b =
      let z : k ≡ k + 0 = omega arith in
      let x : r ≡ s = cc in
      let y : d ≡ e = cc in
      subst (λ (m : ℕ). IsEndOf s p e × IsFinal (uses m) e.offers) z (subst (λ (q : Shape). IsEndOf q p e × IsFinal (uses k) e.offers) x (subst (λ (q : Sender T). IsEndOf r p q × IsFinal (uses k) q.offers) y all.0))
  finished_at uses k p (r ∷ ss) (d ∷ es) (suc j) s e all a b =
      let z : suc k + j ≡ k + suc j = omega arith in subst (λ (m : ℕ). IsEndOf s p e × IsFinal (uses m) e.offers) z (finished_at uses (suc k) p ss es j s e all.1 a b)

  of_pipe : (uses : ℕ → Bool) (p : ℕ) (ss : List Shape) (rows : List (List (Sender T))) (j : ℕ) (s : Shape) (column : List (Sender T)) → AreRows uses p ss rows → slice_get ss j ≡ Some s → IsColumn j rows column → AreOfPipe (uses j) p s column
  of_pipe uses p ss [] j s [] all at is = tt
  of_pipe uses p ss [] j s (c ∷ cs) all at is = absurd is
  of_pipe uses p ss (r ∷ rows) j s [] all at is = absurd is
  of_pipe uses p ss (r ∷ rows) j s (c ∷ cs) all at is =
      let z : 0 + j ≡ j = omega arith in
      (subst (λ (m : ℕ). IsEndOf s p c × IsFinal (uses m) c.offers) z (finished_at uses 0 p ss r j s c all.0 at is.0), of_pipe uses (suc p) ss rows j s cs all.1 at is.1)

  ready_from : (uses : ℕ → Bool) (ss : List Shape) (rows : List (List (Sender T))) → AreRows uses 0 ss rows → (k : ℕ) (os : List (Keeping T)) (ts : List (Taker T)) → ((j : ℕ) (s : Shape) → slice_get (map shape_of os) j ≡ Some s → slice_get ss (k + j) ≡ Some s)
      → AreTaken uses k (length rows) (map shape_of os) ts → AreColumns k rows os → AreMade os → AreReady os ts
  ready_from uses ss rows theirs k [] [] at taken are made = tt
  ready_from uses ss rows theirs k [] (t ∷ ts) at taken are made = absurd taken
  ready_from uses ss rows theirs k (o ∷ os) [] at taken are made = absurd taken
  ready_from uses ss rows theirs k (o ∷ os) (t ∷ ts) at taken are made =
      let z : k + 0 ≡ k = omega arith in
      let here : slice_get ss k ≡ Some (shape_of o) = subst (λ (m : ℕ). slice_get ss m ≡ Some (shape_of o)) z (at 0 (shape_of o) refl) in (
        (made.0, (uses k, record { count = column_long k rows o.senders are.0 ∙ sym taken.0.0; ends = of_pipe uses 0 ss rows k (shape_of o) o.senders theirs here are.0; taker = taken.0.1 })),
        ready_from uses ss rows theirs (suc k) os ts (λ j s got. let e : k + suc j ≡ suc k + j = omega arith in subst (λ (m : ℕ). slice_get ss m ≡ Some s) e (at (suc j) s got)) taken.1 are.1 made.1,
      )

  -- pipes whose workers have all ended, and which took back all their ends, can be settled
  pub all_ready : (rows : List (List (Sender T))) (ss : List Shape) (os : List (Keeping T)) (ts : List (Taker T)) → HaveBack rows ss os → HaveFinished ss rows ts → AreReady os ts
  all_ready rows ss os ts back ended =
      let at = subst (λ (l : List Shape). AreTaken ended.uses 0 (length rows) l ts) (sym back.own) ended.taken in
      ready_from ended.uses ss rows ended.theirs 0 os ts (λ j s got. let e : j ≡ 0 + j = omega arith in subst (λ (m : ℕ). slice_get ss m ≡ Some s) e (subst (λ (l : List Shape). slice_get l j ≡ Some s) back.own got)) at back.columns back.made

  -- pipes that are settled, seen by the workers' rows
  settled_from : (rows : List (List (Sender T))) (k : ℕ) (os : List (Keeping T)) (ts : List (Taker T)) → AreColumns k rows os → AreDone os ts → AreSettled k rows (map shape_of os) ts
  settled_from rows k [] [] are done = tt
  settled_from rows k [] (t ∷ ts) are done = absurd done
  settled_from rows k (o ∷ os) [] are done = absurd done
  settled_from rows k (o ∷ os) (t ∷ ts) are done = (record { row = o.senders; column = are.0; done = done.0 }, settled_from rows (suc k) os ts are.1 done.1)

  pub settled_rows : (rows : List (List (Sender T))) (ss : List Shape) (os : List (Keeping T)) (ts : List (Taker T)) → HaveBack rows ss os → AreDone os ts → AreSettled 0 rows ss ts
  settled_rows rows ss os ts back done = subst (λ (l : List Shape). AreSettled 0 rows l ts) back.own (settled_from rows 0 os ts back.columns done)

  -- ---- one pipe after another is settled

  pub ready_long : (os : List (Keeping T)) (ts : List (Taker T)) → AreReady os ts → length ts ≡ length os
  ready_long [] [] all = refl
  ready_long [] (t ∷ ts) all = absurd all
  ready_long (o ∷ os) [] all = absurd all
  ready_long (o ∷ os) (t ∷ ts) all = ap suc (ready_long os ts all.1)

  pub ready_next : (os ps : List (Keeping T)) (ts us : List (Taker T)) (o : Keeping T) (t : Taker T) → os ≡ o ∷ ps → ts ≡ t ∷ us → AreReady os ts → IsReady o t × AreReady ps us
  ready_next os ps ts us o t a b all = subst (λ (l : List (Taker T)). AreReady (o ∷ ps) l) b (subst (λ (l : List (Keeping T)). AreReady l ts) a all)

  pub done_next : (os ps : List (Keeping T)) (ts us : List (Taker T)) (o : Keeping T) (t : Taker T) → os ≡ o ∷ ps → ts ≡ t ∷ us → IsDone (shape_of o) o.senders t → AreDone ps us → AreDone os ts
  done_next os ps ts us o t a b one rest = subst (λ (l : List (Keeping T)). AreDone l ts) (sym a) (subst (λ (l : List (Taker T)). AreDone (o ∷ ps) l) (sym b) (one, rest))

  pub done_none : (os : List (Keeping T)) (ts : List (Taker T)) → AreReady os ts → length os ≡ 0 → AreDone os ts
  done_none [] [] all none = tt
  done_none [] (t ∷ ts) all none = absurd all
  done_none (o ∷ os) ts all none = absurd (omega arith)

  pub done_as : (os ps : List (Keeping T)) (ts us : List (Taker T)) → os ≡ ps → ts ≡ us → AreDone os ts → AreDone ps us
  done_as os ps ts us a b done = subst (λ (l : List (Taker T)). AreDone ps l) b (subst (λ (l : List (Keeping T)). AreDone l ts) a done)

  pub ready_as : (os ps : List (Keeping T)) (ts us : List (Taker T)) → ps ≡ os → us ≡ ts → AreReady os ts → AreReady ps us
  ready_as os ps ts us a b all = subst (λ (l : List (Taker T)). AreReady ps l) (sym b) (subst (λ (l : List (Keeping T)). AreReady l ts) (sym a) all)
