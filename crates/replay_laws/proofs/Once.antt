-- Nothing is pushed twice: what was pushed on a stage, and what is still before it, never grow together.
use Rattle.std.proofs.Common.{◌≡◌, ◌≢◌, ◌⊎◌, inl, inr, ℕ, Bool, true, false, ◌&&◌, ◌+◌, ◌<◌, ◌≤◌, cond, List, [], ◌∷◌, length, drop, refl, sym, subst, ◌∙◌, ap, arith}
use Rattle.std.specs.Prelude.{Some, None}
use Rattle.std.specs.List.{All}
use Rattle.std.proofs.lemmas.List.{set_past}
use Rattle.std.proofs.lemmas.List.Elements.{All-head, All-tail}
use Rattle.std.proofs.lemmas.Bool.{cases_lt}
use Rattle.order_laws.specs.Kinds.{Kinds}
use Rattle.order_laws.specs.Item.{Arrival, Outgoing, Arrived, Packet, Request, Out, Close, End, Item, is_one}
use Rattle.replay_laws.specs.Marks.{is_named}
use Rattle.order_laws.specs.Counts.{total, count}
use Rattle.replay_laws.specs.Worker.{Worker}
use Rattle.replay_laws.specs.Pipe.{Entry, Pipe, empty_pipe, front, held, items, one_taken, pushed, refused, refusal_of}
use Rattle.order_laws.specs.Rules.{Rules, Decision, Reply, Replies, Withholds, IsLawful}
use Rattle.replay_laws.specs.World.{World, Hand, Empty, Got, Owes, hand, pipe, with_hand, with_pipe}
use Rattle.order_laws.specs.Pipes.{pipe_count, slow_seat, home}
use Rattle.replay_laws.specs.Next.{Outcome, Makes, Ends, decided, replied, hand_after, taken_from}
use Rattle.replay_laws.specs.Start.{HasArrival, IsStart, Numbered}
use Rattle.replay_laws.specs.Once.{Stage, AsPacket, AsProblem, AsOutgoing, is_at, pushed_count, KeepsOnce}
use Rattle.order_laws.proofs.Sums.{total-set, total-append, total-take, total-plus, total-agree, total-nothing, total-le, total-part, total-two, count-total}
use Rattle.replay_laws.proofs.Moves.{Move, Receives, Starves, Offers, Refuses, Takes, Looks, Works, Lacks, Marks, Sends, Fails, Sweeps, Serves, work, is_mark}
use Rattle.replay_laws.specs.ByRules.{IsHome}
use Rattle.replay_laws.proofs.Runs.{run_keeps}
use Rattle.replay_laws.proofs.Place.{Sound, sound, keeps_sound, start_sound, weight_one}
use Rattle.replay_laws.proofs.Parts.{hand_there, pipe_there, held_front, held_pushed, items_pushed}
use Rattle.replay_laws.proofs.Weights.{HasHome, Whole, one_if, one, at, weight}

-- it is still to be pushed on the stage
module _ {K : Kinds} where
  abbrev is_before : Stage → Item K → Bool
  is_before g (Arrived x) = true
  is_before AsPacket (Packet x) = false
  is_before AsProblem (Packet x) = true
  is_before AsOutgoing (Packet x) = true
  is_before AsPacket (Request x p) = false
  is_before AsProblem (Request x p) = false
  is_before AsOutgoing (Request x p) = true
  is_before g (Out o) = false
  is_before g Close = false
  is_before g End = false

  module _ (named : ℕ → ℕ → Bool) (g : Stage) where
    abbrev pub due : Item K → ℕ
    due x = cond (is_named named x && is_before g x) 1 0

    abbrev pub done : Item K → ℕ
    done x = cond (is_named named x && is_at g x) 1 0

    abbrev pub holds : Hand K → ℕ
    holds Empty = 0
    holds (Got x) = due x
    holds (Owes x) = due x + done x

    abbrev pub has : Pipe K → ℕ
    has p = total done (items p.history) + total due (held p)

    abbrev pub level : World K → ℕ
    level w = total holds w.hands + total has w.pipes

    after_holds : (x : Item K) → holds (hand_after x) ≡ due x
    after_holds (Arrived x) = refl
    after_holds (Packet x) = refl
    after_holds (Request x p) = refl
    after_holds (Out o) = refl
    after_holds Close = refl
    after_holds End = refl

    mark_none : (x : Item K) → is_mark x ≡ true → (due x ≡ 0) × (done x ≡ 0)
    mark_none Close m = (refl, refl)
    mark_none End m = (refl, refl)
    mark_none (Arrived x) m = cc
    mark_none (Packet x) m = cc
    mark_none (Request x p) m = cc
    mark_none (Out o) m = cc

    has_taken : (p : Pipe K) (x : Item K) → front p ≡ Some x → has (one_taken p) + due x ≡ has p
    has_taken p x e = let t = ap (total due) (held_front p x e) in omega arith

    has_pushed : (p : Pipe K) (from : Worker) (x : Item K) → p.taken ≤ length (items p.history) → has (pushed p from x) ≡ has p + (due x + done x)
    has_pushed p from x h =
        let e = ap (total due) (held_pushed p from x h) in
        let t = total-append due (held p) (x ∷ []) in
        let f = ap (total done) (items_pushed p from x) in
        let s = total-append done (items p.history) (x ∷ []) in
        omega arith

  -- what a worker makes is pushed on a later stage
  out_of_packet : (b : Bool) (g : Stage) (x : Arrival K) (o : Outgoing K) → cond (b && is_before g (Out o)) 1 0 + cond (b && is_at g (Out o)) 1 0 ≤ cond (b && is_before g (Packet x)) 1 0
  out_of_packet true AsPacket x o = omega arith
  out_of_packet true AsProblem x o = omega arith
  out_of_packet true AsOutgoing x o = omega arith
  out_of_packet false g x o = omega arith

  asked_of_packet : (b : Bool) (g : Stage) (x : Arrival K) (p : K.Problem) → cond (b && is_before g (Request x p)) 1 0 + cond (b && is_at g (Request x p)) 1 0 ≤ cond (b && is_before g (Packet x)) 1 0
  asked_of_packet true AsPacket x p = omega arith
  asked_of_packet true AsProblem x p = omega arith
  asked_of_packet true AsOutgoing x p = omega arith
  asked_of_packet false g x p = omega arith

  out_of_request : (b : Bool) (g : Stage) (x : Arrival K) (p : K.Problem) (o : Outgoing K) → cond (b && is_before g (Out o)) 1 0 + cond (b && is_at g (Out o)) 1 0 ≤ cond (b && is_before g (Request x p)) 1 0
  out_of_request true AsPacket x p o = omega arith
  out_of_request true AsProblem x p o = omega arith
  out_of_request true AsOutgoing x p o = omega arith
  out_of_request false g x p o = omega arith

  module _ (named : ℕ → ℕ → Bool) (g : Stage) where
    -- an outcome is no more than what it was made of
    Less : ℕ → Outcome K → Type 0
    Less n (Makes y) = due named g y + done named g y ≤ n
    Less n (Ends c) = Unit {0}

    decided_less : (x : Arrival K) (r : Decision K) → Less (due named g (Packet x)) (decided x r)
    unfolding Less
    decided_less x (Decision.Sends l y) = out_of_packet (named x.link x.number) g x (record { arrived = x.link; number = x.number; answer = false; link = l; parcel = y })
    decided_less x (Decision.Asks p) = asked_of_packet (named x.link x.number) g x p
    decided_less x (Decision.Drops c) = tt

    replied_less : (x : Arrival K) (p : K.Problem) (r : Reply K) → Less (due named g (Request x p)) (replied x r)
    unfolding Less
    replied_less x p (Replies l y) = out_of_request (named x.link x.number) g x p (record { arrived = x.link; number = x.number; answer = true; link = l; parcel = y })
    replied_less x p (Withholds c) = tt

    work_less : (R : Rules K) (x : Item K) (e : Outcome K) → work R x ≡ Some e → Less (due named g x) e
    work_less R (Packet x) e h = let q : decided x (R.decide x) ≡ e = cc in subst (Less (due named g (Packet x))) q (decided_less x (R.decide x))
    work_less R (Request x p) e h = let q : replied x (R.reply x p) ≡ e = cc in subst (Less (due named g (Request x p))) q (replied_less x p (R.reply x p))
    work_less R (Arrived x) e h = cc
    work_less R (Out o) e h = cc
    work_less R Close e h = cc
    work_less R End e h = cc

    module _ (R : Rules K) (w : World K) (u : Whole R w) where
      rehands : (j : ℕ) (h : Hand K) → j < length w.hands → level named g (with_hand w j h) + holds named g (hand w j) ≡ level named g w + holds named g h
      rehands j h i = let t = total-set (holds named g) w.hands j h Empty i in omega arith

      repipes : (q : ℕ) (p : Pipe K) → q < length w.pipes → level named g (with_pipe w q p) + has named g (pipe w q) ≡ level named g w + has named g p
      repipes q p i = let t = total-set (has named g) w.pipes q p (empty_pipe 0) i in omega arith

      there : (j : ℕ) (h : Hand K) → hand w j ≡ h → h ≢ Empty → j < length w.hands
      there j h e n = hand_there w j (λ k. n (sym e ∙ k))

      emptied : (j : ℕ) (h : Hand K) → hand w j ≡ h → h ≢ Empty → level named g (with_hand w j Empty) + holds named g h ≡ level named g w
      emptied j h e n = let m = rehands j Empty (there j h e n) in let z = ap (holds named g) e in omega arith

      took : (q j : ℕ) (x : Item K) (h : Hand K) → j < length w.hands → hand w j ≡ Empty → front (pipe w q) ≡ Some x → level named g (taken_from w q j h) + due named g x ≡ level named g w + holds named g h
      took q j x h i e k =
          let p = one_taken (pipe w q) in
          let m = repipes q p (pipe_there w q x k) in
          let t = total-set (holds named g) w.hands j h Empty i in
          let f = has_taken named g (pipe w q) x k in
          let z = ap (holds named g) e in
          omega arith

      pushes : (q : ℕ) (from : Worker) (x : Item K) → q < length w.pipes → level named g (with_pipe w q (pushed (pipe w q) from x)) ≡ level named g w + (due named g x + done named g x)
      pushes q from x i =
          let m = repipes q (pushed (pipe w q) from x) i in
          let f = has_pushed named g (pipe w q) from x (u.fits q) in
          omega arith

      marks : (q : ℕ) (from : Worker) (x : Item K) → is_mark x ≡ true → level named g (with_pipe w q (pushed (pipe w q) from x)) ≡ level named g w
      marks q from x m = go (cases_lt q (length w.pipes))
        where
          go : (q < length w.pipes) ⊎ (length w.pipes ≤ q) → level named g (with_pipe w q (pushed (pipe w q) from x)) ≡ level named g w
          go (inl i) = let t = pushes q from x i in let z = mark_none named g x m in let z0 = z.0 in let z1 = z.1 in omega arith
          go (inr i) = ap (λ (ps : List (Pipe K)). total (holds named g) w.hands + total (has named g) ps) (set_past w.pipes q (pushed (pipe w q) from x) i)

      -- a note changes no history
      notes : (q : ℕ) (x : Item K) → level named g (with_pipe w q (refused (pipe w q) (refusal_of x (pipe w q)))) ≡ level named g w
      notes q x = go (cases_lt q (length w.pipes))
        where
          go : (q < length w.pipes) ⊎ (length w.pipes ≤ q) → level named g (with_pipe w q (refused (pipe w q) (refusal_of x (pipe w q)))) ≡ level named g w
          go (inl i) = let t = repipes q (refused (pipe w q) (refusal_of x (pipe w q))) i in omega arith
          go (inr i) = ap (λ (ps : List (Pipe K)). total (holds named g) w.hands + total (has named g) ps) (set_past w.pipes q (refused (pipe w q) (refusal_of x (pipe w q))) i)

    seat_in : (R : Rules K) (w : World K) → Whole R w → (q j : ℕ) → Serves R q j → j < length w.hands
    seat_in R w u q j (inl s) = let c = u.hand_count in let i = s.1 in omega arith
    seat_in R w u q j (inr s) = let c = u.hand_count in let i = s.2 in omega arith

    pub keeps_level : (R : Rules K) (w v : World K) → Whole R w → Move R w v → level named g v ≤ level named g w
    unfolding Less
    keeps_level R w v u (Receives b x None i e k q) = let c = u.hand_count in let t = took R w u b b (Arrived x) (Owes (Packet x)) (omega arith) e k in let o = owed_packet g x in omega (arith, c, t, o)
      where
        owed_packet : (g : Stage) (x : Arrival K) → due named g (Packet x) + done named g (Packet x) ≤ due named g (Arrived x)
        owed_packet AsPacket x = go (named x.link x.number)
          where
            go : (b : Bool) → cond (b && false) 1 0 + cond (b && true) 1 0 ≤ cond (b && true) 1 0
            go true = omega arith
            go false = omega arith
        owed_packet AsProblem x = go (named x.link x.number)
          where
            go : (b : Bool) → cond (b && true) 1 0 + cond (b && false) 1 0 ≤ cond (b && true) 1 0
            go true = omega arith
            go false = omega arith
        owed_packet AsOutgoing x = go (named x.link x.number)
          where
            go : (b : Bool) → cond (b && true) 1 0 + cond (b && false) 1 0 ≤ cond (b && true) 1 0
            go true = omega arith
            go false = omega arith
    keeps_level R w v u (Receives b x (Some c) i e k q) = let n = u.hand_count in let t = took R w u b b (Arrived x) Empty (omega arith) e k in omega arith
    keeps_level R w v u (Starves b x h) = let t = emptied R w u b (Owes x) h (λ e. cc) in omega arith
    keeps_level R w v u (Offers from j x h r) =
        let q = home R x in
        let c = u.pipe_count in
        let far : home R x < pipe_count R = subst (HasHome R) h (u.homes j) in
        let t = pushes R w u q from x (omega arith) in
        let m = emptied R w u j (Owes x) h (λ e. cc) in
        omega arith
    keeps_level R w v u (Refuses j x h r) =
        let t = notes R w u (home R x) x in
        let m = emptied R w u j (Owes x) h (λ e. cc) in
        omega arith
    keeps_level R w v u (Takes q j x ls s i n e k) = let t = took R w u q j x (hand_after x) (seat_in R w u q j s) e k in let f = after_holds named g x in omega arith
    keeps_level R w v u (Looks ls) = omega arith
    keeps_level R w v u (Works j x (Makes y) h k) =
        let m = rehands R w u j (Owes y) (there R w u j (Got x) h (λ e. cc)) in
        let e = ap (holds named g) h in
        let f = work_less R x (Makes y) k in
        omega arith
    keeps_level R w v u (Works j x (Ends c) h k) = let t = emptied R w u j (Got x) h (λ e. cc) in omega arith
    keeps_level R w v u (Lacks j x h k) = let t = emptied R w u j (Got x) h (λ e. cc) in omega arith
    keeps_level R w v u (Marks q from x i m r) = let t = marks R w u q from x m in omega arith
    keeps_level R w v u (Sends l j o i s h) = let t = emptied R w u j (Got (Out o)) h (λ e. cc) in omega arith
    keeps_level R w v u (Fails j o h) = let t = emptied R w u j (Got (Out o)) h (λ e. cc) in omega arith
    keeps_level R w v u (Sweeps q j x ls s i n e k) = let t = took R w u q j x Empty (seat_in R w u q j s) e k in omega arith

    -- the start
    done_arrived : (x : Arrival K) → done named g (Arrived x) ≡ 0
    done_arrived x = go g (named x.link x.number)
      where
        go : (k : Stage) (b : Bool) → one_if (b && is_at k (Arrived x)) ≡ 0
        go AsPacket true = refl
        go AsProblem true = refl
        go AsOutgoing true = refl
        go k false = refl

    arrived_level : (b m : ℕ) (xs : List (Item K)) → Numbered b m xs → total (done named g) xs + total (due named g) xs ≡ total (one named) xs
    unfolding one
    arrived_level b m [] h = refl
    arrived_level b m (Arrived x ∷ xs) h = let t = arrived_level b (m + 1) xs h.2 in let d = done_arrived x in let e : due named g (Arrived x) ≡ cond (named x.link x.number) 1 0 = ap (λ (c : Bool). cond c 1 0) (and_true (named x.link x.number)) in omega (arith, t, d, e)
      where
        and_true : (c : Bool) → (c && true) ≡ c
        and_true true = refl
        and_true false = refl
    arrived_level b m (_ ∷ xs) h = absurd h

    module _ (R : Rules K) (s : World K) (st : IsStart R s) where
      first_has : (q : ℕ) → has named g (pipe s q) ≤ at named (pipe s q)
      first_has q = go (cases_lt q R.links)
        where
          held_all : held (pipe s q) ≡ items (pipe s q).history
          held_all = ap (λ (k : ℕ). drop k (items (pipe s q).history)) (st.taken q)

          go : (q < R.links) ⊎ (R.links ≤ q) → has named g (pipe s q) ≤ at named (pipe s q)
          go (inl i) =
              let t = arrived_level q 1 (items (pipe s q).history) (st.numbered q i) in
              let d = ap (total (due named g)) held_all in
              let o = ap (total (one named)) held_all in
              omega arith
          go (inr i) = let e = ap (λ (hs : List (Entry K)). total (done named g) (items hs)) (st.empty q i) in let f = ap (total (due named g)) held_all in let z = ap (λ (hs : List (Entry K)). total (due named g) (items hs)) (st.empty q i) in omega arith

      first_level : level named g s ≤ weight named s
      first_level =
          let z = total-nothing (holds named g) Empty s.hands (λ j. ap (holds named g) (st.hands j)) in
          let t = total-le (has named g) (at named) (empty_pipe 0) s.pipes first_has in
          omega arith

  -- A history has items of one stage alone.
  module _ (R : Rules K) (named : ℕ → ℕ → Bool) (q : ℕ) where
    OnStage : Stage → Type 0
    OnStage g = (x : Item K) → IsHome R q x → cond (is_named named x) 1 0 ≡ done named g x

    and_true : (b : Bool) → one_if b ≡ one_if (b && true)
    and_true true = refl
    and_true false = refl

    packets : R.links ≤ q → q < slow_seat R → OnStage AsPacket
    unfolding OnStage
    packets i j (Arrived x) h = let f = h.1 in absurd (omega arith)
    packets i j (Packet x) h = and_true (named x.link x.number)
    packets i j (Request x p) h = absurd (omega arith)
    packets i j (Out o) h = absurd (omega arith)
    packets i j Close h = refl
    packets i j End h = refl

    problems : ((k : K.Key) → R.processor k < R.processors) → q ≡ slow_seat R → OnStage AsProblem
    unfolding OnStage
    problems law e (Arrived x) h = let f = h.1 in absurd (omega arith)
    problems law e (Packet x) h = let p = law (R.key x) in absurd (omega arith)
    problems law e (Request x p) h = and_true (named x.link x.number)
    problems law e (Out o) h = absurd (omega arith)
    problems law e Close h = refl
    problems law e End h = refl

    outgoing : ((k : K.Key) → R.processor k < R.processors) → slow_seat R < q → OnStage AsOutgoing
    unfolding OnStage
    outgoing law i (Arrived x) h = let f = h.1 in absurd (omega arith)
    outgoing law i (Packet x) h = let p = law (R.key x) in absurd (omega arith)
    outgoing law i (Request x p) h = absurd (omega arith)
    outgoing law i (Out o) h = and_true (named o.arrived o.number)
    outgoing law i Close h = refl
    outgoing law i End h = refl

    one_stage : (g : Stage) → OnStage g → (xs : List (Item K)) → All (IsHome R q) xs → count (is_named named) xs ≡ total (done named g) xs
    unfolding OnStage
    one_stage g f [] h = refl
    one_stage g f (x ∷ xs) h = count-total (is_named named) (x ∷ xs) ∙ (let t = one_stage g f xs (All-tail (IsHome R q) x xs h) in let c = count-total (is_named named) xs in let e = f x (All-head (IsHome R q) x xs h) in omega arith)

  module _ (R : Rules K) (s w : World K) (st : IsStart R s) (law : IsLawful R (HasArrival s)) (u : Sound R s law w) (a n : ℕ) (low : (g : Stage) → level (is_one a n) g w ≤ 1) where
    over_pipes : (g : Stage) → total (λ p. total (done (is_one a n) g) (items p.history)) w.pipes ≤ 1
    over_pipes g = let l = low g in let t = total-plus (λ (p : Pipe K). total (done (is_one a n) g) (items p.history)) (λ p. total (due (is_one a n) g) (held p)) w.pipes in omega arith

    on_stages : (g : Stage) → pushed_count R (is_one a n) g w ≤ 1
    on_stages g =
        let o = over_pipes g in
        let t = total-take (λ (p : Pipe K). total (done (is_one a n) g) (items p.history)) R.links w.pipes in
        let e = total-agree (λ (p : Pipe K). count (λ x. is_named (is_one a n) x && is_at g x) (items p.history)) (λ p. total (done (is_one a n) g) (items p.history)) (drop R.links w.pipes) (λ p. count-total (λ x. is_named (is_one a n) x && is_at g x) (items p.history)) in
        omega arith

    in_history : (q : ℕ) (g : Stage) → OnStage R (is_one a n) q g → count (is_named (is_one a n)) (items (pipe w q).history) ≤ 1
    in_history q g f =
        let o = over_pipes g in
        let p = total-part (λ (p : Pipe K). total (done (is_one a n) g) (items p.history)) (empty_pipe 0) w.pipes q refl in
        let e = one_stage R (is_one a n) q g f (items (pipe w q).history) (u.whence.right.homes q) in
        omega arith

    in_histories : (q : ℕ) → R.links ≤ q → count (is_named (is_one a n)) (items (pipe w q).history) ≤ 1
    in_histories q i = go (cases_lt q (slow_seat R)) (cases_lt (slow_seat R) q)
      where
        go : (q < slow_seat R) ⊎ (slow_seat R ≤ q) → (slow_seat R < q) ⊎ (q ≤ slow_seat R) → count (is_named (is_one a n)) (items (pipe w q).history) ≤ 1
        go (inl j) _ = in_history q AsPacket (packets R (is_one a n) q i j)
        go (inr j) (inl k) = in_history q AsOutgoing (outgoing R (is_one a n) q law.processors k)
        go (inr j) (inr k) = in_history q AsProblem (problems R (is_one a n) q law.processors (omega arith))

    in_held : (p q : ℕ) → p ≢ q → count (is_named (is_one a n)) (held (pipe w p)) + count (is_named (is_one a n)) (held (pipe w q)) ≤ 1
    unfolding one
    in_held p q ne =
        let t = total-two (at (is_one a n)) (empty_pipe 0) w.pipes p q refl ne in
        let h = weight_one a n R s w st law u in
        let e = count-total (is_named (is_one a n)) (held (pipe w p)) in
        let f = count-total (is_named (is_one a n)) (held (pipe w q)) in
        omega arith

pub keeps_once : (K : Kinds) → KeepsOnce K
keeps_once K R w r law =
    let u = sound R w r law in
    let last : (a n : ℕ) (g : Stage) → level (is_one a n) g w ≤ 1 =
    λ a n g.
    let P : World K → Type 0 = λ v. Whole R v × (level (is_one a n) g v ≤ level (is_one a n) g r.start) in
    let at_end = run_keeps R (λ v. Sound R r.start law v × (level (is_one a n) g v ≤ level (is_one a n) g r.start)) (λ x y m i. (keeps_sound R r.start law x y m i.0, (let k = keeps_level (is_one a n) g R x y i.0.whole m in let j = i.1 in omega arith))) r.steps r.start (start_sound R r.start law r.is_start, omega arith) in
    let e = ap (level (is_one a n) g) r.by_steps in
    let l = at_end.1 in
    let f = first_level (is_one a n) g R r.start r.is_start in
    let o = weight_one a n R r.start r.start r.is_start law (start_sound R r.start law r.is_start) in
    omega arith in
    record {
      stages = λ a n g. on_stages R r.start w r.is_start law u a n (last a n) g;
      histories = λ a n q i. in_histories R r.start w r.is_start law u a n (last a n) q i;
      held_parts = λ a n p q i j ne. in_held R r.start w r.is_start law u a n (last a n) p q ne;
    }
