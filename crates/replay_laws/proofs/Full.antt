-- Each move keeps that drops at full pipes met full pipes.
use Rattle.std.proofs.Common.{◌≡◌, ◌⊎◌, inl, inr, ℕ, true, false, ◌-◌, ◌<◌, ◌≤◌, List, [], ◌∷◌, ◌++◌, length, refl, sym, subst, ◌∙◌, ap, arith, ltb-true, ltb-false, length-append}
use Rattle.std.specs.Prelude.{Some, None, slice_index_or}
use Rattle.std.specs.List.{All, Contains}
use Rattle.std.proofs.lemmas.List.{length-map, length-drop}
use Rattle.std.proofs.lemmas.List.Elements.{All-nil, All-cons, All-head, All-tail, All-append, Contains-push, Contains-append_left}
use Rattle.replay_laws.specs.ByRules.{IsByRules, IsHandMade, IsMade}
use Rattle.replay_laws.specs.Full.{is_received, KeepsFull, MetFull, is_full_cause}
use Rattle.order_laws.specs.Item.{Arrival, Arrived, Request, Close, End, Item, Out, Packet}
use Rattle.order_laws.specs.Kinds.{Kinds}
use Rattle.replay_laws.specs.Next.{decided, replied, Outcome, Ends, Makes, full_of, taken_from}
use Rattle.replay_laws.specs.Pipe.{Pipe, empty_pipe, Refusal, front, has_room, held, items, one_taken, pushed, refusal_of, refused}
use Rattle.order_laws.specs.Rules.{Decision, Reply, Replies, Withholds, IsLawful, Rules}
use Rattle.replay_laws.specs.Start.{HasArrival, IsStart}
use Rattle.replay_laws.specs.Worker.{Worker}
use Rattle.order_laws.specs.Cause.{Cause}
use Rattle.order_laws.specs.Fate.{Fate}
use Rattle.replay_laws.specs.World.{Empty, Hand, Owes, World, fate_of, pipe, hand, with_fate, with_hand, with_looks, with_pipe}
use Rattle.order_laws.specs.Pipes.{home, pipe_count}
use Rattle.replay_laws.proofs.Moves.{Move, Receives, Starves, Offers, Refuses, Takes, Looks, Works, Lacks, Marks, Sends, Fails, Sweeps, work}
use Rattle.replay_laws.proofs.Parts.{pipe_cases, pipe_same, held_front, held_pushed}
use Rattle.replay_laws.proofs.Weights.{HasHome, Whole}
use Rattle.replay_laws.proofs.Runs.{run_keeps}
use Rattle.replay_laws.proofs.ByRules.{OwesNone}
use Rattle.replay_laws.proofs.Place.{Sound, keeps_sound, start_sound}

module _ {K : Kinds} where
  -- a pipe later on
  abbrev Later : Pipe K → Pipe K → Type 0
  Later p z = (z.capacity ≡ p.capacity) × ((r : Refusal) → Contains p.refusals r → Contains z.refusals r)

  abbrev Bound : Pipe K → Type 0
  Bound p = length (held p) ≤ p.capacity

  module _ (R : Rules K) (s : World K) (law : IsLawful R (HasArrival s)) where
    abbrev Met : World K → Fate K → Type 0
    Met w f = is_full_cause f.cause ≡ true → MetFull R s w f

    record Inv (w : World K) : Type 0 where
      bounds : (q : ℕ) → R.links ≤ q → Bound (pipe w q)
      fulls : All (Met w) w.fates
      sizes : (q : ℕ) → (pipe w q).capacity ≡ (pipe s q).capacity

    later_full : (w v : World K) → ((q : ℕ) → Later (pipe w q) (pipe v q)) → (f : Fate K) → MetFull R s w f → MetFull R s v f
    later_full w v L f m = record {
      item = m.item;
      received = m.received;
      made = m.made;
      fate = m.fate;
      refusal = m.refusal;
      noted = (L (home R m.item)).1 m.refusal m.noted;
      link = m.link;
      number = m.number;
      full = m.full ∙ sym (L (home R m.item)).0;
    }

    later_all : (w v : World K) → ((q : ℕ) → Later (pipe w q) (pipe v q)) → (F : List (Fate K)) → All (Met w) F → All (Met v) F
    later_all w v L [] h = All-nil (Met v)
    later_all w v L (f ∷ F) h = All-cons (Met v) f F (λ e. later_full w v L f (All-head (Met w) f F h e)) (later_all w v L F (All-tail (Met w) f F h))

    same_later : (p : Pipe K) → Later p p
    same_later p = (refl, λ r h. h)

    -- the hands, the looks and what was sent tell nothing of it
    same_pipes : (w v : World K) → v.pipes ≡ w.pipes → v.fates ≡ w.fates → Inv w → Inv v
    same_pipes w v e f u =
        let P : List (Pipe K) → Type 0 = λ ps. (q : ℕ) → R.links ≤ q → Bound (slice_index_or ps q (empty_pipe 0)) in
        record {
          bounds = subst P (sym e) u.bounds;
          fulls = (let Q : List (Fate K) → Type 0 = λ F. All (Met v) F in subst Q (sym f) (later_all w v (λ q. (let L : List (Pipe K) → Type 0 = λ ps. Later (pipe w q) (slice_index_or ps q (empty_pipe 0)) in subst L (sym e) (same_later (pipe w q)))) w.fates u.fulls));
          sizes = (let C : List (Pipe K) → Type 0 = λ ps. (q : ℕ) → (slice_index_or ps q (empty_pipe 0)).capacity ≡ (pipe s q).capacity in subst C (sym e) u.sizes);
        }

    one_pipe : (w : World K) (q : ℕ) (p : Pipe K) → Inv w → (R.links ≤ q → Bound p) → Later (pipe w q) p → Inv (with_pipe w q p)
    one_pipe w q p u b L = record {
      bounds = λ i k. bound i k (pipe_cases w q p i);
      fulls = later_all w (with_pipe w q p) (λ i. later i (pipe_cases w q p i)) w.fates u.fulls;
      sizes = λ i. (later i (pipe_cases w q p i)).0 ∙ u.sizes i;
    }
      where
        bound : (i : ℕ) → R.links ≤ i → (pipe (with_pipe w q p) i ≡ pipe w i) ⊎ ((i ≡ q) × (pipe (with_pipe w q p) i ≡ p)) → Bound (pipe (with_pipe w q p) i)
        bound i k (inl e) = subst Bound (sym e) (u.bounds i k)
        bound i k (inr e) = subst Bound (sym e.1) (b (let f = e.0 in omega arith))

        later : (i : ℕ) → (pipe (with_pipe w q p) i ≡ pipe w i) ⊎ ((i ≡ q) × (pipe (with_pipe w q p) i ≡ p)) → Later (pipe w i) (pipe (with_pipe w q p) i)
        later i (inl e) = subst (Later (pipe w i)) (sym e) (same_later (pipe w i))
        later i (inr e) = subst (Later (pipe w i)) (sym e.1) (let P : ℕ → Type 0 = λ n. Later (pipe w n) p in subst P (sym e.0) L)

    with_new : (w : World K) (x : Item K) (c : Cause K) → Inv w → All (Met w) (fate_of x c) → Inv (with_fate w x c)
    with_new w x c u h = record {
      bounds = u.bounds;
      fulls = later_all w (with_fate w x c) (λ q. same_later (pipe w q)) (w.fates ++ fate_of x c) (All-append (Met w) w.fates (fate_of x c) u.fulls h);
      sizes = u.sizes;
    }

    never : (c : Cause K) → is_full_cause c ≡ false → is_full_cause c ≡ true → ⊥
    never c h e = let z : false ≡ true = sym h ∙ e in cc

    light : (w : World K) (x : Item K) (c : Cause K) → is_full_cause c ≡ false → All (Met w) (fate_of x c)
    light w (Arrived x) c h = All-cons (Met w) _ [] (λ e. absurd (never c h e)) (All-nil (Met w))
    light w (Packet x) c h = All-cons (Met w) _ [] (λ e. absurd (never c h e)) (All-nil (Met w))
    light w (Request x n) c h = All-cons (Met w) _ [] (λ e. absurd (never c h e)) (All-nil (Met w))
    light w (Out o) c h = All-cons (Met w) _ [] (λ e. absurd (never c h e)) (All-nil (Met w))
    light w Close c h = All-nil (Met w)
    light w End c h = All-nil (Met w)

    inv_hand : (w : World K) (j : ℕ) (h : Hand K) → Inv w → Inv (with_hand w j h)
    inv_hand w j h u = same_pipes w (with_hand w j h) refl refl u

    inv_ended : (w : World K) (j : ℕ) (x : Item K) (c : Cause K) → Inv w → is_full_cause c ≡ false → Inv (with_fate (with_hand w j Empty) x c)
    inv_ended w j x c u h = with_new (with_hand w j Empty) x c (inv_hand w j Empty u) (light (with_hand w j Empty) x c h)

    inv_taken : (w : World K) (q j : ℕ) (x : Item K) (h : Hand K) → Inv w → front (pipe w q) ≡ Some x → Inv (taken_from w q j h)
    inv_taken w q j x h u k =
        inv_hand (with_pipe w q (one_taken (pipe w q))) j h (one_pipe w q (one_taken (pipe w q)) u (λ i. (let b = u.bounds q i in let f = ap length (held_front (pipe w q) x k) in omega arith)) (same_later (pipe w q)))

    inv_pushed : (w : World K) (q : ℕ) (from : Worker) (x : Item K) → Inv w → Whole R w → has_room (pipe w q) ≡ true → Inv (with_pipe w q (pushed (pipe w q) from x))
    inv_pushed w q from x u whole r =
        one_pipe w q (pushed (pipe w q) from x) u
        (λ i. (let e = ap length (held_pushed (pipe w q) from x (whole.fits q)) in let f = length-append (held (pipe w q)) (x ∷ []) in let g = ltb-true _ _ r in omega arith))
        (same_later (pipe w q))

    home_far : (x : Item K) → R.links ≤ home R x
    home_far (Arrived x) = omega arith
    home_far (Packet x) = omega arith
    home_far (Request x n) = omega arith
    home_far (Out o) = omega arith
    home_far Close = omega arith
    home_far End = omega arith

    refusal_length : (x : Item K) (p : Pipe K) → ((refusal_of x p).length ≡ length p.history) × ((refusal_of x p).taken ≡ p.taken)
    refusal_length (Arrived x) p = (refl, refl)
    refusal_length (Packet x) p = (refl, refl)
    refusal_length (Request x n) p = (refl, refl)
    refusal_length (Out o) p = (refl, refl)
    refusal_length Close p = (refl, refl)
    refusal_length End p = (refl, refl)

    module _ (w : World K) (u : Inv w) (whole : Whole R w) (x : Item K) (owed : is_received x ≡ true) (made : IsMade R s x) (far : home R x < pipe_count R) (r : has_room (pipe w (home R x)) ≡ false) where
      abbrev q : ℕ
      q = home R x

      abbrev note : Refusal
      note = refusal_of x (pipe w (home R x))

      abbrev z : Pipe K
      z = refused (pipe w (home R x)) (refusal_of x (pipe w (home R x)))

      abbrev v : World K
      v = with_pipe w (home R x) (refused (pipe w (home R x)) (refusal_of x (pipe w (home R x))))

      full_then : note.length - note.taken ≡ (pipe w q).capacity
      full_then =
          let p = pipe w q in
          let b = u.bounds q (home_far x) in
          let g : p.capacity ≤ length (held p) = ltb-false _ _ r in
          let d : length (held p) ≡ length (items p.history) - p.taken = length-drop p.taken (items p.history) in
          let m : length (items p.history) ≡ length p.history = length-map p.history (λ e. e.item) in
          let n = refusal_length x p in
          let n0 = n.0 in let n1 = n.1 in
          omega arith

      met : (f : Fate K) → fate_of x (full_of x) ≡ f ∷ [] → note.link ≡ f.link → note.number ≡ f.number → MetFull R s v f
      met f e l n =
          let c = whole.pipe_count in
          let same : pipe v q ≡ z = pipe_same w q z (omega arith) in
          let P : Pipe K → Type 0 = λ y. Contains y.refusals note in
          record {
            item = x;
            received = owed;
            made = made;
            fate = e;
            refusal = note;
            noted = subst P (sym same) (Contains-push (pipe w q).refusals note);
            link = l;
            number = n;
            full = full_then ∙ ap (λ (y : Pipe K). y.capacity) (sym same);
          }

      one_met : (f : Fate K) → fate_of x (full_of x) ≡ f ∷ [] → note.link ≡ f.link → note.number ≡ f.number → All (Met v) (f ∷ [])
      one_met f e l n = All-cons (Met v) f [] (λ _. met f e l n) (All-nil (Met v))

      inv_refused : Inv v
      inv_refused = one_pipe w q z u (λ i. u.bounds q i) (refl, λ r h. Contains-append_left (pipe w q).refusals (note ∷ []) r h)

    module _ (w : World K) (u : Inv w) (whole : Whole R w) where
      abbrev after : Item K → World K
      after x = with_pipe w (home R x) (refused (pipe w (home R x)) (refusal_of x (pipe w (home R x))))

      noted_full : (x : Item K) → is_received x ≡ true → IsMade R s x → home R x < pipe_count R → has_room (pipe w (home R x)) ≡ false → All (Met (after x)) (fate_of x (full_of x))
      noted_full (Arrived x) o m i r = one_met w u whole (Arrived x) o m i r (record { link = x.link; number = x.number; cause = Cause.ProcessorFull }) refl refl refl
      noted_full (Packet x) o m i r = one_met w u whole (Packet x) o m i r (record { link = x.link; number = x.number; cause = Cause.ProcessorFull }) refl refl refl
      noted_full (Request x n) o m i r = one_met w u whole (Request x n) o m i r (record { link = x.link; number = x.number; cause = Cause.AnswerFull }) refl refl refl
      noted_full (Out o) e m i r = one_met w u whole (Out o) e m i r (record { link = o.arrived; number = o.number; cause = Cause.LinkFull }) refl refl refl
      noted_full Close o m i r = All-nil (Met (after Close))
      noted_full End o m i r = All-nil (Met (after End))

    decided_causes : (x : Arrival K) (r : Decision K) (c : Cause K) → decided x r ≡ Ends c → is_full_cause c ≡ false
    decided_causes x (Decision.Sends l y) c e = cc
    decided_causes x (Decision.Asks p) c e = cc
    decided_causes x (Decision.Drops d) c e = let P : Outcome K → Type 0 = elim [ Makes z ↦ Unit {0} | Ends k ↦ is_full_cause k ≡ false ] in subst P e refl

    replied_causes : (x : Arrival K) (r : Reply K) (c : Cause K) → replied x r ≡ Ends c → is_full_cause c ≡ false
    replied_causes x (Replies l y) c e = cc
    replied_causes x (Withholds d) c e = let P : Outcome K → Type 0 = elim [ Makes z ↦ Unit {0} | Ends k ↦ is_full_cause k ≡ false ] in subst P e refl

    work_causes : (x : Item K) (c : Cause K) → work R x ≡ Some (Ends c) → is_full_cause c ≡ false
    work_causes (Packet x) c e = decided_causes x (R.decide x) c cc
    work_causes (Request x p) c e = replied_causes x (R.reply x p) c cc
    work_causes (Arrived x) c e = cc
    work_causes (Out o) c e = cc
    work_causes Close c e = cc
    work_causes End c e = cc

    keeps_full : (w v : World K) → Move R w v → Whole R w → IsByRules R s w → ((j : ℕ) → OwesNone (hand w j)) → Inv w → Inv v
    keeps_full w v (Receives b x None i e k q) h m o u = inv_taken w b b (Arrived x) (Owes (Packet x)) u k
    keeps_full w v (Receives b x (Some c) i e k q) h m o u = let t = inv_taken w b b (Arrived x) Empty u k in with_new (taken_from w b b Empty) (Arrived x) (Cause.Ruled c) t (light (taken_from w b b Empty) (Arrived x) (Cause.Ruled c) refl)
    keeps_full w v (Starves b x g) h m o u = inv_ended w b x Cause.NoBuffer u refl
    keeps_full w v (Offers from j x g r) h m o u = inv_hand _ j Empty (inv_pushed w (home R x) from x u h r)
    keeps_full w v (Refuses j x g r) h m o u =
        let owed : is_received x ≡ true = subst OwesNone g (o j) in
        let made : IsMade R s x = subst (IsHandMade R s) g (m.hands j) in
        let far : home R x < pipe_count R = subst (HasHome R) g (h.homes j) in
        let p = refused (pipe w (home R x)) (refusal_of x (pipe w (home R x))) in
        let y = with_pipe w (home R x) p in
        let t = inv_refused w u h x owed made far r in
        let f = noted_full w u h x owed made far r in
        with_new (with_hand y j Empty) x (full_of x) (inv_hand y j Empty t) (later_all y (with_hand y j Empty) (λ q. same_later (pipe y q)) (fate_of x (full_of x)) f)
    keeps_full w v (Takes q j x ls s' i n e k) h m o u = inv_taken (with_looks w ls) q j x _ (same_pipes w (with_looks w ls) refl refl u) k
    keeps_full w v (Looks ls) h m o u = same_pipes w (with_looks w ls) refl refl u
    keeps_full w v (Works j x (Makes y) g k) h m o u = inv_hand w j (Owes y) u
    keeps_full w v (Works j x (Ends c) g k) h m o u = inv_ended w j x c u (work_causes x c k)
    keeps_full w v (Lacks j x g k) h m o u = inv_ended w j x Cause.NoMemory u refl
    keeps_full w v (Marks q from x i k r) h m o u = inv_pushed w q from x u h r
    keeps_full w v (Sends l j p i s' g) h m o u = same_pipes w v refl refl u
    keeps_full w v (Fails j p g) h m o u = inv_ended w j (Out p) Cause.SendFailed u refl
    keeps_full w v (Sweeps q j x ls s' i n e k) h m o u =
        let t = inv_taken (with_looks w ls) q j x Empty (same_pipes w (with_looks w ls) refl refl u) k in
        with_new (taken_from (with_looks w ls) q j Empty) x Cause.Closed t (light (taken_from (with_looks w ls) q j Empty) x Cause.Closed refl)

    start_inv : IsStart R s → Inv s
    start_inv st = record {
      bounds = λ q i. (rw (st.empty q i, st.taken q) (omega arith));
      fulls = (let P : List (Fate K) → Type 0 = λ F. All (Met s) F in subst P (sym st.fates) (All-nil (Met s)));
      sizes = λ q. refl;
    }

pub keeps_full_law : (K : Kinds) → KeepsFull K
keeps_full_law K R w r law =
    let P : World K → Type 0 = λ v. Sound R r.start law v × Inv R r.start law v in
    let last = run_keeps R P (λ u v m i. (keeps_sound R r.start law u v m i.0, keeps_full R r.start law u v m i.0.whole i.0.whence.right i.0.whence.owes i.1)) r.steps r.start (start_sound R r.start law r.is_start, start_inv R r.start law r.is_start) in
    let inv = subst (Inv R r.start law) (sym r.by_steps) last.1 in
    record { drops = inv.fulls; within = inv.bounds; capacities = inv.sizes }
