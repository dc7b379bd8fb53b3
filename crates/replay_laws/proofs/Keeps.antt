-- Each move keeps the order of one thread of packets.
use Rattle.std.proofs.Common.{◌≡◌, ◌≢◌, ◌⊎◌, inl, inr, ℕ, Bool, true, false, not, ◌&&◌, ◌<◌, ◌≤◌, List, [], ◌++◌, length, refl, sym, subst, ◌∙◌, ap, ap₂, subst₂, arith, eqb, append_assoc}
use Rattle.std.specs.Prelude.{Option, Some, None}
use Rattle.std.specs.List.{filter, All}
use Rattle.std.proofs.lemmas.List.{append-nil, length_push, length-set}
use Rattle.std.proofs.lemmas.List.Elements.{All-push, All-get_or}
use Rattle.std.proofs.lemmas.Option.{slice_get_within, get_or_from_slice_get}
use Rattle.std.proofs.lemmas.Bool.{eq-eqb, ne_eqb, eqb-true, cases_Bool, cases_eq}
use Rattle.order_laws.specs.Expected.{Departure, departure_if, only, sent_to}
use Rattle.order_laws.specs.Less.{is_early, less}
use Rattle.order_laws.specs.Item.{Arrival, Arrived, Request, Close, End, Item, Out, Outgoing, Packet}
use Rattle.order_laws.specs.Kinds.{Kinds}
use Rattle.replay_laws.specs.Next.{decided, replied, Ends, Makes, Outcome, ended, full_of, hand_after, offered, received, taken_from}
use Rattle.order_laws.specs.Departures.{sends_of}
use Rattle.replay_laws.specs.Pipe.{Pipe, Refusal, front, held, is_shut, items, one_taken, passed, pushed, refused}
use Rattle.order_laws.specs.Rules.{Decision, Reply, Replies, Withholds, Rules}
use Rattle.replay_laws.specs.Worker.{Worker}
use Rattle.order_laws.specs.Cause.{Cause}
use Rattle.order_laws.specs.Fate.{Fate}
use Rattle.replay_laws.specs.World.{Empty, Got, Hand, Owes, World, hand, pipe, seat_count, sent_with, with_fate, with_hand, with_looks, with_pipe}
use Rattle.order_laws.specs.Pipes.{home, link_pipe, pipe_count, slow_seat}
use Rattle.replay_laws.proofs.Moves.{Move, Receives, Starves, Offers, Refuses, Takes, Looks, Works, Lacks, Marks, Sends, Fails, Sweeps, Serves, work, is_work, is_mark}
use Rattle.replay_laws.proofs.Parts.{hand_cases, hand_other, hand_same, pipe_cases, pipe_other, pipe_same, hand_there, pipe_there, items_pushed}
use Rattle.replay_laws.proofs.Thread.{adds, in_hand, on_way, has, had, line, had_same, line_same, hand_line, pipe_line, way_front, had_taken, had_swept, way_pushed, passed_pushed}
use Rattle.replay_laws.proofs.Less.{cut_out, less_late}

module _ {K : Kinds} where
  -- The packets of link a to link l that pass a test, by number; the processor S that they go through, and the pipe Q.
  module _ (R : Rules K) (a l : ℕ) (Mine : Arrival K → Type 0) (wanted : ℕ → Bool) (S Q : ℕ) (E : List (Departure K)) where
    abbrev pub adds' : Item K → List (Departure K)
    adds' x = adds R a l wanted x

    abbrev pub way : List (Item K) → List (Departure K)
    way xs = on_way R a l wanted xs

    abbrev pub grip : Hand K → List (Departure K)
    grip h = in_hand R a l wanted h

    abbrev pub has' : World K → ℕ → List (Departure K)
    has' w i = has R a l wanted w i

    abbrev pub had' : World K → ℕ → List (Departure K)
    had' w i = had R a l wanted w i

    abbrev pub line' : World K → List (Departure K)
    line' w = line R a l wanted S Q w

    -- the pipe that holds what is on the thread
    abbrev pub Rightly : ℕ → Item K → Type 0
    Rightly q (Arrived x) = (q ≡ a) × (Mine x)
    Rightly q (Packet x) = (q ≡ S) × (Mine x)
    Rightly q (Out o) = q ≡ Q
    Rightly q (Request x n) = ⊥
    Rightly q Close = ⊥
    Rightly q End = ⊥

    -- the seat that has it in hand
    abbrev pub Grasped : ℕ → Item K → Type 0
    Grasped j (Packet x) = (j ≡ S) × (Mine x)
    Grasped j (Out o) = slow_seat R < j
    Grasped j (Arrived x) = ⊥
    Grasped j (Request x n) = ⊥
    Grasped j Close = ⊥
    Grasped j End = ⊥

    -- the seat that owes it
    abbrev pub Owed : ℕ → Item K → Type 0
    Owed j (Packet x) = (j ≡ a) × (home R (Packet x) ≡ S) × (Mine x)
    Owed j (Out o) = (j ≡ S) × (home R (Out o) ≡ Q)
    Owed j (Arrived x) = ⊥
    Owed j (Request x n) = ⊥
    Owed j Close = ⊥
    Owed j End = ⊥

    -- an item is what the expected list has of its number
    abbrev pub True_at : ℕ → ℕ → List (Departure K) → Type 0
    True_at k n m = k ≡ a → length (filter (λ o. eqb n o.number) E) ≤ length m

    abbrev pub Truth : Item K → Type 0
    Truth (Arrived x) = True_at x.link x.number (adds' (Arrived x))
    Truth (Packet x) = True_at x.link x.number (adds' (Packet x))
    Truth (Request x n) = True_at x.link x.number []
    Truth (Out o) = True_at o.arrived o.number (adds' (Out o))
    Truth Close = Unit {0}
    Truth End = Unit {0}

    -- what is on its way out stands in its link's and band's pipe
    abbrev pub AtHome : ℕ → Item K → Type 0
    AtHome q (Out o) = home R (Out o) ≡ q
    AtHome q (Arrived x) = Unit {0}
    AtHome q (Packet x) = Unit {0}
    AtHome q (Request x n) = Unit {0}
    AtHome q Close = Unit {0}
    AtHome q End = Unit {0}

    pub record Fine (q : ℕ) (x : Item K) : Type 0 where
      pub at_home : AtHome q x
      pub place : (adds' x ≡ []) ⊎ Rightly q x
      pub truth : Truth x

    pub record Held (j : ℕ) (x : Item K) : Type 0 where
      pub place : (adds' x ≡ []) ⊎ Grasped j x
      pub truth : Truth x

    pub record Due (j : ℕ) (x : Item K) : Type 0 where
      pub place : (adds' x ≡ []) ⊎ Owed j x
      pub truth : Truth x

    abbrev pub InHand : ℕ → Hand K → Type 0
    InHand j Empty = Unit {0}
    InHand j (Got x) = Held j x
    InHand j (Owes x) = Due j x

    pub record Good (q : ℕ) (p : Pipe K) : Type 0 where
      pub fits : p.taken ≤ length (items p.history)
      pub all : All (Fine q) (items p.history)

    pub record Inv (w : World K) : Type 0 where
      pub hand_count : length w.hands ≡ seat_count R
      pub pipe_count : length w.pipes ≡ pipe_count R
      pub hands : (j : ℕ) → InHand j (hand w j)
      pub pipes : (q : ℕ) → Good q (pipe w q)
      pub in_line : line' w ≡ less w.fates a E

    -- items with the right numbers
    numbered_if : (n : ℕ) (b : Bool) (bytes : K.Parcel) → length (filter (λ (o : Departure K). eqb n o.number) (departure_if {K = K} b (record { number = n; parcel = bytes }))) ≡ length (departure_if {K = K} b (record { number = n; parcel = bytes }))
    numbered_if n true bytes = rw (eq-eqb n n refl) refl
    numbered_if n false bytes = refl

    numbered_only : (n : ℕ) (b : Bool) (xs : List (Departure K)) → length (filter (λ (o : Departure K). eqb n o.number) xs) ≡ length xs → length (filter (λ (o : Departure K). eqb n o.number) (only b xs)) ≡ length (only b xs)
    numbered_only n true xs h = h
    numbered_only n false xs h = refl

    numbered : (n : ℕ) (r : Decision K) → length (filter (λ (o : Departure K). eqb n o.number) (sent_to l n r)) ≡ length (sent_to l n r)
    numbered n (Decision.Sends k bytes) = numbered_if n (eqb k l) bytes
    numbered n (Decision.Asks p) = refl
    numbered n (Decision.Drops c) = refl

    pub apart_only : (k : ℕ) (b : Bool) (xs : List (Departure K)) → k ≢ a → only (eqb k a && b) xs ≡ []
    apart_only k b xs h = rw (ne_eqb k a h) refl

    only_nil : (b : Bool) → only {K = K} b [] ≡ []
    only_nil true = refl
    only_nil false = refl

    apart_out : (o : Outgoing K) → o.arrived ≢ a → adds' (Out o) ≡ []
    apart_out o h = rw (ne_eqb o.arrived a h) (only_nil (eqb o.link l))

    numbered_arrival : (x : Arrival K) → length (filter (λ (o : Departure K). eqb x.number o.number) (adds' (Arrived x))) ≡ length (adds' (Arrived x))
    numbered_arrival x = numbered_only x.number (eqb x.link a && wanted x.number) (sent_to l x.number (R.decide x)) (numbered x.number (R.decide x))

    numbered_out : (o : Outgoing K) → length (filter (λ (z : Departure K). eqb o.number z.number) (adds' (Out o))) ≡ length (adds' (Out o))
    numbered_out o = numbered_only o.number (eqb o.link l) (sends_of a wanted (Out o)) (numbered_if o.number (eqb o.arrived a && (not o.answer && wanted o.number)) o.parcel)

    -- a world whose line lost an item, with the item's fate
    cut : (w v : World K) (x : Item K) (c : Cause K) (xs ys : List (Departure K)) → is_early c ≡ true → Truth x → line' w ≡ xs ++ (adds' x ++ ys) → line' v ≡ xs ++ ys → v.fates ≡ w.fates → line' w ≡ less w.fates a E → line' (with_fate v x c) ≡ less (with_fate v x c).fates a E
    cut w v x c xs ys e t p q s h = q ∙ each x t (sym p ∙ (h ∙ ap (λ (F : List (Fate K)). less F a E) (sym s)))
      where
        each : (x : Item K) → Truth x → xs ++ (adds' x ++ ys) ≡ less v.fates a E → xs ++ ys ≡ less (with_fate v x c).fates a E
        each (Arrived x) t h = cut_out v.fates a E x.link x.number c xs (adds' (Arrived x)) ys e (apart_only _ _ _) (numbered_arrival x) t h
        each (Packet x) t h = cut_out v.fates a E x.link x.number c xs (adds' (Packet x)) ys e (apart_only _ _ _) (numbered_arrival x) t h
        each (Request x n) t h = cut_out v.fates a E x.link x.number c xs [] ys e (λ _. refl) refl t h
        each (Out o) t h = cut_out v.fates a E o.arrived o.number c xs (adds' (Out o)) ys e (apart_out o) (numbered_out o) t h
        each Close t h = h ∙ ap (λ (F : List (Fate K)). less F a E) (sym (append-nil v.fates))
        each End t h = h ∙ ap (λ (F : List (Fate K)). less F a E) (sym (append-nil v.fates))

    late : (w v : World K) (x : Item K) (c : Cause K) → is_early c ≡ false → line' v ≡ line' w → v.fates ≡ w.fates → line' w ≡ less w.fates a E → line' (with_fate v x c) ≡ less (with_fate v x c).fates a E
    late w v x c e q s h = q ∙ (h ∙ (ap (λ (F : List (Fate K)). less F a E) (sym s) ∙ sym (each x)))
      where
        each : (x : Item K) → less (with_fate v x c).fates a E ≡ less v.fates a E
        each (Arrived x) = less_late v.fates a E x.link x.number c e
        each (Packet x) = less_late v.fates a E x.link x.number c e
        each (Request x n) = less_late v.fates a E x.link x.number c e
        each (Out o) = less_late v.fates a E o.arrived o.number c e
        each Close = ap (λ (F : List (Fate K)). less F a E) (append-nil v.fates)
        each End = ap (λ (F : List (Fate K)). less F a E) (append-nil v.fates)

    -- an item that is not on the thread ends, whatever the cause
    quiet : (w v : World K) (x : Item K) (c : Cause K) → adds' x ≡ [] → Truth x → line' v ≡ line' w → v.fates ≡ w.fates → line' w ≡ less w.fates a E → line' (with_fate v x c) ≡ less (with_fate v x c).fates a E
    quiet w v x c n t q s h = go (cases_Bool (is_early c))
      where
        go : (is_early c ≡ true) ⊎ (is_early c ≡ false) → line' (with_fate v x c) ≡ less (with_fate v x c).fates a E
        go (inl e) = cut w v x c (line' w) [] e t (sym (ap (λ (zs : List (Departure K)). line' w ++ (zs ++ [])) n ∙ append-nil (line' w))) (q ∙ sym (append-nil (line' w))) s h
        go (inr e) = late w v x c e q s h

    -- what is cut out of the line when an item ends
    record Cut (w v : World K) (x : Item K) : Type 0 where
      before : List (Departure K)
      after : List (Departure K)
      whole : line' w ≡ before ++ (adds' x ++ after)
      rest : line' v ≡ before ++ after

    ends_early : (w v : World K) (x : Item K) (c : Cause K) → is_early c ≡ true → Truth x → Cut w v x → v.fates ≡ w.fates → line' w ≡ less w.fates a E → line' (with_fate v x c) ≡ less (with_fate v x c).fates a E
    ends_early w v x c e t k s h = cut w v x c k.before k.after e t k.whole k.rest s h

    module _ (w v : World K) (x : Item K) where
      nothing_cut : adds' x ≡ [] → line' v ≡ line' w → Cut w v x
      nothing_cut n e = record {
        before = line' w;
        after = [];
        whole = sym (ap (λ (zs : List (Departure K)). line' w ++ (zs ++ [])) n ∙ append-nil (line' w));
        rest = e ∙ sym (append-nil (line' w));
      }

      -- the receiver lets go of it, or the processor, or the forwarder's pipe
      cut_a : had' v Q ≡ had' w Q → has' v S ≡ has' w S → has' w a ≡ adds' x ++ has' v a → Cut w v x
      cut_a h2 h1 h0 = record {
        before = had' w Q ++ has' w S;
        after = has' v a;
        whole = ap (λ (zs : List (Departure K)). had' w Q ++ (has' w S ++ zs)) h0 ∙ sym (append_assoc (had' w Q) (has' w S) (adds' x ++ has' v a));
        rest = ap₂ (λ (ys zs : List (Departure K)). ys ++ (zs ++ has' v a)) h2 h1 ∙ sym (append_assoc (had' w Q) (has' w S) (has' v a));
      }

      cut_S : had' v Q ≡ had' w Q → has' w S ≡ adds' x ++ has' v S → has' v a ≡ has' w a → Cut w v x
      cut_S h2 h1 h0 = record {
        before = had' w Q;
        after = has' v S ++ has' w a;
        whole = ap (λ (zs : List (Departure K)). had' w Q ++ (zs ++ has' w a)) h1 ∙ ap (λ (zs : List (Departure K)). had' w Q ++ zs) (append_assoc (adds' x) (has' v S) (has' w a));
        rest = ap₂ (λ (ys zs : List (Departure K)). ys ++ (has' v S ++ zs)) h2 h0;
      }

      cut_Q : (ys zs : List (Departure K)) → had' w Q ≡ ys ++ (adds' x ++ zs) → had' v Q ≡ ys ++ zs → has' v S ≡ has' w S → has' v a ≡ has' w a → Cut w v x
      cut_Q ys zs h2 k2 h1 h0 =
          let t = has' w S ++ has' w a in
          record {
            before = ys;
            after = zs ++ t;
            whole = ap (λ (us : List (Departure K)). us ++ t) h2 ∙ (append_assoc ys (adds' x ++ zs) t ∙ ap (λ (us : List (Departure K)). ys ++ us) (append_assoc (adds' x) zs t));
            rest = ap₂ (λ (us vs : List (Departure K)). us ++ vs) k2 (ap₂ (λ (us vs : List (Departure K)). us ++ vs) h1 h0) ∙ append_assoc ys zs t;
          }

      -- it goes from the receiver to the processor, or from there to the forwarder's pipe
      to_S : had' v Q ≡ had' w Q → has' v S ≡ has' w S ++ adds' x → has' w a ≡ adds' x ++ has' v a → line' v ≡ line' w
      to_S h2 h1 h0 =
          ap₂ (λ (ys zs : List (Departure K)). ys ++ (zs ++ has' v a)) h2 h1
          ∙ ap (λ (zs : List (Departure K)). had' w Q ++ zs) (append_assoc (has' w S) (adds' x) (has' v a) ∙ ap (λ (zs : List (Departure K)). has' w S ++ zs) (sym h0))

      to_Q : had' v Q ≡ had' w Q ++ adds' x → has' w S ≡ adds' x ++ has' v S → has' v a ≡ has' w a → line' v ≡ line' w
      to_Q h2 h1 h0 =
          ap₂ (λ (ys zs : List (Departure K)). ys ++ (has' v S ++ zs)) h2 h0
          ∙ (append_assoc (had' w Q) (adds' x) (has' v S ++ has' w a)
          ∙ ap (λ (zs : List (Departure K)). had' w Q ++ zs) (sym (append_assoc (adds' x) (has' v S) (has' w a)) ∙ ap (λ (zs : List (Departure K)). zs ++ has' w a) (sym h1)))

    -- what a worker makes of an item
    made_out : (n : ℕ) (bytes : K.Parcel) (b c m : Bool) → only {K = K} b (departure_if {K = K} (c && (not false && m)) (record { number = n; parcel = bytes })) ≡ only {K = K} (c && m) (departure_if {K = K} b (record { number = n; parcel = bytes }))
    made_out n bytes true true true = refl
    made_out n bytes true true false = refl
    made_out n bytes true false m = refl
    made_out n bytes false true true = refl
    made_out n bytes false true false = refl
    made_out n bytes false false m = refl

    answer_out : (b c m : Bool) (z : Departure K) → only {K = K} b (departure_if {K = K} (c && (not true && m)) z) ≡ []
    answer_out true true m z = refl
    answer_out true false m z = refl
    answer_out false c m z = refl

    dropped_adds : (x : Arrival K) (d : K.RuleCause) → R.decide x ≡ Decision.Drops d → adds' (Arrived x) ≡ []
    dropped_adds x d e = ap (λ (r : Decision K). only (eqb x.link a && wanted x.number) (sent_to l x.number r)) e ∙ only_nil _

    -- all of them go through processor S, and those to link l through pipe Q
    module _ (
        faults : (x : Arrival K) (c : K.RuleCause) → Mine x → R.inspect x ≡ Some c → R.decide x ≡ Decision.Drops c
        ) (
        by_S : (x : Arrival K) → Mine x → home R (Packet x) ≡ S
        ) (
        by_Q : (x : Arrival K) (bytes : K.Parcel) → Mine x → R.decide x ≡ Decision.Sends l bytes → link_pipe R (R.two_bands l && R.urgent_parcel bytes) l ≡ Q
        ) where
      due_packet : (b : ℕ) (x : Arrival K) → Fine b (Arrived x) → Due b (Packet x)
      due_packet b x p = record { place = go p.place; truth = p.truth }
        where
          go : (adds' (Arrived x) ≡ []) ⊎ Rightly b (Arrived x) → (adds' (Packet x) ≡ []) ⊎ Owed b (Packet x)
          go (inl e) = inl e
          go (inr e) = inr (e.0, by_S x e.1, e.1)

      -- the outcome of an item on its way
      abbrev Turns : ℕ → Item K → Outcome K → Type 0
      Turns j x (Makes y) = (adds' y ≡ adds' x) × Due j y
      Turns j x (Ends c) = adds' x ≡ []

      turn_decided : (j : ℕ) (x : Arrival K) (r : Decision K) → R.decide x ≡ r → Held j (Packet x) → Turns j (Packet x) (decided x r)
      turn_decided j x (Decision.Sends k bytes) e p = (same, record { place = go p.place (cases_Bool (eqb k l)); truth = λ h. rw same (p.truth h) })
        where
          o : Outgoing K
          o = record { arrived = x.link; number = x.number; answer = false; link = k; parcel = bytes }

          same : adds' (Out (record { arrived = x.link; number = x.number; answer = false; link = k; parcel = bytes })) ≡ adds' (Packet x)
          same = made_out x.number bytes (eqb k l) (eqb x.link a) (wanted x.number) ∙ ap (λ (r : Decision K). only (eqb x.link a && wanted x.number) (sent_to l x.number r)) (sym e)

          go : (adds' (Packet x) ≡ []) ⊎ Grasped j (Packet x) → (eqb k l ≡ true) ⊎ (eqb k l ≡ false) → (adds' (Out (record { arrived = x.link; number = x.number; answer = false; link = k; parcel = bytes })) ≡ []) ⊎ ((j ≡ S) × (link_pipe R (R.two_bands k && R.urgent_parcel bytes) k ≡ Q))
          go (inl n) _ = inl (same ∙ n)
          go (inr g) (inr n) = inl (ap (λ (b : Bool). only b (departure_if (eqb x.link a && (not false && wanted x.number)) (record { number = x.number; parcel = bytes }))) n)
          go (inr g) (inl y) =
              let P : ℕ → Type 0 = λ k. R.decide x ≡ Decision.Sends k bytes → link_pipe R (R.two_bands k && R.urgent_parcel bytes) k ≡ Q in
              inr (g.0, subst P (sym (eqb-true k l y)) (by_Q x bytes g.1) e)
      turn_decided j x (Decision.Asks n) e p =
          let q : adds' (Packet x) ≡ [] = ap (λ (r : Decision K). only (eqb x.link a && wanted x.number) (sent_to l x.number r)) e ∙ only_nil _ in
          (sym q, record { place = inl refl; truth = λ h. omega (arith, ap length q, p.truth h) })
      turn_decided j x (Decision.Drops c) e p = dropped_adds x c e

      turn_replied : (j : ℕ) (x : Arrival K) (n : K.Problem) (r : Reply K) → Held j (Request x n) → Turns j (Request x n) (replied x r)
      turn_replied j x n (Replies k bytes) p =
          let o : Outgoing K = record { arrived = x.link; number = x.number; answer = true; link = k; parcel = bytes } in
          let q : adds' (Out o) ≡ [] = answer_out (eqb k l) (eqb x.link a) (wanted x.number) _ in
          (q, record { place = inl q; truth = λ h. rw q (p.truth h) })
      turn_replied j x n (Withholds c) p = refl

      turned : (j : ℕ) (x : Item K) (e : Outcome K) → work R x ≡ Some e → Held j x → Turns j x e
      turned j (Packet x) e h p = let q : decided x (R.decide x) ≡ e = cc in subst (Turns j (Packet x)) q (turn_decided j x (R.decide x) refl p)
      turned j (Request x n) e h p = let q : replied x (R.reply x n) ≡ e = cc in subst (Turns j (Request x n)) q (turn_replied j x n (R.reply x n) p)
      turned j (Arrived x) e h p = cc
      turned j (Out o) e h p = cc
      turned j Close e h p = cc
      turned j End e h p = cc

      -- an owed item goes to its home
      comes_home : (j : ℕ) (x : Item K) → Due j x → Fine (home R x) x
      comes_home j x p = record { at_home = stands x; place = go x p.place; truth = p.truth }
        where
          stands : (x : Item K) → AtHome (home R x) x
          stands (Arrived x) = tt
          stands (Packet x) = tt
          stands (Request x n) = tt
          stands (Out o) = refl
          stands Close = tt
          stands End = tt

          go : (x : Item K) → (adds' x ≡ []) ⊎ Owed j x → (adds' x ≡ []) ⊎ Rightly (home R x) x
          go x (inl e) = inl e
          go (Packet x) (inr h) = inr (h.1, h.2)
          go (Out o) (inr h) = inr h.1
          go (Arrived x) (inr h) = absurd h
          go (Request x n) (inr h) = absurd h
          go Close (inr h) = absurd h
          go End (inr h) = absurd h

      module _ (a_in : a < R.links) (S_low : R.links ≤ S) (S_in : S < slow_seat R) (Q_low : slow_seat R < Q) (Q_in : Q < pipe_count R) where
        a≢S : a ≢ S
        a≢S = omega arith

        a≢Q : a ≢ Q
        a≢Q = omega arith

        S≢Q : S ≢ Q
        S≢Q = omega arith

        -- one pipe is replaced, or one hand
        good_pipe : (w : World K) (q : ℕ) (p : Pipe K) → ((i : ℕ) → Good i (pipe w i)) → Good q p → (i : ℕ) → Good i (pipe (with_pipe w q p) i)
        good_pipe w q p all here i = go (pipe_cases w q p i)
          where
            go : (pipe (with_pipe w q p) i ≡ pipe w i) ⊎ ((i ≡ q) × (pipe (with_pipe w q p) i ≡ p)) → Good i (pipe (with_pipe w q p) i)
            go (inl e) = subst (Good i) (sym e) (all i)
            go (inr e) = subst₂ Good (sym e.0) (sym e.1) here

        good_hand : (w : World K) (j : ℕ) (h : Hand K) → ((i : ℕ) → InHand i (hand w i)) → InHand j h → (i : ℕ) → InHand i (hand (with_hand w j h) i)
        good_hand w j h all here i = go (hand_cases w j h i)
          where
            P : ℕ → Hand K → Type 0
            P i h = InHand i h

            go : (hand (with_hand w j h) i ≡ hand w i) ⊎ ((i ≡ j) × (hand (with_hand w j h) i ≡ h)) → InHand i (hand (with_hand w j h) i)
            go (inl e) = let P : Hand K → Type 0 = λ h. InHand i h in subst P (sym e) (all i)
            go (inr e) = let P : ℕ → Hand K → Type 0 = λ i h. InHand i h in subst₂ P (sym e.0) (sym e.1) here

        front_fine : (w : World K) (q : ℕ) (x : Item K) → ((i : ℕ) → Good i (pipe w i)) → front (pipe w q) ≡ Some x → Fine q x
        front_fine w q x all e =
            let p = pipe w q in
            subst (Fine q) (get_or_from_slice_get (items p.history) p.taken x x e) (All-get_or (Fine q) (items p.history) p.taken x (slice_get_within (items p.history) p.taken x e) (all q).all)

        good_taken : (w : World K) (q : ℕ) (x : Item K) → ((i : ℕ) → Good i (pipe w i)) → front (pipe w q) ≡ Some x → Good q (one_taken (pipe w q))
        good_taken w q x all e =
            let p = pipe w q in
            record { fits = omega (arith, slice_get_within (items p.history) p.taken x e); all = (all q).all }

        good_pushed : (w : World K) (q : ℕ) (from : Worker) (x : Item K) → ((i : ℕ) → Good i (pipe w i)) → Fine q x → Good q (pushed (pipe w q) from x)
        good_pushed w q from x all h =
            let p = pipe w q in
            let e = items_pushed p from x in
            let P : List (Item K) → Type 0 = λ xs. All (Fine q) xs in
            record {
              fits = rw e (omega (arith, (all q).fits, length_push (items p.history) x));
              all = subst P (sym e) (All-push (Fine q) (items p.history) x (all q).all h);
            }

        full_early : (x : Item K) → is_early (full_of x) ≡ true
        full_early (Arrived x) = refl
        full_early (Packet x) = refl
        full_early (Request x n) = refl
        full_early (Out o) = refl
        full_early Close = refl
        full_early End = refl

        -- the seats that can let go of an item on the thread
        owes_place : (j : ℕ) (x : Item K) → (adds' x ≡ []) ⊎ Owed j x → (adds' x ≡ []) ⊎ ((j ≡ a) ⊎ (j ≡ S))
        owes_place j x (inl n) = inl n
        owes_place j (Packet x) (inr h) = inr (inl h.0)
        owes_place j (Out o) (inr h) = inr (inr h.0)
        owes_place j (Arrived x) (inr h) = absurd h
        owes_place j (Request x n) (inr h) = absurd h
        owes_place j Close (inr h) = absurd h
        owes_place j End (inr h) = absurd h

        work_place : (j : ℕ) (x : Item K) → is_work x ≡ true → (adds' x ≡ []) ⊎ Grasped j x → (adds' x ≡ []) ⊎ ((j ≡ a) ⊎ (j ≡ S))
        work_place j x w (inl n) = inl n
        work_place j (Packet x) w (inr h) = inr (inr h.0)
        work_place j (Request x n) w (inr h) = absurd h
        work_place j (Arrived x) w (inr h) = absurd h
        work_place j (Out o) w (inr h) = cc
        work_place j Close w (inr h) = absurd h
        work_place j End w (inr h) = absurd h

        swept_place : (q : ℕ) (x : Item K) → slow_seat R < q → (adds' x ≡ []) ⊎ Rightly q x → (adds' x ≡ []) ⊎ (q ≡ Q)
        swept_place q x i (inl n) = inl n
        swept_place q (Arrived x) i (inr h) = let e : q ≡ a = h.0 in absurd (omega arith)
        swept_place q (Packet x) i (inr h) = let e : q ≡ S = h.0 in absurd (omega arith)
        swept_place q (Out o) i (inr h) = inr h
        swept_place q (Request x n) i (inr h) = absurd h
        swept_place q Close i (inr h) = absurd h
        swept_place q End i (inr h) = absurd h

        -- what is taken from a pipe is in the right hand
        taken_place : (q j : ℕ) (x : Item K) → Serves R q j → R.links ≤ q → (adds' x ≡ []) ⊎ Rightly q x → (adds' x ≡ []) ⊎ Grasped j x
        taken_place q j x s i (inl n) = inl n
        taken_place q j (Arrived x) s i (inr h) = let e : q ≡ a = h.0 in absurd (omega arith)
        taken_place q j (Packet x) (inl s) i (inr h) = inr (s.0 ∙ h.0, h.1)
        taken_place q j (Packet x) (inr s) i (inr h) = let e : q ≡ S = h.0 in let f = s.1 in absurd (omega arith)
        taken_place q j (Out o) (inl s) i (inr h) = let e : q ≡ Q = h in let f = s.0 in let g = s.1 in absurd (omega arith)
        taken_place q j (Out o) (inr s) i (inr h) = inr s.0
        taken_place q j (Request x n) s i (inr h) = absurd h
        taken_place q j Close s i (inr h) = absurd h
        taken_place q j End s i (inr h) = absurd h

        taken_held : (q j : ℕ) (x : Item K) → Serves R q j → R.links ≤ q → Fine q x → InHand j (hand_after x)
        taken_held q j (Arrived x) s i p = record { place = taken_place q j (Arrived x) s i p.place; truth = p.truth }
        taken_held q j (Packet x) s i p = record { place = taken_place q j (Packet x) s i p.place; truth = p.truth }
        taken_held q j (Request x n) s i p = record { place = taken_place q j (Request x n) s i p.place; truth = p.truth }
        taken_held q j (Out o) s i p = record { place = taken_place q j (Out o) s i p.place; truth = p.truth }
        taken_held q j Close s i p = tt
        taken_held q j End s i p = tt

        after_hand : (x : Item K) → grip (hand_after x) ≡ adds' x
        after_hand (Arrived x) = refl
        after_hand (Packet x) = refl
        after_hand (Request x n) = refl
        after_hand (Out o) = refl
        after_hand Close = refl
        after_hand End = refl

        module _ (w : World K) (inv : Inv w) where
          in_hand_is : (j : ℕ) (h : Hand K) → hand w j ≡ h → InHand j h
          in_hand_is j h e = let P : Hand K → Type 0 = λ h. InHand j h in subst P e (inv.hands j)

          there : (j : ℕ) (h : Hand K) → hand w j ≡ h → h ≢ Empty → j < length w.hands
          there j h e n = hand_there w j (λ k. n (sym e ∙ k))

          hand_counted : (j : ℕ) (h : Hand K) → length (with_hand w j h).hands ≡ seat_count R
          hand_counted j h = length-set w.hands j h ∙ inv.hand_count

          -- a hand lets go of an item
          let_go : (j : ℕ) (x : Item K) → j < length w.hands → grip (hand w j) ≡ adds' x → (adds' x ≡ []) ⊎ ((j ≡ a) ⊎ (j ≡ S)) → Cut w (with_hand w j Empty) x
          let_go j x i h (inl n) = nothing_cut w (with_hand w j Empty) x n (hand_line R a l wanted S Q w j Empty (sym (h ∙ n)))
          let_go j x i h (inr (inl e)) =
              let P : ℕ → Type 0 = λ k. k < length w.hands → grip (hand w k) ≡ adds' x → Cut w (with_hand w k Empty) x in
              subst P (sym e) (λ i' h'. at_a i' h') i h
            where
              at_a : a < length w.hands → grip (hand w a) ≡ adds' x → Cut w (with_hand w a Empty) x
              at_a i h =
                  let v = with_hand w a Empty in
                  cut_a w v x refl
                  (ap (λ (z : Hand K). grip z ++ way (held (pipe w S))) (hand_other w a Empty S (λ e. a≢S (sym e))))
                  (ap (λ (zs : List (Departure K)). zs ++ way (held (pipe w a))) h ∙ ap (λ (z : Hand K). adds' x ++ (grip z ++ way (held (pipe w a)))) (sym (hand_same w a Empty i)))
          let_go j x i h (inr (inr e)) =
              let P : ℕ → Type 0 = λ k. k < length w.hands → grip (hand w k) ≡ adds' x → Cut w (with_hand w k Empty) x in
              subst P (sym e) (λ i' h'. at_S i' h') i h
            where
              at_S : S < length w.hands → grip (hand w S) ≡ adds' x → Cut w (with_hand w S Empty) x
              at_S i h =
                  let v = with_hand w S Empty in
                  cut_S w v x refl
                  (ap (λ (zs : List (Departure K)). zs ++ way (held (pipe w S))) h ∙ ap (λ (z : Hand K). adds' x ++ (grip z ++ way (held (pipe w S)))) (sym (hand_same w S Empty i)))
                  (ap (λ (z : Hand K). grip z ++ way (held (pipe w a))) (hand_other w S Empty a a≢S))

          -- the first of a pipe is taken, and the hand has what it was
          own_line : (q : ℕ) (x : Item K) (h : Hand K) → q ≤ slow_seat R → hand w q ≡ Empty → front (pipe w q) ≡ Some x → grip h ≡ adds' x → line' (taken_from w q q h) ≡ line' w
          own_line q x h i e k g =
              let v = taken_from w q q h in
              line_same R a l wanted S Q w v
              (had_same R a l wanted w v Q (pipe_other w q (one_taken (pipe w q)) Q (omega arith)))
              (at S (cases_eq S q))
              (at a (cases_eq a q))
            where
              u : World K
              u = with_pipe w q (one_taken (pipe w q))

              here : has' (taken_from w q q h) q ≡ has' w q
              here =
                  let y : hand (taken_from w q q h) q ≡ h = hand_same (with_pipe w q (one_taken (pipe w q))) q h (let c = inv.hand_count in omega arith) in
                  let z : pipe (taken_from w q q h) q ≡ one_taken (pipe w q) = pipe_same w q (one_taken (pipe w q)) (pipe_there w q x k) in
                  ap₂ (λ (t : Hand K) (p : Pipe K). grip t ++ way (held p)) y z
                  ∙ (ap (λ (zs : List (Departure K)). zs ++ way (held (one_taken (pipe w q)))) g
                  ∙ (sym (way_front R a l wanted (pipe w q) x k)
                  ∙ ap (λ (t : Hand K). grip t ++ way (held (pipe w q))) (sym e)))

              at : (n : ℕ) → (n ≡ q) ⊎ (n ≡ q → ⊥) → has' (taken_from w q q h) n ≡ has' w n
              at n (inl f) = let P : ℕ → Type 0 = λ m. has' (taken_from w q q h) m ≡ has' w m in subst P (sym f) here
              at n (inr f) = ap₂ (λ (t : Hand K) (p : Pipe K). grip t ++ way (held p)) (hand_other w q h n f) (pipe_other w q (one_taken (pipe w q)) n f)

          out_line : (q j : ℕ) (x : Item K) (h : Hand K) → slow_seat R < j → slow_seat R < q → front (pipe w q) ≡ Some x → (q ≡ Q → is_shut (pipe w q) ≡ false) → line' (taken_from w q j h) ≡ line' w
          out_line q j x h i m k unshut =
              let v = taken_from w q j h in
              line_same R a l wanted S Q w v
              (at (cases_eq Q q))
              (ap₂ (λ (t : Hand K) (p : Pipe K). grip t ++ way (held p)) (hand_other w j h S (omega arith)) (pipe_other w q (one_taken (pipe w q)) S (omega arith)))
              (ap₂ (λ (t : Hand K) (p : Pipe K). grip t ++ way (held p)) (hand_other w j h a (omega arith)) (pipe_other w q (one_taken (pipe w q)) a (omega arith)))
            where
              here : q ≡ Q → had' (taken_from w q j h) q ≡ had' w q
              here f =
                  ap (λ (p : Pipe K). way (passed p) ++ way (held p)) (pipe_same w q (one_taken (pipe w q)) (pipe_there w q x k))
                  ∙ had_taken R a l wanted (pipe w q) x k (unshut f)

              at : (Q ≡ q) ⊎ (Q ≡ q → ⊥) → had' (taken_from w q j h) Q ≡ had' w Q
              at (inl f) = let P : ℕ → Type 0 = λ m. had' (taken_from w q j h) m ≡ had' w m in subst P (sym f) (here (sym f))
              at (inr f) = had_same R a l wanted w (taken_from w q j h) Q (pipe_other w q (one_taken (pipe w q)) Q f)

          taken_line : (q j : ℕ) (x : Item K) (h : Hand K) → Serves R q j → hand w j ≡ Empty → front (pipe w q) ≡ Some x → (q ≡ Q → is_shut (pipe w q) ≡ false) → grip h ≡ adds' x → line' (taken_from w q j h) ≡ line' w
          taken_line q j x h (inl s) e k u g =
              let P : ℕ → Type 0 = λ n. n ≤ slow_seat R → hand w n ≡ Empty → line' (taken_from w q n h) ≡ line' w in
              subst P (sym s.0) (λ i' e'. own_line q x h i' e' k g) s.1 e
          taken_line q j x h (inr s) e k u g = out_line q j x h s.0 s.1 k u

          keeps_taken : (q j : ℕ) (x : Item K) (h : Hand K) → Serves R q j → hand w j ≡ Empty → front (pipe w q) ≡ Some x → (q ≡ Q → is_shut (pipe w q) ≡ false) → grip h ≡ adds' x → InHand j h → Inv (taken_from w q j h)
          keeps_taken q j x h s e k u g d = record {
            hand_count = length-set w.hands j h ∙ inv.hand_count;
            pipe_count = length-set w.pipes q (one_taken (pipe w q)) ∙ inv.pipe_count;
            hands = good_hand w j h inv.hands d;
            pipes = good_pipe w q (one_taken (pipe w q)) inv.pipes (good_taken w q x inv.pipes k);
            in_line = taken_line q j x h s e k u g ∙ inv.in_line;
          }

          keeps_take : (q j : ℕ) (x : Item K) → Serves R q j → R.links ≤ q → is_shut (pipe w q) ≡ false → hand w j ≡ Empty → front (pipe w q) ≡ Some x → Inv (taken_from w q j (hand_after x))
          keeps_take q j x s i u e k = keeps_taken q j x (hand_after x) s e k (λ _. u) (after_hand x) (taken_held q j x s i (front_fine w q x inv.pipes k))

          faulty : (b : ℕ) (x : Arrival K) (c : K.RuleCause) → R.inspect x ≡ Some c → (adds' (Arrived x) ≡ []) ⊎ Rightly b (Arrived x) → adds' (Arrived x) ≡ []
          faulty b x c q (inl n) = n
          faulty b x c q (inr m) = dropped_adds x c (faults x c m.1 q)

          keeps_receive : (b : ℕ) (x : Arrival K) (o : Option K.RuleCause) → b < R.links → hand w b ≡ Empty → front (pipe w b) ≡ Some (Arrived x) → R.inspect x ≡ o → Inv (received w b x o)
          keeps_receive b x None i e k q =
              keeps_taken b b (Arrived x) (Owes (Packet x)) (inl (refl, omega arith)) e k (λ f. absurd (omega arith)) refl (due_packet b x (front_fine w b (Arrived x) inv.pipes k))
          keeps_receive b x (Some c) i e k q =
              let fine = front_fine w b (Arrived x) inv.pipes k in
              let n : adds' (Arrived x) ≡ [] = faulty b x c q fine.place in
              let t = keeps_taken b b (Arrived x) Empty (inl (refl, omega arith)) e k (λ f. absurd (omega arith)) (sym n) tt in
              record {
                hand_count = t.hand_count;
                pipe_count = t.pipe_count;
                hands = t.hands;
                pipes = t.pipes;
                in_line = quiet w (taken_from w b b Empty) (Arrived x) (Cause.Ruled c) n fine.truth (taken_line b b (Arrived x) Empty (inl (refl, omega arith)) e k (λ f. absurd (omega arith)) (sym n)) refl inv.in_line;
              }

          keeps_hand : (j : ℕ) (h : Hand K) → InHand j h → line' (with_hand w j h) ≡ line' w → Inv (with_hand w j h)
          keeps_hand j h d e = record {
            hand_count = hand_counted j h;
            pipe_count = inv.pipe_count;
            hands = good_hand w j h inv.hands d;
            pipes = inv.pipes;
            in_line = e ∙ inv.in_line;
          }

          -- a hand is emptied, and what it had ends
          keeps_end : (j : ℕ) (x : Item K) (c : Cause K) → line' (with_fate (with_hand w j Empty) x c) ≡ less (with_fate (with_hand w j Empty) x c).fates a E → Inv (with_fate (with_hand w j Empty) x c)
          keeps_end j x c e = record {
            hand_count = hand_counted j Empty;
            pipe_count = inv.pipe_count;
            hands = good_hand w j Empty inv.hands tt;
            pipes = inv.pipes;
            in_line = e;
          }

          keeps_work : (j : ℕ) (x : Item K) (e : Outcome K) → hand w j ≡ Got x → work R x ≡ Some e → Inv (ended w j x e)
          keeps_work j x (Makes y) h k =
              let p = turned j x (Makes y) k (in_hand_is j (Got x) h) in
              keeps_hand j (Owes y) p.1 (hand_line R a l wanted S Q w j (Owes y) (p.0 ∙ sym (ap grip h)))
          keeps_work j x (Ends c) h k =
              let own = in_hand_is j (Got x) h in
              let n : adds' x ≡ [] = turned j x (Ends c) k own in
              keeps_end j x c (quiet w (with_hand w j Empty) x c n own.truth (hand_line R a l wanted S Q w j Empty (sym (ap grip h ∙ n))) refl inv.in_line)

          keeps_lack : (j : ℕ) (x : Item K) → hand w j ≡ Got x → is_work x ≡ true → Inv (with_fate (with_hand w j Empty) x Cause.NoMemory)
          keeps_lack j x h k =
              let own = in_hand_is j (Got x) h in
              let c = let_go j x (there j (Got x) h (λ e. cc)) (ap grip h) (work_place j x k own.place) in
              keeps_end j x Cause.NoMemory (ends_early w (with_hand w j Empty) x Cause.NoMemory refl own.truth c refl inv.in_line)

          keeps_owed : (j : ℕ) (x : Item K) (c : Cause K) → is_early c ≡ true → hand w j ≡ Owes x → Inv (with_fate (with_hand w j Empty) x c)
          keeps_owed j x c early h =
              let due = in_hand_is j (Owes x) h in
              let k = let_go j x (there j (Owes x) h (λ e. cc)) (ap grip h) (owes_place j x due.place) in
              keeps_end j x c (ends_early w (with_hand w j Empty) x c early due.truth k refl inv.in_line)

          sent_line : (j : ℕ) (o : Outgoing K) → hand w j ≡ Got (Out o) → line' (with_hand w j Empty) ≡ line' w
          sent_line j o h = let own = in_hand_is j (Got (Out o)) h in go own.place
            where
              go : (adds' (Out o) ≡ []) ⊎ (slow_seat R < j) → line' (with_hand w j Empty) ≡ line' w
              go (inl n) = hand_line R a l wanted S Q w j Empty (sym (ap grip h ∙ n))
              go (inr i) = line_same R a l wanted S Q w (with_hand w j Empty) refl
                  (ap (λ (t : Hand K). grip t ++ way (held (pipe w S))) (hand_other w j Empty S (omega arith)))
                  (ap (λ (t : Hand K). grip t ++ way (held (pipe w a))) (hand_other w j Empty a (omega arith)))

          keeps_fail : (j : ℕ) (o : Outgoing K) → hand w j ≡ Got (Out o) → Inv (with_fate (with_hand w j Empty) (Out o) Cause.SendFailed)
          keeps_fail j o h = keeps_end j (Out o) Cause.SendFailed (late w (with_hand w j Empty) (Out o) Cause.SendFailed refl (sent_line j o h) refl inv.in_line)

          keeps_sent : (k j : ℕ) (o : Outgoing K) → hand w j ≡ Got (Out o) → Inv (sent_with (with_hand w j Empty) k o)
          keeps_sent k j o h =
              let t = keeps_hand j Empty tt (sent_line j o h) in
              record { hand_count = t.hand_count; pipe_count = t.pipe_count; hands = t.hands; pipes = t.pipes; in_line = t.in_line }

          keeps_pipe : (q : ℕ) (p : Pipe K) → Good q p → line' (with_pipe w q p) ≡ line' w → Inv (with_pipe w q p)
          keeps_pipe q p d e = record {
            hand_count = inv.hand_count;
            pipe_count = length-set w.pipes q p ∙ inv.pipe_count;
            hands = inv.hands;
            pipes = good_pipe w q p inv.pipes d;
            in_line = e ∙ inv.in_line;
          }

          pushed_same : (q : ℕ) (from : Worker) (x : Item K) → adds' x ≡ [] → line' (with_pipe w q (pushed (pipe w q) from x)) ≡ line' w
          pushed_same q from x n =
              let p = pipe w q in
              pipe_line R a l wanted S Q w q (pushed p from x)
              (way_pushed R a l wanted p from x (inv.pipes q).fits ∙ (ap (λ (zs : List (Departure K)). way (held p) ++ zs) n ∙ append-nil _))
              (ap way (passed_pushed R a l wanted p from x (inv.pipes q).fits))

          keeps_mark : (q : ℕ) (from : Worker) (x : Item K) → is_mark x ≡ true → Inv (with_pipe w q (pushed (pipe w q) from x))
          keeps_mark q from Close m = keeps_pipe q _ (good_pushed w q from Close inv.pipes (record { at_home = tt; place = inl refl; truth = tt })) (pushed_same q from Close refl)
          keeps_mark q from End m = keeps_pipe q _ (good_pushed w q from End inv.pipes (record { at_home = tt; place = inl refl; truth = tt })) (pushed_same q from End refl)
          keeps_mark q from (Arrived x) m = cc
          keeps_mark q from (Packet x) m = cc
          keeps_mark q from (Request x n) m = cc
          keeps_mark q from (Out o) m = cc

          keeps_noted : (q : ℕ) (r : Refusal) → Inv (with_pipe w q (refused (pipe w q) r))
          keeps_noted q r = keeps_pipe q (refused (pipe w q) r) (record { fits = (inv.pipes q).fits; all = (inv.pipes q).all }) (pipe_line R a l wanted S Q w q (refused (pipe w q) r) refl refl)

          keeps_looks : (ls : List Bool) → Inv (with_looks w ls)
          keeps_looks ls = record { hand_count = inv.hand_count; pipe_count = inv.pipe_count; hands = inv.hands; pipes = inv.pipes; in_line = inv.in_line }

          keeps_sweep : (q j : ℕ) (x : Item K) → Serves R q j → slow_seat R < q → is_shut (pipe w q) ≡ true → hand w j ≡ Empty → front (pipe w q) ≡ Some x → Inv (with_fate (taken_from w q j Empty) x Cause.Closed)
          keeps_sweep q j x s i u e k =
              let fine = front_fine w q x inv.pipes k in
              record {
                hand_count = length-set w.hands j Empty ∙ inv.hand_count;
                pipe_count = length-set w.pipes q (one_taken (pipe w q)) ∙ inv.pipe_count;
                hands = good_hand w j Empty inv.hands tt;
                pipes = good_pipe w q (one_taken (pipe w q)) inv.pipes (good_taken w q x inv.pipes k);
                in_line = ends_early w (taken_from w q j Empty) x Cause.Closed refl fine.truth (go (far s) (swept_place q x i fine.place)) refl inv.in_line;
              }
            where
              far : Serves R q j → slow_seat R < j
              far (inl s) = let f = s.0 in let g = s.1 in absurd (omega arith)
              far (inr s) = s.0

              v : World K
              v = taken_from w q j Empty

              before : passed (one_taken (pipe w q)) ≡ passed (pipe w q)
              before = had_swept R a l wanted (pipe w q) x k u

              go : slow_seat R < j → (adds' x ≡ []) ⊎ (q ≡ Q) → Cut w (taken_from w q j Empty) x
              go m (inl n) =
                  nothing_cut w (taken_from w q j Empty) x n (
                  line_same R a l wanted S Q (with_pipe w q (one_taken (pipe w q))) (taken_from w q j Empty) refl
                  (ap (λ (t : Hand K). grip t ++ way (held (pipe (with_pipe w q (one_taken (pipe w q))) S))) (hand_other w j Empty S (omega arith)))
                  (ap (λ (t : Hand K). grip t ++ way (held (pipe (with_pipe w q (one_taken (pipe w q))) a))) (hand_other w j Empty a (omega arith)))
                  ∙ pipe_line R a l wanted S Q w q (one_taken (pipe w q))
                  (sym (way_front R a l wanted (pipe w q) x k ∙ ap (λ (zs : List (Departure K)). zs ++ way (held (one_taken (pipe w q)))) n))
                  (ap way before)
                  )
              go m (inr f) =
                  cut_Q w (taken_from w q j Empty) x (way (passed (one_taken (pipe w q)))) (way (held (one_taken (pipe w q))))
                  (ap (had' w) (sym f) ∙ ap₂ (λ (ys zs : List (Departure K)). ys ++ zs) (ap way (sym before)) (way_front R a l wanted (pipe w q) x k))
                  (ap (had' (taken_from w q j Empty)) (sym f) ∙ ap (λ (p : Pipe K). way (passed p) ++ way (held p)) (pipe_same w q (one_taken (pipe w q)) (pipe_there w q x k)))
                  (ap₂ (λ (t : Hand K) (p : Pipe K). grip t ++ way (held p)) (hand_other w j Empty S (omega arith)) (pipe_other w q (one_taken (pipe w q)) S (omega arith)))
                  (ap₂ (λ (t : Hand K) (p : Pipe K). grip t ++ way (held p)) (hand_other w j Empty a (omega arith)) (pipe_other w q (one_taken (pipe w q)) a (omega arith)))

          abbrev Owing : ℕ → ℕ → Type 0
          Owing j q = ((j ≡ a) × (q ≡ S)) ⊎ ((j ≡ S) × (q ≡ Q))

          owing : (j : ℕ) (x : Item K) → (adds' x ≡ []) ⊎ Owed j x → (adds' x ≡ []) ⊎ Owing j (home R x)
          owing j x (inl n) = inl n
          owing j (Packet x) (inr h) = inr (inl (h.0, h.1))
          owing j (Out o) (inr h) = inr (inr h)
          owing j (Arrived x) (inr h) = absurd h
          owing j (Request x n) (inr h) = absurd h
          owing j Close (inr h) = absurd h
          owing j End (inr h) = absurd h

          offered_S : (from : Worker) (x : Item K) → grip (hand w a) ≡ adds' x → line' (offered w from a S x) ≡ line' w
          offered_S from x h =
              let v = offered w from a S x in
              let p = pipe w S in
              to_S w v x
              (had_same R a l wanted w v Q (pipe_other w S (pushed p from x) Q (λ e. S≢Q (sym e))))
              (ap₂ (λ (t : Hand K) (p : Pipe K). grip t ++ way (held p)) (hand_other w a Empty S (λ e. a≢S (sym e))) (pipe_same w S (pushed p from x) (let c = inv.pipe_count in omega arith))
              ∙ (ap (λ (zs : List (Departure K)). grip (hand w S) ++ zs) (way_pushed R a l wanted p from x (inv.pipes S).fits)
              ∙ sym (append_assoc (grip (hand w S)) (way (held p)) (adds' x))))
              (ap (λ (zs : List (Departure K)). zs ++ way (held (pipe w a))) h
              ∙ ap₂ (λ (t : Hand K) (p : Pipe K). adds' x ++ (grip t ++ way (held p))) (sym (hand_same w a Empty (let c = inv.hand_count in omega arith))) (sym (pipe_other w S (pushed p from x) a a≢S)))

          offered_Q : (from : Worker) (x : Item K) → grip (hand w S) ≡ adds' x → line' (offered w from S Q x) ≡ line' w
          offered_Q from x h =
              let v = offered w from S Q x in
              let p = pipe w Q in
              to_Q w v x
              (ap (λ (p : Pipe K). way (passed p) ++ way (held p)) (pipe_same w Q (pushed p from x) (let c = inv.pipe_count in omega arith))
              ∙ (ap₂ (λ (ys zs : List (Departure K)). ys ++ zs) (ap way (passed_pushed R a l wanted p from x (inv.pipes Q).fits)) (way_pushed R a l wanted p from x (inv.pipes Q).fits)
              ∙ sym (append_assoc (way (passed p)) (way (held p)) (adds' x))))
              (ap (λ (zs : List (Departure K)). zs ++ way (held (pipe w S))) h
              ∙ ap₂ (λ (t : Hand K) (p : Pipe K). adds' x ++ (grip t ++ way (held p))) (sym (hand_same w S Empty (let c = inv.hand_count in omega arith))) (sym (pipe_other w Q (pushed p from x) S S≢Q)))
              (ap₂ (λ (t : Hand K) (p : Pipe K). grip t ++ way (held p)) (hand_other w S Empty a a≢S) (pipe_other w Q (pushed p from x) a a≢Q))

          offered_line : (from : Worker) (j q : ℕ) (x : Item K) → grip (hand w j) ≡ adds' x → (adds' x ≡ []) ⊎ Owing j q → line' (offered w from j q x) ≡ line' w
          offered_line from j q x h (inl n) =
              hand_line R a l wanted S Q (with_pipe w q (pushed (pipe w q) from x)) j Empty (sym (h ∙ n))
              ∙ pushed_same q from x n
          offered_line from j q x h (inr (inl e)) =
              let P : ℕ → ℕ → Type 0 = λ b c. grip (hand w b) ≡ adds' x → line' (offered w from b c x) ≡ line' w in
              subst₂ P (sym e.0) (sym e.1) (offered_S from x) h
          offered_line from j q x h (inr (inr e)) =
              let P : ℕ → ℕ → Type 0 = λ b c. grip (hand w b) ≡ adds' x → line' (offered w from b c x) ≡ line' w in
              subst₂ P (sym e.0) (sym e.1) (offered_Q from x) h

          keeps_offer : (from : Worker) (j : ℕ) (x : Item K) → hand w j ≡ Owes x → Inv (offered w from j (home R x) x)
          keeps_offer from j x h =
              let due = in_hand_is j (Owes x) h in
              let q = home R x in
              record {
                hand_count = hand_counted j Empty;
                pipe_count = length-set w.pipes q (pushed (pipe w q) from x) ∙ inv.pipe_count;
                hands = good_hand w j Empty inv.hands tt;
                pipes = good_pipe w q (pushed (pipe w q) from x) inv.pipes (good_pushed w q from x inv.pipes (comes_home j x due));
                in_line = offered_line from j q x (ap grip h) (owing j x due.place) ∙ inv.in_line;
              }

        keeps_refuse : (w : World K) → Inv w → (j : ℕ) (x : Item K) (q : ℕ) (r : Refusal) → hand w j ≡ Owes x → Inv (with_fate (with_hand (with_pipe w q (refused (pipe w q) r)) j Empty) x (full_of x))
        keeps_refuse w inv j x q r h = keeps_owed (with_pipe w q (refused (pipe w q) r)) (keeps_noted w inv q r) j x (full_of x) (full_early x) h

        pub keeps : (w : World K) → Inv w → (v : World K) → Move R w v → Inv v
        keeps w inv v (Receives b x c i e k q) = keeps_receive w inv b x c i e k q
        keeps w inv v (Starves b x h) = keeps_owed w inv b x Cause.NoBuffer refl h
        keeps w inv v (Offers from j x h r) = keeps_offer w inv from j x h
        keeps w inv v (Refuses j x h r) = keeps_refuse w inv j x (home R x) _ h
        keeps w inv v (Takes q j x ls s i u e k) = keeps_take (with_looks w ls) (keeps_looks w inv ls) q j x s i u e k
        keeps w inv v (Looks ls) = keeps_looks w inv ls
        keeps w inv v (Works j x e h k) = keeps_work w inv j x e h k
        keeps w inv v (Lacks j x h k) = keeps_lack w inv j x h k
        keeps w inv v (Marks q from x i m r) = keeps_mark w inv q from x m
        keeps w inv v (Sends k j o i s' h) = keeps_sent w inv k j o h
        keeps w inv v (Fails j o h) = keeps_fail w inv j o h
        keeps w inv v (Sweeps q j x ls s i u e k) = keeps_sweep (with_looks w ls) (keeps_looks w inv ls) q j x s i u e k
