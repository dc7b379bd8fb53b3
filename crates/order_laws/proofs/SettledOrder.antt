-- The order of a running pipeline that has ended: the workers' laws composed.
use Rattle.std.proofs.Common.{◌≡◌, ◌⊎◌, inl, inr, ℕ, Bool, true, false, not, eqb, ◌&&◌, cond, ◌+◌, ◌<◌, ◌≤◌, List, [], ◌∷◌, ◌++◌, map, refl, sym, ◌∙◌, ap, subst, arith}
use Rattle.std.specs.List.{flat_map}
use Rattle.std.specs.Prelude.{Some}
use Rattle.std.proofs.lemmas.Grind.{flat_map-append}
use Rattle.std.proofs.lemmas.Bool.{and_parts, cases_lt, ne_eqb, eq-eqb, cases_eq}
use Rattle.order_laws.specs.Kinds.{Kinds}
use Rattle.order_laws.specs.Item.{Arrival, Outgoing, Arrived}
use Rattle.order_laws.specs.Rules.{Rules, Decision, Sends, Drops, IsLawful}
use Rattle.order_laws.specs.Pipes.{link_pipe}
use Rattle.order_laws.specs.Expected.{Departure, Flow, departure_if, only, sent_to, is_of, has_key}
use Rattle.order_laws.specs.Departures.{numbers_of}
use Rattle.order_laws.specs.Deeds.{Pushed, payload_of, payloads, of_producer, before_mark, from_mark, Each, Ending, Accepted, Refused, Lacked, Counted, Deed, if_accepted, is_counted, if_counted, done_items, accepted, refused, lacked}
use Rattle.order_laws.specs.Settled.{if_so, to_processor, to_link, AreNumbered, Views, told, In, IsTold, IsLinkPipe, Settled, numbers, without, expected_of, seen, dropped, HandsInOrder, SettlesInOrder, Settles}
use Rattle.order_laws.proofs.Bands.{both_same}
use Rattle.order_laws.proofs.Kept.{Distinct, without-append, without_distinct}
use Rattle.order_laws.proofs.Stages.{before_is, flat_flat, each_map, stage}
use Rattle.order_laws.proofs.Joints.{other_mine, other_link, through, onward, away, distinct, expected_is, told_is, by_producer, of_one, split_mark, never_closed}

module _ {A : Type 0} where
  pub each_join : (P : A → Type 0) (xs ys : List A) → Each P xs → Each P ys → Each P (xs ++ ys)
  each_join P [] ys e f = f
  each_join P (x ∷ xs) ys e f = (e.0, each_join P xs ys e.1 f)

  pub each_split : (P : A → Type 0) (xs ys : List A) → Each P (xs ++ ys) → Each P xs × Each P ys
  each_split P [] ys e = (tt, e)
  each_split P (x ∷ xs) ys e = let r = each_split P xs ys e.1 in ((e.0, r.0), r.1)

  pub each_both : (P Q : A → Type 0) (xs : List A) → Each P xs → Each Q xs → Each (λ x. P x × Q x) xs
  each_both P Q [] e f = tt
  each_both P Q (x ∷ xs) e f = ((e.0, f.0), each_both P Q xs e.1 f.1)

module _ {A B : Type 0} where
  pub each_out : (P : B → Type 0) (g : A → List B) (xs : List A) → Each P (flat_map g xs) → Each (λ x. Each P (g x)) xs
  each_out P g [] e = tt
  each_out P g (x ∷ xs) e = let r = each_split P (g x) (flat_map g xs) e in (r.0, each_out P g xs r.1)

  pub each_in : (P : B → Type 0) (g : A → List B) (xs : List A) → Each (λ x. Each P (g x)) xs → Each P (flat_map g xs)
  each_in P g [] e = tt
  each_in P g (x ∷ xs) e = each_join P (g x) (flat_map g xs) e.0 (each_in P g xs e.1)

  pub each_items : (P : B → Type 0) (v : A → B) (xs : List A) → Each P (map v xs) → Each (λ x. P (v x)) xs
  each_items P v [] e = tt
  each_items P v (x ∷ xs) e = (e.0, each_items P v xs e.1)

  pub flat_nothing : (g : A → List B) (xs : List A) → Each (λ x. g x ≡ []) xs → flat_map g xs ≡ []
  flat_nothing g [] e = refl
  flat_nothing g (x ∷ xs) e = ap (λ (ys : List B). ys ++ flat_map g xs) e.0 ∙ flat_nothing g xs e.1

module _ {B : Type 0} where
  front_none : (xs ys : List B) → xs ++ ys ≡ [] → xs ≡ []
  front_none [] ys e = refl
  front_none (x ∷ xs) ys e = absurd cc

  back_none : (xs ys : List B) → xs ++ ys ≡ [] → ys ≡ []
  back_none [] ys e = e
  back_none (x ∷ xs) ys e = absurd cc

module _ {A B : Type 0} where
  pub each_nothing : (g : A → List B) (xs : List A) → flat_map g xs ≡ [] → Each (λ x. g x ≡ []) xs
  each_nothing g [] e = tt
  each_nothing g (x ∷ xs) e = (front_none (g x) (flat_map g xs) e, each_nothing g xs (back_none (g x) (flat_map g xs) e))

module _ {T : Type 0} where
  -- the entries of a producer carry its number
  pub named : (p : ℕ) (es : List (Pushed T)) → Each (λ (e : Pushed T). e.from ≡ p) (of_producer p es)
  named p [] = tt
  named p (e ∷ es) = go (eqb e.from p) (cases_eq e.from p) refl (named p es)
    where
      go : (b : Bool) → (e.from ≡ p) ⊎ (e.from ≡ p → ⊥) → eqb e.from p ≡ b → Each (λ (e : Pushed T). e.from ≡ p) (of_producer p es) → Each (λ (e : Pushed T). e.from ≡ p) (cond b (e ∷ of_producer p es) (of_producer p es))
      go true (inl q) k r = (q, r)
      go true (inr q) k r = absurd (let z : false ≡ true = sym (ne_eqb e.from p q) ∙ k in cc)
      go false q k r = r

module _ {K : Kinds} where
  -- an arrival that was taken at processor i from producer p
  abbrev pub IsFed : Rules K → Views K → (i p : ℕ) → Arrival K → Type 0
  IsFed R v i p x = (x.link ≡ p) × (p < R.links) × In x (told v p) × (R.processor (R.key x) ≡ i)

  -- what a receiver had accepted is its own, and for the right processor
  own_step : (R : Rules K) (i a : ℕ) (x : Arrival K) (o : Ending K.RuleCause) → x.link ≡ a → Each (λ (y : Arrival K). (y.link ≡ a) × (x ≡ y) × (R.processor (R.key y) ≡ i)) (if_accepted o (if_so (eqb (R.processor (R.key x)) i) (x ∷ [])))
  own_step R i a x Refused e = tt
  own_step R i a x Lacked e = tt
  own_step R i a x (Counted c) e = tt
  own_step R i a x Accepted e = go (eqb (R.processor (R.key x)) i) (cases_eq (R.processor (R.key x)) i) refl
    where
      go : (b : Bool) → (R.processor (R.key x) ≡ i) ⊎ (R.processor (R.key x) ≡ i → ⊥) → eqb (R.processor (R.key x)) i ≡ b → Each (λ (y : Arrival K). (y.link ≡ a) × (x ≡ y) × (R.processor (R.key y) ≡ i)) (if_so b (x ∷ []))
      go true (inl q) k = ((e, refl, q), tt)
      go true (inr q) k = absurd (let z : false ≡ true = sym (ne_eqb (R.processor (R.key x)) i q) ∙ k in cc)
      go false q k = tt

  own : (R : Rules K) (i a n : ℕ) (log : List (Deed K.RuleCause (Arrival K))) → AreNumbered a n (done_items log) → Each (λ (y : Arrival K). (y.link ≡ a) × In y (done_items log) × (R.processor (R.key y) ≡ i)) (flat_map (accepted (to_processor R i)) log)
  own R i a n [] num = tt
  own R i a n (d ∷ log) num =
      each_join (λ (y : Arrival K). (y.link ≡ a) × In y (done_items (d ∷ log)) × (R.processor (R.key y) ≡ i)) (accepted (to_processor R i) d) (flat_map (accepted (to_processor R i)) log)
      (each_map (λ y h. (h.0, inl h.1, h.2)) (accepted (to_processor R i) d) (own_step R i a d.item d.end num.0))
      (each_map (λ y h. (h.0, inr h.1, h.2)) (flat_map (accepted (to_processor R i)) log) (own R i a (n + 1) log num.2))

  each_self : (xs : List (Arrival K)) → Each (λ x. In x xs) xs
  each_self [] = tt
  each_self (x ∷ xs) = (inl refl, each_map (λ y at. inr at) xs (each_self xs))

  each_link : (a n : ℕ) (xs : List (Arrival K)) → AreNumbered a n xs → Each (λ (x : Arrival K). x.link ≡ a) xs
  each_link a n [] num = tt
  each_link a n (x ∷ xs) num = (num.0, each_link a (n + 1) xs num.2)

  each_told : (v : Views K) (a : ℕ) → AreNumbered a 1 (told v a) → Each (IsTold v) (told v a)
  each_told v a num =
      each_map (λ x h. subst (λ (q : ℕ). In x (told v q)) (sym h.1) h.0) (told v a)
      (each_both (λ x. In x (told v a)) (λ (x : Arrival K). x.link ≡ a) (told v a) (each_self (told v a)) (each_link a 1 (told v a) num))

  module _ (R : Rules K) (v : Views K) (lawful : IsLawful R (IsTold v)) (s : Settled R v) where
    -- each arrival that processor i took came from the receiver of its link, and is of a key of this processor
    abbrev Fed : ℕ → Pushed (Arrival K) → Type 0
    Fed i e = Each (IsFed R v i e.from) (payload_of e.load)

    fed_by : (i p : ℕ) → i < R.processors → Each (Fed i) (of_producer p (v.taken i))
    fed_by i p lt = go (cases_lt p R.links)
      where
        go : (p < R.links) ⊎ (R.links ≤ p) → Each (Fed i) (of_producer p (v.taken i))
        go (inr ge) = subst (λ (es : List (Pushed (Arrival K))). Each (Fed i) es) (sym (s.packet_only i p lt ge)) tt
        go (inl below) =
            let law = s.receivers p below in
            let mine : Each (IsFed R v i p) (flat_map (accepted (to_processor R i)) (v.received p)) =
            each_map (λ y h. (h.0, below, h.1, h.2)) (flat_map (accepted (to_processor R i)) (v.received p)) (own R i p 1 (v.received p) law.numbered) in
            let all : Each (IsFed R v i p) (payloads (of_producer p (v.taken i))) =
            subst (λ (xs : List (Arrival K)). Each (IsFed R v i p) xs) (sym (ap payloads (s.packets i p lt below) ∙ (law.tells i lt).0)) mine in
            let each = each_out (IsFed R v i p) (λ (e : Pushed (Arrival K)). payload_of e.load) (of_producer p (v.taken i)) all in
            each_map (λ e h. subst (λ (q : ℕ). Each (IsFed R v i q) (payload_of e.load)) (sym h.0) h.1) (of_producer p (v.taken i))
            (each_both (λ (e : Pushed (Arrival K)). e.from ≡ p) (λ (e : Pushed (Arrival K)). Each (IsFed R v i p) (payload_of e.load)) (of_producer p (v.taken i)) (named p (v.taken i)) each)

    fed : (i : ℕ) → i < R.processors → Each (Fed i) (v.taken i)
    fed i lt = by_producer (Fed i) (v.taken i) (λ p. fed_by i p lt)

    -- of what processor i took
    abbrev pub IsKnown : ℕ → Arrival K → Type 0
    IsKnown i x = (x.link < R.links) × In x (told v x.link) × (R.processor (R.key x) ≡ i)

    pub known : (i : ℕ) → i < R.processors → Each (λ (d : Deed K.RuleCause (Arrival K)). IsKnown i d.item) (v.worked i)
    known i lt =
        let law = s.workers i lt in
        let each : Each (λ (e : Pushed (Arrival K)). Each (IsKnown i) (payload_of e.load)) (v.taken i) =
        each_map (λ e h. each_map (λ x k. (subst (λ (q : ℕ). q < R.links) (sym k.0) k.1, subst (λ (q : ℕ). In x (told v q)) (sym k.0) k.2, k.3)) (payload_of e.load) h) (v.taken i) (fed i lt) in
        each_items (IsKnown i) (λ (d : Deed K.RuleCause (Arrival K)). d.item) (v.worked i) (subst (λ (xs : List (Arrival K)). Each (IsKnown i) xs) law.took (each_in (IsKnown i) (λ (e : Pushed (Arrival K)). payload_of e.load) (v.taken i) each))

    module _ (a l : ℕ) (mine : Arrival K → Bool) (la : a < R.links) (ll : l < R.links) (k : K.Key) (band : Bool) (
        by_key : (x : Arrival K) → mine x ≡ true → R.key x ≡ k
        ) (
        by_band : (x : Arrival K) (y : K.Parcel) → IsTold v x → mine x ≡ true → R.decide x ≡ Sends l y → (R.two_bands l && R.urgent_parcel y) ≡ band
        ) where
      abbrev h : ℕ
      h = R.processor k

      abbrev Q : ℕ
      Q = link_pipe R band l

      abbrev E : Arrival K → List (Departure K)
      E x = expected_of R a l mine x

      abbrev S : Outgoing K → List (Departure K)
      S o = seen v a mine o

      at_link : IsLinkPipe R Q
      at_link = go band
        where
          go : (b : Bool) → IsLinkPipe R (link_pipe R b l)
          go true = (omega arith, omega arith)
          go false = (omega arith, omega arith)

      h_in : h < R.processors
      h_in = lawful.processors k

      all : List (Departure K)
      all = flat_map E (told v a)

      told_distinct : Distinct (numbers (flat_map E (told v a)))
      told_distinct = distinct R a l mine 1 (told v a) (s.receivers a la).numbered

      -- the receiver's part
      abbrev first_drops : List ℕ
      first_drops = numbers (flat_map E (flat_map (refused (to_processor R h)) (v.received a))) ++ numbers (flat_map (lacked E) (v.received a))

      nothing : (b c : Bool) → only {K = K} b (only c []) ≡ []
      nothing true true = refl
      nothing true false = refl
      nothing false c = refl

      dropped_none : (x : Arrival K) (c : K.RuleCause) → R.decide x ≡ Drops c → E x ≡ []
      dropped_none x c j = ap (λ (r : Decision K). only (eqb x.link a) (only (mine x) (sent_to l x.number r))) j ∙ nothing (eqb x.link a) (mine x)

      faulty : (d : Deed K.RuleCause (Arrival K)) → IsTold v d.item → if_counted d.end (λ c. R.inspect d.item ≡ Some c) → is_counted d.end (E d.item ≡ [])
      faulty d arr j = go d.end j
        where
          go : (o : Ending K.RuleCause) → if_counted o (λ c. R.inspect d.item ≡ Some c) → is_counted o (E d.item ≡ [])
          go Accepted j = tt
          go Refused j = tt
          go Lacked j = tt
          go (Counted c) j = dropped_none d.item c (lawful.faults d.item c arr j)

      first : flat_map E (flat_map (accepted (to_processor R h)) (v.received a)) ≡ without first_drops (flat_map E (told v a))
      first =
          let arr = each_items (IsTold v) (λ (d : Deed K.RuleCause (Arrival K)). d.item) (v.received a) (each_told v a (s.receivers a la).numbered) in
          stage (to_processor R h) E E (v.received a)
          (each_map (λ d j. (through R a l mine k by_key d.item, faulty d j.0 j.1)) (v.received a) (each_both (λ (d : Deed K.RuleCause (Arrival K)). IsTold v d.item) (λ (d : Deed K.RuleCause (Arrival K)). if_counted d.end (λ c. R.inspect d.item ≡ Some c)) (v.received a) arr (s.receivers a la).just))
          told_distinct

      -- the pipe of the key's processor
      of_other : (e : Pushed (Arrival K)) → Fed h e → eqb e.from a ≡ false → flat_map E (payload_of e.load) ≡ []
      of_other e f apart =
          flat_nothing E (payload_of e.load) (each_map (λ x m. other_link R a l mine x (subst (λ (q : ℕ). eqb q a ≡ false) (sym m.0) apart)) (payload_of e.load) f)

      second_in : flat_map E (done_items (v.worked h)) ≡ without first_drops (flat_map E (told v a))
      second_in =
          let law = s.workers h h_in in
          let g : Pushed (Arrival K) → List (Departure K) = λ e. flat_map E (payload_of e.load) in
          ap (λ (xs : List (Arrival K)). flat_map E xs) (sym law.took)
          ∙ (flat_flat E (λ (e : Pushed (Arrival K)). payload_of e.load) (v.taken h)
          ∙ (of_one g a (v.taken h) (each_map (λ e f. of_other e f) (v.taken h) (fed h h_in))
          ∙ (ap (λ (es : List (Pushed (Arrival K))). flat_map g es) (s.packets h a h_in la)
          ∙ (sym (flat_flat E (λ (e : Pushed (Arrival K)). payload_of e.load) (v.arrived a h))
          ∙ (ap (λ (xs : List (Arrival K)). flat_map E xs) (((s.receivers a la).tells h h_in).0)
          ∙ first)))))

      -- what a processor makes is seen as what is expected
      seen_right : (i : ℕ) (x : Arrival K) → IsKnown i x → flat_map S (to_link R Q x) ≡ E x
      seen_right i x f =
          onward R a l mine band (numbers_of mine (map (λ x. Arrived x) (told v a))) x (λ e. go (cases_eq x.link a) e) (λ y e m d. by_band x y f.1 m d)
        where
          go : (x.link ≡ a) ⊎ (x.link ≡ a → ⊥) → eqb x.link a ≡ true → numbers_of mine (map (λ x. Arrived x) (told v a)) x.number ≡ mine x
          go (inl q) e = told_is mine a 1 x (told v a) (s.receivers a la).numbered (subst (λ (q : ℕ). In x (told v q)) q f.1)
          go (inr q) e = absurd (let z : false ≡ true = sym (ne_eqb x.link a q) ∙ e in cc)

      abbrev second_drops : List ℕ
      second_drops = numbers (flat_map S (flat_map (refused (to_link R Q)) (v.worked h))) ++ numbers (flat_map (lacked E) (v.worked h))

      ruled : (d : Deed K.RuleCause (Arrival K)) → if_counted d.end (λ c. R.decide d.item ≡ Drops c) → is_counted d.end (E d.item ≡ [])
      ruled d j = go d.end j
        where
          go : (o : Ending K.RuleCause) → if_counted o (λ c. R.decide d.item ≡ Drops c) → is_counted o (E d.item ≡ [])
          go Accepted j = tt
          go Refused j = tt
          go Lacked j = tt
          go (Counted c) j = dropped_none d.item c j

      second : flat_map S (flat_map (accepted (to_link R Q)) (v.worked h)) ≡ without second_drops (without first_drops (flat_map E (told v a)))
      second =
          let law = s.workers h h_in in
          let d : Distinct (numbers (flat_map E (done_items (v.worked h)))) = subst (λ (xs : List (Departure K)). Distinct (numbers xs)) (sym second_in) (without_distinct first_drops (flat_map E (told v a)) told_distinct) in
          stage (to_link R Q) E S (v.worked h)
          (each_map (λ d f. (seen_right h d.item f.0, ruled d f.1)) (v.worked h) (each_both (λ (d : Deed K.RuleCause (Arrival K)). IsKnown h d.item) (λ (d : Deed K.RuleCause (Arrival K)). if_counted d.end (λ c. R.decide d.item ≡ Drops c)) (v.worked h) (known h h_in) law.just)) d
          ∙ ap (λ (xs : List (Departure K)). without second_drops xs) second_in

      -- the leaving link's pipe: nothing of these from other producers
      none_accepted : (d : Deed K.RuleCause (Arrival K)) → flat_map S (to_link R Q d.item) ≡ [] → flat_map S (accepted (to_link R Q) d) ≡ []
      none_accepted d n = go d.end
        where
          go : (o : Ending K.RuleCause) → flat_map S (if_accepted o (to_link R Q d.item)) ≡ []
          go Accepted = n
          go Refused = refl
          go Lacked = refl
          go (Counted c) = refl

      no_answer : (o : Outgoing K) → o.answer ≡ true → S o ≡ []
      no_answer o e = ap (λ (z : Bool). departure_if (eqb o.arrived a && (not z && numbers_of mine (map (λ x. Arrived x) (told v a)) o.number)) (record { number = o.number; parcel = o.parcel })) e ∙ go (eqb o.arrived a)
        where
          go : (b : Bool) → departure_if {K = K} (b && false) (record { number = o.number; parcel = o.parcel }) ≡ []
          go true = refl
          go false = refl

      not_mine : (i : ℕ) → (i ≡ h → ⊥) → (x : Arrival K) → R.processor (R.key x) ≡ i → mine x ≡ false
      not_mine i apart x at = go (mine x) refl
        where
          go : (b : Bool) → mine x ≡ b → b ≡ false
          go true e = absurd (apart (sym at ∙ ap R.processor (by_key x e)))
          go false e = refl

      another : (i : ℕ) → i < R.processors → (i ≡ h → ⊥) → flat_map S (payloads (of_producer i (v.forwarded Q))) ≡ []
      another i lt apart =
          let law = s.workers i lt in
          ap (λ (xs : List (Outgoing K)). flat_map S xs) (ap payloads (s.egress_packets Q i at_link lt) ∙ (law.tells Q at_link).0)
          ∙ (flat_flat S (accepted (to_link R Q)) (v.worked i)
          ∙ flat_nothing (λ d. flat_map S (accepted (to_link R Q) d)) (v.worked i)
          (each_map (λ d f. none_accepted d (seen_right i d.item f ∙ other_mine R a l mine d.item (not_mine i apart d.item f.2))) (v.worked i) (known i lt)))

      abbrev G : Pushed (Outgoing K) → List (Departure K)
      G e = flat_map S (payload_of e.load)

      others_none : (p : ℕ) → Each (λ (e : Pushed (Outgoing K)). eqb e.from h ≡ false → G e ≡ []) (of_producer p (v.forwarded Q))
      others_none p = go (cases_eq p h) (cases_lt p R.processors)
        where
          go : (p ≡ h) ⊎ (p ≡ h → ⊥) → (p < R.processors) ⊎ (R.processors ≤ p) → Each (λ (e : Pushed (Outgoing K)). eqb e.from h ≡ false → G e ≡ []) (of_producer p (v.forwarded Q))
          go (inl q) c = each_map (λ e n f. absurd (let z : true ≡ false = sym (eq-eqb e.from h (n ∙ q)) ∙ f in cc)) (of_producer p (v.forwarded Q)) (named p (v.forwarded Q))
          go (inr q) (inl lt) =
              let none : flat_map G (of_producer p (v.forwarded Q)) ≡ [] = sym (flat_flat S (λ (e : Pushed (Outgoing K)). payload_of e.load) (of_producer p (v.forwarded Q))) ∙ another p lt q in
              each_map (λ e n f. n) (of_producer p (v.forwarded Q)) (each_nothing G (of_producer p (v.forwarded Q)) none)
          go (inr q) (inr ge) =
              each_map (λ e n f. flat_nothing S (payload_of e.load) (each_map (λ o m. no_answer o m) (payload_of e.load) n)) (of_producer p (v.forwarded Q))
              (each_out (λ (o : Outgoing K). o.answer ≡ true) (λ (e : Pushed (Outgoing K)). payload_of e.load) (of_producer p (v.forwarded Q)) (s.egress_only Q p at_link ge))

      third_in : flat_map S (payloads (v.forwarded Q)) ≡ without second_drops (without first_drops (flat_map E (told v a)))
      third_in =
          flat_flat S (λ (e : Pushed (Outgoing K)). payload_of e.load) (v.forwarded Q)
          ∙ (of_one G h (v.forwarded Q) (by_producer (λ (e : Pushed (Outgoing K)). eqb e.from h ≡ false → G e ≡ []) (v.forwarded Q) others_none)
          ∙ (ap (λ (es : List (Pushed (Outgoing K))). flat_map G es) (s.egress_packets Q h at_link h_in)
          ∙ (sym (flat_flat S (λ (e : Pushed (Outgoing K)). payload_of e.load) (v.leaving h Q))
          ∙ (ap (λ (xs : List (Outgoing K)). flat_map S xs) (((s.workers h h_in).tells Q at_link).0)
          ∙ second))))

      -- handed and swept together are all that was taken
      all_taken : flat_map S (v.handed Q) ++ flat_map S (v.swept Q) ≡ flat_map S (payloads (v.forwarded Q))
      all_taken =
          let law = s.forwarders Q at_link in
          let pay : Pushed (Outgoing K) → List (Outgoing K) = λ e. payload_of e.load in
          sym (flat_map-append S (v.handed Q) (v.swept Q))
          ∙ rw (law.sent, law.after) (ap (λ (xs : List (Outgoing K)). flat_map S xs) (sym (flat_map-append pay (before_mark (v.forwarded Q)) (from_mark (v.forwarded Q))) ∙ ap payloads (split_mark (v.forwarded Q))))

      third : flat_map S (v.handed Q) ≡ without (numbers (flat_map S (v.swept Q))) (without second_drops (without first_drops (flat_map E (told v a))))
      third =
          let d : Distinct (numbers (flat_map S (v.handed Q) ++ flat_map S (v.swept Q))) =
          subst (λ (xs : List (Departure K)). Distinct (numbers xs)) (sym (all_taken ∙ third_in)) (without_distinct second_drops (without first_drops (flat_map E (told v a))) (without_distinct first_drops (flat_map E (told v a)) told_distinct)) in
          before_is (flat_map S (v.handed Q)) (flat_map S (v.swept Q)) d
          ∙ ap (λ (xs : List (Departure K)). without (numbers (flat_map S (v.swept Q))) xs) (all_taken ∙ third_in)

      drops_are : dropped R v a l Q h mine ≡ (first_drops ++ second_drops) ++ numbers (flat_map S (v.swept Q))
      drops_are = rw (((s.receivers a la).tells h h_in).1, ((s.workers h h_in).tells Q at_link).1) refl

      pub hands_in_order : HandsInOrder R v a l Q h mine
      hands_in_order =
          third
          ∙ (ap (λ (xs : List (Departure K)). without (numbers (flat_map S (v.swept Q))) xs) (sym (without-append first_drops second_drops (flat_map E (told v a))))
          ∙ (sym (without-append (first_drops ++ second_drops) (numbers (flat_map S (v.swept Q))) (flat_map E (told v a)))
          ∙ (ap (λ (ns : List ℕ). without ns (flat_map E (told v a))) (sym drops_are)
          ∙ ap (without (dropped R v a l Q h mine)) (expected_is R a l mine 1 (told v a) (s.receivers a la).numbered))))

      -- the link's other pipe
      abbrev N : ℕ
      N = link_pipe R (not band) l

      at_other : IsLinkPipe R N
      at_other = go (not band)
        where
          go : (b : Bool) → IsLinkPipe R (link_pipe R b l)
          go true = (omega arith, omega arith)
          go false = (omega arith, omega arith)

      seen_none : (i : ℕ) (x : Arrival K) → IsKnown i x → flat_map S (to_link R N x) ≡ []
      seen_none i x f =
          away R a l mine band (numbers_of mine (map (λ x. Arrived x) (told v a))) x (λ e. go (cases_eq x.link a) e) (λ y e m d. by_band x y f.1 m d)
        where
          go : (x.link ≡ a) ⊎ (x.link ≡ a → ⊥) → eqb x.link a ≡ true → numbers_of mine (map (λ x. Arrived x) (told v a)) x.number ≡ mine x
          go (inl q) e = told_is mine a 1 x (told v a) (s.receivers a la).numbered (subst (λ (q : ℕ). In x (told v q)) q f.1)
          go (inr q) e = absurd (let z : false ≡ true = sym (ne_eqb x.link a q) ∙ e in cc)

      none_pushed : (d : Deed K.RuleCause (Arrival K)) → flat_map S (to_link R N d.item) ≡ [] → flat_map S (accepted (to_link R N) d) ≡ []
      none_pushed d n = go d.end
        where
          go : (o : Ending K.RuleCause) → flat_map S (if_accepted o (to_link R N d.item)) ≡ []
          go Accepted = n
          go Refused = refl
          go Lacked = refl
          go (Counted c) = refl

      none_there : (p : ℕ) → Each (λ (e : Pushed (Outgoing K)). G e ≡ []) (of_producer p (v.forwarded N))
      none_there p = go (cases_lt p R.processors)
        where
          go : (p < R.processors) ⊎ (R.processors ≤ p) → Each (λ (e : Pushed (Outgoing K)). G e ≡ []) (of_producer p (v.forwarded N))
          go (inl lt) =
              let law = s.workers p lt in
              let none : flat_map G (of_producer p (v.forwarded N)) ≡ [] =
              sym (flat_flat S (λ (e : Pushed (Outgoing K)). payload_of e.load) (of_producer p (v.forwarded N)))
              ∙ (ap (λ (xs : List (Outgoing K)). flat_map S xs) (ap payloads (s.egress_packets N p at_other lt) ∙ (law.tells N at_other).0)
              ∙ (flat_flat S (accepted (to_link R N)) (v.worked p)
              ∙ flat_nothing (λ d. flat_map S (accepted (to_link R N) d)) (v.worked p) (each_map (λ d f. none_pushed d (seen_none p d.item f)) (v.worked p) (known p lt)))) in
              each_nothing G (of_producer p (v.forwarded N)) none
          go (inr ge) =
              each_map (λ e n. flat_nothing S (payload_of e.load) (each_map (λ o m. no_answer o m) (payload_of e.load) n)) (of_producer p (v.forwarded N))
              (each_out (λ (o : Outgoing K). o.answer ≡ true) (λ (e : Pushed (Outgoing K)). payload_of e.load) (of_producer p (v.forwarded N)) (s.egress_only N p at_other ge))

      pub never_handed : flat_map S (v.handed N) ≡ []
      never_handed =
          let law = s.forwarders N at_other in
          let pay : Pushed (Outgoing K) → List (Outgoing K) = λ e. payload_of e.load in
          let none : flat_map G (v.forwarded N) ≡ [] = flat_nothing G (v.forwarded N) (by_producer (λ (e : Pushed (Outgoing K)). G e ≡ []) (v.forwarded N) none_there) in
          let parts : flat_map G (before_mark (v.forwarded N)) ++ flat_map G (from_mark (v.forwarded N)) ≡ [] =
          sym (flat_map-append G (before_mark (v.forwarded N)) (from_mark (v.forwarded N))) ∙ (ap (λ (es : List (Pushed (Outgoing K))). flat_map G es) (split_mark (v.forwarded N)) ∙ none) in
          ap (λ (xs : List (Outgoing K)). flat_map S xs) law.sent
          ∙ (flat_flat S pay (before_mark (v.forwarded N)) ∙ front_none (flat_map G (before_mark (v.forwarded N))) (flat_map G (from_mark (v.forwarded N))) parts)

    open_none : (q : ℕ) → IsLinkPipe R q → v.shut q ≡ false → v.swept q ≡ []
    open_none q i o = let law = s.forwarders q i in law.after ∙ ap payloads (never_closed (v.forwarded q) (sym law.mark ∙ o))

    flow_band : (f : Flow K) (l : ℕ) (x : Arrival K) (y : K.Parcel) → IsTold v x → is_of R f x ≡ true → R.decide x ≡ Sends l y → (R.two_bands l && R.urgent_parcel y) ≡ (R.two_bands l && f.urgent)
    flow_band f l x y t h e = ap (λ (b : Bool). R.two_bands l && b) (lawful.bands x l y t e ∙ both_same f.urgent (R.urgent x) (and_parts _ _ h).1)

    flow_key : (f : Flow K) (x : Arrival K) → is_of R f x ≡ true → R.key x ≡ f.key
    flow_key f x h = lawful.keys (R.key x) f.key (and_parts _ _ h).0

    pub settles_order : SettlesInOrder R v
    settles_order = record {
      of_flow = λ a f l i j. hands_in_order a l (is_of R f) i j f.key (R.two_bands l && f.urgent) (flow_key f) (flow_band f l);
      of_key = λ a k l i j one. hands_in_order a l (has_key R k) i j k false (λ x h. lawful.keys (R.key x) k h) (λ x y t h e. ap (λ (b : Bool). b && R.urgent_parcel y) one);
      one_pipe = λ a f l i j. never_handed a l (is_of R f) i j f.key (R.two_bands l && f.urgent) (flow_key f) (flow_band f l);
      open_pipe = open_none;
    }

pub settles : (K : Kinds) → Settles K
settles K R v lawful s = settles_order R v lawful s
