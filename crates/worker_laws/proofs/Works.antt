-- One turn of a processor keeps its law.
use Rattle.std.proofs.Common.{◌≡◌, ◌⊎◌, inl, inr, ℕ, zero, suc, ◌<◌, Bool, true, false, eqb, List, [], ◌∷◌, ◌++◌, length, Option, Some, None, slice_get, slice_index_or, slice_set, refl, sym, ◌∙◌, ap, subst, arith, append-nil}
use Rattle.std.specs.List.{flat_map}
use Rattle.std.proofs.lemmas.Bool.{cases_eq, ne_eqb, eq-eqb}
use Rattle.std.proofs.lemmas.Grind.{flat_map-append}
use Rattle.std.proofs.lemmas.List.{map-append}
use Rattle.ruled_pipe.specs.declared.entry.Entry.{Entry}
use Rattle.ruled_pipe.specs.declared.entry.Load.TheVariants.{Payload, Marked}
use Rattle.ruled_pipe.specs.declared.entry.Mark.{Mark}
use Rattle.ruled_pipe.specs.declared.entry.Mark.TheVariants as mark
use Rattle.ruled_pipe.specs.declared.entry.Refusal.{Refusal}
use Rattle.ruled_pipe.specs.Producer.{Sender, entry, offered, refused}
use Rattle.ruled_pipe.specs.Consumer.{Taker, took, looked}
use Rattle.order_laws.specs.Kinds.{Kinds}
use Rattle.order_laws.specs.Item.{Arrival, Outgoing, Out}
use Rattle.order_laws.specs.Rules.{Rules, Decision, Sends, Asks, Drops}
use Rattle.order_laws.specs.Pipes.{home}
use Rattle.order_laws.specs.Deeds.{Pushed, payload_of, Ending, Accepted, Refused, Lacked, Counted, if_accepted, if_refused, Deed, done_items, payloads, Tells}
use Rattle.order_laws.specs.Settled.{if_so, SlowPathRequest, sent_out, asked_of, to_link, to_slow}
use Rattle.order_laws.specs.Counted.{place_of}
use Rattle.order_laws.proofs.Turns.{tells_more, tells_mark, each_more}
use Rattle.worker_laws.specs.Ends.{mark_in, load_in, pushed_in, pushes, refusals_in, EndTells, IsGrown}
use Rattle.worker_laws.specs.Marks.{HasTried, EachHasTried}
use Rattle.worker_laws.specs.Works.{SentOn, TurnedAway, leaves, IsJust, IsOffered, LacksNothing, deed, Did, Keeps}

module _ {X : Type 0} where
  some_is : (x y : X) → Some x ≡ Some y → x ≡ y
  some_is x y e = cc

  pub set_length : (xs : List X) (k : ℕ) (x : X) → length (slice_set xs k x) ≡ length xs
  set_length [] k x = refl
  set_length (y ∷ ys) zero x = omega arith
  set_length (y ∷ ys) (suc k) x = let r = set_length ys k x in omega arith

  pub got_same : (xs : List X) (k : ℕ) (x t d : X) → slice_get (slice_set xs k x) k ≡ Some t → (x ≡ t) × (slice_get xs k ≡ Some (slice_index_or xs k d))
  got_same [] k x t d e = absurd cc
  got_same (y ∷ ys) zero x t d e = (some_is x t e, refl)
  got_same (y ∷ ys) (suc k) x t d e = got_same ys k x t d e

  pub got_other : (xs : List X) (k l : ℕ) (x t : X) → (l ≡ k → ⊥) → slice_get (slice_set xs k x) l ≡ Some t → slice_get xs l ≡ Some t
  got_other [] k l x t n e = e
  got_other (y ∷ ys) zero zero x t n e = absurd (n refl)
  got_other (y ∷ ys) zero (suc l) x t n e = e
  got_other (y ∷ ys) (suc k) zero x t n e = e
  got_other (y ∷ ys) (suc k) (suc l) x t n e = got_other ys k l x t (λ q. n (ap suc q)) e

  pub a_default : (xs : List X) → 0 < length xs → X
  a_default [] lt = absurd (omega arith)
  a_default (x ∷ xs) lt = x

-- entries as the laws read them
module _ {Y : Type 0} where
  pub payloads_are : (es : List (Entry Y)) → flat_map (λ (e : Entry Y). payload_of (load_in e.load)) es ≡ flat_map (λ e. payload_of e.load) (pushes es)
  payloads_are [] = refl
  payloads_are (e ∷ es) = ap (λ (ys : List Y). payload_of (load_in e.load) ++ ys) (payloads_are es)

module _ {C X Y : Type 0} where
  pub grown_tells : (makes : X → List Y) (log : List (Deed C X)) (d : Deed C X) (s t : Sender Y) → EndTells makes log s → IsGrown makes d s t → EndTells makes (log ++ d ∷ []) t
  grown_tells makes log d s t tells g =
      let offers = sym (ap pushes g.2 ∙ map-append pushed_in s.offers g.0) in
      let told = sym (ap refusals_in g.3 ∙ flat_map-append (λ (r : Refusal Y). payload_of (load_in r.entry.load)) s.refusals g.1) in
      let more = tells_more makes log d (pushes s.offers) (pushes g.0) (refusals_in s.refusals) (refusals_in g.1) tells (sym (payloads_are g.0) ∙ g.4) g.5 in
      subst (λ es. Tells makes (log ++ d ∷ []) es (refusals_in t.refusals)) offers
      (subst (λ rs. Tells makes (log ++ d ∷ []) (pushes s.offers ++ pushes g.0) rs) told more)

module _ (C : Type 0) {X Y : Type 0} (makes : X → List Y) (x : X) (s : Sender Y) where
  abbrev did : Ending C → Deed C X
  did o = record { item = x; end = o }

  pub grown_none : (o : Ending C) → makes x ≡ [] → IsGrown makes (did o) s s
  grown_none o e = ([], [], sym (append-nil s.offers), sym (append-nil s.refusals), sym (a o), sym (r o))
    where
      a : (o : Ending C) → if_accepted o (makes x) ≡ []
      a Accepted = e
      a Refused = refl
      a Lacked = refl
      a (Counted c) = refl

      r : (o : Ending C) → if_refused o (makes x) ≡ []
      r Accepted = refl
      r Refused = e
      r Lacked = refl
      r (Counted c) = refl

  pub grown_yes : (y : Y) → makes x ≡ y ∷ [] → IsGrown makes (did Accepted) s (offered s (entry s.number (Payload y)))
  grown_yes y e = (entry s.number (Payload y) ∷ [], [], refl, sym (append-nil s.refusals), sym e, refl)

  pub grown_no : (y : Y) → makes x ≡ y ∷ [] → IsGrown makes (did Refused) s (refused s (entry s.number (Payload y)))
  grown_no y e = ([], record { entry = entry s.number (Payload y); before = length s.offers } ∷ [], sym (append-nil s.offers), refl, refl, sym e)

module _ {K : Kinds} (R : Rules K) (x : Arrival K) (old : List (Sender (Outgoing K))) (slow : Sender (SlowPathRequest K)) where
  abbrev pub leaving : ℕ → K.Parcel → Outgoing K
  leaving l y = record { arrived = x.link; number = x.number; answer = false; link = l; parcel = y }

  module _ (k l : ℕ) (y : K.Parcel) (sends : R.decide x ≡ Sends l y) (at : home R (Out (leaving l y)) ≡ place_of R k) (some : 0 < length old) where
    abbrev d : Sender (Outgoing K)
    d = a_default old some

    abbrev s : Sender (Outgoing K)
    s = slice_index_or old k d

    abbrev o : Outgoing K
    o = leaving l y

    to : (j : ℕ) (b : Bool) → eqb (home R (Out o)) (place_of R j) ≡ b → to_link R (place_of R j) x ≡ if_so b (o ∷ [])
    to j b q = ap (λ (r : Decision K). sent_out R (place_of R j) x r) sends ∙ ap (λ (c : Bool). if_so c (o ∷ [])) q

    asks : (e : Ending K.RuleCause) → IsGrown (to_slow R) (deed x e) slow slow
    asks e = grown_none K.RuleCause (to_slow R) x slow e (ap (λ (r : Decision K). asked_of x r) sends)

    one : (e : Ending K.RuleCause) (t : Sender (Outgoing K)) → IsGrown (to_link R (place_of R k)) (deed x e) s t → (j : ℕ) (u : Sender (Outgoing K)) → slice_get (slice_set old k t) j ≡ Some u
        → (j ≡ k) ⊎ (j ≡ k → ⊥) → (w : Sender (Outgoing K)) × (slice_get old j ≡ Some w) × IsGrown (to_link R (place_of R j)) (deed x e) w u
    one e t g j u q (inl same) =
        let w = got_same old k t u d (subst (λ (i : ℕ). slice_get (slice_set old k t) i ≡ Some u) same q) in
        subst (λ (i : ℕ). (w : Sender (Outgoing K)) × (slice_get old i ≡ Some w) × IsGrown (to_link R (place_of R i)) (deed x e) w u) (sym same)
        (s, w.1, subst (λ (z : Sender (Outgoing K)). IsGrown (to_link R (place_of R k)) (deed x e) s z) w.0 g)
    one e t g j u q (inr other) =
        (u, got_other old k j t u other q, grown_none K.RuleCause (to_link R (place_of R j)) x u e (to j false (ne_eqb (home R (Out o)) (place_of R j) (λ z. let w = sym at ∙ z in other (omega arith)))))

    made : to_link R (place_of R k) x ≡ o ∷ []
    made = to k true (eq-eqb (home R (Out o)) (place_of R k) at)

    pub did_send : (new : List (Sender (Outgoing K))) → SentOn k o old new → Did R (deed x Accepted) old new slow slow
    did_send new sent = record {
      just = tt;
      offers = subst leaves (sym sends) tt;
      ample = tt;
      links = λ j t got. one Accepted (offered s (entry s.number (Payload o))) (grown_yes K.RuleCause (to_link R (place_of R k)) x s o made) j t (subst (λ (xs : List (Sender (Outgoing K))). slice_get xs j ≡ Some t) (sent d) got) (cases_eq j k);
      asks = asks Accepted;
      same = ap length (sent d) ∙ set_length old k (offered s (entry s.number (Payload o)));
    }

    pub did_refuse : (new : List (Sender (Outgoing K))) → TurnedAway k o old new → Did R (deed x Refused) old new slow slow
    did_refuse new sent = record {
      just = tt;
      offers = subst leaves (sym sends) tt;
      ample = tt;
      links = λ j t got. one Refused (refused s (entry s.number (Payload o))) (grown_no K.RuleCause (to_link R (place_of R k)) x s o made) j t (subst (λ (xs : List (Sender (Outgoing K))). slice_get xs j ≡ Some t) (sent d) got) (cases_eq j k);
      asks = asks Refused;
      same = ap length (sent d) ∙ set_length old k (refused s (entry s.number (Payload o)));
    }

  module _ (p : K.Problem) (is : R.decide x ≡ Asks p) where
    unsent : (e : Ending K.RuleCause) (j : ℕ) (t : Sender (Outgoing K)) → slice_get old j ≡ Some t → (s : Sender (Outgoing K)) × (slice_get old j ≡ Some s) × IsGrown (to_link R (place_of R j)) (deed x e) s t
    unsent e j t at = (t, at, grown_none K.RuleCause (to_link R (place_of R j)) x t e (ap (λ (r : Decision K). sent_out R (place_of R j) x r) is))

    abbrev pub request : SlowPathRequest K
    request = record { arrival = x; problem = p }

    asked : to_slow R x ≡ request ∷ []
    asked = ap (λ (r : Decision K). asked_of x r) is

    pub did_ask : Did R (deed x Accepted) old old slow (offered slow (entry slow.number (Payload request)))
    did_ask = record { just = tt; offers = subst leaves (sym is) tt; ample = tt; links = unsent Accepted; asks = grown_yes K.RuleCause (to_slow R) x slow request asked; same = refl }

    pub did_not_ask : Did R (deed x Refused) old old slow (refused slow (entry slow.number (Payload request)))
    did_not_ask = record { just = tt; offers = subst leaves (sym is) tt; ample = tt; links = unsent Refused; asks = grown_no K.RuleCause (to_slow R) x slow request asked; same = refl }

  pub did_drop : (c : K.RuleCause) → R.decide x ≡ Drops c → Did R (deed x (Counted c)) old old slow slow
  did_drop c drops = record {
    just = drops;
    offers = tt;
    ample = tt;
    links = λ j t at. (t, at, grown_none K.RuleCause (to_link R (place_of R j)) x t (Counted c) (ap (λ (r : Decision K). sent_out R (place_of R j) x r) drops));
    asks = grown_none K.RuleCause (to_slow R) x slow (Counted c) (ap (λ (r : Decision K). asked_of x r) drops);
    same = refl;
  }

-- a mark, offered or refused, tells nothing of a packet
no_payload : {Y : Type 0} (m : Mark) → payload_of {X = Y} (load_in (Marked m)) ≡ []
no_payload mark.Close = refl
no_payload mark.End = refl

pub tried_tells : {C X Y : Type 0} (makes : X → List Y) (log : List (Deed C X)) (s t : Sender Y) → HasTried s t → EndTells makes log s → EndTells makes log t
tried_tells {Y = Y} makes log s t (inl same) tells = subst (λ (u : Sender Y). EndTells makes log u) (sym same) tells
tried_tells {Y = Y} makes log s t (inr (m, inl is)) tells =
    let e : Entry Y = entry s.number (Marked m) in
    let none : payloads (pushes (e ∷ [])) ≡ [] = append-nil (payload_of (mark_in m)) ∙ no_payload m in
    let more = tells_mark makes log (pushes s.offers) (pushes (e ∷ [])) (refusals_in s.refusals) [] tells none refl in
    let offers = sym (map-append pushed_in s.offers (e ∷ [])) in
    subst (λ (u : Sender Y). EndTells makes log u) (sym is)
    (subst (λ es. Tells makes log es (refusals_in s.refusals)) offers (subst (λ rs. Tells makes log (pushes s.offers ++ pushes (e ∷ [])) rs) (append-nil (refusals_in s.refusals)) more))
tried_tells {Y = Y} makes log s t (inr (m, inr is)) tells =
    let e : Entry Y = entry s.number (Marked m) in
    let r : Refusal Y = record { entry = e; before = length s.offers } in
    let none : refusals_in (r ∷ []) ≡ [] = append-nil (payload_of (mark_in m)) ∙ no_payload m in
    let told = sym (flat_map-append (λ (r : Refusal Y). payload_of (load_in r.entry.load)) s.refusals (r ∷ []) ∙ ap (λ (ys : List Y). refusals_in s.refusals ++ ys) none ∙ append-nil (refusals_in s.refusals)) in
    subst (λ (u : Sender Y). EndTells makes log u) (sym is) (subst (λ rs. Tells makes log (pushes s.offers) rs) told tells)

module _ {X : Type 0} where
  -- what was taken, one entry more
  pub taken_more : (taken : List (Entry X)) (e : Entry X) → payloads (pushes (taken ++ e ∷ [])) ≡ payloads (pushes taken) ++ payload_of (load_in e.load)
  taken_more taken e =
      ap payloads (map-append pushed_in taken (e ∷ [])) ∙ flat_map-append (λ (p : Pushed X). payload_of p.load) (pushes taken) (pushed_in e ∷ []) ∙ ap (λ (ys : List X). payloads (pushes taken) ++ ys) (append-nil (payload_of (load_in e.load)))

module _ {C X : Type 0} where
  pub items_more : (log : List (Deed C X)) (d : Deed C X) → done_items (log ++ d ∷ []) ≡ done_items log ++ d.item ∷ []
  items_more log d = map-append (λ (d : Deed C X). d.item) log (d ∷ [])

module _ {K : Kinds} (R : Rules K) where
  -- nothing is done yet
  pub keeps_none : (taker : Taker (Arrival K)) (senders : List (Sender (Outgoing K))) (slow : Sender (SlowPathRequest K)) → taker.taken ≡ [] → ((j : ℕ) (s : Sender (Outgoing K)) → slice_get senders j ≡ Some s → (s.offers ≡ []) × (s.refusals ≡ []))
      → (slow.offers ≡ []) × (slow.refusals ≡ []) → Keeps R [] taker None senders slow
  keeps_none taker senders slow untaken fresh asks = record {
    took = ap (λ es. payloads (pushes es)) untaken;
    just = tt;
    offers = tt;
    ample = tt;
    links = λ j s at. let f = fresh j s at in (ap (λ es. payloads (pushes es)) f.0, ap refusals_in f.1);
    asks = (ap (λ es. payloads (pushes es)) asks.0, ap refusals_in asks.1);
  }

  -- a packet is taken in hand
  pub keeps_taken : (log : List (Deed K.RuleCause (Arrival K))) (x : Arrival K) (e : Entry (Arrival K)) (taker : Taker (Arrival K)) (senders : List (Sender (Outgoing K))) (slow : Sender (SlowPathRequest K))
      → payload_of (load_in e.load) ≡ x ∷ [] → Keeps R log taker None senders slow → Keeps R log (took taker e) (Some x) senders slow
  keeps_taken log x e taker senders slow is k = record {
    took = taken_more taker.taken e ∙ ap (λ ys. payloads (pushes taker.taken) ++ ys) is ∙ ap (λ ys. ys ++ x ∷ []) (k.took ∙ append-nil (done_items log));
    just = k.just;
    offers = k.offers;
    ample = k.ample;
    links = k.links;
    asks = k.asks;
  }

  -- the packet in hand is worked on
  pub keeps_worked : (log : List (Deed K.RuleCause (Arrival K))) (d : Deed K.RuleCause (Arrival K)) (taker : Taker (Arrival K)) (old new : List (Sender (Outgoing K))) (slow slow' : Sender (SlowPathRequest K)) → Keeps R log taker (Some d.item) old slow → Did R d old new slow slow' → Keeps R (log ++ d ∷ []) taker None new slow'
  keeps_worked log d taker old new slow slow' k w = record {
    took = k.took ∙ sym (items_more log d) ∙ sym (append-nil (done_items (log ++ d ∷ [])));
    just = each_more (IsJust R) log (d) k.just w.just;
    offers = each_more (IsOffered R) log (d) k.offers w.offers;
    ample = each_more (λ (d : Deed K.RuleCause (Arrival K)). LacksNothing d.end) log (d) k.ample w.ample;
    links = λ j t at. let u = w.links j t at in grown_tells (to_link R (place_of R j)) log (d) u.0 t (k.links j u.0 u.1) u.2;
    asks = grown_tells (to_slow R) log (d) slow slow' k.asks w.asks;
  }

  -- a packet is taken and worked on
  pub keeps_did : (log : List (Deed K.RuleCause (Arrival K))) (d : Deed K.RuleCause (Arrival K)) (e : Entry (Arrival K)) (taker : Taker (Arrival K)) (old new : List (Sender (Outgoing K))) (slow slow' : Sender (SlowPathRequest K))
      → payload_of (load_in e.load) ≡ d.item ∷ [] → Keeps R log taker None old slow → Did R d old new slow slow' → Keeps R (log ++ d ∷ []) (took taker e) None new slow'
  keeps_did log d e taker old new slow slow' is k w = keeps_worked log d (took taker e) old new slow slow' (keeps_taken log d.item e taker old slow is k) w

  -- a mark is no deed
  pub keeps_mark : (log : List (Deed K.RuleCause (Arrival K))) (e : Entry (Arrival K)) (taker : Taker (Arrival K)) (senders : List (Sender (Outgoing K))) (slow : Sender (SlowPathRequest K))
      → payload_of (load_in e.load) ≡ [] → Keeps R log taker None senders slow → Keeps R log (took taker e) None senders slow
  keeps_mark log e taker senders slow is k = record {
    took = taken_more taker.taken e ∙ ap (λ ys. payloads (pushes taker.taken) ++ ys) is ∙ append-nil (payloads (pushes taker.taken)) ∙ k.took;
    just = k.just;
    offers = k.offers;
    ample = k.ample;
    links = k.links;
    asks = k.asks;
  }

  -- an empty look is none
  pub keeps_looked : (log : List (Deed K.RuleCause (Arrival K))) (taker : Taker (Arrival K)) (hand : Option (Arrival K)) (senders : List (Sender (Outgoing K))) (slow : Sender (SlowPathRequest K)) → Keeps R log taker hand senders slow → Keeps R log (looked taker) hand senders slow
  keeps_looked log taker hand senders slow k = record { took = k.took; just = k.just; offers = k.offers; ample = k.ample; links = k.links; asks = k.asks }

  -- marks that were tried are none
  pub keeps_tried : (log : List (Deed K.RuleCause (Arrival K))) (taker : Taker (Arrival K)) (hand : Option (Arrival K)) (old new : List (Sender (Outgoing K))) (slow slow' : Sender (SlowPathRequest K)) → EachHasTried old new → HasTried slow slow'
      → Keeps R log taker hand old slow → Keeps R log taker hand new slow'
  keeps_tried log taker hand old new slow slow' tried asked k = record {
    took = k.took;
    just = k.just;
    offers = k.offers;
    ample = k.ample;
    links = λ j t at. let u = tried.1 j t at in tried_tells (to_link R (place_of R j)) log u.0 t u.2 (k.links j u.0 u.1);
    asks = tried_tells (to_slow R) log slow slow' asked k.asks;
  }

-- an offer leaves as many ends
pub sent_length : {Y : Type 0} (k : ℕ) (y : Y) (old new : List (Sender Y)) → 0 < length old → SentOn k y old new ⊎ TurnedAway k y old new → length new ≡ length old
sent_length k y old new some (inl sent) =
    let d = a_default old some in let s = slice_index_or old k d in ap length (sent d) ∙ set_length old k (offered s (entry s.number (Payload y)))
sent_length k y old new some (inr sent) =
    let d = a_default old some in let s = slice_index_or old k d in ap length (sent d) ∙ set_length old k (refused s (entry s.number (Payload y)))
