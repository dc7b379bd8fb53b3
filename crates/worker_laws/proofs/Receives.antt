-- One turn of a receiver keeps its law.
use Rattle.std.proofs.Common.{◌≡◌, ◌⊎◌, inl, inr, ℕ, ◌+◌, ◌<◌, Bool, List, [], ◌∷◌, ◌++◌, length, Some, None, slice_get, slice_index_or, slice_set, refl, sym, ◌∙◌, ap, subst, arith, append-nil}
use Rattle.std.proofs.lemmas.Bool.{cases_eq, ne_eqb, eq-eqb}
use Rattle.ruled_pipe.specs.declared.entry.Load.TheVariants.{Payload}
use Rattle.ruled_pipe.specs.Producer.{Sender, entry, offered, refused}
use Rattle.order_laws.specs.Kinds.{Kinds}
use Rattle.order_laws.specs.Item.{Arrival}
use Rattle.order_laws.specs.Rules.{Rules}
use Rattle.order_laws.specs.Deeds.{Ending, Accepted, Refused, Lacked, Counted, if_accepted, if_refused, Deed, payloads, done_items}
use Rattle.order_laws.specs.Settled.{if_so, to_processor, AreNumbered}
use Rattle.order_laws.proofs.Sums.{total-append}
use Rattle.order_laws.proofs.Turns.{each_more, numbered_more}
use Rattle.worker_laws.specs.Ends.{pushes, refusals_in, IsGrown}
use Rattle.worker_laws.specs.Marks.{EachHasTried}
use Rattle.worker_laws.specs.Works.{SentOn, TurnedAway, deed}
use Rattle.worker_laws.specs.Receives.{IsSeen, IsClear, lacks, was_lacked, Passed, KeepsReceiver}
use Rattle.worker_laws.proofs.Works.{set_length, got_same, got_other, a_default, grown_none, grown_yes, grown_no, grown_tells, tried_tells, items_more}

module _ {K : Kinds} (R : Rules K) (x : Arrival K) (old : List (Sender (Arrival K))) where
  module _ (k : ℕ) (clear : R.inspect x ≡ None) (at : R.processor (R.key x) ≡ k) (some : 0 < length old) where
    abbrev d : Sender (Arrival K)
    d = a_default old some

    abbrev s : Sender (Arrival K)
    s = slice_index_or old k d

    one : (e : Ending K.RuleCause) (t : Sender (Arrival K)) → IsGrown (to_processor R k) (deed x e) s t → (j : ℕ) (u : Sender (Arrival K)) → slice_get (slice_set old k t) j ≡ Some u
        → (j ≡ k) ⊎ (j ≡ k → ⊥) → (w : Sender (Arrival K)) × (slice_get old j ≡ Some w) × IsGrown (to_processor R j) (deed x e) w u
    one e t g j u q (inl same) =
        let w = got_same old k t u d (subst (λ (i : ℕ). slice_get (slice_set old k t) i ≡ Some u) same q) in
        subst (λ (i : ℕ). (w : Sender (Arrival K)) × (slice_get old i ≡ Some w) × IsGrown (to_processor R i) (deed x e) w u) (sym same)
        (s, w.1, subst (λ (z : Sender (Arrival K)). IsGrown (to_processor R k) (deed x e) s z) w.0 g)
    one e t g j u q (inr other) =
        (u, got_other old k j t u other q, grown_none K.RuleCause (to_processor R j) x u e (ap (λ (b : Bool). if_so b (x ∷ [])) (ne_eqb (R.processor (R.key x)) j (λ z. other (sym z ∙ at)))))

    made : to_processor R k x ≡ x ∷ []
    made = ap (λ (b : Bool). if_so b (x ∷ [])) (eq-eqb (R.processor (R.key x)) k at)

    pub passed_on : (new : List (Sender (Arrival K))) → SentOn k x old new → Passed R (deed x Accepted) old new
    passed_on new sent = record {
      just = tt;
      clear = clear;
      ends = λ j t got. one Accepted (offered s (entry s.number (Payload x))) (grown_yes K.RuleCause (to_processor R k) x s x made) j t (subst (λ (xs : List (Sender (Arrival K))). slice_get xs j ≡ Some t) (sent d) got) (cases_eq j k);
      same = ap length (sent d) ∙ set_length old k (offered s (entry s.number (Payload x)));
    }

    pub passed_full : (new : List (Sender (Arrival K))) → TurnedAway k x old new → Passed R (deed x Refused) old new
    passed_full new sent = record {
      just = tt;
      clear = clear;
      ends = λ j t got. one Refused (refused s (entry s.number (Payload x))) (grown_no K.RuleCause (to_processor R k) x s x made) j t (subst (λ (xs : List (Sender (Arrival K))). slice_get xs j ≡ Some t) (sent d) got) (cases_eq j k);
      same = ap length (sent d) ∙ set_length old k (refused s (entry s.number (Payload x)));
    }

lost_none : {K : Kinds} (R : Rules K) (i : ℕ) (x : Arrival K) (s : Sender (Arrival K)) (o : Ending K.RuleCause) → if_accepted o (to_processor R i x) ≡ [] → if_refused o (to_processor R i x) ≡ [] → IsGrown (to_processor R i) (deed x o) s s
lost_none R i x s o a r = ([], [], sym (append-nil s.offers), sym (append-nil s.refusals), sym a, sym r)

-- no buffer was there
pub passed_none : {K : Kinds} (R : Rules K) (x : Arrival K) (old : List (Sender (Arrival K))) → R.inspect x ≡ None → Passed R (deed x Lacked) old old
passed_none R x old clear = record { just = tt; clear = clear; ends = λ i t at. (t, at, lost_none R i x t Lacked refl refl); same = refl }

pub passed_fault : {K : Kinds} (R : Rules K) (x : Arrival K) (c : K.RuleCause) (old : List (Sender (Arrival K))) → R.inspect x ≡ Some c → Passed R (deed x (Counted c)) old old
passed_fault R x c old is = record { just = is; clear = tt; ends = λ i t at. (t, at, lost_none R i x t (Counted c) refl refl); same = refl }

pub keeps_passed : {K : Kinds} (R : Rules K) (a : ℕ) (log : List (Deed K.RuleCause (Arrival K))) (d : Deed K.RuleCause (Arrival K)) (old new : List (Sender (Arrival K)))
    → d.item.link ≡ a → d.item.number ≡ 1 + length (done_items log) → KeepsReceiver R a log old → Passed R d old new → KeepsReceiver R a (log ++ d ∷ []) new
keeps_passed R a log d old new link number k w = record {
  numbered = subst (λ (xs : List (Arrival _)). AreNumbered a 1 xs) (sym (items_more log d)) (numbered_more a 1 (done_items log) d.item k.numbered link number);
  just = each_more (IsSeen R) log d k.just w.just;
  clear = each_more (IsClear R) log d k.clear w.clear;
  ends = λ i t at. let u = w.ends i t at in grown_tells (to_processor R i) log d u.0 t (k.ends i u.0 u.1) u.2;
}

-- nothing was numbered yet
pub receives_none : {K : Kinds} (R : Rules K) (a : ℕ) (senders : List (Sender (Arrival K))) → ((i : ℕ) (s : Sender (Arrival K)) → slice_get senders i ≡ Some s → (s.offers ≡ []) × (s.refusals ≡ [])) → KeepsReceiver R a [] senders
receives_none R a senders fresh = record {
  numbered = tt;
  just = tt;
  clear = tt;
  ends = λ i s at. let f = fresh i s at in (ap (λ es. payloads (pushes es)) f.0, ap refusals_in f.1);
}

-- marks that were tried are no deeds
pub receives_tried : {K : Kinds} (R : Rules K) (a : ℕ) (log : List (Deed K.RuleCause (Arrival K))) (old new : List (Sender (Arrival K))) → EachHasTried old new → KeepsReceiver R a log old → KeepsReceiver R a log new
receives_tried R a log old new tried k = record {
  numbered = k.numbered;
  just = k.just;
  clear = k.clear;
  ends = λ i t at. let u = tried.1 i t at in tried_tells (to_processor R i) log u.0 t u.2 (k.ends i u.0 u.1);
}

-- one deed more
pub lacks_more : {C X : Type 0} (log : List (Deed C X)) (d : Deed C X) → lacks (log ++ d ∷ []) ≡ lacks log + was_lacked d.end
lacks_more log d = let t = total-append (λ d. was_lacked d.end) log (d ∷ []) in omega arith
