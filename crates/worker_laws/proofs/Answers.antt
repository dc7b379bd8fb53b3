-- One turn of the slow path keeps its law.
use Rattle.std.proofs.Common.{◌≡◌, ◌⊎◌, inl, inr, ℕ, ◌<◌, Bool, true, false, eqb, List, [], ◌∷◌, ◌++◌, length, Some, slice_get, slice_index_or, slice_set, refl, sym, ◌∙◌, ap, subst, arith, append-nil}
use Rattle.std.proofs.lemmas.Bool.{cases_eq, ne_eqb, eq-eqb}
use Rattle.ruled_pipe.specs.declared.entry.Entry.{Entry}
use Rattle.ruled_pipe.specs.declared.entry.Load.TheVariants.{Payload}
use Rattle.ruled_pipe.specs.Producer.{Sender, entry, offered, refused}
use Rattle.ruled_pipe.specs.Consumer.{Taker, took, looked}
use Rattle.order_laws.specs.Kinds.{Kinds}
use Rattle.order_laws.specs.Item.{Outgoing, Out}
use Rattle.order_laws.specs.Rules.{Rules, Reply, Replies, Withholds}
use Rattle.order_laws.specs.Pipes.{home}
use Rattle.order_laws.specs.Deeds.{payload_of, payloads, Ending, Accepted, Refused, Counted, Deed}
use Rattle.order_laws.specs.Settled.{if_so, SlowPathRequest}
use Rattle.order_laws.specs.Counted.{place_of}
use Rattle.order_laws.proofs.Turns.{each_more}
use Rattle.worker_laws.specs.Ends.{load_in, pushes, refusals_in, IsGrown}
use Rattle.worker_laws.specs.Marks.{EachHasTried}
use Rattle.worker_laws.specs.Works.{SentOn, TurnedAway, deed, LacksNothing}
use Rattle.worker_laws.specs.Answers.{answer_to, replied_out, to_back, is_answered, IsAnswered, IsWithheld, Answered, KeepsAnswers}
use Rattle.worker_laws.proofs.Works.{set_length, got_same, got_other, a_default, grown_none, grown_yes, grown_no, grown_tells, tried_tells, taken_more, items_more}

module _ {K : Kinds} (R : Rules K) (x : SlowPathRequest K) (old : List (Sender (Outgoing K))) where
  module _ (k l : ℕ) (y : K.Parcel) (replies : R.reply x.arrival x.problem ≡ Replies l y) (at : home R (Out (answer_to x l y)) ≡ place_of R k) (some : 0 < length old) where
    abbrev d : Sender (Outgoing K)
    d = a_default old some

    abbrev s : Sender (Outgoing K)
    s = slice_index_or old k d

    abbrev o : Outgoing K
    o = answer_to x l y

    to : (j : ℕ) (b : Bool) → eqb (home R (Out o)) (place_of R j) ≡ b → to_back R (place_of R j) x ≡ if_so b (o ∷ [])
    to j b q = ap (λ (r : Reply K). replied_out R (place_of R j) x r) replies ∙ ap (λ (c : Bool). if_so c (o ∷ [])) q

    one : (e : Ending K.RuleCause) (t : Sender (Outgoing K)) → IsGrown (to_back R (place_of R k)) (deed x e) s t → (j : ℕ) (u : Sender (Outgoing K)) → slice_get (slice_set old k t) j ≡ Some u
        → (j ≡ k) ⊎ (j ≡ k → ⊥) → (w : Sender (Outgoing K)) × (slice_get old j ≡ Some w) × IsGrown (to_back R (place_of R j)) (deed x e) w u
    one e t g j u q (inl same) =
        let w = got_same old k t u d (subst (λ (i : ℕ). slice_get (slice_set old k t) i ≡ Some u) same q) in
        subst (λ (i : ℕ). (w : Sender (Outgoing K)) × (slice_get old i ≡ Some w) × IsGrown (to_back R (place_of R i)) (deed x e) w u) (sym same)
        (s, w.1, subst (λ (z : Sender (Outgoing K)). IsGrown (to_back R (place_of R k)) (deed x e) s z) w.0 g)
    one e t g j u q (inr other) =
        (u, got_other old k j t u other q, grown_none K.RuleCause (to_back R (place_of R j)) x u e (to j false (ne_eqb (home R (Out o)) (place_of R j) (λ z. let w = sym at ∙ z in other (omega arith)))))

    made : to_back R (place_of R k) x ≡ o ∷ []
    made = to k true (eq-eqb (home R (Out o)) (place_of R k) at)

    pub did_reply : (new : List (Sender (Outgoing K))) → SentOn k o old new → Answered R (deed x Accepted) old new
    did_reply new sent = record {
      just = tt;
      answered = subst is_answered (sym replies) tt;
      ample = tt;
      links = λ j t got. one Accepted (offered s (entry s.number (Payload o))) (grown_yes K.RuleCause (to_back R (place_of R k)) x s o made) j t (subst (λ (xs : List (Sender (Outgoing K))). slice_get xs j ≡ Some t) (sent d) got) (cases_eq j k);
      same = ap length (sent d) ∙ set_length old k (offered s (entry s.number (Payload o)));
    }

    pub did_not_reply : (new : List (Sender (Outgoing K))) → TurnedAway k o old new → Answered R (deed x Refused) old new
    did_not_reply new sent = record {
      just = tt;
      answered = subst is_answered (sym replies) tt;
      ample = tt;
      links = λ j t got. one Refused (refused s (entry s.number (Payload o))) (grown_no K.RuleCause (to_back R (place_of R k)) x s o made) j t (subst (λ (xs : List (Sender (Outgoing K))). slice_get xs j ≡ Some t) (sent d) got) (cases_eq j k);
      same = ap length (sent d) ∙ set_length old k (refused s (entry s.number (Payload o)));
    }

  pub did_withhold : (c : K.RuleCause) → R.reply x.arrival x.problem ≡ Withholds c → Answered R (deed x (Counted c)) old old
  did_withhold c withholds = record {
    just = withholds;
    answered = tt;
    ample = tt;
    links = λ j t at. (t, at, grown_none K.RuleCause (to_back R (place_of R j)) x t (Counted c) (ap (λ (r : Reply K). replied_out R (place_of R j) x r) withholds));
    same = refl;
  }

module _ {K : Kinds} (R : Rules K) where
  -- nothing is done yet
  pub answers_none : (taker : Taker (SlowPathRequest K)) (senders : List (Sender (Outgoing K))) → taker.taken ≡ [] → ((j : ℕ) (s : Sender (Outgoing K)) → slice_get senders j ≡ Some s → (s.offers ≡ []) × (s.refusals ≡ [])) → KeepsAnswers R [] taker senders
  answers_none taker senders untaken fresh = record {
    took = ap (λ es. payloads (pushes es)) untaken;
    just = tt;
    answered = tt;
    ample = tt;
    links = λ j s at. let f = fresh j s at in (ap (λ es. payloads (pushes es)) f.0, ap refusals_in f.1);
  }

  -- a request is taken and worked on
  pub answers_did : (log : List (Deed K.RuleCause (SlowPathRequest K))) (d : Deed K.RuleCause (SlowPathRequest K)) (e : Entry (SlowPathRequest K)) (taker : Taker (SlowPathRequest K)) (old new : List (Sender (Outgoing K))) → payload_of (load_in e.load) ≡ d.item ∷ [] → KeepsAnswers R log taker old → Answered R d old new → KeepsAnswers R (log ++ d ∷ []) (took taker e) new
  answers_did log d e taker old new is k w = record {
    took = taken_more taker.taken e ∙ ap (λ ys. payloads (pushes taker.taken) ++ ys) is ∙ ap (λ ys. ys ++ d.item ∷ []) k.took ∙ sym (items_more log d);
    just = each_more (IsWithheld R) log (d) k.just w.just;
    answered = each_more (IsAnswered R) log (d) k.answered w.answered;
    ample = each_more (λ (d : Deed K.RuleCause (SlowPathRequest K)). LacksNothing d.end) log (d) k.ample w.ample;
    links = λ j t at. let u = w.links j t at in grown_tells (to_back R (place_of R j)) log (d) u.0 t (k.links j u.0 u.1) u.2;
  }

  -- a mark is no deed
  pub answers_mark : (log : List (Deed K.RuleCause (SlowPathRequest K))) (e : Entry (SlowPathRequest K)) (taker : Taker (SlowPathRequest K)) (senders : List (Sender (Outgoing K))) → payload_of (load_in e.load) ≡ [] → KeepsAnswers R log taker senders → KeepsAnswers R log (took taker e) senders
  answers_mark log e taker senders is k = record {
    took = taken_more taker.taken e ∙ ap (λ ys. payloads (pushes taker.taken) ++ ys) is ∙ append-nil (payloads (pushes taker.taken)) ∙ k.took;
    just = k.just;
    answered = k.answered;
    ample = k.ample;
    links = k.links;
  }

  -- an empty look is none
  pub answers_looked : (log : List (Deed K.RuleCause (SlowPathRequest K))) (taker : Taker (SlowPathRequest K)) (senders : List (Sender (Outgoing K))) → KeepsAnswers R log taker senders → KeepsAnswers R log (looked taker) senders
  answers_looked log taker senders k = record { took = k.took; just = k.just; answered = k.answered; ample = k.ample; links = k.links }

  -- marks that were tried are none
  pub answers_tried : (log : List (Deed K.RuleCause (SlowPathRequest K))) (taker : Taker (SlowPathRequest K)) (old new : List (Sender (Outgoing K))) → EachHasTried old new → KeepsAnswers R log taker old → KeepsAnswers R log taker new
  answers_tried log taker old new tried k = record {
    took = k.took;
    just = k.just;
    answered = k.answered;
    ample = k.ample;
    links = λ j t at. let u = tried.1 j t at in tried_tells (to_back R (place_of R j)) log u.0 t u.2 (k.links j u.0 u.1);
  }
