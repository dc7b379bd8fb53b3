-- One turn of the slow path keeps its law.
use Rattle.std.proofs.Common.{◌≡◌, inl, inr, ℕ, ◌<◌, Bool, List, [], length, Option, Some, refl, sym, ap, subst, ◌∙◌, arith}
use Rattle.packet_ledger.specs.Share.{Held, IsNew, IsPosted}
use Rattle.order_laws.specs.Item.{Outgoing}
use Rattle.order_laws.specs.Rules.{Rules, Reply, Replies, Withholds}
use Rattle.order_laws.specs.Deeds.{payload_of, Accepted, Refused, Counted}
use Rattle.order_laws.specs.Settled.{SlowPathRequest}
use Rattle.process_packet.specs.declared.cause.Cause.{Cause}
use Rattle.process_packet.specs.declared.config.Config.{Config}
use Rattle.worker_order.specs.Keeping.{IsAnswering}
use Rattle.worker_order.proofs.Keeping.{slow_none, slow_did, slow_mark, slow_looked, slow_tried, slow_posted}
use Rattle.router_rules.specs.Rules.{kinds, replied, rules}
use Rattle.ruled_pipe.specs.declared.entry.Load.TheVariants.{Payload, Marked}
use Rattle.ruled_pipe.specs.declared.entry.Mark.{Mark}
use Rattle.ruled_pipe.specs.declared.entry.Mark.TheVariants as mark
use Rattle.ruled_pipe.specs.Consumer.{Taker, looked, took}
use Rattle.ruled_pipe.specs.Gathered.{ends_in}
use Rattle.ruled_pipe.specs.Producer.{entry}
use Rattle.worker_laws.specs.Answers.{answer_to}
use Rattle.worker_laws.specs.Ends.{load_in}
use Rattle.worker_laws.specs.Works.{deed}
use Rattle.worker_laws.proofs.Answers.{did_reply, did_not_reply, did_withhold}
use Rattle.worker_parts.specs.Outlet.{Offering}
use Rattle.worker_parts.specs.Outlets.{AreFresh, AreUnended, Trying, senders}
use Rattle.worker_parts.proofs.Marks.{ends_more}
use Rattle.worker_parts.proofs.EndLemmas.{gave_sent, kept_away, gave_open, kept_open, senders_long, tried_each, fresh_open, fresh_senders}
use Rattle.worker_processor.specs.Exits.{Leaving, DroppedAs, SentAs, pipe_for, with_links, with_share}
use Rattle.worker_processor.specs.Answering.{AfterReply, KeepsAnswering, RepliedTo}
use Rattle.worker_processor.proofs.WorkingLemmas.{home_is}

module _ (taker : Taker (SlowPathRequest kinds)) (q : SlowPathRequest kinds) (from : ℕ) (old : Leaving) (some : 0 < length old.links) (k : IsAnswering old.config taker (senders old.links) old.share) where
  abbrev R : Rules kinds
  R = rules old.config

  abbrev after : Taker (SlowPathRequest kinds)
  after = took taker (entry from (Payload q))

  abbrev W : Leaving → Type 0
  W new = IsAnswering new.config after (senders new.links) new.share

  some_senders : 0 < length (senders old.links)
  some_senders = let l = senders_long old.links in omega arith

  sent : (l : ℕ) (y : kinds.Parcel) → replied old.config q.arrival.datagram q.problem ≡ Replies l y → (new : Leaving) → SentAs (answer_to q l y) old new → W new
  sent l y is new (inl s) =
      let o = answer_to q l y in
      let d = did_reply R q (senders old.links) (pipe_for old.config o) l y is (home_is old.config o) some_senders (senders new.links) (gave_sent (pipe_for old.config o) o old.links new.links s.0) in
      subst W (sym s.1) (slow_did old.config taker (senders old.links) (senders new.links) old.share (deed q Accepted) (entry from (Payload q)) refl d k)
  sent l y is new (inr s) =
      let o = answer_to q l y in
      let d = did_not_reply R q (senders old.links) (pipe_for old.config o) l y is (home_is old.config o) some_senders (senders new.links) (kept_away (pipe_for old.config o) o old.links new.links s.0) in
      subst W (sym s.1.1) (slow_did old.config taker (senders old.links) (senders new.links) old.share (deed q Refused) (entry from (Payload q)) refl d k)

  dropped : (why : Cause) → replied old.config q.arrival.datagram q.problem ≡ Withholds why → (new : Leaving) → DroppedAs q.arrival.link why old new → W new
  dropped why is new d =
      subst W (sym d.1) (slow_did old.config taker (senders old.links) (senders old.links) old.share (deed q (Counted why)) (entry from (Payload q)) refl (did_withhold R q (senders old.links) why is) k)

  after_works : (r : Reply kinds) → replied old.config q.arrival.datagram q.problem ≡ r → (new : Leaving) → AfterReply r q old new → W new
  after_works (Replies l y) is new a = sent l y is new a
  after_works (Withholds why) is new a = dropped why is new a

  pub replied_works : (new : Leaving) → RepliedTo q old new → W new
  replied_works new p = after_works (replied old.config q.arrival.datagram q.problem) refl new p

-- the ends stay open, and the configuration the same
module _ (q : SlowPathRequest kinds) (old : Leaving) (some : 0 < length old.links) (is : AreUnended old.links) where
  same_open : (new : Leaving) → new.links ≡ old.links → AreUnended new.links
  same_open new e = subst (λ (ls : List (Offering (Outgoing kinds))). AreUnended ls) (sym e) is

  after_open : (r : Reply kinds) (new : Leaving) → AfterReply r q old new → AreUnended new.links × (new.config ≡ old.config)
  after_open (Replies l y) new (inl s) =
      let o = answer_to q l y in
      (gave_open (pipe_for old.config o) o old.links new.links some is s.0, ap (λ (n : Leaving). n.config) s.1)
  after_open (Replies l y) new (inr s) =
      let o = answer_to q l y in
      (kept_open (pipe_for old.config o) o old.links new.links some is s.0, ap (λ (n : Leaving). n.config) s.1.1)
  after_open (Withholds why) new d = (same_open new (ap (λ (n : Leaving). n.links) d.1), ap (λ (n : Leaving). n.config) d.1)

-- nothing was taken yet
pub keeps_first : (named : Option Config) (taker : Taker (SlowPathRequest kinds)) (side : Leaving) → named ≡ Some side.config → taker.taken ≡ [] → AreFresh side.links → IsNew side.share → KeepsAnswering named taker side
keeps_first named taker side config untaken fresh unraised = record {
  config = config;
  law = subst (λ (s : Held). IsAnswering side.config taker (senders side.links) s) (sym unraised) (slow_none side.config side.share.place taker (senders side.links) untaken (fresh_senders side.links fresh));
  unended = λ lt. fresh_open side.links fresh;
}

module _ (named : Option Config) (taker : Taker (SlowPathRequest kinds)) (side : Leaving) (k : KeepsAnswering named taker side) where
  -- a request was taken and answered
  pub keeps_replied : (from : ℕ) (q : SlowPathRequest kinds) (new : Leaving) → ends_in taker.taken < taker.producers → 0 < length side.links → RepliedTo q side new → KeepsAnswering named (took taker (entry from (Payload q))) new
  keeps_replied from q new lt some p =
      let after = after_open q side some (k.unended lt) (replied side.config q.arrival.datagram q.problem) new p in
      record {
        config = k.config ∙ ap Some (sym after.1);
        law = replied_works taker q from side some k.law new p;
        unended = λ more. after.0;
      }

  -- nothing was there to be taken
  pub keeps_looked : KeepsAnswering named (looked taker) side
  keeps_looked = record { config = k.config; law = slow_looked side.config taker (senders side.links) (senders side.links) side.share k.law; unended = k.unended }

  -- a mark was taken
  no_payload : (m : Mark) → payload_of {X = SlowPathRequest kinds} (load_in (Marked m)) ≡ []
  no_payload mark.Close = refl
  no_payload mark.End = refl

  pub keeps_mark : (from : ℕ) (m : Mark) → KeepsAnswering named (took taker (entry from (Marked m))) side
  keeps_mark from m = record {
    config = k.config;
    law = slow_mark side.config taker (senders side.links) (senders side.links) side.share (entry from (Marked m)) (no_payload m) k.law;
    unended = λ lt. k.unended (let e = ends_more taker.taken (entry from (Marked m)) in omega arith);
  }

  -- end marks were tried
  pub keeps_ending : (picks : ℕ → Bool) (all : Bool) (new : Leaving) → ends_in taker.taken ≡ taker.producers → Trying picks side.links new.links all → new ≡ with_links new.links side → KeepsAnswering named taker new
  keeps_ending picks all new done tried same = record {
    config = k.config ∙ ap Some (sym (ap (λ (n : Leaving). n.config) same));
    law =
        subst (λ (n : Leaving). IsAnswering n.config taker (senders n.links) n.share) (sym same)
        (slow_tried side.config taker (senders side.links) (senders new.links) side.share (tried_each picks side.links new.links tried.tried) k.law);
    unended = λ lt. absurd (omega arith);
  }

  -- a post
  pub keeps_posted : (new : Leaving) → IsPosted side.share new.share → new ≡ with_share new.share side → KeepsAnswering named taker new
  keeps_posted new (inl is) is_shared =
      subst (λ (n : Leaving). KeepsAnswering named taker n) (sym (is_shared ∙ ap (λ (s : Held). with_share s side) is.1))
      (record { config = k.config; law = slow_posted side.config taker (senders side.links) (senders side.links) side.share k.law; unended = k.unended })
  keeps_posted new (inr is) is_shared = subst (λ (n : Leaving). KeepsAnswering named taker n) (sym (is_shared ∙ ap (λ (s : Held). with_share s side) is.1)) k
