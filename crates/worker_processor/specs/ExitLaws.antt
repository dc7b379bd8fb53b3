-- A processor and the slow path stay the same ones in each turn and post, and have ended when a turn says so.
use Rattle.std.proofs.Common.{◌≡◌, inl, inr, ℕ, ◌+◌, ◌*◌, Bool, true, false, ◌&&◌, if◌then◌else◌, Option, Some, None, refl, sym, ap, subst, ◌∙◌, arith}
use Rattle.atomic_table.specs.Seated.{TableId}
use Rattle.order_laws.specs.Item.{Arrival, Outgoing}
use Rattle.order_laws.specs.Rules.{Decision, Sends, Asks, Drops, Reply, Replies, Withholds}
use Rattle.order_laws.specs.Settled.{SlowPathRequest}
use Rattle.process_packet.specs.declared.cause.Cause.{Cause}
use Rattle.process_packet.specs.declared.cause.Cause.TheVariants as cause
use Rattle.process_packet.specs.declared.config.Config.{Config}
use Rattle.packet_ledger.specs.Share.{IsPosted}
use Rattle.packet_ledger.proofs.Posting.{posted_place}
use Rattle.router_rules.specs.Links.{has_two_bands}
use Rattle.router_rules.specs.Rules.{decided, is_urgent, kinds, replied}
use Rattle.router_rules.specs.declared.worker.Worker.{Worker}
use Rattle.ruled_pipe.specs.Consumer.{Taker}
use Rattle.ruled_pipe.specs.Gathered.{ends_in}
use Rattle.worker_laws.specs.Answers.{answer_to}
use Rattle.worker_parts.specs.Items.{asking}
use Rattle.worker_parts.specs.Outlet.{Offering}
use Rattle.worker_parts.specs.Outlets.{HaveEnded, are_used}
use Rattle.worker_processor.specs.Answering.{Answering, Answered, AfterReply, TakesRequest}
use Rattle.worker_processor.specs.Answering as answering
use Rattle.worker_processor.specs.Exits.{Leaving, DroppedAs, SentAs, pipe_for, with_links}
use Rattle.worker_processor.specs.Working.{Working, After, AskedAs, Takes, Worked, WorksOn, out, with_taker}
use Rattle.worker_processor.specs.Working as working
use Rattle.worker_parts.specs.declared.turn.Turn.{Turn}
use Rattle.worker_parts.specs.declared.turn.Turn.TheVariants.{Did, Quiet, Ended}
use Rattle.worker_parts.proofs.UsedLemmas.{used_high, used_low}
use Rattle.worker_parts.specs.Same.{AreSameEnds, IsSameEnd, IsSameTaker, end_self, ends_self, ends_then, taker_self}
use Rattle.worker_processor.specs.SameProcessor.{IsSameProcessor, ProcessorEnded, processor_self, processor_then}
use Rattle.worker_processor.specs.SameSlowPath.{IsSameSlowPath, SlowPathEnded, slow_self}
use Rattle.worker_parts.proofs.SameLemmas.{ends_as, gave_same, kept_same, mark_same, tried_same, all_there, both_there}

-- what leaves goes into a pipe that is used
used_pipe : (c : Config) (o : Outgoing kinds) → are_used c (pipe_for c o) ≡ true
used_pipe c o = go (has_two_bands c o.link) (is_urgent o.parcel.bytes) refl
  where
    go : (two urgent : Bool) → has_two_bands c o.link ≡ two → are_used c (2 * o.link + (if two && urgent then 1 else 0)) ≡ true
    go true true e = used_high (has_two_bands c) o.link ∙ e
    go true false e = ap (are_used c) (let z : 2 * o.link + 0 ≡ 2 * o.link = omega arith in z) ∙ used_low (has_two_bands c) o.link
    go false urgent e = ap (are_used c) (let z : 2 * o.link + 0 ≡ 2 * o.link = omega arith in z) ∙ used_low (has_two_bands c) o.link

-- the same ends, and the same row in the book; nothing else is asked of the buffers' pipes and counts
record IsSameSide (old new : Leaving) : Type 0 where
  config : new.config ≡ old.config
  links : AreSameEnds (are_used old.config) old.links new.links
  place : new.share.place ≡ old.share.place

side_self : (s : Leaving) → IsSameSide s s
side_self s = record { config = refl; links = ends_self (are_used s.config) s.links; place = refl }

side_as : (old new : Leaving) → new ≡ old → IsSameSide old new
side_as old new e = subst (λ (s : Leaving). IsSameSide old s) (sym e) (side_self old)

side_then : (a b c : Leaving) → IsSameSide a b → IsSameSide b c → IsSameSide a c
side_then a b c p q = record {
  config = q.config ∙ p.config;
  links = ends_then (are_used a.config) a.links b.links c.links p.links (subst (λ (g : Config). AreSameEnds (are_used g) b.links c.links) p.config q.links);
  place = q.place ∙ p.place;
}

drop_same : (link : ℕ) (why : Cause) (old new : Leaving) → DroppedAs link why old new → IsSameSide old new
drop_same link why old new is = record {
  config = ap (λ (s : Leaving). s.config) is.1;
  links = ends_as (are_used old.config) old.links new.links (ap (λ (s : Leaving). s.links) is.1);
  place = ap (λ (s : Leaving). s.share.place) is.1;
}

module _ (id : TableId) where
  sent_same : (o : Outgoing kinds) (old new : Leaving) → SentAs o old new → IsSameSide old new
  sent_same o old new (inl is) = record {
    config = ap (λ (s : Leaving). s.config) is.1;
    links = gave_same id (are_used old.config) (pipe_for old.config o) o old.links new.links (used_pipe old.config o) is.0;
    place = ap (λ (s : Leaving). s.share.place) is.1;
  }
  sent_same o old new (inr is) =
      let d = drop_same o.arrived cause.LinkFull (with_links new.links old) new is.1 in record {
        config = d.config;
        links = kept_same id (are_used old.config) (pipe_for old.config o) o old.links new.links (used_pipe old.config o) is.0;
        place = d.place;
      }

  asked_same : (q : SlowPathRequest kinds) (old new : Leaving) (slow slow' : Offering (SlowPathRequest kinds)) → AskedAs q old new slow slow' → IsSameSide old new × IsSameEnd slow.sender slow'.sender
  asked_same q old new slow slow' (inl is) = (side_as old new is.1, subst (λ (o : Offering (SlowPathRequest kinds)). IsSameEnd slow.sender o.sender) (sym is.0) (end_self slow.sender))
  asked_same q old new slow slow' (inr is) = (drop_same q.arrival.link cause.AnswerFull old new is.1, subst (λ (o : Offering (SlowPathRequest kinds)). IsSameEnd slow.sender o.sender) (sym is.0) (end_self slow.sender))

  after_same : (d : Decision kinds) (x : Arrival kinds) (old new : Leaving) (slow slow' : Offering (SlowPathRequest kinds)) → After d x old new slow slow' → IsSameSide old new × IsSameEnd slow.sender slow'.sender
  after_same (Sends l y) x old new slow slow' is = (sent_same (out x l y) old new is.0, subst (λ (o : Offering (SlowPathRequest kinds)). IsSameEnd slow.sender o.sender) (sym is.1) (end_self slow.sender))
  after_same (Asks p) x old new slow slow' is = asked_same (asking x p) old new slow slow' is
  after_same (Drops why) x old new slow slow' is = (drop_same x.link why old new is.0, subst (λ (o : Offering (SlowPathRequest kinds)). IsSameEnd slow.sender o.sender) (sym is.1) (end_self slow.sender))

  reply_same : (r : Reply kinds) (q : SlowPathRequest kinds) (old new : Leaving) → AfterReply r q old new → IsSameSide old new
  reply_same (Replies l y) q old new is = sent_same (answer_to q l y) old new is
  reply_same (Withholds why) q old new is = drop_same q.arrival.link why old new is

-- ---- a processor

module _ {G : Type 0} where
  pub processor_as : (old new : Working G) → new ≡ old → IsSameProcessor old new
  processor_as old new e = subst (λ (w : Working G). IsSameProcessor old w) (sym e) (processor_self old)

  -- another state of its pipe and hand
  takes_same : (t : Taker (Arrival kinds)) (hand : Option (Arrival kinds)) (w : Working G) → IsSameTaker w.taker t → IsSameProcessor w (with_taker t hand w)
  takes_same t hand w is = record { config = refl; index = refl; taker = is; slow = end_self w.slow.sender; links = ends_self (are_used w.side.config) w.side.links; place = refl }

  -- its own ends
  parts_same : (old new : Working G) → new.index ≡ old.index → IsSameTaker old.taker new.taker → IsSameEnd old.slow.sender new.slow.sender → IsSameSide old.side new.side → IsSameProcessor old new
  parts_same old new index taker slow side = record { config = side.config; index = index; taker = taker; slow = slow; links = side.links; place = side.place }

  module _ (answers : G → Worker → ℕ → ℕ → Bool → Type 0) where
    works_same : (turn : Turn) (x : Arrival kinds) (old new : Working G) → WorksOn answers turn x old new → IsSameProcessor old new
    works_same turn x old new (inl is) = processor_as old new is.2
    works_same turn x old new (inr is) =
        let passed = after_same old.taker.pipe (decided old.side.config x.datagram) x old.side new.side old.slow new.slow is.2 in
        parts_same old new (ap (λ (w : Working G). w.index) is.3) (subst (λ (t : Taker (Arrival kinds)). IsSameTaker old.taker t) (sym (ap (λ (w : Working G). w.taker) is.3)) (taker_self old.taker)) passed.1 passed.0

    works_on : (x : Arrival kinds) (old new : Working G) → WorksOn answers Ended x old new → ⊥
    works_on x old new (inl is) = absurd (let z : Ended ≡ Quiet = is.0 in cc)
    works_on x old new (inr is) = absurd (let z : Ended ≡ Did = is.0 in cc)

    took_same : (turn : Turn) (old new : Working G) → Takes answers turn old new → IsSameProcessor old new
    took_same turn old new (inl is) = subst (λ (w : Working G). IsSameProcessor old w) (sym is.1) (takes_same _ None old (refl, refl, refl))
    took_same turn old new (inr (inl is)) = subst (λ (w : Working G). IsSameProcessor old w) (sym is.3) (takes_same _ None old (refl, refl, refl))
    took_same turn old new (inr (inr is)) =
        let x = is.1 in let w = is.2 in
        processor_then old _ new (takes_same _ (Some x) old (refl, refl, refl)) (works_same turn x _ new w)

    took_on : (old new : Working G) → Takes answers Ended old new → ⊥
    took_on old new (inl is) = absurd (let z : Ended ≡ Quiet = is.0 in cc)
    took_on old new (inr (inl is)) = absurd (let z : Ended ≡ Did = is.2 in cc)
    took_on old new (inr (inr is)) = works_on is.1 _ new is.2

    module _ (old new : Working G) where
      pub worked_same : (turn : Turn) → Worked answers turn old new → IsSameProcessor old new
      worked_same turn (inl is) = works_same turn is.0 old new is.2
      worked_same turn (inr (inl is)) =
          let e = is.2 in let tried = e.1 in let same = e.2 in
          parts_same old new (ap (λ (w : Working G). w.index) same) (subst (λ (t : Taker (Arrival kinds)). IsSameTaker old.taker t) (sym (ap (λ (w : Working G). w.taker) same)) (taker_self old.taker)) (mark_same old.slow new.slow e.0)
          (record { config = ap (λ (w : Working G). w.side.config) same; links = tried_same (are_used old.side.config) old.side.links new.side.links tried.1.tried; place = ap (λ (w : Working G). w.side.share.place) same })
      worked_same turn (inr (inr is)) = took_same turn old new is.2

      pub worked_ended : Worked answers Ended old new → ProcessorEnded new
      worked_ended (inl is) = absurd (works_on is.0 old new is.2)
      worked_ended (inr (inl is)) =
          let e = is.2 in let tried = e.1 in let same = e.2 in
          let all = both_there new.slow.ended tried.0 (are_used old.side.config) new.side.links tried.2 tried.1.there in record {
            done = ap (λ (w : Working G). ends_in w.taker.taken) same ∙ is.1 ∙ sym (ap (λ (w : Working G). w.taker.producers) same);
            hand = ap (λ (w : Working G). w.hand) same ∙ is.0;
            slow = all.0;
            links = subst (λ (g : Config). HaveEnded (are_used g) new.side.links) (sym (ap (λ (w : Working G). w.side.config) same)) all.1;
          }
      worked_ended (inr (inr is)) = absurd (took_on old new is.2)

  pub processor_posted : (old new : Working G) → IsPosted old.side.share new.side.share → new ≡ working.posted new.side.share old → IsSameProcessor old new
  processor_posted old new is e =
      subst (λ (w : Working G). IsSameProcessor old w) (sym e)
      (record { config = refl; index = refl; taker = taker_self old.taker; slow = end_self old.slow.sender; links = ends_self (are_used old.side.config) old.side.links; place = posted_place old.side.share new.side.share is })

  pub processor_still : (old new : Working G) → new ≡ working.posted new.side.share old → ProcessorEnded old → ProcessorEnded new
  processor_still old new e is = subst (λ (w : Working G). ProcessorEnded w) (sym e) (record { done = is.done; hand = is.hand; slow = is.slow; links = is.links })

-- ---- the slow path

pub slow_as : (old new : Answering) → new ≡ old → IsSameSlowPath old new
slow_as old new e = subst (λ (a : Answering). IsSameSlowPath old a) (sym e) (slow_self old)

slow_parts : (old new : Answering) → IsSameTaker old.taker new.taker → IsSameSide old.side new.side → IsSameSlowPath old new
slow_parts old new taker side = record { config = side.config; taker = taker; links = side.links; place = side.place }

request_same : (turn : Turn) (old new : Answering) → TakesRequest turn old new → IsSameSlowPath old new
request_same turn old new (inl is) = subst (λ (a : Answering). IsSameSlowPath old a) (sym is.1) (slow_parts old _ (refl, refl, refl) (side_self old.side))
request_same turn old new (inr (inl is)) = subst (λ (a : Answering). IsSameSlowPath old a) (sym is.3) (slow_parts old _ (refl, refl, refl) (side_self old.side))
request_same turn old new (inr (inr is)) =
    let q = is.1 in
    slow_parts old new (subst (λ (t : Taker (SlowPathRequest kinds)). IsSameTaker old.taker t) (sym (ap (λ (a : Answering). a.taker) is.4)) (refl, refl, refl)) (reply_same old.taker.pipe (replied old.side.config q.arrival.datagram q.problem) q old.side new.side is.3)

request_on : (old new : Answering) → TakesRequest Ended old new → ⊥
request_on old new (inl is) = absurd (let z : Ended ≡ Quiet = is.0 in cc)
request_on old new (inr (inl is)) = absurd (let z : Ended ≡ Did = is.2 in cc)
request_on old new (inr (inr is)) = absurd (let z : Ended ≡ Did = is.2 in cc)

pub answered_same : (turn : Turn) (old new : Answering) → Answered turn old new → IsSameSlowPath old new
answered_same turn old new (inl is) =
    let tried = is.1.1 in let same = is.1.3 in
    slow_parts old new (subst (λ (t : Taker (SlowPathRequest kinds)). IsSameTaker old.taker t) (sym (ap (λ (a : Answering). a.taker) same)) (taker_self old.taker))
    (record { config = ap (λ (a : Answering). a.side.config) same; links = tried_same (are_used old.side.config) old.side.links new.side.links tried.tried; place = ap (λ (a : Answering). a.side.share.place) same })
answered_same turn old new (inr is) = request_same turn old new is.1

pub answered_ended : (old new : Answering) → Answered Ended old new → SlowPathEnded new
answered_ended old new (inl is) =
    let e = is.1 in let same = e.3 in record {
      done = ap (λ (a : Answering). ends_in a.taker.taken) same ∙ is.0 ∙ sym (ap (λ (a : Answering). a.taker.producers) same);
      links =
          subst (λ (g : Config). HaveEnded (are_used g) new.side.links) (sym (ap (λ (a : Answering). a.side.config) same))
          (all_there e.0 (are_used old.side.config) new.side.links e.2 e.1.there);
    }
answered_ended old new (inr is) = absurd (request_on old new is.1)

pub slow_posted : (old new : Answering) → IsPosted old.side.share new.side.share → new ≡ answering.posted new.side.share old → IsSameSlowPath old new
slow_posted old new is e =
    subst (λ (a : Answering). IsSameSlowPath old a) (sym e)
    (record { config = refl; taker = taker_self old.taker; links = ends_self (are_used old.side.config) old.side.links; place = posted_place old.side.share new.side.share is })

pub slow_still : (old new : Answering) → new ≡ answering.posted new.side.share old → SlowPathEnded old → SlowPathEnded new
slow_still old new e is = subst (λ (a : Answering). SlowPathEnded a) (sym e) (record { done = is.done; links = is.links })
