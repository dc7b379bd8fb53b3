-- One turn of a processor keeps its law.
use Rattle.std.proofs.Common.{◌≡◌, inl, inr, ℕ, ◌+◌, ◌*◌, ◌<◌, Bool, false, cond, ◌&&◌, List, [], ◌∷◌, length, Option, Some, None, is_some, refl, sym, ap, subst, ◌∙◌, arith}
use Rattle.packet_ledger.specs.Share.{Held, IsNew, IsPosted}
use Rattle.order_laws.specs.Item.{Arrival, Outgoing, Out}
use Rattle.order_laws.specs.Rules.{Rules, Decision, Sends, Asks, Drops}
use Rattle.order_laws.specs.Pipes.{home, slow_seat}
use Rattle.order_laws.specs.Cause.{Cause as Fate}
use Rattle.order_laws.specs.Deeds.{payload_of, Accepted, Refused, Counted}
use Rattle.order_laws.specs.Settled.{SlowPathRequest}
use Rattle.order_laws.specs.Counted.{place_of}
use Rattle.process_packet.specs.declared.cause.Cause.{Cause}
use Rattle.process_packet.specs.declared.config.Config.{Config}
use Rattle.worker_order.specs.Keeping.{IsWorking}
use Rattle.worker_order.specs.Shares.{raise_all}
use Rattle.worker_order.proofs.Keeping.{works_none, works_taken, works_did, works_mark, works_looked, works_tried, works_posted}
use Rattle.router_rules.specs.Links.{has_two_bands}
use Rattle.router_rules.specs.Rules.{decided, is_urgent, kinds, rules}
use Rattle.router_rules.specs.declared.worker.Worker.{Worker}
use Rattle.ruled_pipe.specs.declared.entry.Load.TheVariants.{Payload, Marked}
use Rattle.ruled_pipe.specs.declared.entry.Mark.{Mark}
use Rattle.ruled_pipe.specs.declared.entry.Mark.TheVariants as mark
use Rattle.ruled_pipe.specs.Consumer.{Taker, looked, took}
use Rattle.ruled_pipe.specs.Gathered.{ends_in}
use Rattle.ruled_pipe.specs.Producer.{entry}
use Rattle.worker_laws.specs.Counting.{dropped_by, full_by}
use Rattle.worker_laws.specs.Ends.{load_in}
use Rattle.worker_laws.specs.Works.{deed}
use Rattle.worker_laws.proofs.Works.{did_send, did_refuse, did_ask, did_not_ask, did_drop}
use Rattle.worker_parts.specs.Items.{asking}
use Rattle.worker_parts.specs.Outlet.{Offering, Tried, gave, kept}
use Rattle.worker_parts.specs.Outlets.{AreFresh, AreUnended, Trying, senders}
use Rattle.worker_parts.specs.declared.turn.Turn.{Turn}
use Rattle.worker_parts.proofs.Marks.{ends_more}
use Rattle.worker_parts.proofs.EndLemmas.{gave_sent, kept_away, gave_open, kept_open, senders_long, tried_each, tried_once, fresh_open, fresh_senders}
use Rattle.worker_processor.specs.Exits.{Leaving, DroppedAs, SentAs, pipe_for, with_links, with_share}
use Rattle.worker_processor.specs.Working.{After, AskedAs, KeepsWorking, PassedOn, Worked, Working, WorksFor, WorksOn, out, with_taker}

-- the place of a link's pipe, as the pipeline numbers them
pub home_is : (c : Config) (o : Outgoing kinds) → home (rules c) (Out o) ≡ place_of (rules c) (pipe_for c o)
home_is c o = go (slow_seat (rules c)) o.link (cond (has_two_bands c o.link && is_urgent o.parcel.bytes) 1 0)
  where
    go : (s l b : ℕ) → s + 1 + 2 * l + b ≡ s + 1 + (2 * l + b)
    go s l b = omega arith

module _ (taker : Taker (Arrival kinds)) (x : Arrival kinds) (old : Leaving) (slow : Offering (SlowPathRequest kinds)) (some : 0 < length old.links) (k : IsWorking old.config taker (Some x) (senders old.links) slow.sender old.share) where
  abbrev R : Rules kinds
  R = rules old.config

  abbrev W : Leaving → Offering (SlowPathRequest kinds) → Type 0
  W new slow' = IsWorking new.config taker None (senders new.links) slow'.sender new.share

  some_senders : 0 < length (senders old.links)
  some_senders = let l = senders_long old.links in omega arith

  sent : (l : ℕ) (y : kinds.Parcel) → decided old.config x.datagram ≡ Sends l y → (new : Leaving) → SentAs (out x l y) old new → W new slow
  sent l y is new (inl s) =
      let o = out x l y in
      let d = did_send R x (senders old.links) slow.sender (pipe_for old.config o) l y is (home_is old.config o) some_senders (senders new.links) (gave_sent (pipe_for old.config o) o old.links new.links s.0) in
      subst (λ (n : Leaving). W n slow) (sym s.1) (works_did old.config taker (senders old.links) (senders new.links) slow.sender slow.sender old.share (deed x Accepted) d k)
  sent l y is new (inr s) =
      let o = out x l y in
      let d = did_refuse R x (senders old.links) slow.sender (pipe_for old.config o) l y is (home_is old.config o) some_senders (senders new.links) (kept_away (pipe_for old.config o) o old.links new.links s.0) in
      let law = works_did old.config taker (senders old.links) (senders new.links) slow.sender slow.sender old.share (deed x Refused) d k in
      subst (λ (n : Leaving). W n slow) (sym s.1.1)
      (subst (λ (r : Decision kinds). IsWorking old.config taker None (senders new.links) slow.sender (raise_all (dropped_by {K = kinds} (full_by r) Fate.NoMemory Refused) old.share)) is law)

  asked : (p : kinds.Problem) → decided old.config x.datagram ≡ Asks p → (new : Leaving) (slow' : Offering (SlowPathRequest kinds)) → AskedAs (asking x p) old new slow slow' → W new slow'
  asked p is new slow' (inl a) =
      let law = works_did old.config taker (senders old.links) (senders old.links) slow.sender (gave slow (asking x p)).sender old.share (deed x Accepted) (did_ask R x (senders old.links) slow.sender p is) k in
      subst (λ (n : Leaving). W n slow') (sym a.1) (subst (λ (s : Offering (SlowPathRequest kinds)). W old s) (sym a.0) law)
  asked p is new slow' (inr a) =
      let law = works_did old.config taker (senders old.links) (senders old.links) slow.sender (kept slow (asking x p)).sender old.share (deed x Refused) (did_not_ask R x (senders old.links) slow.sender p is) k in
      let counted = subst (λ (r : Decision kinds). IsWorking old.config taker None (senders old.links) (kept slow (asking x p)).sender (raise_all (dropped_by {K = kinds} (full_by r) Fate.NoMemory Refused) old.share)) is law in
      subst (λ (n : Leaving). W n slow') (sym a.1.1)
      (subst (λ (s : Offering (SlowPathRequest kinds)). W (record { config = old.config; links = old.links; free = new.free; share = raise_all (dropped_by {K = kinds} (full_by {K = kinds} (Asks p)) Fate.NoMemory Refused) old.share }) s) (sym a.0) counted)

  dropped : (why : Cause) → decided old.config x.datagram ≡ Drops why → (new : Leaving) → DroppedAs x.link why old new → W new slow
  dropped why is new d =
      subst (λ (n : Leaving). W n slow) (sym d.1)
      (works_did old.config taker (senders old.links) (senders old.links) slow.sender slow.sender old.share (deed x (Counted why)) (did_drop R x (senders old.links) slow.sender why is) k)

  after_works : (d : Decision kinds) → decided old.config x.datagram ≡ d → (new : Leaving) (slow' : Offering (SlowPathRequest kinds)) → After d x old new slow slow' → W new slow'
  after_works (Sends l y) is new slow' a = subst (λ (s : Offering (SlowPathRequest kinds)). W new s) (sym a.1) (sent l y is new a.0)
  after_works (Asks p) is new slow' a = asked p is new slow' a
  after_works (Drops why) is new slow' a = subst (λ (s : Offering (SlowPathRequest kinds)). W new s) (sym a.1) (dropped why is new a.0)

  pub passed_works : (new : Leaving) (slow' : Offering (SlowPathRequest kinds)) → PassedOn x old new slow slow' → W new slow'
  passed_works new slow' p = after_works (decided old.config x.datagram) refl new slow' p

-- the ends stay open, and the configuration the same
module _ (x : Arrival kinds) (old : Leaving) (slow : Offering (SlowPathRequest kinds)) (some : 0 < length old.links) (is : AreUnended old.links) (going : slow.ended ≡ false) where
  sent_open : (o : Outgoing kinds) (new : Leaving) → SentAs o old new → AreUnended new.links × (new.config ≡ old.config)
  sent_open o new (inl s) = (gave_open (pipe_for old.config o) o old.links new.links some is s.0, ap (λ (n : Leaving). n.config) s.1)
  sent_open o new (inr s) = (kept_open (pipe_for old.config o) o old.links new.links some is s.0, ap (λ (n : Leaving). n.config) s.1.1)

  same_open : (new : Leaving) → new.links ≡ old.links → AreUnended new.links
  same_open new e = subst (λ (ls : List (Offering (Outgoing kinds))). AreUnended ls) (sym e) is

  after_open : (d : Decision kinds) (new : Leaving) (slow' : Offering (SlowPathRequest kinds)) → After d x old new slow slow' → AreUnended new.links × (slow'.ended ≡ false) × (new.config ≡ old.config)
  after_open (Sends l y) new slow' a = let s = sent_open (out x l y) new a.0 in (s.0, ap (λ (o : Offering (SlowPathRequest kinds)). o.ended) a.1 ∙ going, s.1)
  after_open (Asks p) new slow' (inl a) = (same_open new (ap (λ (n : Leaving). n.links) a.1), ap (λ (o : Offering (SlowPathRequest kinds)). o.ended) a.0 ∙ going, ap (λ (n : Leaving). n.config) a.1)
  after_open (Asks p) new slow' (inr a) = (same_open new (ap (λ (n : Leaving). n.links) a.1.1), ap (λ (o : Offering (SlowPathRequest kinds)). o.ended) a.0 ∙ going, ap (λ (n : Leaving). n.config) a.1.1)
  after_open (Drops why) new slow' a = (same_open new (ap (λ (n : Leaving). n.links) a.0.1), ap (λ (o : Offering (SlowPathRequest kinds)). o.ended) a.1 ∙ going, ap (λ (n : Leaving). n.config) a.0.1)

module _ (named : Option Config) (taker : Taker (Arrival kinds)) (hand : Option (Arrival kinds)) (slow : Offering (SlowPathRequest kinds)) (side : Leaving) (k : KeepsWorking named taker hand slow side) where
  -- the packet in hand is passed on
  pub keeps_passed : (x : Arrival kinds) (slow' : Offering (SlowPathRequest kinds)) (new : Leaving) → hand ≡ Some x → 0 < length side.links → PassedOn x side new slow slow' → KeepsWorking named taker None slow' new
  keeps_passed x slow' new held some p =
      let going = k.unended (k.busy x held) in
      let after = after_open x side slow some going.0 going.1 (decided side.config x.datagram) new slow' p in
      record {
        config = k.config ∙ ap Some (sym after.2);
        law = passed_works taker x side slow some (subst (λ (h : Option (Arrival kinds)). IsWorking side.config taker h (senders side.links) slow.sender side.share) held k.law) new slow' p;
        unended = λ lt. (after.0, after.1);
        busy = λ y e. absurd cc;
      }

  -- nothing was there to be taken
  pub keeps_looked : KeepsWorking named (looked taker) hand slow side
  keeps_looked = record { config = k.config; law = works_looked side.config taker (senders side.links) (senders side.links) slow.sender slow.sender side.share hand k.law; unended = k.unended; busy = k.busy }

  -- a mark was taken
  no_payload : (m : Mark) → payload_of {X = Arrival kinds} (load_in (Marked m)) ≡ []
  no_payload mark.Close = refl
  no_payload mark.End = refl

  pub keeps_mark : (from : ℕ) (m : Mark) → hand ≡ None → KeepsWorking named (took taker (entry from (Marked m))) hand slow side
  keeps_mark from m free = record {
    config = k.config;
    law =
        let law = subst (λ (h : Option (Arrival kinds)). IsWorking side.config taker h (senders side.links) slow.sender side.share) free k.law in
        subst (λ (h : Option (Arrival kinds)). IsWorking side.config (took taker (entry from (Marked m))) h (senders side.links) slow.sender side.share) (sym free)
        (works_mark side.config taker (senders side.links) (senders side.links) slow.sender slow.sender side.share (entry from (Marked m)) (no_payload m) law);
    unended = λ lt. k.unended (let e = ends_more taker.taken (entry from (Marked m)) in omega arith);
    busy = λ x e. absurd (let z : None ≡ Some x = sym free ∙ e in cc);
  }

  -- a packet was taken in hand
  pub keeps_taken : (from : ℕ) (x : Arrival kinds) → hand ≡ None → ends_in taker.taken < taker.producers → KeepsWorking named (took taker (entry from (Payload x))) (Some x) slow side
  keeps_taken from x free lt = record {
    config = k.config;
    law = works_taken side.config taker (senders side.links) (senders side.links) slow.sender slow.sender side.share x (entry from (Payload x)) refl
        (subst (λ (h : Option (Arrival kinds)). IsWorking side.config taker h (senders side.links) slow.sender side.share) free k.law);
    unended = λ more. k.unended lt;
    busy = λ y e. let m = ends_more taker.taken (entry from (Payload x)) in omega arith;
  }

  -- end marks were tried
  pub keeps_ending : (picks : ℕ → Bool) (all : Bool) (slow' : Offering (SlowPathRequest kinds)) (new : Leaving) → ends_in taker.taken ≡ taker.producers → Tried slow slow' → Trying picks side.links new.links all → new ≡ with_links new.links side
      → KeepsWorking named taker hand slow' new
  keeps_ending picks all slow' new done asked tried same = record {
    config = k.config ∙ ap Some (sym (ap (λ (n : Leaving). n.config) same));
    law =
        subst (λ (n : Leaving). IsWorking n.config taker hand (senders n.links) slow'.sender n.share) (sym same)
        (works_tried side.config taker (senders side.links) (senders new.links) slow.sender slow'.sender side.share hand (tried_each picks side.links new.links tried.tried) (tried_once slow slow' asked) k.law);
    unended = λ lt. absurd (omega arith);
    busy = k.busy;
  }

  -- a post
  pub keeps_posted : (new : Leaving) → IsPosted side.share new.share → new ≡ with_share new.share side → KeepsWorking named taker hand slow new
  keeps_posted new (inl is) is_shared =
      subst (λ (n : Leaving). KeepsWorking named taker hand slow n) (sym (is_shared ∙ ap (λ (s : Held). with_share s side) is.1))
      (record { config = k.config; law = works_posted side.config taker (senders side.links) (senders side.links) slow.sender slow.sender side.share hand k.law; unended = k.unended; busy = k.busy })
  keeps_posted new (inr is) is_shared = subst (λ (n : Leaving). KeepsWorking named taker hand slow n) (sym (is_shared ∙ ap (λ (s : Held). with_share s side) is.1)) k

-- with an empty hand, a packet that is taken and worked on at once is one turn
pub taken_worked : {G : Type 0} (answers : G → Worker → ℕ → ℕ → Bool → Type 0) (turn : Turn) (old new : Working G) (from : ℕ) (x : Arrival kinds) → old.hand ≡ None → ends_in old.taker.taken < old.taker.producers
    → WorksFor answers turn (with_taker (took old.taker (entry from (Payload x))) (Some x) old) new → Worked answers turn old new
taken_worked {G} answers turn old new from x free lt (y, is, on) =
    let same : y ≡ x = cc in
    let had = with_taker (took old.taker (entry from (Payload x))) (Some x) old in
    inr (inr (free, lt, inr (inr (from, x, subst (λ (z : Arrival kinds). WorksOn answers turn z had new) same on))))

pub nobody : {X : Type 0} (hand : Option X) → is_some hand ≡ false → hand ≡ None
nobody None e = refl
nobody (Some x) e = absurd cc

-- nothing was taken yet
pub keeps_first : (named : Option Config) (taker : Taker (Arrival kinds)) (slow : Offering (SlowPathRequest kinds)) (side : Leaving) → named ≡ Some side.config → taker.taken ≡ [] → AreFresh side.links → AreFresh (slow ∷ []) → IsNew side.share
    → KeepsWorking named taker None slow side
keeps_first named taker slow side config untaken fresh asks unraised = record {
  config = config;
  law = subst (λ (s : Held). IsWorking side.config taker None (senders side.links) slow.sender s) (sym unraised) (works_none side.config side.share.place taker (senders side.links) slow.sender untaken (fresh_senders side.links fresh) (asks.1, asks.2));
  unended = λ lt. (fresh_open side.links fresh, asks.0);
  busy = λ x e. absurd cc;
}
