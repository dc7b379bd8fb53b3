-- Workers made of what stood ready are a crew.
use Rattle.std.proofs.Common.{◌≡◌, ℕ, ◌+◌, ◌-◌, List, [], ◌∷◌, map, length, Result, Ok, Err, MatchResult, refl, sym, ◌∙◌, ap, subst, arith}
use Rattle.std.proofs.lemmas.List.{map-id}
use Rattle.process_packet.specs.declared.config.Config.{Config}
use Rattle.order_laws.specs.Item.{Outgoing}
use Rattle.router_rules.specs.Links.{interface_at, link_count}
use Rattle.router_rules.specs.Rules.{kinds}
use Rattle.worker_processor.specs.Answering.{Answering}
use Rattle.worker_forwarder.specs.Forwarding.{Forwarding}
use Rattle.worker_receiver.specs.Receiving.{Receiving}
use Rattle.worker_processor.specs.Working.{Working}
use Rattle.run_ends.specs.Rows.{fresh_ends}
use Rattle.run_ends.proofs.ShuttingLemmas.{new_open, shutters_of_new}
use Rattle.run_pipes.proofs.Fresh.{fresh_are}
use Rattle.run_pipes.specs.Filling.{AreFilled}
use Rattle.worker_parts.specs.Outlets.{are_used}
use Rattle.run_ends.specs.Shutting.{AreNew, Shutting}
use Rattle.router_run.specs.Wiring.{IsCrew, IsForwardingAt, IsReceivingAt}
use Rattle.run_pipes.specs.Piping.{Piping}
use Rattle.run_pipes.specs.Pipes.{piping_of}
use Rattle.run_workers.specs.Kits.{Entry, Exit, IsEnteringAt, IsLeavingAt, forwarding_over, forwardings, paired, receiving_over, receivings}
use Rattle.router_run.specs.BareWorkers.{AreBareWorkers}
use Rattle.router_run.specs.declared.bare_workers.BareWorkers.{BareWorkers}
use Rattle.router_run.specs.Run.{Run}
use Rattle.run_report.specs.Crew.{crew_of}
use Rattle.router_run.specs.Starting.{Begins, GivesBack, IsOneALink}
use Rattle.router_run.specs.declared.fault.StartFault.{StartFault}
use Rattle.router_run.specs.declared.fault.StartFault.TheVariants.{Thread}
use Rattle.router_run.proofs.Lists.{rest_paired}

module _ {X Y Z : Type 0} (make : X → Y → Z) where
  -- what each has of its own of the second list
  paired_has : {V : Type 0} (f : Z → V) (g : Y → V) → ((x : X) (y : Y) → f (make x y) ≡ g y) → (xs : List X) (ys : List Y) → length ys ≡ length xs → map f (paired make xs ys) ≡ map g ys
  paired_has f g each [] [] same = refl
  paired_has f g each [] (y ∷ ys) same = absurd (omega arith)
  paired_has f g each (x ∷ xs) [] same = absurd (omega arith)
  paired_has {V = V} f g each (x ∷ xs) (y ∷ ys) same = ap (λ (v : V). v ∷ map f (paired make xs ys)) (each x y) ∙ ap (λ (vs : List V). g y ∷ vs) (paired_has f g each xs ys (omega arith))

-- the interface of a link is that of its number
receiving_at : {S : Type 0} (c : Config) (p : Piping) (n : ℕ) (e : Entry) (s : S) → IsEnteringAt c p n e → IsReceivingAt c p n (receiving_over e s)
receiving_at c p n e s is = (is, ap (λ (d : Config). interface_at d e.link) is.config ∙ ap (interface_at c) is.link)

forwarding_at : {K : Type 0} (failed : K → ℕ) (c : Config) (p : Piping) (l : ℕ) (e : Exit) (k : K) → IsLeavingAt c p l e → IsForwardingAt c p l (forwarding_over failed e k)
forwarding_at failed c p l e k is = is

pub is_crew : {N S G K : Type 0} (failed : K → ℕ) (c : Config) (w : BareWorkers N G) (ss : List S) (ks : List K)
    → AreBareWorkers c w → length ss ≡ link_count c → length ks ≡ link_count c
    → IsCrew c (piping_of w.pipes) (crew_of (receivings w.receivers.items ss) w.processors.items w.slow (forwardings failed w.forwarders.items ks) w.shutters.items)
is_crew failed c w ss ks m sources sinks =
    let p = piping_of w.pipes in
    let ends = fresh_ends (c.processors + 1) p.egress_packets in
    record {
      pipes = m.made.piping;
      receivers = rest_paired receiving_over (IsEnteringAt c p) (IsReceivingAt c p) (receiving_at c p) (link_count c) w.receivers.items ss sources m.entering;
      processors = m.after.working;
      slow = m.after.answering;
      forwarders = rest_paired (forwarding_over failed) (IsLeavingAt c p) (IsForwardingAt c p) (forwarding_at failed c p) (link_count c) w.forwarders.items ks sinks m.after.leaving;
      shutters = shutters_of_new (are_used c) ends w.shutters.items m.after.shutting (c.processors + 1) p.egress_packets (fresh_are (Outgoing kinds) (c.processors + 1) p.egress_packets);
      unended = new_open (are_used c) 0 ends w.shutters.items m.after.shutting;
    }

-- the same crew, by other names of the same workers
pub crew_by : {S G K : Type 0} (c : Config) (p : Piping) (rs qs : List (Receiving S)) (ws vs : List (Working G)) (s t : Answering) (fs es : List (Forwarding K)) (hs : List (Shutting (Outgoing kinds)))
    → rs ≡ qs → ws ≡ vs → s ≡ t → fs ≡ es → IsCrew c p (crew_of qs vs t es hs) → IsCrew c p (crew_of rs ws s fs hs)
crew_by {S = S} {G = G} {K = K} c p rs qs ws vs s t fs es hs r w a f is =
    subst (λ (x : List (Receiving S)). IsCrew c p (crew_of x ws s fs hs)) (sym r)
    (subst (λ (x : List (Working G)). IsCrew c p (crew_of qs x s fs hs)) (sym w)
    (subst (λ (x : Answering). IsCrew c p (crew_of qs vs x fs hs)) (sym a)
    (subst (λ (x : List (Forwarding K)). IsCrew c p (crew_of qs vs t x hs)) (sym f) is)))

-- it has these devices
pub begins : {S G K : Type 0} (failed : K → ℕ) (c : Config) (r : Run S G K) (es : List Entry) (xs : List Exit) (ss : List S) (ks : List K)
    → r.config ≡ c → r.crew.receivers ≡ receivings es ss → r.crew.forwarders ≡ forwardings failed xs ks → length es ≡ link_count c → length xs ≡ link_count c → IsOneALink (link_count c) ss ks → IsCrew c r.pipes r.crew
    → AreNew (are_used c) 0 (fresh_ends (c.processors + 1) r.pipes.egress_packets) r.crew.shutters → AreFilled (c.processors + 1 + link_count c) (c.buffers - 1) r.pipes.free r.fillers → Begins failed c ss ks r
begins {S = S} {K = K} failed c r es xs ss ks config rs fs entries exits one crew unmarked filled =
    let sources : length ss ≡ length es = one.0 ∙ sym entries in
    let sinks : length ks ≡ length xs = one.1 ∙ sym exits in
    record {
      config = config;
      one_a_link = one;
      sources_are = ap (map (λ (w : Receiving S). w.source)) rs ∙ (paired_has receiving_over (λ (w : Receiving S). w.source) (λ (s : S). s) (λ _ _. refl) es ss sources ∙ map-id ss);
      sinks_are = ap (map (λ (f : Forwarding K). f.side.sink)) fs ∙ (paired_has (forwarding_over failed) (λ (f : Forwarding K). f.side.sink) (λ (k : K). k) (λ _ _. refl) xs ks sinks ∙ map-id ks);
      began = ap (map (λ (f : Forwarding K). f.began)) fs ∙ paired_has (forwarding_over failed) (λ (f : Forwarding K). f.began) failed (λ _ _. refl) xs ks sinks;
      crew = crew;
      unmarked = unmarked;
      filled = filled;
    }

-- what a run over ready parts answers is what a start of it answers
pub starts : {S G K : Type 0} (failed : K → ℕ) (a b : Config) (ss : List S) (ks : List K) (r : Result (Run S G K) (StartFault S K))
    → a ≡ b → IsOneALink (link_count b) ss ks → MatchResult r (λ x. Begins failed a ss ks x) (λ f. f ≡ Thread) → MatchResult r (λ x. Begins failed b ss ks x) (λ f. GivesBack (link_count b) f ss ks)
starts failed a b ss ks (Ok x) e one ran = subst (λ (c : Config). Begins failed c ss ks x) e ran
starts {S = S} {K = K} failed a b ss ks (Err f) e one ran = subst (λ (x : StartFault S K). GivesBack (link_count b) x ss ks) (sym ran) one
