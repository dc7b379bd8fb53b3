-- Steps of a pipeline, one after the other.
use Rattle.std.proofs.Common.{◌≡◌, ℕ, zero, suc, ◌+◌, ◌<◌, List, [], ◌∷◌, ◌++◌, map, length, take, drop, get_or, refl, sym, subst, ◌∙◌, ap, ap₂, append_assoc, arith}
use Rattle.std.specs.Prelude.{Option, Some, None}
use Rattle.std.proofs.lemmas.List.{append-nil, drop_all, drop_more, map-append, take_more}
use Rattle.std.proofs.Math.Seq.{take-length}
use Rattle.std.specs.List.{range_with_len}
use Rattle.order_laws.specs.Item.{Item}
use Rattle.replay_laws.specs.Next.{next}
use Rattle.replay_laws.specs.Run.{or_same, run, skip_if, skipped_from}
use Rattle.replay_laws.specs.Start.{HasArrival, arrivals, first_world}
use Rattle.replay_laws.specs.Step.{Step}
use Rattle.replay_laws.specs.World.{World}
use Rattle.replay_laws.proofs.Reach.{reaches_on, run-append}
use Rattle.replay_laws.proofs.Runs.{keeps_arrivals, run_keeps}
use Rattle.process_packet.specs.declared.config.Config.{Config}
use Rattle.router_rules.specs.Links.{link_count}
use Rattle.router_rules.specs.Rules.{kinds, rules}
use Rattle.pipe_model.specs.Begun.{arriving, sources_of}
use Rattle.pipe_model.specs.Headline.{IsReached}
use Rattle.pipe_model.specs.Pipeline.{Pipeline, ran, rules_in, skipped, stepped, with_world}
use Rattle.replay_steps.specs.Step.{step_in}
use Rattle.replay_steps.specs.declared.step.Step.{Step as Act}

-- ---- what arrives stays

map_same : {X : Type 0} (f g : ℕ → X) (a n : ℕ) → ((k : ℕ) → k < a + n → f k ≡ g k) → map f (range_with_len a n) ≡ map g (range_with_len a n)
map_same f g a zero same = refl
map_same f g a (suc n) same = ap₂ (λ x xs. x ∷ xs) (same a (omega arith)) (map_same f g (a + 1) n (λ k below. same k (omega (arith, below))))

pub arriving_kept : (c : Config) (w : World kinds) (ss : List Step) → arriving c (run (rules c) w ss) ≡ arriving c w
arriving_kept c w ss = map_same (arrivals (run (rules c) w ss)) (arrivals w) 0 (link_count c) same
  where
    same : (a : ℕ) → a < 0 + link_count c → arrivals (run (rules c) w ss) a ≡ arrivals w a
    same a below =
        let there : a < link_count c = omega (arith, below) in
        run_keeps (rules c) (λ v. arrivals v a ≡ arrivals w a) (λ u v m e. keeps_arrivals (rules c) a there u v m ∙ e) ss w refl

-- ---- one step more

pub reached_more : (c : Config) (w v : World kinds) (s : Step) → next (rules c) w s ≡ Some v → IsReached c w → IsReached c v
reached_more c w v s e r =
    let on = reaches_on kinds (rules c) w (s ∷ []) r.way in
    let f : run (rules c) w (s ∷ []) ≡ v = ap (or_same w) e in
    let there : IsReached c (run (rules c) w (s ∷ [])) = record {
      way = on.0;
      begins = on.1 ∙ (r.begins ∙ sym (ap (λ (xs : List (List (Item kinds))). first_world (rules c) c.capacity (sources_of 0 xs)) (arriving_kept c w (s ∷ []))));
      arrives = λ x h. (let P : World kinds → Type 0 = λ u. HasArrival u x in r.arrives x (subst P on.1 h));
    } in
    subst (IsReached c) f there

-- one more step of a run
run_more : (p : Pipeline) (ss : List Act) (i : ℕ) (s : Act) → i < length ss → (ran p (take (i + 1) ss)).world ≡ or_same (ran p (take i ss)).world (next (rules_in p) (ran p (take i ss)).world (step_in p.config (get_or ss i s)))
run_more p ss i s h =
    let f = step_in p.config in
    ap (λ (ts : List Act). run (rules_in p) p.world (map f ts)) (take_more ss i s h)
    ∙ (ap (run (rules_in p) p.world) (map-append f (take i ss) (get_or ss i s ∷ [])) ∙ run-append (rules_in p) (map f (take i ss)) (f (get_or ss i s) ∷ []) p.world)

skipped_more : (p : Pipeline) (w : World kinds) (ss : List Act) (i : ℕ) (s : Act) → i < length ss → skipped_from (rules_in p) w i (map (step_in p.config) (drop i ss)) ≡ skip_if i (next (rules_in p) w (step_in p.config (get_or ss i s))) ++ skipped_from (rules_in p) (or_same w (next (rules_in p) w (step_in p.config (get_or ss i s)))) (i + 1) (map (step_in p.config) (drop (i + 1) ss))
skipped_more p w ss i s h = ap (λ (ts : List Act). skipped_from (rules_in p) w i (map (step_in p.config) ts)) (drop_more ss i s h)

-- after the last turn
pub turns_made : (p m : Pipeline) (ss : List Act) (i : ℕ) (ps : List ℕ) → i ≡ length ss → m ≡ ran p (take i ss) → ps ++ skipped_from (rules_in m) m.world i (map (step_in m.config) (drop i ss)) ≡ skipped p ss → (m ≡ ran p ss) × (ps ≡ skipped p ss)
turns_made p m ss i ps all world places = (
  world ∙ ap (ran p) (ap (λ (k : ℕ). take k ss) all ∙ take-length ss),
  sym (append-nil ps) ∙ (ap (λ (ts : List Act). ps ++ skipped_from (rules_in m) m.world i (map (step_in m.config) ts)) (sym (drop_all i ss (omega arith))) ∙ places),
)

module _ (p : Pipeline) (ss : List Act) (i : ℕ) (s : Act) (ps : List ℕ) (h : i < length ss) (e : s ≡ get_or ss i s) where
  -- the loop over the steps, one turn on: the pipeline so far, and the indices skipped so far with those to come
  abbrev pub Turn : Pipeline → ℕ → List ℕ → Type 0
  Turn m k qs = (m ≡ ran p (take k ss)) × (qs ++ skipped_from (rules_in m) m.world k (map (step_in m.config) (drop k ss)) ≡ skipped p ss)

  turn_by : (o : Option (World kinds)) → next (rules_in p) (ran p (take i ss)).world (step_in p.config s) ≡ o → Turn (ran p (take i ss)) i ps → Turn (record p { world = or_same (ran p (take i ss)).world o }) (i + 1) (ps ++ skip_if i o)
  turn_by o q t =
      let R = rules_in p in
      let f = step_in p.config in
      let u = (ran p (take i ss)).world in
      let same : next R u (f (get_or ss i s)) ≡ o = ap (λ (z : Act). next R u (f z)) (sym e) ∙ q in (
        ap (λ (z : World kinds). let m : Pipeline = record p { world = z } in m) (sym (run_more p ss i s h ∙ ap (or_same u) same)),
        append_assoc ps (skip_if i o) _
            ∙ (ap (λ (zs : List ℕ). ps ++ zs) (sym (skipped_more p u ss i s h ∙ ap (λ (z : Option (World kinds)). skip_if i z ++ skipped_from R (or_same u z) (i + 1) (map f (drop (i + 1) ss))) same)) ∙ t.1),
      )

  pub turn_ok : (m v : Pipeline) → Turn m i ps → stepped m s ≡ Some v → Turn v (i + 1) ps
  turn_ok m v t k =
      let P : Pipeline → Type 0 = λ z. Turn z i ps → stepped z s ≡ Some v → Turn v (i + 1) ps in
      subst P (sym t.0) (λ t' k'. go (next (rules_in p) (ran p (take i ss)).world (step_in p.config s)) refl t' k') t k
    where
      go : (o : Option (World kinds)) → next (rules_in p) (ran p (take i ss)).world (step_in p.config s) ≡ o → Turn (ran p (take i ss)) i ps → with_world (ran p (take i ss)) o ≡ Some v → Turn v (i + 1) ps
      go None q t k = cc
      go (Some w) q t k =
          let P : Pipeline → Type 0 = λ z. Turn z (i + 1) ps in
          let Q : List ℕ → Type 0 = λ qs. Turn (record p { world = w }) (i + 1) qs in
          let f : record p { world = w } ≡ v = cc in
          subst P f (subst Q (append-nil ps) (turn_by (Some w) q t))

  pub turn_not : (m v : Pipeline) → Turn m i ps → stepped m s ≡ None → v ≡ m → Turn v (i + 1) (ps ++ i ∷ [])
  turn_not m v t k f =
      let P : Pipeline → Type 0 = λ z. Turn z i ps → stepped z s ≡ None → Turn z (i + 1) (ps ++ i ∷ []) in
      let Q : Pipeline → Type 0 = λ z. Turn z (i + 1) (ps ++ i ∷ []) in
      subst Q (sym f) (subst P (sym t.0) (λ t' k'. go (next (rules_in p) (ran p (take i ss)).world (step_in p.config s)) refl t' k') t k)
    where
      go : (o : Option (World kinds)) → next (rules_in p) (ran p (take i ss)).world (step_in p.config s) ≡ o → Turn (ran p (take i ss)) i ps → with_world (ran p (take i ss)) o ≡ None → Turn (ran p (take i ss)) (i + 1) (ps ++ i ∷ [])
      go None q t k = turn_by None q t
      go (Some w) q t k = cc
