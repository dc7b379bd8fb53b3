-- The rows of a look, by the places of the shares that came back.
use Rattle.std.proofs.Common.{◌≡◌, ℕ, zero, suc, ◌+◌, ◌≤◌, ◌<◌, ◌==◌, if◌then◌else◌, Bool, true, false, List, [], ◌∷◌, ◌++◌, map, length, Option, Some, None, IfSome, slice_get, refl, sym, ◌∙◌, ap, subst, arith, eq-eqb, ne_eqb}
use Rattle.std.proofs.lemmas.List.{length-map}
use Rattle.process_packet.specs.declared.config.Config.{Config}
use Rattle.packet_ledger.specs.Share.{AreWithinTheirs, Held, forwarded, sum_at}
use Rattle.packet_ledger.specs.Shown.{Shown}
use Rattle.router_rules.specs.Links.{link_count}
use Rattle.worker_laws.proofs.Composed.{back_get, map_get}
use Rattle.worker_order.specs.Returned.{AllAt}
use Rattle.worker_forwarder.specs.Forwarding.{Forwarding}
use Rattle.worker_receiver.specs.Receiving.{Receiving}
use Rattle.worker_processor.specs.Working.{Working}
use Rattle.run_pipes.specs.Piping.{Piping}
use Rattle.run_report.specs.Crew.{Crew}
use Rattle.run_report.specs.Parting.{shares_in}
use Rattle.router_run.specs.Back.{IsBack}
use Rattle.router_run.specs.Run.{SentWithin}
use Rattle.router_run.specs.Wiring.{IsCrew}
use Rattle.router_run.proofs.Crews.{CameForwarder, CameProcessor, CameReceiver, forwarders_came, processors_came, receivers_came}
use Rattle.router_run.proofs.Lists.{all_join, all_map, found_at}

-- ---- shares at their places

abbrev IsPlaced : ℕ → Held → Type 0
IsPlaced k s = s.place ≡ k

-- none before the first of them
sum_none : (f : Held → ℕ) (n place : ℕ) (shares : List Held) → place < n → AllAt IsPlaced n shares → sum_at f place shares ≡ 0
sum_none f n place [] before all = refl
sum_none f n place (s ∷ shares) before all =
    let other : (place == s.place) ≡ false = ne_eqb place s.place (λ e. let p = all.0 in absurd (omega arith)) in
    let one : (if place == s.place then f s else 0) ≡ 0 = ap (λ (b : Bool). if b then f s else 0) other in
    let rest = sum_none f (n + 1) place shares (omega arith) all.1 in omega arith

-- one at each place
sum_one : (f : Held → ℕ) (n k : ℕ) (shares : List Held) (s : Held) → AllAt IsPlaced n shares → slice_get shares k ≡ Some s → sum_at f (n + k) shares ≡ f s
sum_one f n k [] s all at = absurd cc
sum_one f n zero (x ∷ shares) s all at =
    let here : x ≡ s = cc in
    let own : (n + 0 == x.place) ≡ true = eq-eqb (n + 0) x.place (let p = all.0 in omega arith) in
    let one : (if n + 0 == x.place then f x else 0) ≡ f x = ap (λ (b : Bool). if b then f x else 0) own in
    let rest = sum_none f (n + 1) (n + 0) shares (omega arith) all.1 in let e = ap f here in omega arith
sum_one f n (suc k) (x ∷ shares) s all at =
    let other : (n + suc k == x.place) ≡ false = ne_eqb (n + suc k) x.place (λ e. let p = all.0 in absurd (omega arith)) in
    let one : (if n + suc k == x.place then f x else 0) ≡ 0 = ap (λ (b : Bool). if b then f x else 0) other in
    let next : n + suc k ≡ n + 1 + k = omega arith in
    let rest = ap (λ (p : ℕ). sum_at f p shares) next ∙ sum_one f (n + 1) k shares s all.1 at in omega arith

-- ---- the shares of a crew that came back

module _ {S G K : Type 0} (same_source : S → S → Type 0) (same_sink : K → K → Type 0) (c : Config) (p : Piping) (old new : Crew S G K) (is : IsCrew c p old) (back : IsBack same_source same_sink old new) where
  abbrev rs : List Held
  rs = map (λ (r : Receiving S). r.side.share) new.receivers

  abbrev ps : List Held
  ps = map (λ (w : Working G). w.side.share) new.processors

  abbrev fs : List Held
  fs = map (λ (f : Forwarding K). f.side.share) new.forwarders

  rs_long : length rs ≡ link_count c
  rs_long = let a = length-map new.receivers (λ (r : Receiving S). r.side.share) in let n = (receivers_came same_source same_sink c p old new is back).count in omega arith

  ps_long : length ps ≡ c.processors
  ps_long = let a = length-map new.processors (λ (w : Working G). w.side.share) in let n = (processors_came same_source same_sink c p old new is back).count in omega arith

  -- each stands at its place
  placed : AllAt IsPlaced 0 (shares_in new)
  placed =
      let receivers = all_map (CameReceiver same_source c p) IsPlaced (λ (r : Receiving S). r.side.share) (λ n r x. x.2.0.place ∙ x.1.0.place) 0 new.receivers (receivers_came same_source same_sink c p old new is back).each in
      let processors = all_map (CameProcessor c p) (λ n s. s.place ≡ link_count c + n) (λ (w : Working G). w.side.share) (λ n w x. x.2.0.place ∙ x.1.works.place) 0 new.processors (processors_came same_source same_sink c p old new is back).each in
      let forwarders = all_map (CameForwarder same_sink c p) (λ n s. s.place ≡ link_count c + c.processors + 1 + n) (λ (f : Forwarding K). f.side.share) (λ n f x. x.2.0.place ∙ x.1.place) 0 new.forwarders (forwarders_came same_source same_sink c p old new is back).each in
      let slow : new.slow.side.share.place ≡ link_count c + c.processors = back.slow.0.place ∙ is.slow.place in
      let last : AllAt IsPlaced (link_count c + c.processors) (new.slow.side.share ∷ fs) = (slow, shifted (link_count c + c.processors + 1) 0 _ fs (omega arith) forwarders) in
      let middle = all_join IsPlaced (link_count c) ps (new.slow.side.share ∷ fs) (shifted (link_count c) 0 _ ps (omega arith) processors) (subst (λ (n : ℕ). AllAt IsPlaced n (new.slow.side.share ∷ fs)) (ap (λ (n : ℕ). link_count c + n) (sym ps_long)) last) in
      all_join IsPlaced 0 rs _ receivers (subst (λ (n : ℕ). AllAt IsPlaced n (ps ++ new.slow.side.share ∷ fs)) (let l = rs_long in omega arith) middle)
    where
      -- those after others
      shifted : (by n m : ℕ) (shares : List Held) → m ≡ by + n → AllAt (λ k s. s.place ≡ by + k) n shares → AllAt IsPlaced m shares
      shifted by n m [] e all = tt
      shifted by n m (s ∷ shares) e all = (all.0 ∙ sym e, shifted by (n + 1) (m + 1) shares (omega arith) all.1)

  -- so no row of a forwarder is above what it sent
  sent_within : (look : Shown) (sent : List ℕ) → AreWithinTheirs (shares_in new) look → sent ≡ map (λ (f : Forwarding K). forwarded f.side.share) new.forwarders → SentWithin c look sent
  sent_within look sent within are l n at =
      let found = found_at (λ (f : Forwarding K). forwarded f.side.share) new.forwarders l n (sym (ap (λ (xs : List ℕ). slice_get xs l) are) ∙ at) in
      let s = found.0.side.share in
      let own = map_get (λ (f : Forwarding K). f.side.share) new.forwarders l found.0 found.1.0 in
      let there : slice_get (shares_in new) (link_count c + (c.processors + suc l)) ≡ Some s =
      back_get rs (ps ++ new.slow.side.share ∷ fs) (c.processors + suc l) (link_count c + (c.processors + suc l)) (let e = rs_long in omega arith)
      ∙ back_get ps (new.slow.side.share ∷ fs) (suc l) (c.processors + suc l) (let e = ps_long in omega arith) ∙ own in
      let out : Held → ℕ = λ h. h.posted.sent + h.posted.answered in
      let one = sum_one out 0 (link_count c + (c.processors + suc l)) (shares_in new) s placed there in
      let index : 0 + (link_count c + (c.processors + suc l)) ≡ link_count c + c.processors + 1 + l = omega arith in
      let sum = sym (ap (λ (k : ℕ). sum_at out k (shares_in new)) index) ∙ one in
      let row = within.outputs (link_count c + c.processors + 1 + l) in
      let most : out s ≤ forwarded s = omega arith in
      let is_n = found.1.1 in omega arith

  -- what a look showed, where there was one
  pub rows_within : (look : Option Shown) (shares : List Held) (sent : List ℕ) → shares ≡ shares_in new → sent ≡ map (λ (f : Forwarding K). forwarded f.side.share) new.forwarders
      → IfSome look (λ l. AreWithinTheirs shares l) → IfSome look (λ l. SentWithin c l sent)
  rows_within None shares sent same are within = within
  rows_within (Some look) shares sent same are within = sent_within look sent (subst (λ (xs : List Held). AreWithinTheirs xs look) same within) are
