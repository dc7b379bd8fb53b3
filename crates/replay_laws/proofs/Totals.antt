-- Each received packet is counted once.
use Rattle.std.proofs.Common.{◌≡◌, ℕ, Bool, true, false, not, ◌+◌, ◌<◌, cond, List, [], ◌∷◌, length, drop, refl, subst, sym, ◌∙◌, arith, length-append}
use Rattle.std.specs.List.{filter}
use Rattle.std.proofs.lemmas.List.{length-take-le}
use Rattle.order_laws.specs.Kinds.{Kinds}
use Rattle.order_laws.specs.Item.{Item, Arrived, Outgoing}
use Rattle.order_laws.specs.Counts.{total, count}
use Rattle.replay_laws.specs.Pipe.{Pipe, empty_pipe, gone, held}
use Rattle.order_laws.specs.Rules.{Rules, IsLawful}
use Rattle.order_laws.specs.Fate.{Fate}
use Rattle.replay_laws.specs.World.{World, Hand, Empty, Got, Owes, pipe}
use Rattle.replay_laws.specs.Start.{arrivals, HasArrival, IsStart, Numbered}
use Rattle.replay_laws.specs.Totals.{is_packet, packets_in_hand, received_count, sent_count, answered_count, waiting_count, dropped_count, KeepsTotals}
use Rattle.order_laws.proofs.Sums.{below-agree, total-agree, total-plus, total-take, total-below, count-total}
use Rattle.replay_laws.proofs.Weights.{one, grip, at, out, fate, hands_weight, pipes_weight, all_sent_weight, fates_weight}
use Rattle.replay_laws.proofs.Place.{Sound, sound, was, places_count, numbered_take}
use Rattle.replay_laws.specs.Place.{places_of}

all_pass : {X : Type 0} (xs : List X) → length (filter (λ x. true) xs) ≡ length xs
all_pass [] = refl
all_pass (x ∷ xs) = let t = all_pass xs in omega arith

abbrev any : ℕ → ℕ → Bool
any a n = true

module _ {K : Kinds} where
  grips : (h : Hand K) → grip any h ≡ packets_in_hand h
  unfolding one
  grips Empty = refl
  grips (Got x) = refl
  grips (Owes x) = refl

  ats : (p : Pipe K) → at any p ≡ count is_packet (held p)
  unfolding one
  ats p = sym (count-total is_packet (held p))

  outs : (os : List (Outgoing K)) → total (out any) os ≡ count (λ o. not o.answer) os + count (λ o. o.answer) os
  unfolding one
  outs [] = refl
  outs (o ∷ os) = go o.answer (outs os)
    where
      go : (b : Bool) → total (out any) os ≡ count (λ o. not o.answer) os + count (λ o. o.answer) os → 1 + total (out any) os ≡ length (cond (not b) (o ∷ filter (λ o. not o.answer) os) (filter (λ o. not o.answer) os)) + length (cond b (o ∷ filter (λ o. o.answer) os) (filter (λ o. o.answer) os))
      go true h = omega arith
      go false h = omega arith

  fates : (F : List (Fate K)) → total (fate any) F ≡ count (λ f. true) F
  fates [] = refl
  fates (f ∷ F) = let t = fates F in omega arith

  all_arrived : (b m : ℕ) (xs : List (Item K)) → Numbered b m xs → total (one any) xs ≡ length xs
  unfolding one
  all_arrived b m [] h = refl
  all_arrived b m (Arrived x ∷ xs) h = let t = all_arrived b (m + 1) xs h.2 in omega (arith, t)
  all_arrived b m (_ ∷ xs) h = absurd h

  module _ (R : Rules K) (s w : World K) (st : IsStart R s) (law : IsLawful R (HasArrival s)) (u : Sound R s law w) where
    was_taken : (b : ℕ) → b < R.links → was any R s w st law u b ≡ (pipe w b).taken
    unfolding was
    was_taken b i =
        let N : List (Item K) → Type 0 = λ xs. Numbered b 1 xs in
        let h = subst N (sym (u.same b i)) (st.numbered b i) in
        all_arrived b 1 (gone (pipe w b)) (numbered_take b 1 (pipe w b).taken (arrivals w b) h)
        ∙ length-take-le (pipe w b).taken (arrivals w b) (u.whole.fits b)

    all_counted : received_count R w ≡ sent_count w + answered_count w + waiting_count R w + dropped_count (λ c. true) w
    all_counted =
        let n = places_count any R s w st law u in
        let a = below-agree (was any R s w st law u) (λ b. (pipe w b).taken) R.links was_taken in
        let c = u.whole.pipe_count in
        let t = total-below (λ (p : Pipe K). p.taken) (empty_pipe 0) w.pipes R.links (omega arith) in
        let k = total-take (λ (p : Pipe K). p.taken) R.links w.pipes in
        let h = hands_weight any R 0 w.hands in
        let g = total-agree (grip any) packets_in_hand w.hands grips in
        let p = pipes_weight any R R.links (drop R.links w.pipes) in
        let q = total-agree (at any) (λ p. count is_packet (held p)) (drop R.links w.pipes) ats in
        let o = all_sent_weight any w.sent in
        let e = total-agree (total (out any)) (λ os. count (λ o. not o.answer) os + count (λ o. o.answer) os) w.sent outs in
        let d = total-plus (count (λ o. not o.answer)) (count (λ o. o.answer)) w.sent in
        let f = fates_weight any w.fates in
        let z = fates w.fates in
        let l : length (places_of R any w) ≡ total (grip any) w.hands + (total (at any) (drop R.links w.pipes) + (total (total (out any)) w.sent + total (fate any) w.fates)) = simp length-append (omega (arith, h, p, o, f)) in
        omega (arith, n, a, c, t, k, g, q, e, d, z, l)

pub keeps_totals : (K : Kinds) → KeepsTotals K
keeps_totals K R w r law = all_counted R r.start w r.is_start law (sound R w r law)
