-- The moves of `Moves`, of a seat whose view is known by an equation, and what a producer's refusals keep.
use Rattle.std.proofs.Common.{◌≡◌, ℕ, zero, suc, ◌+◌, ◌<◌, List, [], ◌∷◌, ◌++◌, length, slice_index_or, sym, ap, ◌∙◌, subst, le_refl, length-append, arith}
use Rattle.std.specs.List.{All}
use Rattle.std.proofs.lemmas.List.Elements.{All-append}
use Rattle.std.proofs.lemmas.List.{take-append-le}
use Rattle.std.proofs.Math.Seq.{take-length}
use Rattle.crossbeam_queue.specs.Fifo.{Pushes, Pops, Forks, Merges, Learns, Held}
use Rattle.ruled_pipe.specs.declared.entry.Entry.{Entry}
use Rattle.ruled_pipe.specs.declared.entry.Refusal.{Refusal}
use Rattle.ruled_pipe.specs.declared.rule.Left.{Left}
use Rattle.ruled_pipe.specs.declared.rule.Size.{Size}
use Rattle.ruled_pipe.specs.declared.rule.View.{View}
use Rattle.ruled_pipe.specs.Rule.{size_of, producer, consumer, keeper, both_of, left, nobody, Piped, Placed, Ended}
use Rattle.ruled_pipe.specs.Producer.{WasFull, AllFull, refusal}
use Rattle.ruled_pipe.proofs.Moves.{opens, adds, pushes, refused, takes, leaves, takes_in, whole}

module _ {T : Type 0} where
  pub pushes_from : (n : Size) (port p : ℕ) (v : View T) (offers : List (Entry T)) (x : Entry T) → v ≡ producer p n offers → x.from ≡ p
      → Pushes Piped n.capacity port v x (λ w. w ≡ producer v.from v.size (v.offers ++ x ∷ [])) × Learns Piped port v (λ held. Placed v.size.producers v.from v.offers held)
  pushes_from n port p v offers x is own =
      let P : View T → Type 0 = λ u. Pushes Piped n.capacity port u x (λ w. w ≡ producer u.from u.size (u.offers ++ x ∷ [])) × Learns Piped port u (λ held. Placed u.size.producers u.from u.offers held) in
      subst P (sym is) (pushes n port p offers x own, refused port p n offers)

  pub takes_from : (n : Size) (port : ℕ) (v : View T) (taken : List (Entry T)) → v ≡ consumer n taken
      → Pops Piped port v (λ x w. (x.from < v.size.producers) × (w ≡ consumer v.size (v.taken ++ x ∷ [])))
  takes_from n port v taken is =
      let P : View T → Type 0 = λ u. Pops Piped port u (λ x w. (x.from < u.size.producers) × (w ≡ consumer u.size (u.taken ++ x ∷ []))) in
      subst P (sym is) (takes port n taken)

  -- what a refusal says stays true when more is offered
  stays_full : (m p n : ℕ) (offers : List (Entry T)) (e : Entry T) (r : Refusal T) → WasFull m p n offers r → WasFull m p n (offers ++ e ∷ []) r
  stays_full m p n offers e r f = let le = f.1 in (f.0, omega (arith, length-append offers (e ∷ [])), (f.2.0, f.2.1, f.2.2, f.2.3 ∙ sym (take-append-le r.before offers (e ∷ []) le), f.2.4))

  pub all_stay_full : (m p n : ℕ) (offers : List (Entry T)) (e : Entry T) (rs : List (Refusal T)) → AllFull m p n offers rs → AllFull m p n (offers ++ e ∷ []) rs
  all_stay_full m p n offers e rs all k d lt = stays_full m p n offers e (slice_index_or rs k d) (all k d lt)

  pub is_full : (m p n : ℕ) (offers : List (Entry T)) (x : Entry T) → x.from ≡ p → Held n (λ held. Placed m p offers held) → WasFull m p n offers (refusal x (length offers))
  is_full m p n offers x own h = (own, le_refl (length offers), (h.2.0, h.0, h.1, h.2.1 ∙ sym (take-length offers), h.2.2))

  one : (P : Refusal T → Type 0) (r : Refusal T) → P r → All P (r ∷ [])
  one P r y zero d lt = y
  one P r y (suc k) d lt = absurd (omega arith)

  pub all_and_one : (m p n : ℕ) (offers : List (Entry T)) (rs : List (Refusal T)) (r : Refusal T) → AllFull m p n offers rs → WasFull m p n offers r → AllFull m p n offers (rs ++ r ∷ [])
  all_and_one m p n offers rs r all new = All-append (WasFull m p n offers) rs (r ∷ []) all (one (WasFull m p n offers) r new)

  pub after_push : (p n : ℕ) (v w : View T) (x : Entry T) → v ≡ producer p (size_of n v.size.producers) v.offers → w ≡ producer v.from v.size (v.offers ++ x ∷ [])
      → w ≡ producer p (size_of n w.size.producers) w.offers
  after_push p n v w x is then = let a : v.from ≡ p = ap (λ (u : View T). u.from) is in
      let d : v.size ≡ w.size = sym (ap (λ (u : View T). u.size) then) in
      let b : v.size ≡ size_of n w.size.producers = ap (λ (u : View T). u.size) is ∙ ap (λ (z : Size). size_of n z.producers) d in
      let c : w.offers ≡ v.offers ++ x ∷ [] = ap (λ (u : View T). u.offers) then in then ∙ (λ i. producer (a i) (b i) (sym c i))

  -- a producer's number stays below their number
  pub below_after_push : (p : ℕ) (v w : View T) (x : Entry T) → w ≡ producer v.from v.size (v.offers ++ x ∷ []) → p < v.size.producers → p < w.size.producers
  below_after_push p v w x then lt = let e : w.size.producers ≡ v.size.producers = ap (λ (u : View T). u.size.producers) then in omega arith

  pub below_after_refusal : (p : ℕ) (v w : View T) → w ≡ v → p < v.size.producers → p < w.size.producers
  below_after_refusal p v w same lt = let e : w.size.producers ≡ v.size.producers = ap (λ (u : View T). u.size.producers) same in omega arith

  pub full_after_push : (p n : ℕ) (v w : View T) (x : Entry T) (rs : List (Refusal T)) → w ≡ producer v.from v.size (v.offers ++ x ∷ []) → AllFull v.size.producers p n v.offers rs
      → AllFull w.size.producers p n w.offers rs
  full_after_push p n v w x rs then all = let P : View T → Type 0 = λ u. AllFull u.size.producers p n u.offers rs in
      subst P (sym then) (all_stay_full v.size.producers p n v.offers x rs all)

  pub same_after_refusal : (p n : ℕ) (v w : View T) → v ≡ producer p (size_of n v.size.producers) v.offers → w ≡ v → w ≡ producer p (size_of n w.size.producers) w.offers
  same_after_refusal p n v w is same = let P : View T → Type 0 = λ u. u ≡ producer p (size_of n u.size.producers) u.offers in subst P (sym same) is

  -- what the queue told where it refused the entry
  pub told_full : (p n : ℕ) (v : View T) (x : Entry T) → v ≡ producer p (size_of n v.size.producers) v.offers → x.from ≡ p → Held n (λ held. Placed v.size.producers v.from v.offers held)
      → WasFull v.size.producers p n v.offers (refusal x (length v.offers))
  told_full p n v x is own h = let P : ℕ → Type 0 = λ k. Held n (λ held. Placed v.size.producers k v.offers held) in is_full v.size.producers p n v.offers x own (subst P (ap (λ (u : View T). u.from) is) h)

  pub full_after_refusal : (p n : ℕ) (v w : View T) (rs rs' : List (Refusal T)) (x y : Entry T) → w ≡ v → AllFull v.size.producers p n v.offers rs
      → WasFull v.size.producers p n v.offers (refusal x (length v.offers)) → y ≡ x → rs' ≡ rs ++ refusal y (length w.offers) ∷ [] → AllFull w.size.producers p n w.offers rs'
  full_after_refusal p n v w rs rs' x y same all new entry noted =
      let P : View T → Type 0 = λ u. AllFull u.size.producers p n u.offers (rs ++ refusal x (length u.offers) ∷ []) in
      let now : AllFull w.size.producers p n w.offers (rs ++ refusal x (length w.offers) ∷ []) = subst P (sym same) (all_and_one v.size.producers p n v.offers rs (refusal x (length v.offers)) all new) in
      let Q : List (Refusal T) → Type 0 = λ l. AllFull w.size.producers p n w.offers l in
      subst Q (ap (λ (e : Entry T). rs ++ refusal e (length w.offers) ∷ []) (sym entry) ∙ sym noted) now

  pub opens_from : (port : ℕ) (n : Size) (v : View T) → v ≡ both_of 0 (size_of 0 0) [] [] → Forks Piped port v (keeper v.made n v.known) (consumer n v.taken)
  opens_from port n v is = let P : View T → Type 0 = λ u. Forks Piped port u (keeper u.made n u.known) (consumer n u.taken) in subst P (sym is) (opens port n)

  pub adds_from : (port made : ℕ) (n : Size) (v : View T) → made < n.producers → v ≡ keeper made n [] → Forks Piped port v (keeper (v.made + 1) v.size v.known) (producer v.made v.size [])
  adds_from port made n v below is = let P : View T → Type 0 = λ u. Forks Piped port u (keeper (u.made + 1) u.size u.known) (producer u.made u.size []) in subst P (sym is) (adds port made n below)

  pub leaves_from : (port made : ℕ) (n : Size) (known : List (Left T)) (other p : ℕ) (cap : Size) (offers : List (Entry T)) (refusals : List (Refusal T)) (v w : View T)
      → v ≡ keeper made n known → w ≡ producer p cap offers → p ≡ length known
      → Merges Piped port v other w (keeper v.made v.size (v.known ++ left w.from w.offers refusals ∷ [])) nobody
  leaves_from port made n known other p cap offers refusals v w is leaver next =
      let P : View T → Type 0 = λ u. Merges Piped port u other w (keeper u.made u.size (u.known ++ left w.from w.offers refusals ∷ [])) nobody in
      let Q : View T → Type 0 = λ u. Merges Piped port (keeper made n known) other u (keeper made n (known ++ left u.from u.offers refusals ∷ [])) nobody in
      subst P (sym is) (subst Q (sym leaver) (leaves port made n known other p cap offers refusals next))

  pub takes_in_from : (port made : ℕ) (n : Size) (known : List (Left T)) (other : ℕ) (cap : Size) (taken : List (Entry T)) (v w : View T)
      → v ≡ keeper made n known → w ≡ consumer cap taken → Merges Piped port v other w (both_of v.made v.size w.taken v.known) nobody
  takes_in_from port made n known other cap taken v w is leaver =
      let P : View T → Type 0 = λ u. Merges Piped port u other w (both_of u.made u.size w.taken u.known) nobody in
      let Q : View T → Type 0 = λ u. Merges Piped port (keeper made n known) other u (both_of made n u.taken known) nobody in
      subst P (sym is) (subst Q (sym leaver) (takes_in port made n known other cap taken))

  pub whole_from : (port made : ℕ) (n : Size) (taken : List (Entry T)) (known : List (Left T)) (v : View T) → v ≡ both_of made n taken known
      → Learns Piped port v (λ held. Ended v.made v.size.capacity v.known v.taken held)
  whole_from port made n taken known v is = let P : View T → Type 0 = λ u. Learns Piped port u (λ held. Ended u.made u.size.capacity u.known u.taken held) in subst P (sym is) (whole port made n taken known)
