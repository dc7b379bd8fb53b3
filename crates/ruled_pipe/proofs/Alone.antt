-- With one producer, no push is refused before as many as the capacity were accepted.
use Rattle.std.proofs.Common.{◌≡◌, ℕ, ◌<◌, ◌≤◌, List, [], ◌∷◌, ◌++◌, length, sym, refl, ap, ◌∙◌, length-append, arith}
use Rattle.std.proofs.lemmas.List.{length-take-le}
use Rattle.ruled_pipe.specs.declared.entry.Entry.{Entry}
use Rattle.ruled_pipe.specs.declared.entry.Refusal.{Refusal}
use Rattle.ruled_pipe.specs.Rule.{of_producer}
use Rattle.ruled_pipe.specs.Producer.{WasFull}
use Rattle.ruled_pipe.proofs.Drained.{below, rest_none, of_here}

module _ {T : Type 0} where
  all_its_own : (xs : List (Entry T)) → ((q : ℕ) → 1 ≤ q → of_producer q xs ≡ []) → of_producer 0 xs ≡ xs
  all_its_own [] none = refl
  all_its_own (x ∷ xs) none = let b = below 1 x xs none in of_here 0 x xs (omega arith) ∙ ap (λ (l : List (Entry T)). x ∷ l) (all_its_own xs (rest_none 1 x xs none))

  pub alone : (p capacity : ℕ) (offers : List (Entry T)) (r : Refusal T) → p < 1 → WasFull 1 p capacity offers r → capacity ≤ r.before
  alone p capacity offers r lt full =
      let earlier = full.2.0 in let held = full.2.1 in
      let zero : p ≡ 0 = omega arith in
      let same = ap length (sym (all_its_own (earlier ++ held) full.2.4) ∙ ap (λ (q : ℕ). of_producer q (earlier ++ held)) (sym zero) ∙ full.2.3) in
      let len = full.2.2 in
      let t = length-take-le r.before offers in
      omega (arith, length-append earlier held)
