-- Sums over lists, one element after the other.
use Rattle.std.proofs.Common.{◌≡◌, ℕ, suc, ◌+◌, ◌<◌, Bool, true, false, cond, List, [], ◌∷◌, ◌++◌, map, length, take, drop, get_or, refl, sym, ap, ◌∙◌, arith}
use Rattle.std.specs.List.{filter}
use Rattle.std.proofs.lemmas.List.{drop-map, take_more}
use Rattle.std.proofs.Math.Seq.{take-length}
use Rattle.order_laws.specs.Counts.{count, total}
use Rattle.replay_laws.specs.Pipe.{Entry, Pipe, held}
use Rattle.replay_laws.specs.Totals.{is_packet}
use Rattle.router_rules.specs.Rules.{kinds}

module _ {X : Type 0} (f : X → ℕ) where
  pub total-append : (xs ys : List X) → total f (xs ++ ys) ≡ total f xs + total f ys
  total-append [] ys = omega arith
  total-append (x ∷ xs) ys = let e = total-append xs ys in omega (arith, e)

  pub total_more : (xs : List X) (i : ℕ) (d : X) → i < length xs → total f (take (i + 1) xs) ≡ total f (take i xs) + f (get_or xs i d)
  total_more xs i d h =
      let e = total-append (take i xs) (get_or xs i d ∷ []) in
      let t = ap (total f) (take_more xs i d h) in
      omega (arith, e, t)

  pub total_all : (xs : List X) → total f (take (length xs) xs) ≡ total f xs
  total_all xs = ap (total f) (take-length xs)

-- counted after a map, or by the test after it
pub count-map : {X Y : Type 0} (f : X → Y) (p : Y → Bool) (xs : List X) → count p (map f xs) ≡ count (λ x. p (f x)) xs
count-map f p [] = refl
count-map f p (x ∷ xs) = go (p (f x)) (count-map f p xs)
  where
    go : (b : Bool) → count p (map f xs) ≡ count (λ z. p (f z)) xs → length (cond b (f x ∷ filter p (map f xs)) (filter p (map f xs))) ≡ length (cond b (x ∷ filter (λ z. p (f z)) xs) (filter (λ z. p (f z)) xs))
    go true e = ap suc e
    go false e = e

pub held_count : (p : Pipe kinds) → count (λ e. is_packet e.item) (drop p.taken p.history) ≡ count is_packet (held p)
held_count p =
    sym (ap (count is_packet) (drop-map (λ (e : Entry kinds). e.item) p.taken p.history) ∙ count-map (λ (e : Entry kinds). e.item) is_packet (drop p.taken p.history))
