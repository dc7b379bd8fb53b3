-- The pipes of receivers, by what arrives on each link.
use Rattle.std.proofs.Common.{◌≡◌, ℕ, suc, ◌+◌, List, [], ◌∷◌, ◌++◌, length, refl, ap, ◌∙◌, arith}
use Rattle.std.specs.declared.alloc.Global.{Global}
use Rattle.std.specs.declared.vec.Vec.{Vec}
use Rattle.replay_laws.specs.Pipe.{Pipe}
use Rattle.process_packet.specs.declared.arrival.Arrival.{Arrival as Came}
use Rattle.router_rules.specs.Rules.{kinds}
use Rattle.replay_state.specs.Arrivals.{source, sources_from}

abbrev Lists : Type 0
Lists = List (Vec Came Global)

pub length-sources_from : (a : ℕ) (ls : Lists) → length (sources_from a ls) ≡ length ls
length-sources_from a [] = refl
length-sources_from a (xs ∷ ls) = ap suc (length-sources_from (a + 1) ls)

-- one source more
pub sources_from_more : (a : ℕ) (ls : Lists) (xs : Vec Came Global) → sources_from a (ls ++ xs ∷ []) ≡ sources_from a ls ++ source (a + length ls) xs.items ∷ []
sources_from_more a [] xs = let e : a ≡ a + 0 = omega arith in ap (λ (k : ℕ). source k xs.items ∷ []) e
sources_from_more a (ys ∷ ls) xs =
    let e : (a + 1) + length ls ≡ a + length (ys ∷ ls) = omega arith in
    ap (λ (ps : List (Pipe kinds)). source a ys.items ∷ ps) (sources_from_more (a + 1) ls xs ∙ ap (λ (k : ℕ). sources_from (a + 1) ls ++ source k xs.items ∷ []) e)
