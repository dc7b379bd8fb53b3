-- Flows that are told to be the same are one flow.
use Rattle.std.proofs.Common.{◌≡◌, ℕ, Bool, true, false, ◌&&◌, ◌==◌, List, [], ◌∷◌, refl, ap, ap₂, ◌∙◌}
use Rattle.std.proofs.lemmas.Bool.{and_parts, eqb-true, false≢true}
use Rattle.flow_key.specs.Flow.{Flow}
use Rattle.router_rules.specs.Rules.{are_same, same_bool, same_flow}

same_list : (xs ys : List ℕ) → are_same xs ys ≡ true → xs ≡ ys
same_list [] [] is = refl
same_list [] (y ∷ ys) is = absurd (false≢true is)
same_list (x ∷ xs) [] is = absurd (false≢true is)
same_list (x ∷ xs) (y ∷ ys) is =
    let parts = and_parts (x == y) (are_same xs ys) is in
    ap₂ (λ (z : ℕ) (zs : List ℕ). z ∷ zs) (eqb-true x y parts.0) (same_list xs ys parts.1)

same_truth : (a b : Bool) → same_bool a b ≡ true → a ≡ b
same_truth true true is = refl
same_truth true false is = absurd (false≢true is)
same_truth false true is = absurd (false≢true is)
same_truth false false is = refl

pub one_flow : (f g : Flow) → same_flow f g ≡ true → f ≡ g
one_flow f g is =
    let high = and_parts (f.flow_id == g.flow_id && f.host_kinds == g.host_kinds && are_same f.addresses g.addresses) (same_bool f.high g.high) is in
    let addresses = and_parts (f.flow_id == g.flow_id && f.host_kinds == g.host_kinds) (are_same f.addresses g.addresses) high.0 in
    let numbers = and_parts (f.flow_id == g.flow_id) (f.host_kinds == g.host_kinds) addresses.0 in
    ap (λ (x : ℕ). record f { flow_id = x }) (eqb-true f.flow_id g.flow_id numbers.0)
    ∙ ap (λ (x : ℕ). record f { flow_id = g.flow_id; host_kinds = x }) (eqb-true f.host_kinds g.host_kinds numbers.1)
    ∙ ap (λ (x : List ℕ). record g { addresses = x; high = f.high }) (same_list f.addresses g.addresses addresses.1)
    ∙ ap (λ (x : Bool). record g { high = x }) (same_truth f.high g.high high.1)
