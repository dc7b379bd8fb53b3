-- Loops over the members of an object, a member at a time.
use Rattle.std.proofs.Common.{◌≡◌, ℕ, List, [], ◌∷◌, ◌++◌, Option, Some, None, String, Global, map, string_bytes, refl, sym, ap, ◌∙◌, subst, append-nil, append_assoc}
use Rattle.serde_json.specs.Data.{Data}
use Rattle.serde_json.specs.View.{members_view, view}
use Rattle.serde_json.specs.declared.value.Value.{Value}
use Rattle.topology.specs.Outcome.{each, gather, joined}

abbrev pub Entry : Type 0
Entry = String Global × Value

pub map_push : {A B : Type 0} (f : A → B) (xs : List A) (x : A) → map f (xs ++ x ∷ []) ≡ map f xs ++ f x ∷ []
map_push f [] x = refl
map_push f (y ∷ xs) x = ap (λ ys. f y ∷ ys) (map_push f xs x)

-- three lists after the first
pub three : {A : Type 0} (a b c d x y z : List A) → b ≡ a ++ x → c ≡ b ++ y → d ≡ c ++ z → d ≡ a ++ ((x ++ y) ++ z)
three a b c d x y z h₁ h₂ h₃ =
    h₃ ∙ ap (λ l. l ++ z) (h₂ ∙ ap (λ l. l ++ y) h₁ ∙ append_assoc a x y) ∙ append_assoc a (x ++ y) z

module _ {A : Type 0} where
  pub joined_empty : (x : Option (List A)) → joined (Some []) x ≡ x
  joined_empty None = refl
  joined_empty (Some xs) = refl

  joined_more : (old new : List A) (x rest : Option (List A)) → joined (Some old) x ≡ Some new → joined (Some new) rest ≡ joined (Some old) (joined x rest)
  joined_more old new None rest h = absurd cc
  joined_more old new (Some xs) None h = refl
  joined_more old new (Some xs) (Some ys) h =
      let e : old ++ xs ≡ new = cc in
      rw (← e) (ap Some (append_assoc old xs ys))

  joined_none : (old : List A) (x rest : Option (List A)) → joined (Some old) x ≡ None → joined (Some old) (joined x rest) ≡ None
  joined_none old None rest h = refl
  joined_none old (Some xs) rest h = absurd cc

  pub joined_nothing : (old : List A) → joined (Some old) (Some []) ≡ Some old
  joined_nothing old = ap Some (append-nil old)

  -- what has been gathered, and what the members that are left give
  pub gather_next : (f : List ℕ → Data → Option (List A)) (all : Option (List A)) (es left : List Entry) (e : Entry) (old new : List A) (key : List ℕ)
      → es ≡ e ∷ left → key ≡ string_bytes e.0 → joined (Some old) (gather f (members_view es)) ≡ all → joined (Some old) (f key (view e.1)) ≡ Some new
      → joined (Some new) (gather f (members_view left)) ≡ all
  gather_next f all es left e old new key here named so_far more =
      let found = subst (λ k. joined (Some old) (f k (view e.1)) ≡ Some new) named more in
      joined_more old new (f (string_bytes e.0) (view e.1)) (gather f (members_view left)) found ∙ subst (λ z. joined (Some old) (gather f (members_view z)) ≡ all) here so_far

  pub gather_refused : (f : List ℕ → Data → Option (List A)) (all : Option (List A)) (es left : List Entry) (e : Entry) (old : List A) (key : List ℕ)
      → es ≡ e ∷ left → key ≡ string_bytes e.0 → joined (Some old) (gather f (members_view es)) ≡ all → joined (Some old) (f key (view e.1)) ≡ None
      → all ≡ None
  gather_refused f all es left e old key here named so_far more =
      let found = subst (λ k. joined (Some old) (f k (view e.1)) ≡ None) named more in
      sym (subst (λ z. joined (Some old) (gather f (members_view z)) ≡ all) here so_far) ∙ joined_none old (f (string_bytes e.0) (view e.1)) (gather f (members_view left)) found

  pub gather_end : (f : List ℕ → Data → Option (List A)) (all : Option (List A)) (es : List Entry) (old : List A)
      → es ≡ [] → joined (Some old) (gather f (members_view es)) ≡ all → all ≡ Some old
  gather_end f all es old here so_far = sym (subst (λ z. joined (Some old) (gather f (members_view z)) ≡ all) here so_far) ∙ joined_nothing old

  pub each_next : (f : List ℕ → Data → List A) (all : List A) (es left : List Entry) (e : Entry) (old new : List A) (key : List ℕ)
      → es ≡ e ∷ left → key ≡ string_bytes e.0 → old ++ each f (members_view es) ≡ all → new ≡ old ++ f key (view e.1)
      → new ++ each f (members_view left) ≡ all
  each_next f all es left e old new key here named so_far more =
      rw (more, named, append_assoc old (f (string_bytes e.0) (view e.1)) (each f (members_view left))) (subst (λ z. old ++ each f (members_view z) ≡ all) here so_far)

  pub each_end : (f : List ℕ → Data → List A) (all : List A) (es : List Entry) (old : List A)
      → es ≡ [] → old ++ each f (members_view es) ≡ all → old ≡ all
  each_end f all es old here so_far = sym (append-nil old) ∙ subst (λ z. old ++ each f (members_view z) ≡ all) here so_far
