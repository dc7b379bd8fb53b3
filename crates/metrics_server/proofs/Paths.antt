-- Whether a target is the page.
use Rattle.std.proofs.Common.{◌≡◌, inl, inr, ℕ, Bool, true, false, List, ◌++◌, codes, drop, length, nat_eq, refl, sym, Decides, MatchBool, true≢false}
use Rattle.std.specs.Cmp.{unsigned_Decides}
use Rattle.std.specs.List.{starts_with}
use Rattle.std.specs.Cmp.Lexicographic.{pointwise}
use Rattle.std.proofs.lemmas.Slice.Eq.{slice_eq-Decides, starts_is}
use Rattle.metrics_server.specs.Request.{IsPage}

is_page : (target query : List ℕ) → target ≡ codes "/metrics?" ++ query → IsPage target
is_page target query is = inr (query, is)

no_page : (target : List ℕ) → (target ≡ codes "/metrics" → ⊥) → ((query : List ℕ) → target ≡ codes "/metrics?" ++ query → ⊥) → IsPage target → ⊥
no_page target plain begun (inl is) = plain is
no_page target plain begun (inr (query, is)) = begun query is

-- it isn't without a query, and it may begin as one with a query does
pub with_query : (target : List ℕ) (r : Bool) → (target ≡ codes "/metrics" → ⊥) → r ≡ starts_with nat_eq target (codes "/metrics?") → MatchBool r (IsPage target) (IsPage target → ⊥)
with_query target true plain is = is_page target (drop (length (codes "/metrics?")) target) ((starts_is unsigned_Decides target (codes "/metrics?") true is).0 refl)
with_query target false plain is =
    no_page target plain (λ query there. true≢false (sym ((starts_is unsigned_Decides target (codes "/metrics?") false is).1 query there)))

-- whether a method is this one
is_told : (name method : List ℕ) (r : Bool) → Decides r (method ≡ name) → MatchBool r (method ≡ name) (method ≡ name → ⊥)
is_told name method true told = told.0 refl
is_told name method false told = λ same. true≢false (sym (told.1 same))

pub is_method : (name method : List ℕ) (r : Bool) → r ≡ pointwise nat_eq method name → MatchBool r (method ≡ name) (method ≡ name → ⊥)
is_method name method r is = is_told name method r (slice_eq-Decides unsigned_Decides method name r is)
