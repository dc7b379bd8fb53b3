-- Heads of requests: how long they are, and where they are whole.
use Rattle.std.proofs.Common.{◌≡◌, ◌≤◌, ◌*◌, ℕ, suc, List, [], ◌∷◌, ◌++◌, All, length, take, drop, false, nat_lt, flat_map, arith, refl, sym, ap, ◌∙◌, inl, inr}
use Rattle.std.proofs.lemmas.Bool.{cases_Bool}
use Rattle.std.proofs.lemmas.Bool.Decides.{Decides-ltb, nat_tests}
use Rattle.std.proofs.lemmas.List.{length-append, take-append-drop, take-append-le, take_at}
use Rattle.httparse.specs.Grammar.{Field, HasNoRequest, IsField, IsRequestHead, LineEnd, ReadsRequest, RequestHead, crlf, lf, print_end, print_field, print_request, print_section}
use Rattle.httparse.specs.Spans.{RequestOverflows}
use Rattle.metrics_server.specs.Request.{HasNoHeadWithin, most}

-- ---- lengths

end_long : (e : LineEnd) → 1 ≤ length (print_end e)
end_long crlf = omega arith
end_long lf = omega arith

field_long : (f : Field) → IsField f → 3 ≤ length (print_field f)
field_long f is =
    let name = is.name.0 in
    let end = end_long f.end in
    grind (arith, length-append, name, end)

fields_long : (fs : List Field) → All IsField fs → 3 * length fs ≤ length (flat_map print_field fs)
fields_long [] all = omega arith
fields_long (f ∷ fs) all = omega (arith, length-append (print_field f) (flat_map print_field fs), field_long f (all 0 f (omega arith)), fields_long fs (λ k d below. all (suc k) d (omega arith)))

section_long : (fs : List Field) (last : LineEnd) → All IsField fs → 3 * length fs ≤ length (print_section fs last)
section_long fs last all = omega (arith, length-append (flat_map print_field fs) (print_end last), fields_long fs all)

ends_with : (whole front back : List ℕ) → whole ≡ front ++ back → length back ≤ length whole
ends_with whole front back is = omega (arith, ap (λ (xs : List ℕ). length xs) is, length-append front back)

head_long : (h : RequestHead) → IsRequestHead h → 3 * length h.fields ≤ length (print_request h)
unfolding print_request
head_long h is = omega (arith, section_long h.fields h.last is.fields, ends_with (print_request h) _ (print_section h.fields h.last) refl)

-- a head with more fields than 2,730 is longer than 8,192 bytes
pub no_room : (bytes : List ℕ) → RequestOverflows 2730 bytes → (more : List ℕ) → HasNoHeadWithin most (bytes ++ more)
no_room bytes over more h rest reads = omega (arith, over more h rest reads, head_long h reads.0)

-- ---- what is whole

-- a head at the front, if it isn't longer than some bytes at the front, is whole in them
cut : (bytes more : List ℕ) (h : RequestHead) (rest : List ℕ) → ReadsRequest (bytes ++ more) h rest → length (print_request h) ≤ length bytes
    → ReadsRequest bytes h (drop (length (print_request h)) bytes)
cut bytes more h rest reads fits =
    let n = length (print_request h) in
    let front : take n bytes ≡ print_request h = sym (take-append-le n bytes more fits) ∙ ap (λ (xs : List ℕ). take n xs) reads.1 ∙ take_at (print_request h) rest n refl in
    (reads.0, sym (take-append-drop n bytes) ∙ ap (λ (xs : List ℕ). xs ++ drop n bytes) front)

le_of_test : (a b : ℕ) → nat_lt a b ≡ false → b ≤ a
le_of_test a b h = grind (arith, nat_tests)

-- where there is none in so many bytes, there is none of that length, whatever follows
pub none_within : (bytes : List ℕ) → length bytes ≡ most → HasNoRequest bytes → (more : List ℕ) → HasNoHeadWithin most (bytes ++ more)
none_within bytes long none more h rest reads = elim (cases_Bool (nat_lt most (length (print_request h)))) [
  | inl longer ↦ (Decides-ltb most (length (print_request h))).0 longer
  | inr short ↦
      let fits : length (print_request h) ≤ length bytes = omega (arith, long, le_of_test most (length (print_request h)) short) in
      absurd (none h (drop (length (print_request h)) bytes) (cut bytes more h rest reads fits))
]

target_there : (h : RequestHead) (rest : List ℕ) → IsRequestHead h → [] ≡ print_request h ++ rest → ⊥
unfolding print_request
target_there h rest is e =
    let long = ap (λ (xs : List ℕ). length xs) e in
    let end = end_long h.last in
    grind (arith, length-append, long, end)

-- there is none in no bytes
pub none_yet : HasNoRequest []
none_yet h rest reads = target_there h rest reads.0 reads.1
