-- Each cause has one number, so the counts by number add up to all that was dropped.
use Rattle.std.proofs.Common.{◌≡◌, ℕ, ◌+◌, Bool, true, false, cond, List, [], ◌∷◌, map, length, refl, ap, ◌∙◌, arith}
use Rattle.std.specs.Prelude.{◌==◌}
use Rattle.std.specs.List.{filter, sum, sum_by}
use Rattle.std.proofs.lemmas.List.Sums.{sum-map, sum_by-cons}
use Rattle.order_laws.specs.Counts.{count, total}
use Rattle.order_laws.specs.Cause.{Cause}
use Rattle.order_laws.specs.Fate.{Fate}
use Rattle.order_laws.proofs.Sums.{total-agree, total-plus}
use Rattle.process_packet.specs.Cause.{number_of}
use Rattle.process_packet.specs.declared.cause.Cause.{Cause as RouterCause}
use Rattle.process_packet.specs.declared.cause.Cause.TheVariants as why
use Rattle.router_rules.specs.Rules.{kinds}
use Rattle.pipe_model.specs.Shown.{is_number, numbers}

count-cons : {X : Type 0} (p : X → Bool) (x : X) (xs : List X) → count p (x ∷ xs) ≡ cond (p x) 1 0 + count p xs
count-cons p x xs = go (p x)
  where
    go : (b : Bool) → length (cond b (x ∷ filter p xs) (filter p xs)) ≡ cond b 1 0 + length (filter p xs)
    go true = omega arith
    go false = omega arith

-- a cause has one of the numbers
one_number : (w : RouterCause) → total (λ n. cond (number_of w == n) 1 0) numbers ≡ 1
one_number why.Short = refl
one_number why.Version = refl
one_number why.PathType = refl
one_number why.Header = refl
one_number why.Path = refl
one_number why.Peering = refl
one_number why.UnderlaySource = refl
one_number why.PathEnd = refl
one_number why.NoAnswer = refl
one_number why.NoWayBack = refl
one_number why.TooLong = refl
one_number why.ProcessorFull = refl
one_number why.LinkFull = refl
one_number why.AnswerFull = refl
one_number why.NoMemory = refl
one_number why.Closed = refl
one_number why.SendFailed = refl
one_number why.NoBuffer = refl
one_number why.OneHopEnds = refl
one_number why.OneHopField = refl
one_number why.OneHopHost = refl

one_cause : (w : Cause kinds) → total (λ n. cond (is_number n w) 1 0) numbers ≡ 1
one_cause (Cause.Ruled w) = one_number w
one_cause Cause.ProcessorFull = refl
one_cause Cause.LinkFull = refl
one_cause Cause.AnswerFull = refl
one_cause Cause.NoMemory = refl
one_cause Cause.Closed = refl
one_cause Cause.SendFailed = refl
one_cause Cause.NoBuffer = refl

none_counted : (ns : List ℕ) → (let none : List (Fate kinds) = [] in total (λ n. count (λ f. is_number n f.cause) none) ns ≡ 0)
none_counted [] = refl
none_counted (n ∷ ns) = let e = none_counted ns in omega (arith, e)

all_causes : (F : List (Fate kinds)) → total (λ n. count (λ f. is_number n f.cause) F) numbers ≡ count (λ f. true) F
all_causes [] = none_counted numbers
all_causes (f ∷ F) =
    let one : ℕ → ℕ = λ n. cond (is_number n f.cause) 1 0 in
    let rest : ℕ → ℕ = λ n. count (λ (g : Fate kinds). is_number n g.cause) F in
    let more = total-agree (λ n. count (λ (g : Fate kinds). is_number n g.cause) (f ∷ F)) (λ n. one n + rest n) numbers (λ n. count-cons (λ (g : Fate kinds). is_number n g.cause) f F) in
    let parts = total-plus one rest numbers in
    let here = one_cause f.cause in
    let there = all_causes F in
    omega (arith, more, parts, here, there)

sum_total : (f : ℕ → ℕ) (ns : List ℕ) → sum_by f ns ≡ total f ns
sum_total f [] = refl
sum_total f (n ∷ ns) = sum_by-cons f n ns ∙ ap (λ (k : ℕ). f n + k) (sum_total f ns)

pub sum_of_causes : (F : List (Fate kinds)) → sum (map (λ n. count (λ f. is_number n f.cause) F) numbers) ≡ count (λ f. true) F
sum_of_causes F =
    let by_number : ℕ → ℕ = λ n. count (λ (f : Fate kinds). is_number n f.cause) F in
    sum-map by_number numbers ∙ (sum_total by_number numbers ∙ all_causes F)
