-- The bytes written so far, and the lines that are left.
use Rattle.std.proofs.Common.{◌≡◌, ℕ, suc, ◌+◌, true, List, [], ◌∷◌, ◌++◌, take, drop, Option, Some, None, Ok, Err, refl, sym, ap, ◌∙◌, add-one, append_assoc}
use Rattle.std.specs.Prelude.{⊤, IfSome}
use Rattle.std.specs.Io.KnownBytes.{Appends}
use Rattle.std.proofs.lemmas.List.{append-nil, take-append-drop}
use Rattle.cli_io.proofs.LinesLemmas.{Appends-nothing, Appends-then}
use Rattle.cli_io.proofs.ToldLemmas.{part_told}
use Rattle.cli_io.specs.Lines.{Same, left_of, lines_in, lines_of}
use Rattle.cli_io.specs.Told.{IsCut, bad_or}
use Rattle.cli_io.specs.declared.fault.LinesFault.{LinesFault}
use Rattle.cli_io.specs.declared.fault.LinesFault.TheVariants as faults
use Rattle.cli_route.specs.Route.{Wrote, answer_then, answers_to, bad_line}

-- the line is the first one of what was left, and the lines after it are left now
abbrev pub IsNext : Option (List ℕ) → Option (List ℕ) → List ℕ → Type 0
IsNext before after line = Same (lines_in before) (left_of true line after)

-- What has been written answers the lines before, and what is left answers the others, of which the first has the number n.
abbrev pub Progress : (List ℕ → Option (List ℕ)) → Option (List ℕ) → Option (List ℕ) → Option (List ℕ) → Option (List ℕ) → ℕ → Type 0
Progress answer None now old new n = ⊤
Progress answer (Some input) None old new n = ⊥
Progress answer (Some input) (Some rest) old new n =
    (done : List ℕ) × Appends old new done × (answers_to answer (lines_of input) ≡ done ++ answers_to answer (lines_of rest)) × (bad_line answer 1 (lines_of input) ≡ bad_line answer n (lines_of rest))

pub begun : (answer : List ℕ → Option (List ℕ)) (known old : Option (List ℕ)) → Progress answer known known old old 1
begun answer None old = tt
begun answer (Some input) old = ([], Appends-nothing old, refl, refl)

answers_one : (answer : List ℕ → Option (List ℕ)) (line : List ℕ) (lines : List (List ℕ)) (text : List ℕ) → answer line ≡ Some text → answers_to answer (line ∷ lines) ≡ text ++ answers_to answer lines
unfolding answers_to
answers_one answer line lines text found = ap (λ (a : Option (List ℕ)). answer_then a (answers_to answer lines)) found

bad_one : (answer : List ℕ → Option (List ℕ)) (n : ℕ) (line : List ℕ) (lines : List (List ℕ)) (text : List ℕ) → answer line ≡ Some text → bad_line answer n (line ∷ lines) ≡ bad_line answer (suc n) lines
unfolding bad_line
bad_one answer n line lines text found = ap (λ (a : Option (List ℕ)). bad_or a n (bad_line answer (suc n) lines)) found

-- one more line was answered
pub answered : (answer : List ℕ → Option (List ℕ)) (known before after old mid new : Option (List ℕ)) (n : ℕ) (line text : List ℕ) → Progress answer known before old mid n
    → IsNext before after line → answer line ≡ Some text → Appends mid new text → Progress answer known after old new (n + 1)
answered answer None before after old mid new n line text so_far read found wrote = tt
answered answer (Some input) None after old mid new n line text so_far read found wrote = absurd so_far
answered answer (Some input) (Some rest) None old mid new n line text so_far read found wrote = absurd read
answered answer (Some input) (Some rest) (Some left) old mid new n line text so_far read found wrote =
    let answers : answers_to answer (lines_of rest) ≡ text ++ answers_to answer (lines_of left) = ap (answers_to answer) read ∙ answers_one answer line (lines_of left) text found in
    let bad : bad_line answer n (lines_of rest) ≡ bad_line answer (suc n) (lines_of left) = ap (bad_line answer n) read ∙ bad_one answer n line (lines_of left) text found in
    rw add-one (
      so_far.0 ++ text,
      Appends-then old mid new so_far.0 text so_far.1 wrote,
      so_far.2 ∙ ap (λ (t : List ℕ). so_far.0 ++ t) answers ∙ sym (append_assoc so_far.0 text _),
      so_far.3 ∙ bad,
    )

-- ---- where the engine ends

-- before the next line's answer
pub stopped : (answer : List ℕ → Option (List ℕ)) (known rest old now : Option (List ℕ)) (n : ℕ) (e : LinesFault) → IsCut e → Progress answer known rest old now n → IfSome known (λ input. Wrote answer (Err e) input old now)
stopped answer None rest old now n e cut so_far = tt
stopped answer (Some input) None old now n e cut so_far = absurd so_far
stopped answer (Some input) (Some rest) old now n e cut so_far =
    part_told (answers_to answer (lines_of input)) so_far.0 (answers_to answer (lines_of rest)) (bad_line answer 1 (lines_of input)) e old now cut so_far.2 so_far.1

-- in the midst of a line's answer
pub cut_short : (answer : List ℕ → Option (List ℕ)) (known before after old mid new : Option (List ℕ)) (n k : ℕ) (line text : List ℕ) (e : LinesFault) → IsCut e → Progress answer known before old mid n
    → IsNext before after line → answer line ≡ Some text → Appends mid new (take k text) → IfSome known (λ input. Wrote answer (Err e) input old new)
cut_short answer None before after old mid new n k line text e cut so_far read found wrote = tt
cut_short answer (Some input) None after old mid new n k line text e cut so_far read found wrote = absurd so_far
cut_short answer (Some input) (Some rest) None old mid new n k line text e cut so_far read found wrote = absurd read
cut_short answer (Some input) (Some rest) (Some left) old mid new n k line text e cut so_far read found wrote =
    let more = answers_to answer (lines_of left) in
    let answers : answers_to answer (lines_of rest) ≡ text ++ more = ap (answers_to answer) read ∙ answers_one answer line (lines_of left) text found in
    let halves : text ++ more ≡ take k text ++ (drop k text ++ more) = ap (λ (t : List ℕ). t ++ more) (sym (take-append-drop k text)) ∙ append_assoc (take k text) (drop k text) more in
    let all : answers_to answer (lines_of input) ≡ (so_far.0 ++ take k text) ++ (drop k text ++ more) = so_far.2 ∙ ap (λ (t : List ℕ). so_far.0 ++ t) (answers ∙ halves) ∙ sym (append_assoc so_far.0 (take k text) (drop k text ++ more)) in
    part_told (answers_to answer (lines_of input)) (so_far.0 ++ take k text) (drop k text ++ more) (bad_line answer 1 (lines_of input)) e old new cut all (Appends-then old mid new so_far.0 (take k text) so_far.1 wrote)

-- where nothing is left
pub ended : (answer : List ℕ → Option (List ℕ)) (known rest old now : Option (List ℕ)) (n : ℕ) → Progress answer known rest old now n → Same (lines_in rest) (Some [])
    → IfSome known (λ input. Wrote answer (Ok tt) input old now)
unfolding answers_to bad_line
ended answer None rest old now n so_far nothing = tt
ended answer (Some input) None old now n so_far nothing = absurd so_far
ended answer (Some input) (Some rest) old now n so_far nothing =
    let left : answers_to answer (lines_of rest) ≡ [] = ap (answers_to answer) nothing in
    let bad : bad_line answer n (lines_of rest) ≡ None = ap (bad_line answer n) nothing in
    let all : answers_to answer (lines_of input) ≡ so_far.0 = so_far.2 ∙ ap (λ (t : List ℕ). so_far.0 ++ t) left ∙ append-nil so_far.0 in
    (rw all so_far.1, so_far.3 ∙ bad)

-- at a line that is no hex
pub refused : (answer : List ℕ → Option (List ℕ)) (known before after old now : Option (List ℕ)) (n : ℕ) (line : List ℕ) → Progress answer known before old now n → IsNext before after line → answer line ≡ None
    → IfSome known (λ input. Wrote answer (Err (faults.Line n)) input old now)
unfolding answers_to bad_line
refused answer None before after old now n line so_far read found = tt
refused answer (Some input) None after old now n line so_far read found = absurd so_far
refused answer (Some input) (Some rest) None old now n line so_far read found = absurd read
refused answer (Some input) (Some rest) (Some left) old now n line so_far read found =
    let answers : answers_to answer (lines_of rest) ≡ [] = ap (answers_to answer) read ∙ ap (λ (a : Option (List ℕ)). answer_then a (answers_to answer (lines_of left))) found in
    let bad : bad_line answer n (lines_of rest) ≡ Some n = ap (bad_line answer n) read ∙ ap (λ (a : Option (List ℕ)). bad_or a n (bad_line answer (suc n) (lines_of left))) found in
    let all : answers_to answer (lines_of input) ≡ so_far.0 = so_far.2 ∙ ap (λ (t : List ℕ). so_far.0 ++ t) answers ∙ append-nil so_far.0 in
    (rw all so_far.1, so_far.3 ∙ bad)
