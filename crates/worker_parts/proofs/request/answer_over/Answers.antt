use Rattle.std.proofs.Common.{◌≡◌, ◌≤◌, ℕ, List, [], ◌∷◌, ◌++◌, length, take, zero, suc, refl, sym, ap, subst, ◌∙◌, arith}
use Rattle.scmp_answer.specs.Outcome.{outcome_in, used}
use Rattle.scmp_answer.specs.declared.outcome.AnswerLen.{AnswerLen}
use Rattle.scmp_answer.specs.declared.outcome.AnswerLen.TheVariants as len
use Rattle.worker_parts.proofs.request.answer_over.Goals as goal

take_front : (n : ℕ) (xs ys : List ℕ) → n ≤ length xs → take n (xs ++ ys) ≡ take n xs
take_front zero xs ys le = refl
take_front (suc n) [] ys le = absurd (omega arith)
take_front (suc n) (x ∷ xs) ys le = ap (λ zs. x ∷ zs) (take_front n xs ys (omega arith))

-- only the first bytes matter
same_answer : (a : AnswerLen) (out rest : List ℕ) → used a ≤ length out → outcome_in (out ++ rest) a ≡ outcome_in out a
same_answer (len.Send link to n) out rest short = rw (take_front n out rest short) refl
same_answer (len.Drop why) out rest short = refl

pub returns-clause-answer : goal.returns-clause-answer
returns-clause-answer c =
    let out = c.answer_into-answer.new.out in
    let a = c.answer_into-answer.result in
    let after : c.copy_from_slice.new.self ≡ out = c.copy_from_slice.ensures.after in
    let short : used a ≤ length out = let l = c.answer_into-answer.array_long in let u = c.answer_into-answer.ensures.len in omega arith in
    let P : List ℕ → Type 0 = λ t. outcome_in (t ++ c.split_at_mut-front.result.1.now) a ≡ outcome_in out a in
    subst P (sym after) (same_answer a out c.split_at_mut-front.result.1.now short) ∙ c.answer_into-answer.ensures.answer
