use Rattle.std.proofs.Common.{◌≡◌, Ok, ◌<◌, ◌^◌, arith, sym, ap, ◌∙◌, true, decimal}
use Rattle.std.proofs.lemmas.Fmt.{parse-decimal}
use Rattle.std.proofs.lemmas.Slice.Eq.{bytes_eq-Decides}
use Rattle.text_values.proofs.decimal.read_decimal.Goals as goal
use Rattle.text_values.proofs.decimal.read_decimal.Goals.{else-number-limit-via-then-number-limit+else-eq, else-number-limit-via-else-number-limit}

pub returns-in_default-clause-none : goal.returns-in_default-clause-none
returns-in_default-clause-none c = λ number fits is.
    let small : number < 2 ^ 64 = omega arith in
    let read : c.parse.result ≡ Ok number = parse-decimal 64 number c.args.text.now c.parse.result small small is c.parse.ensures.value.0 in
    cc

pub returns-else-number-limit-clause-none : goal.returns-else-number-limit-clause-none
returns-else-number-limit-clause-none c = λ number fits is.
    let small : number < 2 ^ 64 = omega arith in
    let read : c.parse.result ≡ Ok number = parse-decimal 64 number c.args.text.now c.parse.result small small is c.parse.ensures.value.0 in
    let same : c.in-Ok.number ≡ number = cc in
    elim c.else-number-limit.branch [
      | else-number-limit-via-then-number-limit+else-eq w ↦
          let printed : w.format.result.now ≡ c.args.text.now = w.format.ensures.text ∙ ap decimal same ∙ sym is in
          let equal : w.eq.result ≡ true = w.eq.ensures ∙ (bytes_eq-Decides w.format.result.now c.args.text.now).1 printed in cc
      | else-number-limit-via-else-number-limit w ↦ omega arith
    ]
