use Rattle.std.proofs.Common.{◌≡◌, ◌+◌, ◌-◌, ◌++◌, ℕ, length, sum, ap, subst, ◌∙◌, arith}
use Rattle.field_rows.specs.Place.{IsBytes}
use Rattle.field_rows.specs.Row.{rows}
use Rattle.scmp_answer.specs.Checksum.{Carried, ones_complement_sum, pseudo_table, words}
use Rattle.scmp_answer.proofs.ChecksumLemmas.{all_summed, sum_carried, summed_bytes}
use Rattle.scmp_answer.proofs.checksum.checksum.Goals as goal

pub returns : goal.returns
returns c =
    let a = c.args.addresses.now in
    let m = c.args.message.now in
    let all = a ++ (rows (pseudo_table (length m)) ++ m) in
    let a-are : IsBytes a = λ i. omega (arith, c.type_inv.addresses i) in
    let m-are : IsBytes m = λ i. omega (arith, c.type_inv.message i) in
    let total : sum (words all) ≡ c.word_sum.result + (length m + 202) + c.word_sum-2.result =
    all_summed a m c.requires.even c.requires.short ∙ omega (arith, c.word_sum.ensures.sum, c.word_sum-2.ensures.sum) in
    let so = subst (λ (n : ℕ). Carried (ones_complement_sum (words all)) n) total (sum_carried all (summed_bytes a m a-are m-are)) in
    ap (λ (n : ℕ). 65535 - n) (c.carried.ensures (ones_complement_sum (words all)) so)
