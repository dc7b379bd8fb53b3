use Rattle.std.proofs.lemmas.Grind.{common_steps}
use Rattle.std.proofs.Common.{arith}
use Rattle.scmp_answer.proofs.ChecksumLemmas.{one_more_word}
use Rattle.scmp_answer.proofs.checksum.word_sum.Goals as goal

pub loop-k-preserved : goal.loop-k-preserved
loop-k-preserved c =
    let more = one_more_word c.args.bytes.now c.loop-k.k (omega arith) in
    record { so_far = omega (arith, more, c.from-sum.ensures, c.u16_at.ensures); small = omega (arith, c.from-sum.ensures) }

pub returns-then-bytes-eq1-clause-sum : goal.returns-then-bytes-eq1-clause-sum
returns-then-bytes-eq1-clause-sum c = grind (arith, common_steps)
