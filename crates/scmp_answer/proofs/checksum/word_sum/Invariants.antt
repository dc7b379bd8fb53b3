use Rattle.std.proofs.Common.{◌≡◌, ◌≤◌, ◌+◌, ◌*◌, drop, sum}
use Rattle.scmp_answer.specs.Checksum.{words}
use Rattle.scmp_answer.proofs.checksum.word_sum.Given as goal

abbrev pub invariant-loop-k : goal.invariant-loop-k
invariant-loop-k l = record { so_far : l.sum + sum (words (drop (2 * l.k) l.bytes)) ≡ sum (words l.bytes); small : l.sum ≤ 65535 * l.k }
