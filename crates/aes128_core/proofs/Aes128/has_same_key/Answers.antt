use Rattle.std.proofs.Common.{rules, tests}
use Rattle.aes128_core.proofs.Aes128.has_same_key.Goals as goal

pub returns-then-self-other-3 : goal.returns-then-self-other-3
returns-then-self-other-3 c = search (tests, rules)
