use Rattle.scmp_answer.proofs.TellingLemmas.{answers_tell}
use Rattle.scmp_answer.proofs.laws.answers_tell_problems.Goals as goal

pub returns : goal.returns
returns c = answers_tell
