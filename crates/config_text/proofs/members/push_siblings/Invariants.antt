use Rattle.std.proofs.Common.{◌≡◌, ◌++◌, drop}
use Rattle.config_text.specs.Members.{siblings_text}
use Rattle.config_text.proofs.members.push_siblings.Given as goal

abbrev pub invariant-loop-sibling : goal.invariant-loop-sibling
invariant-loop-sibling l = l.text.items ++ siblings_text (drop l.sibling-index l.siblings) ≡ l.fn.text.items ++ siblings_text l.siblings
