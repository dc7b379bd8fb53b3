use Rattle.cli_import.proofs.ListLemmas.{empty_unless_told}
use Rattle.cli_import.proofs.configure.tell_left_out.Goals as goal

pub returns : goal.returns
returns g c = λ silent. empty_unless_told c.args.list.now c.is_empty.result c.is_empty.ensures silent
