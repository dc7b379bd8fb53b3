use Rattle.std.proofs.Common.{rules}
use Rattle.net_walks.proofs.carrying.comes_home.Goals as goal

pub returns-in-Ok-check_header_as : goal.returns-in-Ok-check_header_as
returns-in-Ok-check_header_as c = search rules

pub returns-in-Err-check_header_as : goal.returns-in-Err-check_header_as
returns-in-Err-check_header_as c = search rules
