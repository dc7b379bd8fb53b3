use Rattle.std.proofs.Common.{map, string_bytes}
use Rattle.cli_check.proofs.NetLemmas.{told_of}
use Rattle.cli_check.proofs.net.told.Goals as goal

pub returns : goal.returns
returns c =
    told_of c.words_of.result c.args.net.now (map string_bytes c.args.names.now) c.args.misfit _ c.fault_of.ensures c.words_of.ensures
