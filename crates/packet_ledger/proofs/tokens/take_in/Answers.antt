use Rattle.std.proofs.Common.{rules}
use Rattle.packet_ledger.proofs.Moves.{takes}
use Rattle.packet_ledger.proofs.tokens.take_in.Goals as goal

pub join_pass-requires : goal.join_pass-requires
join_pass-requires c = (search rules, (search rules, ((c.requires.own, c.requires.other.0, c.requires.other.1), takes _ _ _ _)))
