use Rattle.std.proofs.Common.{rules}
use Rattle.packet_ledger.proofs.Moves.{shows}
use Rattle.packet_ledger.proofs.tokens.show.Goals as goal

pub split_pass-requires : goal.split_pass-requires
split_pass-requires c = (search rules, (search rules, (c.requires.own, shows _ _ c.requires.keeps)))
