use Rattle.std.proofs.Common.{rules}
use Rattle.packet_ledger.proofs.Moves.{audits}
use Rattle.packet_ledger.proofs.tokens.audit.Goals as goal

pub load_as-requires : goal.load_as-requires
load_as-requires g c = (search rules, (search rules, (c.requires.own, audits _ _ c.requires.keeps)))
