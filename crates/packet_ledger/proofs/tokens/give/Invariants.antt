use Rattle.packet_ledger.specs.Shown.{rows_of}
use Rattle.packet_ledger.proofs.tokens.give.Given as goal

abbrev pub ghosts-give_as : goal.ghosts-give_as
ghosts-give_as a = record { counts = a.counts.now; parts = a.parts; place = a.place; rows = rows_of a.inputs.now a.outputs.now }
