use Rattle.std.specs.Prelude.{Some}
use Rattle.std.specs.Arc.{arc_value}
use Rattle.stages_tests.proofs.run.run.Given as goal

abbrev pub ghosts-play : goal.ghosts-play
ghosts-play g a = record { table = a.blank.table; workers = 4; config = Some (arc_value a.shared).config }
