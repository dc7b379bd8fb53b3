use Rattle.std.specs.Prelude.{Some}
use Rattle.std.specs.Arc.{arc_value}
use Rattle.stages_tests.proofs.timing.time_router.Given as goal

abbrev pub ghosts-time : goal.ghosts-time
ghosts-time g a = record { table = a.blank.table; workers = 4; config = Some (arc_value a.shared).config }
