use Rattle.field_rows.proofs.Rows.{Puts-before, Puts-after, Puts-length, Puts-stands}
use Rattle.field_rows.proofs.laws.written_stands.Goals as goal

pub returns : goal.returns
returns c = record { there = Puts-stands; before = Puts-before; after = Puts-after; len = Puts-length }
