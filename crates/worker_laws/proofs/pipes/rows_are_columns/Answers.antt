use Rattle.worker_laws.proofs.Rows.{rows_are_columns}
use Rattle.worker_laws.proofs.pipes.rows_are_columns.Goals as goal

pub returns : goal.returns
returns g c = record { law = rows_are_columns }
