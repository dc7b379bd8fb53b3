use Rattle.aes128_core.proofs.ColumnLemmas.{column_is}
use Rattle.aes128_core.proofs.columns.mixed_column.Goals as goal

pub returns : goal.returns
returns c =
    column_is c.args.a c.args.b c.args.c c.args.d c.args.key
    c.ranges.a.fits c.ranges.b.fits c.ranges.c.fits c.ranges.d.fits
