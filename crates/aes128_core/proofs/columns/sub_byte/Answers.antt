use Rattle.aes128_core.proofs.TableRules.{s_box_at}
use Rattle.aes128_core.proofs.columns.sub_byte.Goals as goal

pub returns : goal.returns
returns c = s_box_at c.args.b c.ranges.b.fits
