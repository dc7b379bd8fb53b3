use Rattle.std.proofs.Common.{rules}
use Rattle.cli_io.proofs.hex_line.read_hex.Goals as goal

pub returns-in-Err : goal.returns-in-Err
returns-in-Err c = search rules
