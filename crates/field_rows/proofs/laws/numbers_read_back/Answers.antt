use Rattle.field_rows.proofs.Numbers.{bytes_of_number, number_of_bytes}
use Rattle.field_rows.proofs.laws.numbers_read_back.Goals as goal

pub returns : goal.returns
returns c = record { number = number_of_bytes; bytes = bytes_of_number }
