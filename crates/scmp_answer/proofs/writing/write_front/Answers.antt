use Rattle.std.proofs.Common.{◌≡◌, ◌≤◌, ◌+◌, ◌-◌, length, arith}
use Rattle.path_fields.specs.Path.{fields_of}
use Rattle.field_rows.proofs.Rows.{Puts-length, Puts-next}
use Rattle.scion_header.specs.Header.{header_fields}
use Rattle.scion_packet.specs.Header.{header_text}
use Rattle.scion_packet.specs.Path.{path_text}
use Rattle.scmp_answer.proofs.AnswerLemmas.{header_text_len}
use Rattle.scmp_answer.proofs.PlaceLemmas.{puts_part}
use Rattle.scmp_answer.proofs.writing.write_front.Goals as goal

pub returns : goal.returns
returns c =
    let h = header_fields c.args.header.now in
    let text = path_text (fields_of c.args.way.now) in
    let front = c.in-Ok.front in
    let end = front + c.path_len.result in
    let mid = c.write_header.new.out in
    let first = c.in-Ok.ensures.written in
    let kept = Puts-length c.args.out.now mid 0 (header_text h) first in
    let there : front ≡ 0 + length (header_text h) = omega (arith, header_text_len h, c.in-Ok.ensures.len) in
    let fills : end - front ≡ length text = omega (arith, c.path_len.ensures.text) in
    let inside : end ≤ length mid = omega (arith, kept, c.requires, c.path_len.ensures.text, c.in-Ok.ensures.len) in
    let second = puts_part mid c.write_path.new.out text front end (omega arith) inside c.in-Ok-write_path.ensures.written fills in
    Puts-next c.args.out.now mid _ 0 front (header_text h) text first second there
