use Rattle.std.proofs.Common.{◌≡◌, ◌≤◌, ◌+◌, ◌*◌, ◌/◌, ◌%◌, ◌++◌, ℕ, List, length, subst, ap, ap₂, ◌∙◌, arith, length-append}
use Rattle.field_rows.specs.Place.{Puts}
use Rattle.field_rows.specs.Row.{rows}
use Rattle.field_rows.proofs.Rows.{Puts-length}
use Rattle.path_fields.specs.Path.{fields_of}
use Rattle.process_packet.specs.Request.{request}
use Rattle.scion_header.specs.Address.{host_address}
use Rattle.scion_header.specs.Header.{header_fields}
use Rattle.scion_packet.specs.Header.{HeaderFields, front_len, header_text}
use Rattle.scion_packet.specs.Path.{path_text}
use Rattle.scmp_answer.specs.Message.{fixed_len, message, message_table, numbers_of, quote, table_of}
use Rattle.scmp_answer.specs.Reply.{answer_header, header_len}
use Rattle.scmp_answer.proofs.GoodLemmas.{is_written, quote_fits}
use Rattle.scmp_answer.proofs.TableLemmas.{table_len}
use Rattle.scmp_answer.proofs.answering.write_answer.Goals as goal

pub write_message-requires : goal.write_message-requires
write_message-requires c =
    let front = 28 + c.host_len.result + c.host_len-2.result in
    let at = front + c.path_len.result in
    let problem = c.args.problem.now in
    let bytes = c.args.bytes.now in
    let room : at + 24 ≤ 1232 = omega (arith, c.host_len.ensures.small, c.host_len-2.ensures.small, c.path_len.ensures.small) in
    let fits : at + fixed_len problem + length (quote at problem bytes) ≤ 1232 = quote_fits at problem bytes room in
    let kept = Puts-length c.args.out.now c.write_front.new.out 0 (header_text (header_fields c.answer_header-header.result) ++ path_text (fields_of c.args.way.now)) c.write_front.ensures in
    omega (arith, fits, kept, c.requires, ap length c.quote-quote.ensures)

pub returns : goal.returns
returns c p header-is payload-is =
    let front = 28 + c.host_len.result + c.host_len-2.result in
    let at = front + c.path_len.result in
    let q = c.quote-quote.result.now in
    let len = c.fixed_len.result + length q in
    let here = host_address c.args.here.now in
    let w = fields_of c.args.way.now in
    let bytes = c.args.bytes.now in
    let problem = c.args.problem.now in
    let h = header_fields c.answer_header-header.result in
    let n = numbers_of (request p.header.next_header p.payload) in
    let source-len = ap (λ (x : HeaderFields). length x.source.host) header-is in
    let at-is : at ≡ header_len here p.header w = omega (arith, c.host_len.ensures.len, c.host_len-2.ensures.len, c.path_len.ensures.text, source-len) in
    let q-is : q ≡ quote at problem bytes = c.quote-quote.ensures in
    let whole = length-append (rows (message_table here p problem 0)) (quote at problem bytes) in
    let len-is : len ≡ length (message here p at problem bytes 0) = omega (arith, whole, table_len here n problem 0, c.fixed_len.ensures, ap length q-is) in
    let h-is : h ≡ answer_header here p.header at len = c.answer_header-header.ensures ∙ ap (λ (x : HeaderFields). answer_header here x at len) header-is in
    let asked = ap₂ (λ (k : ℕ) (t : List ℕ). rows (table_of here (numbers_of (request k t)) problem 0) ++ q) (ap (λ (x : HeaderFields). x.next_header) header-is) payload-is in
    let second = subst (λ (t : List ℕ). Puts c.write_front.new.out c.write_message.new.out at t) asked c.write_message.ensures.text in
    let front-is : front ≡ front_len h = omega (arith, ap front_len h-is, source-len, c.host_len.ensures.len, c.host_len-2.ensures.len) in
    let path-is : at ≡ front + length (path_text w) = ap (λ (k : ℕ). front + k) c.path_len.ensures.text in
    let fours : at ≡ 4 * (at / 4) = omega (arith, c.host_len.ensures.fours, c.host_len-2.ensures.fours, c.path_len.ensures.whole) in
    let even : front % 2 ≡ 0 = omega (arith, c.host_len.ensures.fours, c.host_len-2.ensures.fours) in
    let room : at + 24 ≤ 1232 = omega (arith, c.host_len.ensures.small, c.host_len-2.ensures.small, c.path_len.ensures.small) in
    is_written here p w bytes problem h q c.args.out.now c.write_front.new.out c.write_message.new.out c.seal.new.out front at len
    at-is len-is q-is h-is c.write_front.ensures second c.seal.ensures.text front-is path-is
    c.write_message.ensures.are c.seal.ensures.are (c.header_is_lawful.ensures c.answer_header-header.result) c.path_len.ensures.lawful fours even room
