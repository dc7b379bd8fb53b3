use Rattle.std.proofs.Common.{◌+◌, ℕ, sym, ap, ◌∙◌}
use Rattle.field_rows.proofs.Rows.{Puts-next}
use Rattle.process_packet.specs.Request.{request}
use Rattle.scion_header.specs.Address.{host_address}
use Rattle.scmp_answer.specs.Message.{numbers_of}
use Rattle.scmp_answer.proofs.TableLemmas.{table_len}
use Rattle.scmp_answer.proofs.writing.write_message.Goals as goal

pub returns-clause-text : goal.returns-clause-text
returns-clause-text c =
    let at = c.args.at in
    let n = numbers_of (request c.args.arriving.now.next_header c.args.payload.now) in
    let len = table_len (host_address c.args.here.now) n c.args.problem.now 0 in
    Puts-next _ _ _ at (at + c.fixed_len.result) _ _ c.write_fixed.ensures c.put.ensures (ap (λ (k : ℕ). at + k) (c.fixed_len.ensures ∙ sym len))
