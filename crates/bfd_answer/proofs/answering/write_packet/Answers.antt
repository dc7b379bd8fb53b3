use Rattle.std.proofs.Common.{◌≡◌, ◌+◌, ◌*◌, ℕ, length, replicate, refl, sym, ap, ap₂, subst, ◌∙◌, arith}
use Rattle.field_rows.specs.Place.{Puts}
use Rattle.bfd_control.specs.Answer.{answer_text}
use Rattle.scion_header.specs.Header.{header_fields}
use Rattle.scion_packet.specs.Header.{HeaderFields, IsHeader, front_len, header_text}
use Rattle.scion_packet.specs.Path.{HopField, InfoField}
use Rattle.process_packet.specs.Network.{network}
use Rattle.bfd_answer.specs.Answer.{answer_packet}
use Rattle.bfd_answer.proofs.PacketLemmas.{is_written, of_one_hop, written_path}
use Rattle.bfd_answer.proofs.answering.write_packet.Goals as goal

pub returns : goal.returns
returns c =
    let link = c.args.link.now in
    let p = answer_packet (network c.args.config.now) link c.args.there c.args.now c.args.received.now in
    let header = c.header_over-header.result in
    let h = header_fields header in
    let info = c.path_out.result.0 in
    let hop = c.path_out.result.1 in
    let front = c.in-Ok.front in
    let s0 = c.args.out.now in
    let s1 = c.write_header_as.new.out in
    let s2 = c.write_one_hop.new.out in
    let s3 = c.write_answer.new.out in
    let header-is : record h { path_type = 2 } ≡ p.header = c.header_over-header.ensures.header in
    let first : Puts s0 s1 0 (header_text p.header) = subst (λ (x : HeaderFields). Puts s0 s1 0 (header_text x)) header-is c.in-Ok.ensures.written in
    let third : Puts s2 s3 (front + 32) p.payload = subst (λ (own : ℕ). Puts s2 s3 (front + 32) (answer_text own c.args.received.now)) c.from.ensures c.write_answer.ensures in
    let len-is : front_len h ≡ front_len p.header = ap front_len header-is in
    let path-is : p.path ≡ written_path info hop =
    ap₂ (λ (i : InfoField) (f : HopField). record { info = i; first = f; second = replicate 12 0 }) (sym c.path_out.ensures.info) (sym c.path_out.ensures.hop) in
    let lawful : IsHeader p.header = subst IsHeader header-is (of_one_hop h (c.header_is_lawful.ensures header)) in
    let d-len = ap (λ (x : HeaderFields). length x.destination.host) header-is in
    let s-len = ap (λ (x : HeaderFields). length x.source.host) header-is in
    let whole : 4 * p.header.header_length ≡ front_len p.header + 32 = omega (arith, d-len, s-len, header.destination.host_is_whole, header.source.host_is_whole) in
    is_written p info hop s0 s1 s2 s3 front first c.write_one_hop.ensures third path-is (c.in-Ok.ensures.len ∙ len-is) lawful refl whole
    (ap (λ (i : InfoField). i.along) c.path_out.ensures.info) (omega (arith, c.header_over-header.ensures.short, len-is)) refl
