use Rattle.std.proofs.Common.{◌≡◌, ◌∙◌, ap, sym, arith}
use Rattle.scion_packet.specs.Lengths.{are_lengths, hop_count, segment_count}
use Rattle.scion_packet.specs.Reversed.{cleared_hop, reversed_info}
use Rattle.path_fields.specs.Fields.{hop_field, info_field}
use Rattle.path_fields.proofs.ReversingLemmas.{is_back, length_back, path_back, room_back}
use Rattle.path_fields.proofs.reversing.reversed.Goals as goal

pub invariant_of-result : goal.invariant_of-result
invariant_of-result c =
    let p = c.args.path.now in
    let lengths-are = c.reversed_lengths-lengths.ensures in
    let is = is_back p.lengths p.lengths_are_lawful in
    let infos-are = rw c.as_slice.ensures.value at c.reversed_infos.ensures in
    let hops-are = rw c.as_slice-2.ensures.value at c.reversed_hops.ensures in
    let hops : hop_count c.reversed_lengths-lengths.result ≡ hop_count p.lengths = ap hop_count lengths-are ∙ is.hops in
    record {
      reserved_fits = omega arith;
      lengths_are_lawful = ap are_lengths lengths-are ∙ is.lawful;
      lengths_fit = rw lengths-are (room_back p.lengths p.lengths_fit);
      has_infos = length_back info_field reversed_info p.infos.items c.reversed_infos.result.items infos-are ∙ p.has_infos ∙ sym (ap segment_count lengths-are ∙ is.segments);
      has_hops = length_back hop_field cleared_hop p.hops.items c.reversed_hops.result.items hops-are ∙ p.has_hops ∙ sym hops;
      current_hop_is_there = omega (arith, hops, p.current_hop_is_there, c.hop_count-last.ensures);
      current_info_is_its = rw c.from.ensures at c.segment_of.ensures.segment;
    }

pub returns : goal.returns
returns c =
    path_back c.args.path.now c.reversed_lengths-lengths.result c.reversed_infos.result.items c.reversed_hops.result.items _ _ c.reversed_lengths-lengths.ensures
    (rw c.as_slice.ensures.value at c.reversed_infos.ensures) (rw c.as_slice-2.ensures.value at c.reversed_hops.ensures) (rw c.from.ensures at c.segment_of.ensures.segment)
    (omega (arith, c.hop_count-last.ensures, c.args.path.now.current_hop_is_there))
