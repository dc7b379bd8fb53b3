use Rattle.std.proofs.Common.{refl, sym, arith, length-drop, ◌∙◌}
use Rattle.scion_packet.specs.Header.{header_end, header_of}
use Rattle.scion_packet.specs.Packet.{path_bytes}
use Rattle.scion_packet.proofs.Offsets.{fields_stand}
use Rattle.process_packet.proofs.PathHopLemmas.{count_of, first_path_hop, has_current, whole_path}
use Rattle.scion_packet.proofs.Parts.{path_between, path_lies}
use Rattle.process_packet.proofs.packet_view.PacketView.arrives.Goals as goal

pub read-requires-clause-there : goal.read-requires-clause-there
read-requires-clause-there c =
    let has = has_current c.args.headers.now.meta (path_bytes c.args.bytes.now) c.requires.headers.meta in omega (arith, has.there, c.from-segment.ensures)

pub read-requires-clause-begins : goal.read-requires-clause-begins
read-requires-clause-begins c =
    let has = has_current c.args.headers.now.meta (path_bytes c.args.bytes.now) c.requires.headers.meta in rw (c.from-segment.ensures, c.from.ensures) has.begins

pub read-requires-clause-ends : goal.read-requires-clause-ends
read-requires-clause-ends c =
    let has = has_current c.args.headers.now.meta (path_bytes c.args.bytes.now) c.requires.headers.meta in rw (c.from-segment.ensures, c.from.ensures) has.ends

pub returns-clause-shows : goal.returns-clause-shows
returns-clause-shows c n source =
    let bytes = c.args.bytes.now in
    let f = c.args.headers.now in
    let headers = c.requires.headers in
    let same = path_between bytes f.path_begin f.path_end headers.begin headers.end in
    record {
      link = refl;
      moment = refl;
      begin = headers.begin ∙ sym (path_lies bytes (header_of bytes) headers.are headers.sound refl).begin;
      payload = omega (arith, length-drop (header_end bytes) bytes, headers.end);
      count = count_of f.meta (path_bytes bytes) c.segment_count.result headers.meta c.segment_count.ensures.count;
      current = first_path_hop c.read.result f.meta _ (path_bytes bytes) _ _ same headers.meta c.from-segment.ensures c.from.ensures c.read.ensures;
      switched = refl;
      whole = whole_path (path_bytes bytes) (fields_stand (path_bytes bytes) headers.meta.are headers.meta.lawful);
    }
