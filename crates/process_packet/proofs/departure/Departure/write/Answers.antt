use Rattle.std.proofs.Common.{arith}
use Rattle.process_packet.specs.PacketView.{with_id}
use Rattle.process_packet.proofs.AlikeLemmas.{alike_with}
use Rattle.process_packet.proofs.departure.Departure.write.Goals as goal

pub returns : goal.returns
returns c p at text segment number entered left =
    let d = c.args.self.now in
    let moved = c.set_cursor.ensures.moved p at text segment number in
    let turned = c.write_id.ensures (record p { place = at }) moved entered in
    let alike = alike_with d.turned d.entered p.segments in
    c.write_id-2.ensures (record p { place = at; segments = with_id d.turned d.entered p.segments }) turned (omega (arith, left, alike.count))
