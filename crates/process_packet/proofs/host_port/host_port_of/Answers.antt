use Rattle.std.proofs.Common.{◌≡◌, ◌*◌, ap₂, ◌∙◌, rules}
use Rattle.scion_packet.specs.Header.{header_end}
use Rattle.scion_packet.proofs.Parts.{rest_of}
use Rattle.process_packet.specs.HostPort.{host_port_of}
use Rattle.process_packet.specs.Network.{network}
use Rattle.process_packet.proofs.host_port.host_port_of.Goals as goal

pub returns : goal.returns
returns c =
    let bytes = c.args.bytes.now in
    let end : 4 * c.from-end.result ≡ header_end bytes = search rules in
    c.listening_port.ensures ∙ ap₂ (host_port_of (network c.args.config.now)) c.next_header.ensures (rest_of bytes _ _ end)
