-- The plain record of an address.
use Rattle.scion_packet.specs.Header.{HostAddress}
use Rattle.scion_header.specs.Host.{host_bytes}
use Rattle.scion_header.specs.declared.address.Address.{Address}

abbrev pub host_address : Address → HostAddress
host_address a = record { isd = a.isd; autonomous_system = a.autonomous_system; kind = a.kind; host = host_bytes a.host }
