-- The fault of a path that each answer stands for.
use Rattle.scion_packet.specs.Fault.{Fault, WrongLength, WrongPath, PeeringSegment}
use Rattle.path_fields.specs.declared.fault.PathFault.{PathFault}
use Rattle.path_fields.specs.declared.fault.PathFault.TheVariants.{Header, Path, Peering}

abbrev pub fault_of : PathFault → Fault
fault_of Header = WrongLength
fault_of Path = WrongPath
fault_of Peering = PeeringSegment
