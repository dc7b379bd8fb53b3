-- The fault of a datagram that each answer stands for.
use Rattle.scion_packet.specs.Fault.{Fault, TooShort, WrongVersion, WrongPathType, WrongLength}
use Rattle.scion_header.specs.declared.fault.HeaderFault.{HeaderFault}
use Rattle.scion_header.specs.declared.fault.HeaderFault.TheVariants.{Short, Version, PathType, Header}

abbrev pub fault_of : HeaderFault → Fault
fault_of Short = TooShort
fault_of Version = WrongVersion
fault_of PathType = WrongPathType
fault_of Header = WrongLength
