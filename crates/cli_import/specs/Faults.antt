-- What a fault of the import says.
use Rattle.std.specs.Prelude.{◌≡◌, ◌⊎◌, Bool, true, false, ⊤}
use Rattle.cli_faults.specs.declared.fault.Fault.{Fault}
use Rattle.cli_faults.specs.declared.fault.Fault.TheVariants as fault
use Rattle.cli_faults.specs.declared.fault.ImportFile.{ImportFile}
use Rattle.cli_faults.specs.declared.fault.ImportFile.TheVariants.{Topology, MasterKey, Out}
use Rattle.cli_io.specs.declared.fault.LinesFault.TheVariants.{Output}

-- It is that of a master key of which this holds; of memory nothing has to hold, here and below.
abbrev pub IsOfKey : Type 0 → Fault → Type 0
IsOfKey P fault.Memory = ⊤
IsOfKey P (fault.MasterKey words) = P
IsOfKey P _ = ⊥

-- It is that of a topology of which this holds.
abbrev pub IsOfTopology : Type 0 → Fault → Type 0
IsOfTopology P fault.Memory = ⊤
IsOfTopology P (fault.Topology words) = P
IsOfTopology P _ = ⊥

-- It is that of a file that can't be read.
abbrev pub IsOfFile : ImportFile → Fault → Type 0
IsOfFile file fault.Memory = ⊤
IsOfFile file (fault.Import unread error) = unread ≡ file
IsOfFile file _ = ⊥

-- One of the files that an import reads can't be read.
abbrev pub IsUnread : Fault → Type 0
IsUnread told = IsOfFile Topology told ⊎ IsOfFile MasterKey told

-- The configuration can't be written to the file that is named for it, or can't be printed where none is.
abbrev pub IsOfOut : Bool → Fault → Type 0
IsOfOut true fault.Special = ⊤
IsOfOut true (fault.Exists name) = ⊤
IsOfOut true told = IsOfFile Out told
IsOfOut false told = told ≡ fault.Lines Output
