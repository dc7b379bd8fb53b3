-- What is wrong with a datagram: the first of its tests that fails.
use Rattle.std.specs.Prelude.{Bool, List, [], ◌∷◌, Option, Some, None, if◌then◌else◌}

pub data Fault : Type 0 where
  -- it is shorter than the common header, or than the header says
  TooShort : Fault
  -- the version is not 0
  WrongVersion : Fault
  -- the path is of another type
  WrongPathType : Fault
  -- the header's length doesn't cover the addresses, or isn't that of the path
  WrongLength : Fault
  -- the segment lengths, or the cursor, are no place on a path; or a path of one hop is travelled against its construction
  WrongPath : Fault
  -- a segment is a peering one
  PeeringSegment : Fault

-- a test, and the fault of a datagram that fails it
abbrev pub Test : Type 0
Test = Bool × Fault

-- the fault of the first test that fails
abbrev pub first_failing : List Test → Option Fault
first_failing [] = None
first_failing (t ∷ ts) = if t.0 then first_failing ts else Some t.1
