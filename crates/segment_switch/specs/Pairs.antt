-- The pairs of links (by which a packet comes, by which it leaves), by what the ASes at their other ends are to the local
-- one (draft-dekater-scion-dataplane, "Path Construction").
use Rattle.std.specs.Prelude.{ℕ, Bool, true, false, ⊤, Option, Some, None, Result, Ok, Err, if◌then◌else◌}
use Rattle.segment_switch.specs.declared.kind.LinkKind.{LinkKind}
use Rattle.segment_switch.specs.declared.kind.LinkKind.TheVariants.{Core, Parent, Child}
use Rattle.segment_switch.specs.declared.fault.PairFault.{PairFault}
use Rattle.segment_switch.specs.declared.fault.PairFault.TheVariants.{StraightOn, ChangeOver}

-- the pairs of a packet that stays on its segment: along the core, up or down
abbrev pub goes_straight : LinkKind → LinkKind → Bool
goes_straight Core Core = true
goes_straight Core Parent = false
goes_straight Core Child = false
goes_straight Parent Core = false
goes_straight Parent Parent = false
goes_straight Parent Child = true
goes_straight Child Core = false
goes_straight Child Parent = true
goes_straight Child Child = false

-- the pairs of a packet that changes its segment: from the core down, up to the core, or from up to down
abbrev pub changes_over : LinkKind → LinkKind → Bool
changes_over Core Core = false
changes_over Core Parent = false
changes_over Core Child = true
changes_over Parent Core = false
changes_over Parent Parent = false
changes_over Parent Child = false
changes_over Child Core = true
changes_over Child Parent = false
changes_over Child Child = true

-- Whether a packet that changes its segment, or doesn't, may come and leave so. What comes from the internal network has
-- no pair to judge, and changes its segment nowhere else than where it entered the AS.
abbrev pub is_pair : Bool → Option LinkKind → LinkKind → Bool
is_pair false None to = true
is_pair true None to = false
is_pair false (Some from) to = goes_straight from to
is_pair true (Some from) to = changes_over from to

abbrev pub fault_of : Bool → PairFault
fault_of false = StraightOn
fault_of true = ChangeOver

-- a lawful pair, or the fault that one has where the packet changes its segment, or doesn't
abbrev pub pair_fault : Bool → Option LinkKind → LinkKind → Result ⊤ PairFault
pair_fault switched from to = if is_pair switched from to then Ok tt else Err (fault_of switched)

-- the code of the SCMP parameter problem that tells the fault
abbrev pub code_of : PairFault → ℕ
code_of StraightOn = 48
code_of ChangeOver = 53
