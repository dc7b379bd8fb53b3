-- The way out of the AS by an interface.
use Rattle.std.specs.Prelude.{ℕ, Bool, true, false, Option, Some, None}
use Rattle.segment_switch.specs.declared.kind.LinkKind.{LinkKind}
use Rattle.process_packet.specs.declared.exit.Exit.{Exit}
use Rattle.process_packet.specs.declared.exit.Exit.TheVariants.{Own, OfSibling}
use Rattle.process_packet.specs.declared.neighbours.Link.{Link}
use Rattle.process_packet.specs.declared.neighbours.Sibling.{Sibling}
use Rattle.process_packet.specs.Network.{Network, own_link, sibling}

abbrev pub exit_or : Option Link → Option Sibling → Option Exit
exit_or (Some l) s = Some (Own l.kind)
exit_or None (Some s) = Some (OfSibling s.kind s.at)
exit_or None None = None

abbrev pub exit_of : Network → ℕ → Option Exit
exit_of n id = exit_or (own_link n id) (sibling n id)

abbrev pub exit_kind : Exit → LinkKind
exit_kind (Own kind) = kind
exit_kind (OfSibling kind at) = kind

abbrev pub is_own : Exit → Bool
is_own (Own kind) = true
is_own (OfSibling kind at) = false
