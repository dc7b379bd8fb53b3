-- The path of an answer: the way back over the path by which the packet came (SCMP specification, "Processing Rules").
use Rattle.std.specs.Prelude.{ℕ, Bool, not, ◌&&◌, ◌||◌, ◌==◌, Option, Some, None, if◌then◌else◌}
use Rattle.scion_packet.specs.Path.{PathFields, Place}
use Rattle.scion_packet.specs.Places.{next}
use Rattle.scion_packet.specs.Reversed.{reversed_path}

-- link 0 is the internal network
abbrev pub is_external : ℕ → Bool
is_external link = not (link == 0)

abbrev pub is_first_of_segment : PathFields → Bool
is_first_of_segment p = p.place.position == 0

abbrev pub is_in_later_segment : PathFields → Bool
is_in_later_segment p = not (p.place.segment == 0)

-- A packet from outside that stands at the first hop of a segment has no way back: the identifier there is not the one that
-- the hop before is checked with.
abbrev pub has_no_way_back : ℕ → PathFields → Bool
has_no_way_back link p = is_external link && is_first_of_segment p

-- the cursor at this place, if any
abbrev pub moved_to : Option Place → PathFields → PathFields
moved_to None p = p
moved_to (Some at) p = record p { place = at }

abbrev pub one_hop_on : PathFields → PathFields
one_hop_on p = moved_to (next p.segments p.place) p

-- An answer to a packet from outside starts past the current hop, and each answer past the first hop of a later segment:
-- the other router of this AS that took the packet in has its hop in the segment before.
abbrev pub leaves_the_hop : ℕ → PathFields → Bool
leaves_the_hop link p = is_external link || (is_first_of_segment p && is_in_later_segment p)

abbrev pub way_back : ℕ → PathFields → PathFields
way_back link p = if leaves_the_hop link p then one_hop_on (reversed_path p) else reversed_path p
