-- Valley-freedom at one stop: a way goes up to parents, then over the core, then down to children, and never up again.
use Rattle.std.specs.Prelude.{◌≡◌, ◌≢◌, ℕ, Bool, true, false, List, Option, Some, None}
use Rattle.scion_packet.specs.Packet.{Packet, packet_of}
use Rattle.segment_switch.specs.declared.kind.LinkKind.{LinkKind}
use Rattle.segment_switch.specs.declared.kind.LinkKind.TheVariants.{Core, Parent, Child}
use Rattle.process_packet.specs.declared.neighbours.Link.{Link}
use Rattle.process_packet.specs.declared.neighbours.Sibling.{Sibling}
use Rattle.process_packet.specs.declared.underlay.Underlay.{Underlay}
use Rattle.process_packet.specs.Decide.{verdict}
use Rattle.process_packet.specs.Laws.{changes}
use Rattle.process_packet.specs.Network.{Network, is_local, own_link, sibling}
use Rattle.process_packet.specs.PacketState.{arrives, turned_back}
use Rattle.process_packet.specs.Rows.{Sent}

-- What the AS is to which a packet leaves: over an own link, or over a link of another router of this AS.
pub data LeavesTo (n : Network) (out : ℕ) (to : Option Underlay) : LinkKind → Type 0 where
  by_link : (l : Link) → own_link n out ≡ Some l → to ≡ None → LeavesTo n out to l.kind
  by_sibling : (id : ℕ) (b : Sibling) → sibling n id ≡ Some b → out ≡ 0 → to ≡ Some b.at → LeavesTo n out to b.kind

-- What came down goes on down, and what came over the core doesn't go up. On one segment what came up goes on up, and what
-- came over the core stays there; a segment is changed neither on the way down nor for another way up.
pub record IsValleyFree (changing : Bool) (from to : LinkKind) : Type 0 where
  pub after_down : from ≡ Parent → to ≡ Child
  pub after_core : from ≡ Core → to ≢ Parent
  pub still_up : changing ≡ false → from ≡ Child → to ≡ Parent
  pub still_core : changing ≡ false → from ≡ Core → to ≡ Core
  pub not_from_down : changing ≡ true → from ≢ Parent
  pub not_to_up : changing ≡ true → to ≢ Parent

pub record GoesWithoutValley (n : Network) (changing : Bool) (from : LinkKind) (out : ℕ) (to : Option Underlay) : Type 0 where
  pub kind : LinkKind
  pub leaves : LeavesTo n out to kind
  pub free : IsValleyFree changing from kind

-- of what comes over a link, isn't for this AS, and is sent
abbrev pub WaysAreValleyFree : Type 0
WaysAreValleyFree =
    (n : Network) (link : ℕ) (source : Underlay) (moment : ℕ) (bytes : List ℕ) (out : ℕ) (to : Option Underlay) (p : Packet) (own : Link)
    → verdict n link source moment bytes ≡ Sent out to p → link ≢ 0 → own_link n link ≡ Some own → is_local n (packet_of bytes).header.destination ≡ false
    → GoesWithoutValley n (changes (turned_back (arrives n link source moment bytes))) own.kind out to
