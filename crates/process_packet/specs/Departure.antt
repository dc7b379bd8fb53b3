-- How a packet leaves, as the code holds it.
use Rattle.std.specs.Prelude.{◌≡◌, ◌<◌, ℕ, List, length, Result, MatchResult}
use Rattle.scion_packet.specs.Packet.{Packet}
use Rattle.scion_packet.specs.Path.{PathFields, Place, Segment, hop_number}
use Rattle.process_packet.specs.declared.departure.Departure.{Departure}
use Rattle.process_packet.specs.declared.refusal.Refusal.{Refusal}
use Rattle.process_packet.specs.declared.packet_view.PacketView.{PacketView}
use Rattle.process_packet.specs.Rows.{Verdict, Sent}
use Rattle.process_packet.specs.PacketView.{IsWhole, refused, with_id}
use Rattle.process_packet.specs.PathHop.{LiesOn}
use Rattle.process_packet.specs.PacketState.{PacketState}

-- the path as it leaves: at its new place, with the new identifiers
abbrev pub moved_path : Departure → Place → PathFields → PathFields
moved_path d at p = record {
  reserved = p.reserved;
  place = at;
  segments = with_id d.chained d.left (with_id d.turned d.entered p.segments);
}

-- The verdict is that the packet is sent so.
pub record Departs (d : Departure) (v : Verdict) (p : Packet) : Type 0 where
  pub at : Place
  pub verdict : v ≡ Sent d.link d.to (record p { path = moved_path d at p.path })
  pub segment : d.segment ≡ at.segment
  pub number : d.number ≡ hop_number p.path.segments at
  pub left : d.left < length p.path.segments
  pub entered : d.entered < length p.path.segments

-- The packet stands as it came, but for its place and the identifier that was turned back.
pub record Keeps (v : PacketView) (s : PacketState) (p : Packet) : Type 0 where
  pub header : s.header ≡ p.header
  pub payload : s.payload ≡ p.payload
  pub reserved : s.path.reserved ≡ p.path.reserved
  pub segments : s.path.segments ≡ with_id v.turned v.entered p.path.segments
  pub entered : v.entered < length p.path.segments

-- These are the segment and the number of a hop.
pub record IsNumberOf (segment number : ℕ) (ss : List Segment) (at : Place) : Type 0 where
  pub segment_is : segment ≡ at.segment
  pub number_is : number ≡ hop_number ss at

-- The view is of a packet on a lawful path.
pub record IsOnPath (v : PacketView) : Type 0 where
  pub segments : List Segment
  pub whole : IsWhole segments
  pub lies : LiesOn v.current segments
  pub count : v.segments ≡ length segments

-- a result tells a verdict: how the packet departs, or the refusal
abbrev pub TellsVerdict : Verdict → Packet → Result Departure Refusal → Type 0
TellsVerdict v p result = MatchResult result (λ d. Departs d v p) (λ r. v ≡ refused r)
