-- What the code holds of a packet on a path of one hop, what its rows say, and how it leaves.
use Rattle.std.specs.Prelude.{◌≡◌, ◌≤◌, ℕ, List, length, Option, Some, None, Result, MatchResult}
use Rattle.field_rows.specs.Place.{IsBytes}
use Rattle.path_fields.specs.Fields.{hop_field, info_field}
use Rattle.scion_header.specs.declared.ends.HeaderEnds.{HeaderEnds}
use Rattle.scion_packet.specs.Header.{front_end, header_end, header_of}
use Rattle.scion_packet.specs.OneHop.{OneHopPacket, OneHopPath, one_hop_fault}
use Rattle.process_packet.specs.declared.one_hop_departure.OneHopDeparture.{OneHopDeparture}
use Rattle.process_packet.specs.declared.one_hop_departure.OneHopDeparture.TheVariants.{Leaves, Enters}
use Rattle.process_packet.specs.declared.one_hop_view.OneHopView.{OneHopView}
use Rattle.process_packet.specs.declared.refusal.Refusal.{Refusal}
use Rattle.process_packet.specs.declared.refusal.Refusal.TheVariants as refusal
use Rattle.process_packet.specs.OneHopRows.{OneHopVerdict, Sent, Answered, Dropped}
use Rattle.process_packet.specs.OneHopState.{OneHopState, first, info, with_identifier, with_second}

-- The datagram has no fault, and these are the ends of its addresses and of its header.
pub record AreOneHopEnds (ends : HeaderEnds) (bytes : List ℕ) : Type 0 where
  pub are : IsBytes bytes
  pub sound : one_hop_fault bytes ≡ None
  pub addresses : ends.addresses ≡ front_end bytes
  pub header : ends.header ≡ header_end bytes
  pub covers : ends.addresses ≤ ends.header
  pub whole : ends.header ≤ length bytes

-- The view and the datagram show the packet.
pub record ShowsOneHop (v : OneHopView) (bytes : List ℕ) (s : OneHopState) : Type 0 where
  pub link : v.link ≡ s.link
  pub moment : v.moment ≡ s.moment
  pub header : header_of bytes ≡ s.packet.header
  pub payload : v.payload ≡ length s.packet.payload
  pub info : info_field v.info ≡ info s
  pub first : hop_field v.first ≡ first s

abbrev pub one_hop_refused : Refusal → OneHopVerdict
one_hop_refused (refusal.Answer p) = Answered p
one_hop_refused (refusal.Drop c) = Dropped c

-- a result tells what rows give: on Ok the packet goes on, else it is answered or dropped
abbrev pub TellsOneHop : {T : Type 0} → Option OneHopVerdict → Result T Refusal → Type 0
TellsOneHop given result = MatchResult result (λ _. given ≡ None) (λ r. given ≡ Some (one_hop_refused r))

-- ---- how it leaves

abbrev pub left_path : OneHopDeparture → OneHopPath → OneHopPath
left_path (Leaves link segment_id) path = with_identifier segment_id path
left_path (Enters to second) path = with_second (hop_field second) path

abbrev pub sent_so : OneHopDeparture → OneHopPacket → OneHopVerdict
sent_so (Leaves link segment_id) p = Sent link None (record p { path = with_identifier segment_id p.path })
sent_so (Enters to second) p = Sent 0 (Some to) (record p { path = with_second (hop_field second) p.path })

-- a result tells how the packet is sent, or the refusal
abbrev pub TellsOneHopDeparture : Option OneHopVerdict → OneHopPacket → Result OneHopDeparture Refusal → Type 0
TellsOneHopDeparture given p result = MatchResult result (λ d. given ≡ Some (sent_so d p)) (λ r. given ≡ Some (one_hop_refused r))
