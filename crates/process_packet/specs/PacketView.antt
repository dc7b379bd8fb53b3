-- What the code holds of a packet, and what its rows say.
use Rattle.std.specs.Prelude.{◌≡◌, ◌≢◌, ◌≤◌, ◌<◌, ℕ, List, length, Option, Some, None, Result, MatchResult}
use Rattle.path_fields.specs.InPlace.{with_segment_id}
use Rattle.scion_packet.specs.Header.{front_len}
use Rattle.scion_packet.specs.Path.{Place, Segment, count_hops, hop_number, hops_in}
use Rattle.scion_packet.specs.Places.{hop_there, info_there}
use Rattle.process_packet.specs.declared.refusal.Refusal.{Refusal}
use Rattle.process_packet.specs.declared.refusal.Refusal.TheVariants as refusal
use Rattle.process_packet.specs.declared.packet_view.PacketView.{PacketView}
use Rattle.process_packet.specs.Rows.{Verdict, Answered, Dropped, RowResult, GoesOn, Ends}
use Rattle.process_packet.specs.PathHop.{IsPathHop}
use Rattle.process_packet.specs.PacketState.{PacketState}

-- One to three segments, each of at least one hop, and at most 64 hops in all.
pub record IsWhole (ss : List Segment) : Type 0 where
  pub some : (k : ℕ) → k < length ss → 1 ≤ hops_in ss k
  pub segments : length ss ≤ 3
  pub hops : count_hops ss ≤ 64

-- The view shows the packet as it stands.
pub record Shows (v : PacketView) (s : PacketState) : Type 0 where
  pub link : v.link ≡ s.link
  pub moment : v.moment ≡ s.moment
  pub begin : v.path_begin ≡ front_len s.header
  pub payload : v.payload ≡ length s.payload
  pub count : v.segments ≡ length s.path.segments
  pub current : IsPathHop v.current s.path.segments s.path.place
  pub switched : v.switched ≡ s.switched
  pub whole : IsWhole s.path.segments

abbrev pub refused : Refusal → Verdict
refused (refusal.Answer p) = Answered p
refused (refusal.Drop c) = Dropped c

-- a result tells what a row gives: on Ok the packet goes on, else the refusal ends the decision
abbrev pub TellsRow : {T : Type 0} → RowResult → PacketState → Result T Refusal → Type 0
TellsRow given s result = MatchResult result (λ _. given ≡ GoesOn s) (λ r. given ≡ Ends (refused r))

-- ---- a segment identifier that is to be written

abbrev pub with_id : Option ℕ → ℕ → List Segment → List Segment
with_id None k ss = ss
with_id (Some id) k ss = with_segment_id ss k id

-- Two lists of segments that differ in the identifier of segment k at most.
pub record IsAlike (k : ℕ) (old new : List Segment) : Type 0 where
  pub count : length new ≡ length old
  pub total : count_hops new ≡ count_hops old
  pub hops : (j : ℕ) → hops_in new j ≡ hops_in old j
  pub number : (at : Place) → hop_number new at ≡ hop_number old at
  pub hop : (at : Place) → hop_there new at ≡ hop_there old at
  pub info : (at : Place) → at.segment ≢ k → info_there new at ≡ info_there old at
