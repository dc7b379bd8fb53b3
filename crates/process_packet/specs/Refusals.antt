-- What a sender is told of a refused packet, or for which cause it is dropped: reason by reason, in the order in which they count.
use Rattle.std.specs.Prelude.{ℕ, ◌≡◌, ◌≢◌, ◌≤◌, ◌<◌, true, false, List, length, Some, None, is_some}
use Rattle.field_rows.specs.Place.{number_at}
use Rattle.scion_packet.specs.Fault.{Fault, TooShort, WrongVersion, WrongPathType, WrongLength, WrongPath, PeeringSegment}
use Rattle.scion_packet.specs.Header.{header_fault, host_code}
use Rattle.scion_packet.specs.Packet.{first_fault, path_bytes}
use Rattle.scion_packet.specs.Path.{path_fault}
use Rattle.segment_switch.specs.declared.kind.LinkKind.{LinkKind}
use Rattle.process_packet.specs.declared.cause.Cause.{Cause}
use Rattle.process_packet.specs.declared.cause.Cause.TheVariants as cause
use Rattle.process_packet.specs.declared.underlay.Underlay.{Underlay}
use Rattle.process_packet.specs.Conditions.{CarriesMac, ComesFromItsRouter, ComesInBy, GoesOutBy, HasItsDestination, HasItsPair, HasItsSource, IsInTime, MayFollow}
use Rattle.process_packet.specs.Decide.{verdict}
use Rattle.process_packet.specs.Laws.{IsAuthorised, changes}
use Rattle.process_packet.specs.Network.{Network, interface_kind, own_link, service}
use Rattle.process_packet.specs.PacketState.{PacketState, arrival_kind, arrives, changed_over, egress, hop, hop_pointer, info, info_pointer, is_last_of_path, turned_back}
use Rattle.process_packet.specs.Rows.{Dropped, Verdict, problem}
use Rattle.process_packet.specs.Shown.{StandsToLeave, asks_entry, asks_exit, is_for_us, turned}

-- the cause of a drop for each fault of a datagram
pub data IsCauseOf : Fault → Cause → Type 0 where
  short : IsCauseOf TooShort cause.Short
  version : IsCauseOf WrongVersion cause.Version
  path_type : IsCauseOf WrongPathType cause.PathType
  header : IsCauseOf WrongLength cause.Header
  path : IsCauseOf WrongPath cause.Path
  peering : IsCauseOf PeeringSegment cause.Peering

-- ---- where it arrives

abbrev pub IsRead : PacketState → Type 0
IsRead s = (length s.bytes ≤ 9216) × (first_fault s.bytes ≡ None)

-- read and in time; by its link; with the payload length that it tells; from its router; with its source; with its destination
abbrev pub IsTimely : PacketState → Type 0
IsTimely s = IsRead s × IsInTime (info s) (hop s) s.moment

abbrev pub NamesItsLink : PacketState → Type 0
NamesItsLink s = s.link ≢ 0 → ComesInBy (info s) (hop s) s.link

abbrev pub IsByItsLink : PacketState → Type 0
IsByItsLink s = IsTimely s × NamesItsLink s

abbrev pub IsWhole : PacketState → Type 0
IsWhole s = IsByItsLink s × (s.header.payload_length ≡ length s.payload)

abbrev pub IsFromItsRouter : PacketState → Type 0
IsFromItsRouter s = IsWhole s × ComesFromItsRouter s

abbrev pub IsFromItsSource : PacketState → Type 0
IsFromItsSource s = IsFromItsRouter s × HasItsSource s

abbrev pub IsForItsDestination : PacketState → Type 0
IsForItsDestination s = IsFromItsSource s × HasItsDestination s

-- Types: 4 is a parameter problem, 1 an unreachable destination.
pub record IsRefusedAtEntry (s : PacketState) (v : Verdict) : Type 0 where
  pub too_long : 9216 < length s.bytes → v ≡ Dropped cause.TooLong
  pub faulty_header : (f : Fault) (c : Cause) → length s.bytes ≤ 9216 → header_fault s.bytes ≡ Some f → IsCauseOf f c → v ≡ Dropped c
  pub faulty_path : (f : Fault) (c : Cause) → length s.bytes ≤ 9216 → header_fault s.bytes ≡ None → path_fault (path_bytes s.bytes) ≡ Some f → IsCauseOf f c
      → v ≡ Dropped c
  pub expired : IsRead s → (IsInTime (info s) (hop s) s.moment → ⊥) → v ≡ problem 4 52 (hop_pointer s)
  pub by_other_link : IsTimely s → (NamesItsLink s → ⊥) → (info s).along ≡ true → v ≡ problem 4 49 (hop_pointer s)
  pub by_other_link_back : IsTimely s → (NamesItsLink s → ⊥) → (info s).along ≡ false → v ≡ problem 4 50 (hop_pointer s)
  pub not_whole : IsByItsLink s → s.header.payload_length ≢ length s.payload → v ≡ problem 4 19 0
  pub other_router : IsWhole s → (ComesFromItsRouter s → ⊥) → v ≡ Dropped cause.UnderlaySource
  pub other_source : IsFromItsRouter s → (HasItsSource s → ⊥) → v ≡ problem 4 33 20
  pub other_destination : IsFromItsSource s → (HasItsDestination s → ⊥) → v ≡ problem 4 34 12
  pub other_mac : IsForItsDestination s → (CarriesMac s.network.key (info (turned_back s)).segment_id (info (turned_back s)) (hop (turned_back s)) → ⊥)
      → v ≡ problem 4 51 (hop_pointer s)

-- ---- where it is delivered, or leaves

-- It is authorised, asks nothing of the router where it enters, and is for this AS.
pub record IsToBeDelivered (s : PacketState) : Type 0 where
  pub authorised : IsAuthorised s
  pub quiet : asks_entry s ≡ false
  pub for_us : is_for_us s ≡ true

pub record IsUndeliverable (s : PacketState) (v : Verdict) : Type 0 where
  pub no_service : s.header.destination.kind ≡ 1 → host_code s.header.destination ≡ 0 → service s.network (number_at s.header.destination.host 0 2) ≡ None → v ≡ problem 1 0 0
  pub unknown_host : (s.header.destination.kind ≡ 0 → (host_code s.header.destination ≢ 0) × (host_code s.header.destination ≢ 3))
      → (s.header.destination.kind ≡ 1 → host_code s.header.destination ≢ 0) → v ≡ problem 4 21 9

-- It is authorised, asks nothing of the router where it enters, and is for another AS.
pub record IsToLeave (s : PacketState) : Type 0 where
  pub authorised : IsAuthorised s
  pub quiet : asks_entry s ≡ false
  pub others : is_for_us s ≡ false

-- where its segment ends and another one follows, that one's first hop field
pub record IsRefusedAtSwitch (s u : PacketState) (v : Verdict) : Type 0 where
  pub expired : (IsInTime (info u) (hop u) u.moment → ⊥) → v ≡ problem 4 52 (hop_pointer u)
  pub other_mac : IsInTime (info u) (hop u) u.moment → (CarriesMac u.network.key (info u).segment_id (info u) (hop u) → ⊥) → v ≡ problem 4 51 (hop_pointer u)

-- as it stands at the hop by which it leaves
pub record IsRefusedAtExit (u : PacketState) (v : Verdict) : Type 0 where
  pub unknown : (id : ℕ) → GoesOutBy (info u) (hop u) id → interface_kind u.network id ≡ None → (info u).along ≡ true → v ≡ problem 4 50 (hop_pointer u)
  pub unknown_back : (id : ℕ) → GoesOutBy (info u) (hop u) id → interface_kind u.network id ≡ None → (info u).along ≡ false → v ≡ problem 4 49 (hop_pointer u)
  pub other_pair : (id : ℕ) (to : LinkKind) → GoesOutBy (info u) (hop u) id → interface_kind u.network id ≡ Some to → (MayFollow u.switched (arrival_kind u) to → ⊥)
      → u.switched ≡ false → v ≡ problem 4 48 (hop_pointer u)
  pub other_change : (id : ℕ) (to : LinkKind) → GoesOutBy (info u) (hop u) id → interface_kind u.network id ≡ Some to → (MayFollow u.switched (arrival_kind u) to → ⊥)
      → u.switched ≡ true → v ≡ problem 4 53 (info_pointer u)
  pub path_ends : HasItsPair u → asks_exit u ≡ false → is_some (own_link u.network (egress u)) ≡ true → is_last_of_path u ≡ true → v ≡ Dropped cause.PathEnd

-- ---- the law

pub record IsRefusedSo (s : PacketState) (v : Verdict) : Type 0 where
  pub at_entry : IsRefusedAtEntry s v
  pub at_delivery : IsToBeDelivered s → IsUndeliverable s v
  pub at_switch : IsToLeave s → changes (turned s) ≡ true → IsRefusedAtSwitch s (changed_over (turned s)) v
  pub at_exit : IsToLeave s → (u : PacketState) → StandsToLeave (turned s) u → IsRefusedAtExit u v

abbrev pub RefusedAreTold : Type 0
RefusedAreTold =
    (n : Network) (link : ℕ) (source : Underlay) (moment : ℕ) (bytes : List ℕ)
    → IsRefusedSo (arrives n link source moment bytes) (verdict n link source moment bytes)
