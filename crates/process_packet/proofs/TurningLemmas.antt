-- The view with its segment identifier chained shows the packet with its segment identifier chained.
use Rattle.std.proofs.Common.{◌≡◌, ◌&&◌, not, Bool, true, ℕ, sym, subst, ap, ap₂, ◌∙◌, arith, if◌then◌else◌, ◌<◌, false, List, length, refl}
use Rattle.hop_check.specs.Mac.{chain}
use Rattle.path_fields.specs.Fields.{hop_field, info_field}
use Rattle.path_fields.specs.InPlace.{with_segment_id}
use Rattle.scion_packet.specs.Packet.{Packet}
use Rattle.scion_packet.specs.Path.{HopField, InfoField, Place, Segment}
use Rattle.process_packet.specs.Departure.{Keeps}
use Rattle.process_packet.specs.PacketView.{IsAlike, Shows, with_id}
use Rattle.process_packet.specs.PacketState.{PacketState, chained, chained_id, hop, is_along, is_external, turned_back}
use Rattle.process_packet.specs.declared.packet_view.PacketView.{PacketView}
use Rattle.process_packet.proofs.AlikeLemmas.{along_set, alike_set, alike_with, info_set, whole_alike, with_id_of}

-- Two views that differ in the identifier at most.
pub record IsSameBut (v w : PacketView) : Type 0 where
  pub link : w.link ≡ v.link
  pub moment : w.moment ≡ v.moment
  pub begin : w.path_begin ≡ v.path_begin
  pub payload : w.payload ≡ v.payload
  pub segments : w.segments ≡ v.segments
  pub switched : w.switched ≡ v.switched
  pub segment : w.current.segment ≡ v.current.segment
  pub position : w.current.position ≡ v.current.position
  pub hops : w.current.hops ≡ v.current.hops
  pub number : w.current.number ≡ v.current.number
  pub hop : w.current.hop ≡ v.current.hop

pub shows_chained : (v w : PacketView) (s : PacketState) (id : ℕ) → Shows v s → IsSameBut v w → id ≡ chain (info_field v.current.info).segment_id (hop_field v.current.hop).mac
    → info_field w.current.info ≡ with_id_of id (info_field v.current.info) → Shows w (chained s)
shows_chained v w s id shows same id-is info-is =
    let ss = s.path.segments in
    let at = s.path.place in
    let k = at.segment in
    let ts = with_segment_id ss k (chained_id s) in
    let alike : IsAlike k ss ts = alike_set ss k (chained_id s) in
    let named : id ≡ chained_id s = id-is ∙ ap₂ (λ (i : InfoField) (h : HopField). chain i.segment_id h.mac) shows.current.info shows.current.hop in
    record {
      link = same.link ∙ shows.link;
      moment = same.moment ∙ shows.moment;
      begin = same.begin ∙ shows.begin;
      payload = same.payload ∙ shows.payload;
      count = same.segments ∙ shows.count ∙ sym alike.count;
      current = record {
        place = record {
          segment = same.segment ∙ shows.current.place.segment;
          position = same.position ∙ shows.current.place.position;
          hops = same.hops ∙ shows.current.place.hops ∙ sym (alike.hops k);
          number = same.number ∙ shows.current.place.number ∙ sym (alike.number at);
          there = omega (arith, shows.current.place.there, alike.count);
          inside = omega (arith, shows.current.place.inside, alike.hops k);
        };
        info = info-is ∙ ap₂ with_id_of named shows.current.info ∙ sym (info_set ss k (chained_id s) at.position shows.current.place.there);
        hop = ap hop_field same.hop ∙ shows.current.hop ∙ sym (alike.hop at);
      };
      switched = same.switched ∙ shows.switched;
      whole = whole_alike k ss ts alike shows.whole;
    }

turned_is : (s : PacketState) → (is_external s && not (is_along s)) ≡ true → turned_back s ≡ chained s
turned_is s test = ap (λ (b : Bool). if b then chained s else s) test

pub shows_turned : (v w : PacketView) (s : PacketState) (id : ℕ) → Shows v s → IsSameBut v w → id ≡ chain (info_field v.current.info).segment_id (hop_field v.current.hop).mac
    → info_field w.current.info ≡ with_id_of id (info_field v.current.info) → (is_external s && not (is_along s)) ≡ true → Shows w (turned_back s)
shows_turned v w s id shows same id-is info-is against =
    subst (λ (t : PacketState). Shows w t) (sym (turned_is s against)) (shows_chained v w s id shows same id-is info-is)

-- ---- what stays

pub record IsSameBesides (s t : PacketState) : Type 0 where
  pub network : t.network ≡ s.network
  pub link : t.link ≡ s.link
  pub moment : t.moment ≡ s.moment
  pub switched : t.switched ≡ s.switched
  pub header : t.header ≡ s.header
  pub payload : t.payload ≡ s.payload
  pub reserved : t.path.reserved ≡ s.path.reserved
  pub place : t.path.place ≡ s.path.place

stays : (b : Bool) (s : PacketState) → IsSameBesides s (if b then chained s else s)
stays true s = record { network = refl; link = refl; moment = refl; switched = refl; header = refl; payload = refl; reserved = refl; place = refl }
stays false s = record { network = refl; link = refl; moment = refl; switched = refl; header = refl; payload = refl; reserved = refl; place = refl }

pub turned_stays : (s : PacketState) → IsSameBesides s (turned_back s)
turned_stays s = stays (is_external s && not (is_along s)) s

along_stays : (b : Bool) (s : PacketState) → is_along (if b then chained s else s) ≡ is_along s
along_stays true s = along_set s.path.segments s.path.place.segment (chained_id s) s.path.place.segment s.path.place.position
along_stays false s = refl

pub turned_along : (s : PacketState) → is_along (turned_back s) ≡ is_along s
turned_along s = along_stays (is_external s && not (is_along s)) s

hop_stays : (b : Bool) (s : PacketState) → hop (if b then chained s else s) ≡ hop s
hop_stays true s = (alike_set s.path.segments s.path.place.segment (chained_id s)).hop s.path.place
hop_stays false s = refl

pub turned_hop : (s : PacketState) → hop (turned_back s) ≡ hop s
turned_hop s = hop_stays (is_external s && not (is_along s)) s

pub keeps_turned : (v : PacketView) (s : PacketState) (p : Packet) → s.header ≡ p.header → s.payload ≡ p.payload → s.path.reserved ≡ p.path.reserved
    → (turned_back s).path.segments ≡ with_id v.turned v.entered p.path.segments → v.entered < length p.path.segments → Keeps v (turned_back s) p
keeps_turned v s p header payload reserved segments entered =
    let same = turned_stays s in
    record { header = same.header ∙ header; payload = same.payload ∙ payload; reserved = same.reserved ∙ reserved; segments = segments; entered = entered }

pub alike_turned : (v : PacketView) (s : PacketState) (ss : List Segment) → v.entered ≡ s.path.place.segment → (turned_back s).path.segments ≡ with_id v.turned v.entered ss
    → IsAlike (turned_back s).path.place.segment ss (turned_back s).path.segments
alike_turned v s ss entered segments =
    let same = turned_stays s in
    let place : v.entered ≡ (turned_back s).path.place.segment = entered ∙ sym (ap (λ (at : Place). at.segment) same.place) in
    subst (λ (k : ℕ). IsAlike k ss (turned_back s).path.segments) place
    (subst (λ (ts : List Segment). IsAlike v.entered ss ts) (sym segments) (alike_with v.turned v.entered ss))
