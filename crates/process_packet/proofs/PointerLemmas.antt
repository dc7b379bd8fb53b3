-- Row after row: where the pointer of what each of them may tell points.
use Rattle.std.proofs.Common.{◌≡◌, ◌<◌, ◌+◌, ◌-◌, ◌*◌, ◌&&◌, ◌==◌, not, nat_lt, ℕ, Bool, true, false, List, [], ◌∷◌, length, drop, None, refl, sym, ap, ap₂, subst, ◌∙◌, arith, if◌then◌else◌, inl, inr, length-drop}
use Rattle.std.specs.Prelude.{◌⊎◌, is_some}
use Rattle.std.proofs.lemmas.Bool.Decides.{Decides-ltb}
use Rattle.std.proofs.lemmas.List.{length-take-le}
use Rattle.field_rows.specs.Place.{IsBytes}
use Rattle.scion_packet.specs.Header.{front_end, front_len, header_end, header_fault}
use Rattle.scion_packet.specs.Laws.{FieldsStand}
use Rattle.scion_packet.specs.Lengths.{first_hop, hop_place, info_place, segment_count}
use Rattle.scion_packet.specs.Packet.{first_fault, path_bytes}
use Rattle.scion_packet.specs.Path.{Place, hop_number, lengths_of, path_fault}
use Rattle.scion_packet.proofs.Offsets.{fields_stand}
use Rattle.scion_packet.proofs.PacketLaws.{both_pass}
use Rattle.scion_packet.proofs.Parts.{PathLies, path_are, path_lies}
use Rattle.process_packet.specs.declared.cause.Cause.TheVariants as cause
use Rattle.process_packet.specs.declared.decision.Decision.TheVariants as decision
use Rattle.process_packet.specs.declared.decision.Problem.{Problem}
use Rattle.process_packet.specs.declared.underlay.Underlay.{Underlay}
use Rattle.process_packet.specs.Decide.{decision_of, decision_table, scion_decide, verdict}
use Rattle.process_packet.specs.Laws.{changes}
use Rattle.process_packet.specs.Network.{Network, interface_kind, is_local, own_link}
use Rattle.process_packet.specs.Pointers.{IsAtHand, IsNamed, PointersAreRight, PointsAtHop, PointsAtInfo, PointsRight}
use Rattle.process_packet.specs.Request.{is_request}
use Rattle.process_packet.specs.Rows.{Answered, Dropped, GoesOn, Row, Sent, Verdict, came_lawfully, delivered, ends_where, expired, is_destination_lawful, is_pair_lawful, is_source_lawful, then_rows, wrong_mac}
use Rattle.process_packet.specs.PacketState.{PacketState, arrives, chained, chained_id, changed_over, egress, egress_alert, hop_pointer, info_pointer, ingress, ingress_alert, is_along, is_authentic, is_expired, is_external, is_followed, is_last_of_segment, next_segment, packet, turned_back}
use Rattle.process_packet.proofs.AlikeLemmas.{alike_set}
use Rattle.process_packet.proofs.ControlLemmas.{answered_so}
use Rattle.process_packet.proofs.LawLemmas.{rest}
use Rattle.process_packet.proofs.LawfulLemmas.{IsOnPath, is_on, some_hop, spelled}
use Rattle.process_packet.proofs.PassingLemmas.{both_true, parameter}
use Rattle.process_packet.proofs.ProblemLemmas.{IsTold, IsToldAfter, row_faulty, row_of, row_within, told_delivered, told_leave}

-- ---- pointers of what stands turned back, or at the next segment

-- where the hop field of a place begins
abbrev pub pointer_to : PacketState → Place → ℕ
pointer_to s at = front_len s.header + 4 + 8 * length s.path.segments + 12 * hop_number s.path.segments at

pub same_pointer : (b : Bool) (s : PacketState) → hop_pointer (if b then chained s else s) ≡ pointer_to s s.path.place
same_pointer true s =
    let alike = alike_set s.path.segments s.path.place.segment (chained_id s) in
    ap₂ (λ (c h : ℕ). front_len s.header + 4 + 8 * c + 12 * h) alike.count (alike.number s.path.place)
same_pointer false s = refl

next_pointer : (b : Bool) (s : PacketState) → hop_pointer (changed_over (if b then chained s else s)) ≡ pointer_to s (next_segment s.path.place)
next_pointer true s =
    let alike = alike_set s.path.segments s.path.place.segment (chained_id s) in
    ap₂ (λ (c h : ℕ). front_len s.header + 4 + 8 * c + 12 * h) alike.count (alike.number (next_segment s.path.place))
next_pointer false s = refl

next_info : (b : Bool) (s : PacketState) → info_pointer (changed_over (if b then chained s else s)) ≡ front_len s.header + 4 + 8 * (s.path.place.segment + 1)
next_info true s = refl
next_info false s = refl

never_switched : (b : Bool) (s : PacketState) → s.switched ≡ false → (if b then chained s else s).switched ≡ false
never_switched true s is = is
never_switched false s is = is

next_is_there : (b : Bool) (s : PacketState) → changes (if b then chained s else s) ≡ true → s.path.place.segment + 1 < length s.path.segments
next_is_there true s ends =
    let t : PacketState = chained s in
    let count = (alike_set s.path.segments s.path.place.segment (chained_id s)).count in
    let there : t.path.place.segment + 1 < length t.path.segments = (Decides-ltb (t.path.place.segment + 1) (length t.path.segments)).0 (both_true (is_last_of_segment t) (is_followed t) ends).1 in
    omega arith
next_is_there false s ends = (Decides-ltb (s.path.place.segment + 1) (length s.path.segments)).0 (both_true (is_last_of_segment s) (is_followed s) ends).1

-- ---- rows

told_pair_by : (K : Problem → Type 0) (switched b : Bool) (q r : Problem) (u : PacketState) (rows : List Row) → (switched ≡ true → K q) → (switched ≡ false → K r) → IsToldAfter K (GoesOn u) rows
    → IsToldAfter K (ends_where b (if switched then Answered q else Answered r) u) rows
told_pair_by K true b q r u rows k j after = row_of K b (Answered q) u rows (λ is. k refl) (λ no. after)
told_pair_by K false b q r u rows k j after = row_of K b (Answered r) u rows (λ is. j refl) (λ no. after)

-- one of two codes for an interface
one_of : (b : Bool) (x y : ℕ) → ((if b then x else y) ≡ x) ⊎ ((if b then x else y) ≡ y)
one_of true x y = inl refl
one_of false x y = inr refl

other_of : (b : Bool) (x y : ℕ) → ((if b then x else y) ≡ y) ⊎ ((if b then x else y) ≡ x)
other_of true x y = inr refl
other_of false x y = inl refl

module _ (n : Network) (from : ℕ) (source : Underlay) (moment : ℕ) (bytes : List ℕ) (are : IsBytes bytes) (sound : first_fault bytes ≡ None) where
  abbrev s : PacketState
  s = arrives n from source moment bytes

  abbrev t : PacketState
  t = turned_back s

  abbrev against : Bool
  against = is_external s && not (is_along s)

  abbrev K : Problem → Type 0
  K q = PointsRight bytes q

  abbrev path : List ℕ
  path = path_bytes bytes

  stand : FieldsStand path
  stand = fields_stand path (path_are bytes are) (both_pass bytes sound).1

  lies : PathLies bytes s.header
  lies = path_lies bytes s.header are (both_pass bytes sound).0 refl

  path_len : length path ≡ header_end bytes - front_end bytes
  path_len = length-take-le (header_end bytes - front_end bytes) (drop (front_end bytes) bytes) (omega (arith, length-drop (front_end bytes) bytes, lies.order, lies.inside))

  on_path : IsOnPath s.path.segments s.path.place
  on_path = is_on s.path (spelled n from source moment bytes are sound).lawful.path

  on_next : s.path.place.segment + 1 < length s.path.segments → IsOnPath s.path.segments (next_segment s.path.place)
  on_next there = record { there = there; inside = some_hop s.path.segments (s.path.place.segment + 1) (spelled n from source moment bytes are sound).lawful.path.segments there }

  points_at_hop : (at : Place) → IsOnPath s.path.segments at → PointsAtHop bytes at (pointer_to s at)
  points_at_hop at on =
      let count = stand.count in
      let there = on.there in
      let inside = on.inside in
      let few : at.segment < segment_count (lengths_of path) = omega arith in
      let size = stand.hops at.segment few in
      let number = stand.number at.segment at.position few in
      let begin = lies.begin in
      let whole = stand.whole in
      let within = stand.within at.segment at.position few (omega arith) in
      record {
        offset = hop_place (lengths_of path) (first_hop (lengths_of path) at.segment + at.position);
        place = omega arith;
        is = omega arith;
        inside = omega arith;
        field = sym (stand.hop at.segment at.position few (omega arith));
      }

  points_at_info : (k : ℕ) → k < length s.path.segments → PointsAtInfo bytes k (front_len s.header + 4 + 8 * k)
  points_at_info k there =
      let count = stand.count in
      let begin = lies.begin in
      let whole = stand.whole in
      let few : k < segment_count (lengths_of path) = omega arith in
      record { offset = info_place k; place = omega arith; is = omega arith; inside = omega arith; field = sym (stand.info k 0 few) }

  fixed : (code pointer : ℕ) → IsNamed bytes code pointer → pointer < 28 → K (parameter code pointer)
  fixed code pointer named near =
      let order = lies.order in
      record { named = λ is. named; inside = λ is. omega arith; none = λ is. absurd (omega arith) }

  -- how a code names the hop that stands at a place
  abbrev Names : ℕ → ℕ → Place → Type 0
  Names code pointer at = PointsAtHop bytes at pointer → IsNamed bytes code pointer

  hop_named : (code pointer : ℕ) (at : Place) → IsOnPath s.path.segments at → pointer ≡ pointer_to s at → Names code pointer at → K (parameter code pointer)
  hop_named code pointer at on is names =
      let points : PointsAtHop bytes at pointer = subst (λ (x : ℕ). PointsAtHop bytes at x) (sym is) (points_at_hop at on) in
      let offset = points.offset in
      let place = points.is in
      let room = points.inside in
      let order = lies.order in
      let len = path_len in
      record { named = λ four. names points; inside = λ four. omega arith; none = λ one. absurd (omega arith) }

  here : (code pointer : ℕ) → pointer ≡ pointer_to s s.path.place → Names code pointer s.path.place → K (parameter code pointer)
  here code pointer is names = hop_named code pointer s.path.place on_path is names

  later : changes t ≡ true → (code pointer : ℕ) → pointer ≡ pointer_to s (next_segment s.path.place) → Names code pointer (next_segment s.path.place) → K (parameter code pointer)
  later ends code pointer is names = hop_named code pointer (next_segment s.path.place) (on_next (next_is_there against s ends)) is names

  segment_named : changes t ≡ true → K (parameter 53 (info_pointer (changed_over t)))
  segment_named ends =
      let k = s.path.place.segment + 1 in
      let points : PointsAtInfo bytes k (info_pointer (changed_over t)) = subst (λ (x : ℕ). PointsAtInfo bytes k x) (sym (next_info against s)) (points_at_info k (next_is_there against s ends)) in
      let offset = points.offset in
      let place = points.is in
      let room = points.inside in
      let order = lies.order in
      let len = path_len in
      record { named = λ four. IsNamed.segment points; inside = λ four. omega arith; none = λ one. absurd (omega arith) }

  replies : (interface : ℕ) → K (record { kind = 131; code = 0; pointer = interface })
  replies interface = record { named = λ is. absurd (omega arith); inside = λ is. absurd (omega arith); none = λ is. absurd (omega arith) }

  unreachable : K (record { kind = 1; code = 0; pointer = 0 })
  unreachable = record { named = λ is. absurd (omega arith); inside = λ is. absurd (omega arith); none = λ is. refl }

  leaves : (u : PacketState) (at : Place) → IsAtHand bytes at → ((code : ℕ) → Names code (hop_pointer u) at → K (parameter code (hop_pointer u)))
      → (u.switched ≡ true → K (parameter 53 (info_pointer u))) → (u.switched ≡ false → K (parameter 48 (hop_pointer u))) → IsToldAfter K (GoesOn u) (rest 14)
  leaves u at hand hop info straight =
      row_of K (not (is_some (interface_kind u.network (egress u)))) (Answered (parameter (if is_along u then 50 else 49) (hop_pointer u))) u (rest 15)
      (λ is. hop _ (λ points. IsNamed.interface at (other_of (is_along u) 50 49) hand points)) (λ known.
      told_pair_by K u.switched (not (is_pair_lawful u)) (parameter 53 (info_pointer u)) (parameter 48 (hop_pointer u)) u (rest 16) info straight
      (row_of K (is_some (own_link u.network (egress u)) && egress_alert u && is_request u.header.next_header u.payload) (Answered (record { kind = 131; code = 0; pointer = egress u })) u (rest 17)
      (λ asks. replies (egress u)) (λ quiet. told_leave K (is_some (own_link u.network (egress u))) u (if is_along u then chained u else u))))

  switches : (b : Bool) → changes t ≡ b → IsToldAfter K (if b then then_rows (GoesOn (changed_over t)) (expired ∷ wrong_mac ∷ []) else GoesOn t) (rest 14)
  switches true ends =
      let u : PacketState = changed_over t in
      let at : Place = next_segment s.path.place in
      let hop = λ (code : ℕ) (names : Names code (hop_pointer u) at). later ends code (hop_pointer u) (next_pointer against s) names in
      row_within K (is_expired u) (Answered (parameter 52 (hop_pointer u))) u (wrong_mac ∷ []) (rest 14) (λ is. hop 52 (λ points. IsNamed.expiry at (inr refl) points)) (λ unexpired.
      row_within K (not (is_authentic u)) (Answered (parameter 51 (hop_pointer u))) u [] (rest 14) (λ is. hop 51 (λ points. IsNamed.mac at (inr refl) points)) (λ authentic.
      leaves u at (inr refl) hop (λ is. segment_named ends) (λ is. absurd cc)))
  switches false still =
      let hop = λ (code : ℕ) (names : Names code (hop_pointer t) s.path.place). here code (hop_pointer t) (same_pointer against s) names in
      leaves t s.path.place (inl refl) hop (λ is. let never : false ≡ true = sym (never_switched against s refl) ∙ is in absurd cc) (λ is. hop 48 (λ points. IsNamed.straight points))

  told_all : IsToldAfter K (GoesOn s) decision_table
  told_all =
      let at : Place = s.path.place in
      row_of K (nat_lt 9216 (length s.bytes)) (Dropped cause.TooLong) s (rest 1) (λ is. tt) (λ short.
      row_faulty K (header_fault s.bytes) s (rest 2)
      (row_faulty K (path_fault (path_bytes s.bytes)) s (rest 3)
      (row_of K (is_expired s) (Answered (parameter 52 (hop_pointer s))) s (rest 4) (λ is. here 52 (hop_pointer s) refl (λ points. IsNamed.expiry at (inl refl) points)) (λ unexpired.
      row_of K (is_external s && not (ingress s == s.link)) (Answered (parameter (if is_along s then 49 else 50) (hop_pointer s))) s (rest 5)
      (λ is. here _ (hop_pointer s) refl (λ points. IsNamed.interface at (one_of (is_along s) 49 50) (inl refl) points)) (λ entered.
      row_of K (not (s.header.payload_length == length s.payload)) (Answered (parameter 19 0)) s (rest 6) (λ is. fixed 19 0 IsNamed.size (omega arith)) (λ whole.
      row_of K (not (came_lawfully s)) (Dropped cause.UnderlaySource) s (rest 7) (λ is. tt) (λ sender.
      row_of K (not (is_source_lawful s)) (Answered (parameter 33 20)) s (rest 8) (λ is. fixed 33 20 IsNamed.source (omega arith)) (λ source.
      row_of K (not (is_destination_lawful s)) (Answered (parameter 34 12)) s (rest 9) (λ is. fixed 34 12 IsNamed.destination (omega arith)) (λ destination.
      row_of K (not (is_authentic t)) (Answered (parameter 51 (hop_pointer t))) t (rest 11) (λ is. here 51 (hop_pointer t) (same_pointer against s) (λ points. IsNamed.mac at (inl refl) points)) (λ authentic.
      row_of K (is_external t && ingress_alert t && is_request t.header.next_header t.payload) (Answered (record { kind = 131; code = 0; pointer = ingress t })) t (rest 12)
      (λ asks. replies (ingress t)) (λ quiet.
      row_of K (is_external t && is_local t.network t.header.destination) (delivered t.network (packet t)) t (rest 13)
      (λ for_us. told_delivered K t.network (packet t) unreachable (fixed 21 9 IsNamed.host_kinds (omega arith))) (λ others. switches (changes t) refl))))))))))))

  told_by : (v : Verdict) (q : Problem) → IsTold K v → decision_of v ≡ decision.Answer q → K q
  told_by (Sent out to p) q told says = absurd cc
  told_by (Answered r) q told says = let same : r ≡ q = cc in subst K same told
  told_by (Dropped c) q told says = absurd cc

  pub points_right : (q : Problem) → scion_decide n from source moment bytes ≡ decision.Answer q → PointsRight bytes q
  unfolding verdict
  points_right q says = told_by (verdict n from source moment bytes) q told_all says

-- an answer by BFD has no such pointer
points_nowhere : (bytes : List ℕ) (q : Problem) → q.kind ≡ 203 → PointsRight bytes q
points_nowhere bytes q bfd = record {
  named = λ four. absurd (omega (arith, four, bfd));
  inside = λ four. absurd (omega (arith, four, bfd));
  none = λ one. absurd (omega (arith, one, bfd));
}

pub pointers_right : PointersAreRight
pointers_right n link source moment bytes q are says =
    elim (answered_so n link source moment bytes q says) [
      | inl control ↦ points_nowhere bytes q (ap (λ (x : Problem). x.kind) control.problem)
      | inr scmp ↦ points_right n link source moment bytes are scmp.sound q scmp.says
    ]
