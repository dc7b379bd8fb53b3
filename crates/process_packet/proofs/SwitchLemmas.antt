-- The change from one segment to the next.
use Rattle.std.proofs.Common.{◌≡◌, ◌≢◌, ◌&&◌, Bool, true, false, ℕ, ◌+◌, List, [], ◌∷◌, Option, refl, sym, ap₂, subst, ◌∙◌, arith, if◌then◌else◌}
use Rattle.std.specs.Prelude.{Result}
use Rattle.std.proofs.lemmas.Bool.{and_from, cond-true}
use Rattle.scion_packet.specs.Packet.{Packet}
use Rattle.scion_packet.specs.Path.{Place, Segment, place_at}
use Rattle.process_packet.specs.Departure.{Keeps}
use Rattle.process_packet.specs.Rows.{RowResult, GoesOn, expired, switch, then_rows, wrong_mac}
use Rattle.process_packet.specs.PacketView.{IsAlike, TellsRow, Shows, with_id}
use Rattle.process_packet.specs.PathHop.{IsPathHop}
use Rattle.process_packet.specs.PacketState.{PacketState, changed_over, is_followed, is_last_of_segment, next_segment, past_switch}
use Rattle.process_packet.specs.declared.refusal.Refusal.{Refusal}
use Rattle.process_packet.specs.declared.packet_view.PacketView.{PacketView}
use Rattle.process_packet.proofs.AlikeLemmas.{path_hop_alike}

-- ---- the view

-- Two views of which the second one stands at another place.
pub record IsMoved (v w : PacketView) : Type 0 where
  pub link : w.link ≡ v.link
  pub moment : w.moment ≡ v.moment
  pub begin : w.path_begin ≡ v.path_begin
  pub payload : w.payload ≡ v.payload
  pub segments : w.segments ≡ v.segments
  pub switched : w.switched ≡ true

pub shows_changed : (v w : PacketView) (s : PacketState) (ss : List Segment) (k i : ℕ) → Shows v s → IsMoved v w → IsAlike s.path.place.segment ss s.path.segments
    → IsPathHop w.current ss (place_at k i) → k ≡ v.current.segment + 1 → i ≡ 0 → Shows w (changed_over s)
shows_changed v w s ss k i shows moved alike is k-is i-is =
    let at = next_segment s.path.place in
    let segment : k ≡ s.path.place.segment + 1 = omega (arith, k-is, shows.current.place.segment) in
    let place : place_at k i ≡ at = ap₂ place_at segment i-is in
    let there : IsPathHop w.current ss at = subst (λ (p : Place). IsPathHop w.current ss p) place is in
    let other : at.segment ≢ s.path.place.segment = omega arith in
    record {
      link = moved.link ∙ shows.link;
      moment = moved.moment ∙ shows.moment;
      begin = moved.begin ∙ shows.begin;
      payload = moved.payload ∙ shows.payload;
      count = moved.segments ∙ shows.count;
      current = path_hop_alike w.current s.path.place.segment ss s.path.segments at there alike other;
      switched = moved.switched;
      whole = shows.whole;
    }

-- ---- the rows

changes : (s : PacketState) → is_last_of_segment s ≡ true → is_followed s ≡ true → past_switch s ≡ changed_over s
changes s last followed = cond-true (is_last_of_segment s && is_followed s) (changed_over s) s (and_from _ _ last followed)

taken : (s : PacketState) → is_last_of_segment s ≡ true → is_followed s ≡ true → switch s ≡ then_rows (expired (changed_over s)) (wrong_mac ∷ [])
taken s last followed =
    cond-true (is_last_of_segment s && is_followed s) (then_rows (expired (changed_over s)) (wrong_mac ∷ [])) (GoesOn s) (and_from _ _ last followed)

pub says_taken : (s : PacketState) (r : Result (Unit {0}) Refusal) → is_last_of_segment s ≡ true → is_followed s ≡ true
    → TellsRow (then_rows (GoesOn (changed_over s)) (expired ∷ wrong_mac ∷ [])) (changed_over s) r → TellsRow (switch s) (past_switch s) r
says_taken s r last followed says =
    subst (λ (t : RowResult). TellsRow t (past_switch s) r) (sym (taken s last followed))
    (subst (λ (u : PacketState). TellsRow (then_rows (expired (changed_over s)) (wrong_mac ∷ [])) u r) (sym (changes s last followed)) says)

-- ---- what stays

switch_keeps : (b : Bool) (v w : PacketView) (s : PacketState) (p : Packet) → w.turned ≡ v.turned → w.entered ≡ v.entered → Keeps v s p → Keeps w (if b then changed_over s else s) p
switch_keeps true v w s p turned entered keeps = record {
  header = keeps.header;
  payload = keeps.payload;
  reserved = keeps.reserved;
  segments = keeps.segments ∙ ap₂ (λ (o : Option ℕ) (k : ℕ). with_id o k p.path.segments) (sym turned) (sym entered);
  entered = omega (arith, entered, keeps.entered);
}
switch_keeps false v w s p turned entered keeps = record {
  header = keeps.header;
  payload = keeps.payload;
  reserved = keeps.reserved;
  segments = keeps.segments ∙ ap₂ (λ (o : Option ℕ) (k : ℕ). with_id o k p.path.segments) (sym turned) (sym entered);
  entered = omega (arith, entered, keeps.entered);
}

pub keeps_past_switch : (v w : PacketView) (s : PacketState) (p : Packet) → w.turned ≡ v.turned → w.entered ≡ v.entered → Keeps v s p → Keeps w (past_switch s) p
keeps_past_switch v w s p turned entered keeps = switch_keeps (is_last_of_segment s && is_followed s) v w s p turned entered keeps

-- the rows after the switch look at the same network, header and payload
pub record IsSameThere (s u : PacketState) : Type 0 where
  pub network : s.network ≡ u.network
  pub header : s.header ≡ u.header
  pub payload : s.payload ≡ u.payload

same_there : (b : Bool) (s : PacketState) → IsSameThere s (if b then changed_over s else s)
same_there true s = record { network = refl; header = refl; payload = refl }
same_there false s = record { network = refl; header = refl; payload = refl }

pub same_past_switch : (s : PacketState) → IsSameThere s (past_switch s)
same_past_switch s = same_there (is_last_of_segment s && is_followed s) s
