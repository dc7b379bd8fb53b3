-- Over the whole of a segment the hop fields are entries of one beaconed segment.
use Rattle.std.proofs.Common.{◌≡◌, ◌≤◌, ◌+◌, ℕ, zero, suc, true, false, List, [], ◌∷◌, slice_get, Contains, Some, refl, sym, ap, subst, ◌∙◌, arith, inl, inr}
use Rattle.std.proofs.lemmas.Bool.{cases_Bool}
use Rattle.std.proofs.lemmas.Option.{same_Some}
use Rattle.scion_packet.specs.Path.{HopField, InfoField, Place}
use Rattle.process_packet.specs.Chaining.{FollowsOn, IsSameHop}
use Rattle.process_packet.specs.PacketState.{PacketState, hop, info, is_along, is_last_of_segment}
use Rattle.net_laws.specs.Configured.{AreNumbered}
use Rattle.net_laws.specs.Net.{Agrees, AreOfOneAS, Net, Router}
use Rattle.net_laws.specs.PathSegments.{PathSegment}
use Rattle.path_authorisation.specs.Beaconed.{AreAllBeaconed, IsAfter, IsEntry, IsMade, LooksAt, NoIdentifierCollides, NoMacIsForged}
use Rattle.path_authorisation.specs.Sendings.{ComesFrom, IsOnLongPath, IsSending, IsWalk, Sending, at_entry, at_exit}
use Rattle.path_authorisation.specs.Stretches.{IsOneSegment, SegmentsAreBeaconed, StandsAgainst, StandsAlong}
use Rattle.path_authorisation.proofs.AcceptedLemmas.{carries_entry, carries_exit, exits, follows_on, inside, next_begins, same_hop}
use Rattle.path_authorisation.proofs.MacLemmas.{chains_to, is_before}
use Rattle.path_authorisation.proofs.WalkLemmas.{long_next, rest_is}
use Rattle.path_authorisation.proofs.WayLemmas.{by_address}

-- the place of the hop field at which it comes, and of the one by which it leaves
abbrev entry_place : Sending → Place
entry_place s = (at_entry s).path.place

abbrev exit_place : Sending → Place
exit_place s = (at_exit s).path.place

-- From one router to the next: on the same segment over a link, or within the AS, or to another segment.
data Step (s t : Sending) : Type 0 where
  over : FollowsOn (at_exit s) (at_entry t) → Step s t
  within : IsSameHop (at_exit s) (at_entry t) → AreOfOneAS s.here t.here → Step s t
  changes : (entry_place t).segment ≡ (exit_place s).segment + 1 → Step s t

step : (net : Net) → Agrees net → AreNumbered net → (s t : Sending) → IsSending net s → IsSending net t → IsOnLongPath s → ComesFrom net s t → Step s t
step net agrees numbered s t is next long comes = by_address s.to
    (λ none. elim (cases_Bool (is_last_of_segment (at_exit s))) [
      | inl last ↦ Step.changes (next_begins net agrees numbered s t is next long comes none last)
      | inr more ↦ Step.over (follows_on net agrees numbered s t is next long comes none more)
    ])
    (λ at some. Step.within (same_hop net agrees numbered s t is next long comes at some) (inside net agrees numbered s t is next long comes at some).one)

not_before : (s t : Sending) → Step s t → (exit_place s).segment ≤ (entry_place t).segment
not_before s t (Step.over f) = let same : (entry_place t).segment ≡ (exit_place s).segment = ap (λ (p : Place). p.segment) f.place in omega arith
not_before s t (Step.within h one) = let same : (entry_place t).segment ≡ (exit_place s).segment = ap (λ (p : Place). p.segment) h.place in omega arith
not_before s t (Step.changes next) = omega arith

leaves_later : (s : Sending) → (entry_place s).segment ≤ (exit_place s).segment
leaves_later s = elim (exits s) [
  | inl same ↦ let place : (exit_place s).segment ≡ (entry_place s).segment = ap (λ (u : PacketState). u.path.place.segment) same in omega arith
  | inr next ↦ omega arith
]

of_the_other : (t : PathSegment) (number : ℕ) (x y : Router) (i : InfoField) (h : HopField) → AreOfOneAS x y → IsEntry t number y i h → IsEntry t number x i h
of_the_other t number x y i h one e = record {
  there = e.there;
  home = record { isd = one.isd ∙ e.home.isd; autonomous_system = one.autonomous_system ∙ e.home.autonomous_system };
  identifier = e.identifier;
  timestamp = e.timestamp;
  expiry = e.expiry;
  ingress = e.ingress;
  egress = e.egress;
}

-- The hop field at which it comes is an entry, and all at which it comes later on that segment of its path are of the same.
record ComesAlong (set : List PathSegment) (t : Sending) (walk : List Sending) : Type 0 where
  segment : PathSegment
  beaconed : Contains set segment
  number : ℕ
  entry : IsEntry segment number t.here (info (at_entry t)) (hop (at_entry t))
  later : (j : ℕ) (d : Sending) → slice_get walk j ≡ Some d → (entry_place d).segment ≡ (entry_place t).segment → StandsAlong segment number (entry_place t).position d

-- those with it
all_along : (set : List PathSegment) (t : Sending) (walk : List Sending) (c : ComesAlong set t walk) (j : ℕ) (d : Sending) → slice_get (t ∷ walk) j ≡ Some d
    → (entry_place d).segment ≡ (entry_place t).segment → StandsAlong c.segment c.number (entry_place t).position d
all_along set t walk c zero d at place = subst (StandsAlong c.segment c.number (entry_place t).position) (same_Some t d at) (record { here = c.number; entry = c.entry; place = refl })
all_along set t walk c (suc j) d at place = c.later j d at place

-- counted from another hop field
from_another : (t : PathSegment) (number position other place : ℕ) (d : Sending) → other + position ≡ number + place → StandsAlong t other place d → StandsAlong t number position d
from_another t number position other place d same stands = record { here = stands.here; entry = stands.entry; place = (let counted = stands.place in omega arith) }

-- against it, an entry before
record EntersAgainst (t : PathSegment) (number position : ℕ) (d : Sending) : Type 0 where
  here : ℕ
  entry : IsEntry t here d.here (info (at_entry d)) (hop (at_entry d))
  place : here + (entry_place d).position ≡ number + position
  backward : is_along (at_entry d) ≡ false

module _ (net : Net) (set : List PathSegment) (agrees : Agrees net) (numbered : AreNumbered net) (beaconed : AreAllBeaconed net set) (apart : NoIdentifierCollides set) where
  first_step : (s t : Sending) (walk : List Sending) → IsWalk net (s ∷ t ∷ walk) → IsOnLongPath s → Step s t
  first_step s t walk is long = step net agrees numbered s t (is.sent 0 s refl) (is.sent 1 t refl) long (is.next 0 s t refl refl)

  long_second : (s t : Sending) (walk : List Sending) → IsWalk net (s ∷ t ∷ walk) → IsOnLongPath s → IsOnLongPath t
  long_second s t walk is long = long_next net s t (is.sent 0 s refl) long (is.next 0 s t refl refl)

  -- a walk doesn't come back to a segment
  comes_later : (walk : List Sending) (s : Sending) → IsWalk net (s ∷ walk) → IsOnLongPath s → (j : ℕ) (d : Sending) → slice_get walk j ≡ Some d
      → (exit_place s).segment ≤ (entry_place d).segment
  comes_later [] s is long j d at = absurd cc
  comes_later (t ∷ walk) s is long zero d at =
      subst (λ (x : Sending). (exit_place s).segment ≤ (entry_place x).segment) (same_Some t d at) (not_before s t (first_step s t walk is long))
  comes_later (t ∷ walk) s is long (suc j) d at =
      let first = not_before s t (first_step s t walk is long) in
      let stays = leaves_later t in
      let rest = comes_later walk t (rest_is net s (t ∷ walk) is) (long_second s t walk is long) j d at in
      omega arith

  unforged_rest : (s : Sending) (walk : List Sending) → NoMacIsForged set (s ∷ walk) → NoMacIsForged set walk
  unforged_rest s walk unforged i t u at looks carries = unforged (suc i) t u at looks carries

  exit_made : (s : Sending) (walk : List Sending) → IsWalk net (s ∷ walk) → IsOnLongPath s → NoMacIsForged set (s ∷ walk) → IsMade set s.here (info (at_exit s)) (hop (at_exit s))
  exit_made s walk is long unforged = unforged 0 s (at_exit s) refl LooksAt.where_it_leaves (carries_exit net s (is.sent 0 s refl) long)

  entry_made : (s : Sending) (walk : List Sending) → IsWalk net (s ∷ walk) → IsOnLongPath s → NoMacIsForged set (s ∷ walk) → IsMade set s.here (info (at_entry s)) (hop (at_entry s))
  entry_made s walk is long unforged = unforged 0 s (at_entry s) refl LooksAt.where_it_comes (carries_entry net s (is.sent 0 s refl) long)

  entry_later : (walk : List Sending) (t : Sending) → IsWalk net (t ∷ walk) → IsOnLongPath t → (j : ℕ) (d : Sending) → slice_get (t ∷ walk) j ≡ Some d
      → (entry_place t).segment ≤ (entry_place d).segment
  entry_later walk t is long zero d at = subst (λ (x : Sending). (entry_place t).segment ≤ (entry_place x).segment) (same_Some t d at) (omega arith)
  entry_later walk t is long (suc j) d at =
      let stays = leaves_later t in
      let rest = comes_later walk t is long j d at in
      omega arith

  -- ---- in the direction of construction

  comes_along : (t : Sending) (walk : List Sending) → IsWalk net (t ∷ walk) → IsOnLongPath t → NoMacIsForged set (t ∷ walk)
      → (is_along (at_exit t) ≡ true → IsOneSegment set StandsAlong t walk) → is_along (at_entry t) ≡ true → ComesAlong set t walk
  comes_along t walk is long unforged rest forward = elim (exits t) [
    | inl same ↦
        let r : IsOneSegment set StandsAlong t walk = rest (ap is_along same ∙ forward) in
        record {
          segment = r.segment;
          beaconed = r.beaconed;
          number = r.number;
          entry = subst (λ (u : PacketState). IsEntry r.segment r.number t.here (info u) (hop u)) same r.entry;
          later = λ j d at place. subst (λ (u : PacketState). StandsAlong r.segment r.number u.path.place.position d) same
              (r.later j d at (place ∙ sym (ap (λ (u : PacketState). u.path.place.segment) same)));
        }
    | inr next ↦
        let m : IsMade set t.here (info (at_entry t)) (hop (at_entry t)) = entry_made t walk is long unforged in
        record {
          segment = m.segment;
          beaconed = m.beaconed;
          number = m.number;
          entry = m.entry;
          later = λ j d at place. let after = comes_later walk t is long j d at in absurd (omega arith);
        }
  ]

  along_by : (s t : Sending) (walk : List Sending) → IsWalk net (s ∷ t ∷ walk) → IsOnLongPath s → NoMacIsForged set (s ∷ t ∷ walk) → is_along (at_exit s) ≡ true
      → (is_along (at_entry t) ≡ true → ComesAlong set t walk) → Step s t → IsOneSegment set StandsAlong s (t ∷ walk)
  along_by s t walk is long unforged forward comes (Step.changes next) =
      let m : IsMade set s.here (info (at_exit s)) (hop (at_exit s)) = exit_made s (t ∷ walk) is long unforged in
      record {
        segment = m.segment;
        beaconed = m.beaconed;
        number = m.number;
        entry = m.entry;
        later = λ j d at place.
            let after = entry_later walk t (rest_is net s (t ∷ walk) is) (long_second s t walk is long) j d at in
            absurd (omega arith);
      }
  along_by s t walk is long unforged forward comes (Step.within h one) =
      let c : ComesAlong set t walk = comes (ap (λ (i : InfoField). i.along) h.info_is ∙ forward) in
      let place : (entry_place t).segment ≡ (exit_place s).segment = ap (λ (p : Place). p.segment) h.place in
      let position : (entry_place t).position ≡ (exit_place s).position = ap (λ (p : Place). p.position) h.place in
      let here : IsEntry c.segment c.number s.here (info (at_entry t)) (hop (at_entry t)) =
      of_the_other c.segment c.number s.here t.here (info (at_entry t)) (hop (at_entry t)) one c.entry in
      record {
        segment = c.segment;
        beaconed = c.beaconed;
        number = c.number;
        entry = subst (λ (f : HopField). IsEntry c.segment c.number s.here (info (at_exit s)) f) h.hop_is
            (subst (λ (i : InfoField). IsEntry c.segment c.number s.here i (hop (at_entry t))) h.info_is here);
        later = λ j d at same. from_another c.segment c.number (exit_place s).position c.number (entry_place t).position d (omega arith)
            (all_along set t walk c j d at (same ∙ sym place));
      }
  along_by s t walk is long unforged forward comes (Step.over f) =
      let on = f.along forward in
      let c : ComesAlong set t walk = comes (ap (λ (i : InfoField). i.along) on ∙ forward) in
      let place : (entry_place t).segment ≡ (exit_place s).segment = ap (λ (p : Place). p.segment) f.place in
      let position : (entry_place t).position ≡ (exit_place s).position + 1 = ap (λ (p : Place). p.position) f.place in
      let m : IsMade set s.here (info (at_exit s)) (hop (at_exit s)) = exit_made s (t ∷ walk) is long unforged in
      let sends : IsSending net s = is.sent 0 s refl in
      let timestamp : m.segment.info.timestamp ≡ c.segment.info.timestamp = sym m.entry.timestamp ∙ sym (ap (λ (i : InfoField). i.timestamp) on) ∙ c.entry.timestamp in
      let after : IsAfter m.segment c.segment m.number c.number =
      apart m.segment c.segment m.number c.number m.beaconed c.beaconed timestamp m.entry.there c.entry.there
      (sym (chains_to net m.segment m.number s.router s.here (info (at_exit s)) (hop (at_exit s)) (beaconed m.segment m.beaconed) sends.here_is m.entry (carries_exit net s sends long))
      ∙ sym (ap (λ (i : InfoField). i.segment_id) on) ∙ c.entry.identifier) in
      let next = after.next in
      record {
        segment = c.segment;
        beaconed = c.beaconed;
        number = after.before;
        entry = is_before m.segment c.segment m.number c.number timestamp after s.here (info (at_exit s)) (hop (at_exit s)) c.entry.there m.entry;
        later = λ j d at same. from_another c.segment after.before (exit_place s).position c.number (entry_place t).position d (omega arith)
            (all_along set t walk c j d at (same ∙ sym place));
      }

  alongs : (walk : List Sending) (s : Sending) → IsWalk net (s ∷ walk) → IsOnLongPath s → NoMacIsForged set (s ∷ walk) → is_along (at_exit s) ≡ true
      → IsOneSegment set StandsAlong s walk
  alongs [] s is long unforged forward =
      let m : IsMade set s.here (info (at_exit s)) (hop (at_exit s)) = exit_made s [] is long unforged in
      record { segment = m.segment; beaconed = m.beaconed; number = m.number; entry = m.entry; later = λ j d at same. absurd cc }
  alongs (t ∷ walk) s is long unforged forward =
      let after : IsWalk net (t ∷ walk) = rest_is net s (t ∷ walk) is in
      let long_t : IsOnLongPath t = long_second s t walk is long in
      let rest : NoMacIsForged set (t ∷ walk) = unforged_rest s (t ∷ walk) unforged in
      along_by s t walk is long unforged forward (comes_along t walk after long_t rest (λ on. alongs walk t after long_t rest on)) (first_step s t walk is long)

  -- ---- against it

  enters_against : (s t : Sending) (walk : List Sending) → IsWalk net (s ∷ t ∷ walk) → IsOnLongPath s → NoMacIsForged set (s ∷ t ∷ walk) → (u : PathSegment) (number : ℕ)
      → Contains set u → IsEntry u number s.here (info (at_exit s)) (hop (at_exit s)) → is_along (at_exit s) ≡ false → (entry_place t).segment ≡ (exit_place s).segment
      → Step s t → EntersAgainst u number (exit_place s).position t
  enters_against s t walk is long unforged u number there e backward same (Step.changes next) = absurd (omega arith)
  enters_against s t walk is long unforged u number there e backward same (Step.within h one) =
      let position : (entry_place t).position ≡ (exit_place s).position = ap (λ (p : Place). p.position) h.place in
      let other : AreOfOneAS t.here s.here = record { isd = sym one.isd; autonomous_system = sym one.autonomous_system } in
      let here : IsEntry u number t.here (info (at_exit s)) (hop (at_exit s)) = of_the_other u number t.here s.here (info (at_exit s)) (hop (at_exit s)) other e in
      record {
        here = number;
        entry = subst (λ (f : HopField). IsEntry u number t.here (info (at_entry t)) f) (sym h.hop_is)
            (subst (λ (i : InfoField). IsEntry u number t.here i (hop (at_exit s))) (sym h.info_is) here);
        place = omega arith;
        backward = ap (λ (i : InfoField). i.along) h.info_is ∙ backward;
      }
  enters_against s t walk is long unforged u number there e backward same (Step.over f) =
      let on = f.against backward in
      let position : (entry_place t).position ≡ (exit_place s).position + 1 = ap (λ (p : Place). p.position) f.place in
      let after : IsWalk net (t ∷ walk) = rest_is net s (t ∷ walk) is in
      let long_t : IsOnLongPath t = long_second s t walk is long in
      let m : IsMade set t.here (info (at_entry t)) (hop (at_entry t)) = entry_made t walk after long_t (unforged_rest s (t ∷ walk) unforged) in
      let sends : IsSending net t = is.sent 1 t refl in
      let timestamp : m.segment.info.timestamp ≡ u.info.timestamp = sym m.entry.timestamp ∙ sym (ap (λ (i : InfoField). i.timestamp) on) ∙ e.timestamp in
      let is_after : IsAfter m.segment u m.number number =
      apart m.segment u m.number number m.beaconed there timestamp m.entry.there e.there
      (sym (chains_to net m.segment m.number t.router t.here (info (at_entry t)) (hop (at_entry t)) (beaconed m.segment m.beaconed) sends.here_is m.entry (carries_entry net t sends long_t))
      ∙ sym (ap (λ (i : InfoField). i.segment_id) on) ∙ e.identifier) in
      let next = is_after.next in
      record {
        here = is_after.before;
        entry = is_before m.segment u m.number number timestamp is_after t.here (info (at_entry t)) (hop (at_entry t)) e.there m.entry;
        place = omega arith;
        backward = sym (ap (λ (i : InfoField). i.along) on) ∙ backward;
      }

  againsts : (walk : List Sending) (s : Sending) → IsWalk net (s ∷ walk) → IsOnLongPath s → NoMacIsForged set (s ∷ walk) → (u : PathSegment) (number : ℕ) → Contains set u
      → IsEntry u number s.here (info (at_exit s)) (hop (at_exit s)) → is_along (at_exit s) ≡ false → (j : ℕ) (d : Sending) → slice_get walk j ≡ Some d
      → (entry_place d).segment ≡ (exit_place s).segment → StandsAgainst u number (exit_place s).position d
  againsts [] s is long unforged u number there e backward j d at same = absurd cc
  againsts (t ∷ walk) s is long unforged u number there e backward zero d at same =
      let is_t : t ≡ d = same_Some t d at in
      let place : (entry_place t).segment ≡ (exit_place s).segment = ap (λ (x : Sending). (entry_place x).segment) is_t ∙ same in
      let c : EntersAgainst u number (exit_place s).position t = enters_against s t walk is long unforged u number there e backward place (first_step s t walk is long) in
      subst (StandsAgainst u number (exit_place s).position) is_t (record { here = c.here; entry = c.entry; place = c.place })
  againsts (t ∷ walk) s is long unforged u number there e backward (suc j) d at same =
      let after : IsWalk net (t ∷ walk) = rest_is net s (t ∷ walk) is in
      let long_t : IsOnLongPath t = long_second s t walk is long in
      let rest : NoMacIsForged set (t ∷ walk) = unforged_rest s (t ∷ walk) unforged in
      let first = not_before s t (first_step s t walk is long) in
      let leaves = leaves_later t in
      let comes = comes_later walk t after long_t j d at in
      let place : (entry_place t).segment ≡ (exit_place s).segment = omega arith in
      let c : EntersAgainst u number (exit_place s).position t = enters_against s t walk is long unforged u number there e backward place (first_step s t walk is long) in
      elim (exits t) [
        | inl still ↦
            let e_t : IsEntry u c.here t.here (info (at_exit t)) (hop (at_exit t)) = subst (λ (v : PacketState). IsEntry u c.here t.here (info v) (hop v)) (sym still) c.entry in
            let here : (exit_place t).segment ≡ (entry_place t).segment = ap (λ (v : PacketState). v.path.place.segment) still in
            let position : (exit_place t).position ≡ (entry_place t).position = ap (λ (v : PacketState). v.path.place.position) still in
            let stands : StandsAgainst u c.here (exit_place t).position d =
            againsts walk t after long_t rest u c.here there e_t (ap is_along still ∙ c.backward) j d at (same ∙ sym place ∙ sym here) in
            let counted = stands.place in
            let entered = c.place in
            record { here = stands.here; entry = stands.entry; place = omega arith }
        | inr next ↦ absurd (omega arith)
      ]

pub segments_beaconed : SegmentsAreBeaconed
segments_beaconed = record {
  along = λ net set s walk agrees numbered beaconed apart is long unforged forward. alongs net set agrees numbered beaconed apart walk s is long unforged forward;
  against = λ net set s walk agrees numbered beaconed apart is long unforged backward.
      let m = exit_made net set agrees numbered beaconed apart s walk is long unforged in
      record {
        segment = m.segment;
        beaconed = m.beaconed;
        number = m.number;
        entry = m.entry;
        later = againsts net set agrees numbered beaconed apart walk s is long unforged m.segment m.number m.beaconed m.entry backward;
      };
}
