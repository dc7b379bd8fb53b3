-- The rows' tests decide the conditions that the laws cite.
use Rattle.std.proofs.Common.{◌≡◌, ◌≢◌, ◌≤◌, ◌<◌, ◌+◌, ◌*◌, ◌&&◌, ◌||◌, ◌==◌, not, nat_lt, ℕ, Bool, true, false, List, length, Option, Some, None, refl, sym, ap, ap₂, subst, ◌∙◌, arith, inl, inr, if◌then◌else◌}
use Rattle.std.specs.Bool.{Decides}
use Rattle.std.specs.Prelude.{is_some, nat_le, slice_index, option_map}
use Rattle.std.proofs.lemmas.Bool.{cases_Bool, eq-eqb, eqb-true, le-leb, leb-true, ltb-false, ne_eqb}
use Rattle.std.proofs.lemmas.Bool.Decides.{Decides-and, Decides-eqb, Decides-ltb, Decides-not, not_from_Decides}
use Rattle.std.proofs.lemmas.Slice.Eq.{bytes_eq-Decides}
use Rattle.hop_check.specs.Expiry as expiry
use Rattle.hop_check.specs.Mac as hop_mac
use Rattle.hop_check.specs.Mac.{mac6}
use Rattle.field_rows.specs.Place.{number_at}
use Rattle.scion_packet.specs.Extensions.{Layer, upper_layer}
use Rattle.scion_packet.specs.Header.{HostAddress, header_fault}
use Rattle.scion_packet.specs.Packet.{path_bytes}
use Rattle.scion_packet.specs.Path.{HopField, InfoField, Place, Segment, hops_in, path_fault}
use Rattle.scion_packet.proofs.PacketLaws.{pass_both}
use Rattle.scion_packet.specs.Places.{hop_there, info_there}
use Rattle.segment_switch.specs.Pairs.{is_pair}
use Rattle.segment_switch.specs.declared.kind.LinkKind.{LinkKind}
use Rattle.segment_switch.specs.declared.kind.LinkKind.TheVariants.{Core, Parent, Child}
use Rattle.process_packet.specs.declared.neighbours.Link.{Link}
use Rattle.process_packet.specs.declared.neighbours.Sibling.{Sibling}
use Rattle.process_packet.specs.declared.underlay.Ip.{Ip}
use Rattle.process_packet.specs.declared.underlay.Ip.TheVariants.{V4, V6}
use Rattle.process_packet.specs.declared.underlay.Underlay.{Underlay}
use Rattle.process_packet.specs.Conditions.{AlertsEntry, AlertsExit, CarriesMac, ComesFromItsRouter, ComesInBy, GoesOutBy, HasItsDestination, HasItsPair, HasItsSource, IsAtPathEnd, IsFarEnd, IsHere, IsInTime, IsRouterWith, IsTracerouteRequest, MayFollow, last_before}
use Rattle.process_packet.specs.Network.{Network, interface_kind, is_local, is_owner, is_remote, own_link, sibling}
use Rattle.process_packet.specs.PacketState.{PacketState, arrival_kind, egress, egress_of, entry, hop, info, ingress, ingress_of, is_authentic, is_expired, is_external, is_first_of_path, is_last_of_path, turned_back}
use Rattle.process_packet.specs.Request.{asks, is_request, request_of}
use Rattle.process_packet.specs.Rows.{came_lawfully, is_destination_lawful, is_pair_lawful, is_source_lawful, known_pair}
use Rattle.process_packet.specs.Laws.{IsAuthorised}
use Rattle.process_packet.specs.Underlay.{longest_datagram, same_ip, same_underlay}
use Rattle.process_packet.proofs.PassingLemmas.{not_false}
use Rattle.process_packet.proofs.TurningLemmas.{turned_stays}

-- ---- a hop field

pub in_time : (i : InfoField) (h : HopField) (moment : ℕ) → Decides (not (expiry.is_expired i h moment)) (IsInTime i h moment)
in_time i h moment =
    let end = 2 * i.timestamp + 675 * (1 + h.expiry) in
    let not_over = Decides-not (nat_lt end (2 * moment)) (Decides-ltb end (2 * moment)) in
    (λ e. let within = not_over.0 e in omega (arith, within), λ within. not_over.1 (λ (over : end < 2 * moment). omega arith))

pub carries_mac : (key : List ℕ) (i : InfoField) (h : HopField) → Decides (hop_mac.is_authentic key i h) (CarriesMac key i.segment_id i h)
carries_mac key i h = bytes_eq-Decides h.mac (mac6 key i.segment_id i h)

ingress_by : (b : Bool) (i : InfoField) (h : HopField) → i.along ≡ b → ComesInBy i h (if b then h.construction_ingress else h.construction_egress)
ingress_by true i h is = ComesInBy.along is
ingress_by false i h is = ComesInBy.against is

pub comes_in_by : (i : InfoField) (h : HopField) → ComesInBy i h (ingress_of i h)
comes_in_by i h = ingress_by i.along i h refl

egress_by : (b : Bool) (i : InfoField) (h : HopField) → i.along ≡ b → GoesOutBy i h (if b then h.construction_egress else h.construction_ingress)
egress_by true i h is = GoesOutBy.along is
egress_by false i h is = GoesOutBy.against is

pub goes_out_by : (i : InfoField) (h : HopField) → GoesOutBy i h (egress_of i h)
goes_out_by i h = egress_by i.along i h refl

pub ingress_alone : {i : InfoField} {h : HopField} (id : ℕ) → ComesInBy i h id → id ≡ ingress_of i h
ingress_alone {i} {h} _ (ComesInBy.along is) = ap (λ (b : Bool). if b then h.construction_ingress else h.construction_egress) (sym is)
ingress_alone {i} {h} _ (ComesInBy.against is) = ap (λ (b : Bool). if b then h.construction_ingress else h.construction_egress) (sym is)

pub egress_alone : {i : InfoField} {h : HopField} (id : ℕ) → GoesOutBy i h id → id ≡ egress_of i h
egress_alone {i} {h} _ (GoesOutBy.along is) = ap (λ (b : Bool). if b then h.construction_egress else h.construction_ingress) (sym is)
egress_alone {i} {h} _ (GoesOutBy.against is) = ap (λ (b : Bool). if b then h.construction_egress else h.construction_ingress) (sym is)

entry_alert : (b : Bool) (i : InfoField) (h : HopField) → i.along ≡ b → Decides (if b then h.ingress_alert else h.egress_alert) (AlertsEntry i h)
entry_alert true i h is = (λ e. AlertsEntry.along is e, λ a. elim a [ AlertsEntry.along there e ↦ e | AlertsEntry.against there e ↦ absurd cc ])
entry_alert false i h is = (λ e. AlertsEntry.against is e, λ a. elim a [ AlertsEntry.along there e ↦ absurd cc | AlertsEntry.against there e ↦ e ])

pub alerts_entry : (i : InfoField) (h : HopField) → Decides (if i.along then h.ingress_alert else h.egress_alert) (AlertsEntry i h)
alerts_entry i h = entry_alert i.along i h refl

exit_alert : (b : Bool) (i : InfoField) (h : HopField) → i.along ≡ b → Decides (if b then h.egress_alert else h.ingress_alert) (AlertsExit i h)
exit_alert true i h is = (λ e. AlertsExit.along is e, λ a. elim a [ AlertsExit.along there e ↦ e | AlertsExit.against there e ↦ absurd cc ])
exit_alert false i h is = (λ e. AlertsExit.against is e, λ a. elim a [ AlertsExit.along there e ↦ absurd cc | AlertsExit.against there e ↦ e ])

pub alerts_exit : (i : InfoField) (h : HopField) → Decides (if i.along then h.egress_alert else h.ingress_alert) (AlertsExit i h)
alerts_exit i h = exit_alert i.along i h refl

-- ---- how it came

pub external : (link : ℕ) → Decides (not (link == 0)) (link ≢ 0)
external link = Decides-not (link == 0) (Decides-eqb link 0)

-- a Boolean that isn't true
pub refuted : (b : Bool) → (b ≡ true → ⊥) → b ≡ false
refuted true never = absurd (never refl)
refuted false never = refl

link_named : (e same : Bool) (Outside Named : Type 0) → Decides e Outside → Decides same Named → Decides (not (e && not same)) (Outside → Named)
link_named true true O N outside named = (λ is o. named.0 refl, λ f. refl)
link_named true false O N outside named = (λ is. let never : false ≡ true = is in absurd cc, λ f. named.1 (f (outside.0 refl)))
link_named false same O N outside named = (λ is o. let never : false ≡ true = outside.1 o in absurd cc, λ f. refl)

named_by : (i : InfoField) (h : HopField) (link : ℕ) → Decides (ingress_of i h == link) (ComesInBy i h link)
named_by i h link =
    let equal = Decides-eqb (ingress_of i h) link in
    (λ e. subst (λ (id : ℕ). ComesInBy i h id) (equal.0 e) (comes_in_by i h), λ by. equal.1 (sym (ingress_alone link by)))

pub names_its_link : (s : PacketState) → Decides (not (is_external s && not (ingress s == s.link))) (s.link ≢ 0 → ComesInBy (info s) (hop s) s.link)
names_its_link s =
    link_named (is_external s) (ingress s == s.link) (s.link ≢ 0) (ComesInBy (info s) (hop s) s.link) (external s.link) (named_by (info s) (hop s) s.link)

same_ip_is : (a b : Ip) → Decides (same_ip a b) (a ≡ b)
same_ip_is (V4 a) (V4 b) = let same = bytes_eq-Decides a b in (λ e. ap V4 (same.0 e), λ e. same.1 (cc))
same_ip_is (V4 a) (V6 b) = (λ e. let never : false ≡ true = e in absurd cc, λ e. absurd cc)
same_ip_is (V6 a) (V4 b) = (λ e. let never : false ≡ true = e in absurd cc, λ e. absurd cc)
same_ip_is (V6 a) (V6 b) = let same = bytes_eq-Decides a b in (λ e. ap V6 (same.0 e), λ e. same.1 (cc))

same_underlay_is : (a b : Underlay) → Decides (same_underlay a b) (a ≡ b)
same_underlay_is a b =
    let both = Decides-and (a.port == b.port) (same_ip a.ip b.ip) (Decides-eqb a.port b.port) (same_ip_is a.ip b.ip) in (
      λ e. let parts = both.0 e in ap₂ (λ (ip : Ip) (port : ℕ). record { ip = ip; port = port }) parts.1 parts.0,
      λ e. both.1 (ap (λ (u : Underlay). u.port) e, ap (λ (u : Underlay). u.ip) e),
    )

far_end_by : (n : Network) (link : ℕ) (source : Underlay) (o : Option Link) → own_link n link ≡ o → Decides (is_remote o source) (IsFarEnd n link source)
far_end_by n link source None none = (λ e. let never : false ≡ true = e in absurd cc, λ far. let listed = far.listed in absurd cc)
far_end_by n link source (Some l) there =
    let same = same_underlay_is source l.remote in (
      λ e. record { own = l; listed = there; address = same.0 e },
      λ far. let is : Some far.own ≡ Some l = sym far.listed ∙ there in let one : far.own ≡ l = cc in same.1 (far.address ∙ ap (λ (k : Link). k.remote) one),
    )

pub far_end : (n : Network) (link : ℕ) (source : Underlay) → Decides (is_remote (own_link n link) source) (IsFarEnd n link source)
far_end n link source = far_end_by n link source (own_link n link) refl

router_by : (n : Network) (id : ℕ) (source : Underlay) (o : Option Sibling) → sibling n id ≡ o → Decides (is_owner o source) (IsRouterWith n id source)
router_by n id source None none = (λ e. let never : false ≡ true = e in absurd cc, λ with. let listed = with.listed in absurd cc)
router_by n id source (Some b) there =
    let same = same_ip_is source.ip b.at.ip in (
      λ e. record { entry = b; listed = there; ip = same.0 e },
      λ with. let is : Some with.entry ≡ Some b = sym with.listed ∙ there in let one : with.entry ≡ b = cc in same.1 (with.ip ∙ ap (λ (k : Sibling). k.at.ip) one),
    )

router_with : (n : Network) (id : ℕ) (source : Underlay) → Decides (is_owner (sibling n id) source) (IsRouterWith n id source)
router_with n id source = router_by n id source (sibling n id) refl

module _ (s : PacketState) where
  abbrev ss : List Segment
  ss = s.path.segments

  abbrev at : Place
  at = s.path.place

  abbrev before : Place
  before = last_before ss at

  entry_at : (b : Bool) → (at.position == 0) ≡ b → entry s ≡ (let p = if b then before else at in ingress_of (info_there ss p) (hop_there ss p))
  entry_at b is = ap (λ (c : Bool). let p = if c then before else at in ingress_of (info_there ss p) (hop_there ss p)) is

  -- what is true of each interface by which it comes in is true of the one that the hop field names
  abbrev Owned : ℕ → Type 0
  Owned id = IsRouterWith s.network id s.source

  lawful_by : (e first : Bool) → is_external s ≡ e → is_first_of_path at ≡ first
      → came_lawfully s ≡ (if e then is_remote (own_link s.network s.link) s.source else first || is_owner (sibling s.network (entry s)) s.source)
  lawful_by e first external-is first-is =
      ap₂ (λ (a b : Bool). if a then is_remote (own_link s.network s.link) s.source else b || is_owner (sibling s.network (entry s)) s.source) external-is first-is

  inside : is_external s ≡ false → s.link ≡ 0
  inside is = elim (cases_Bool (s.link == 0)) [ inl zero ↦ eqb-true s.link 0 zero | inr other ↦ (let never : false ≡ true = sym is ∙ ap not other in absurd cc) ]

  outside : is_external s ≡ true → s.link ≢ 0
  outside is = (external s.link).0 is

  owned : (id : ℕ) → Owned (entry s) → id ≡ entry s → Owned id
  owned id is same = subst Owned (sym same) is

  entered_within : at.position ≢ 0 → entry s ≡ ingress s
  entered_within later = entry_at false (ne_eqb at.position 0 later)

  entered_changing : at.position ≡ 0 → entry s ≡ ingress_of (info_there ss before) (hop_there ss before)
  entered_changing first = entry_at true (eq-eqb at.position 0 first)

  first_both : at.segment ≡ 0 → at.position ≡ 0 → is_first_of_path at ≡ true
  first_both k i = ap₂ (λ (a b : Bool). a && b) (eq-eqb at.segment 0 k) (eq-eqb at.position 0 i)

  first_parts : is_first_of_path at ≡ true → (at.segment ≡ 0) × (at.position ≡ 0)
  first_parts = (Decides-and (at.segment == 0) (at.position == 0) (Decides-eqb at.segment 0) (Decides-eqb at.position 0)).0

  says_outside : is_external s ≡ true → came_lawfully s ≡ true → ComesFromItsRouter s
  says_outside is lawful =
      let far = (far_end s.network s.link s.source).0 (sym (lawful_by true (is_first_of_path at) is refl) ∙ lawful) in
      record {
        by_link = λ o. far;
        within = λ zero later id by. absurd (outside is zero);
        changing = λ zero first further id by. absurd (outside is zero);
      }

  owns_entry : is_external s ≡ false → came_lawfully s ≡ true → is_first_of_path at ≡ false → Owned (entry s)
  owns_entry is lawful later = (router_with s.network (entry s) s.source).0 (sym (lawful_by false false is later) ∙ lawful)

  says_inside : is_external s ≡ false → came_lawfully s ≡ true → ComesFromItsRouter s
  says_inside is lawful =
      record {
        by_link = λ o. absurd (o (inside is));
        within = λ zero other id by.
            owned id (owns_entry is lawful (refuted (is_first_of_path at) (λ e. other (first_parts e).1))) (ingress_alone id by ∙ sym (entered_within other));
        changing = λ zero first further id by.
            owned id (owns_entry is lawful (refuted (is_first_of_path at) (λ e. further (first_parts e).0))) (ingress_alone id by ∙ sym (entered_changing first));
      }

  shows_outside : is_external s ≡ true → ComesFromItsRouter s → came_lawfully s ≡ true
  shows_outside is comes = lawful_by true (is_first_of_path at) is refl ∙ (far_end s.network s.link s.source).1 (comes.by_link (outside is))

  by_owner : is_external s ≡ false → is_first_of_path at ≡ false → Owned (entry s) → came_lawfully s ≡ true
  by_owner is later owner = lawful_by false false is later ∙ (router_with s.network (entry s) s.source).1 owner

  shows_within : is_external s ≡ false → at.position ≢ 0 → ComesFromItsRouter s → came_lawfully s ≡ true
  shows_within is other comes =
      by_owner is (refuted (is_first_of_path at) (λ e. other (first_parts e).1))
      (comes.within (inside is) other (entry s) (subst (λ (id : ℕ). ComesInBy (info s) (hop s) id) (sym (entered_within other)) (comes_in_by (info s) (hop s))))

  shows_changing : is_external s ≡ false → at.position ≡ 0 → at.segment ≢ 0 → ComesFromItsRouter s → came_lawfully s ≡ true
  shows_changing is first further comes =
      by_owner is (refuted (is_first_of_path at) (λ e. further (first_parts e).0))
      (comes.changing (inside is) first further (entry s)
      (subst (λ (id : ℕ). ComesInBy (info_there ss before) (hop_there ss before) id) (sym (entered_changing first)) (comes_in_by (info_there ss before) (hop_there ss before))))

  shows_inside : is_external s ≡ false → ComesFromItsRouter s → came_lawfully s ≡ true
  shows_inside is comes =
      elim (cases_Bool (at.position == 0)) [
        | inl first ↦ elim (cases_Bool (at.segment == 0)) [
          | inl begin ↦ lawful_by false true is (first_both (eqb-true at.segment 0 begin) (eqb-true at.position 0 first))
          | inr further ↦ shows_changing is (eqb-true at.position 0 first) (not_from_Decides (at.segment == 0) (Decides-eqb at.segment 0) further) comes
        ]
        | inr other ↦ shows_within is (not_from_Decides (at.position == 0) (Decides-eqb at.position 0) other) comes
      ]

  pub sender : Decides (came_lawfully s) (ComesFromItsRouter s)
  sender = (
    λ lawful. elim (cases_Bool (is_external s)) [ inl is ↦ says_outside is lawful | inr is ↦ says_inside is lawful ],
    λ comes. elim (cases_Bool (is_external s)) [ inl is ↦ shows_outside is comes | inr is ↦ shows_inside is comes ],
  )

-- what it carries as its identifier stands turned back
pub carries_here : (s : PacketState) → is_authentic (turned_back s) ≡ true
    → CarriesMac s.network.key (info (turned_back s)).segment_id (info (turned_back s)) (hop (turned_back s))
carries_here s authentic =
    let t : PacketState = turned_back s in
    subst (λ (n : Network). CarriesMac n.key (info t).segment_id (info t) (hop t)) (turned_stays s).network ((carries_mac t.network.key (info t) (hop t)).0 authentic)

pub authentic_here : (s : PacketState) → CarriesMac s.network.key (info (turned_back s)).segment_id (info (turned_back s)) (hop (turned_back s))
    → is_authentic (turned_back s) ≡ true
authentic_here s carries =
    let t : PacketState = turned_back s in
    (carries_mac t.network.key (info t) (hop t)).1 (subst (λ (n : Network). CarriesMac n.key (info t).segment_id (info t) (hop t)) (sym (turned_stays s).network) carries)

-- ---- its addresses

pub is_here : (n : Network) (a : HostAddress) → Decides (is_local n a) (IsHere n a)
is_here n a = Decides-and (a.isd == n.isd) (a.autonomous_system == n.autonomous_system) (Decides-eqb a.isd n.isd) (Decides-eqb a.autonomous_system n.autonomous_system)

source_by : (e first local : Bool) (Outside Inside First Here : Type 0) → Decides e Outside → (e ≡ false → Inside) → (Inside → Outside → ⊥) → Decides first First → Decides local Here
    → Decides (if e then not local else (not first || local)) ((Outside → Here → ⊥) × (Inside → First → Here))
source_by true first true O I F H outside inside apart begins here =
    (λ is. let never : false ≡ true = is in absurd cc, λ both. absurd (both.0 (outside.0 refl) (here.0 refl)))
source_by true first false O I F H outside inside apart begins here =
    (λ is. (λ o h. let never : false ≡ true = here.1 h in absurd cc, λ i f. absurd (apart i (outside.0 refl))), λ both. refl)
source_by false true true O I F H outside inside apart begins here =
    (λ is. (λ o h. let never : false ≡ true = outside.1 o in absurd cc, λ i f. here.0 refl), λ both. refl)
source_by false true false O I F H outside inside apart begins here =
    (λ is. let never : false ≡ true = is in absurd cc, λ both. here.1 (both.1 (inside refl) (begins.0 refl)))
source_by false false local O I F H outside inside apart begins here =
    (λ is. (λ o h. let never : false ≡ true = outside.1 o in absurd cc, λ i f. let never : false ≡ true = begins.1 f in absurd cc), λ both. refl)

apart : (link : ℕ) → link ≡ 0 → link ≢ 0 → ⊥
apart link zero other = other zero

pub has_its_source : (s : PacketState) → Decides (is_source_lawful s) (HasItsSource s)
has_its_source s =
    let at = s.path.place in
    let decided = source_by (is_external s) (is_first_of_path at) (is_local s.network s.header.source) (s.link ≢ 0) (s.link ≡ 0) ((at.segment ≡ 0) × (at.position ≡ 0)) (IsHere s.network s.header.source)
    (external s.link) (inside s) (apart s.link) (Decides-and (at.segment == 0) (at.position == 0) (Decides-eqb at.segment 0) (Decides-eqb at.position 0)) (is_here s.network s.header.source) in (
      λ lawful. let both = decided.0 lawful in record { elsewhere = both.0; here = λ link segment position. both.1 link (segment, position) },
      λ has. decided.1 (has.elsewhere, λ link first. has.here link first.0 first.1),
    )

pub path_end : (s : PacketState) → Decides (is_last_of_path s) (IsAtPathEnd s)
path_end s =
    let at = s.path.place in
    let last = at.position + 1 == hops_in s.path.segments at.segment in
    let followed = nat_lt (at.segment + 1) (length s.path.segments) in
    let none_after = Decides-not followed (Decides-ltb (at.segment + 1) (length s.path.segments)) in
    let both = Decides-and last (not followed) (Decides-eqb (at.position + 1) (hops_in s.path.segments at.segment)) none_after in (
      λ e. let parts = both.0 e in let final = parts.1 in record { last = parts.0; final = omega arith },
      λ ends. both.1 (ends.last, λ (more : at.segment + 1 < length s.path.segments). let final = ends.final in omega arith),
    )

destination_by : (e last local : Bool) (Outside Inside Ends Here : Type 0) → Decides e Outside → (e ≡ false → Inside) → (Inside → Outside → ⊥) → Decides last Ends → Decides local Here
    → Decides (if e then (if last then local else not local) else not local) ((Outside → Here → Ends) × (Outside → Ends → Here) × (Inside → Here → ⊥))
destination_by true true true O I E H outside inside apart ends here =
    (λ is. (λ o h. ends.0 refl, λ o x. here.0 refl, λ i h. apart i (outside.0 refl)), λ all. refl)
destination_by true true false O I E H outside inside apart ends here =
    (λ is. let never : false ≡ true = is in absurd cc, λ all. here.1 (all.1 (outside.0 refl) (ends.0 refl)))
destination_by true false true O I E H outside inside apart ends here =
    (λ is. let never : false ≡ true = is in absurd cc, λ all. ends.1 (all.0 (outside.0 refl) (here.0 refl)))
destination_by true false false O I E H outside inside apart ends here = (
  λ is. (
    λ o h. let never : false ≡ true = here.1 h in absurd cc,
    λ o x. let never : false ≡ true = ends.1 x in absurd cc,
    λ i h. apart i (outside.0 refl),
  ),
  λ all. refl,
)
destination_by false last true O I E H outside inside apart ends here =
    (λ is. let never : false ≡ true = is in absurd cc, λ all. absurd (all.2 (inside refl) (here.0 refl)))
destination_by false last false O I E H outside inside apart ends here = (
  λ is. (
    λ o h. let never : false ≡ true = outside.1 o in absurd cc,
    λ o x. let never : false ≡ true = outside.1 o in absurd cc,
    λ i h. let never : false ≡ true = here.1 h in absurd cc,
  ),
  λ all. refl,
)

pub has_its_destination : (s : PacketState) → Decides (is_destination_lawful s) (HasItsDestination s)
has_its_destination s =
    let decided = destination_by (is_external s) (is_last_of_path s) (is_local s.network s.header.destination) (s.link ≢ 0) (s.link ≡ 0) (IsAtPathEnd s) (IsHere s.network s.header.destination)
    (external s.link) (inside s) (apart s.link) (path_end s) (is_here s.network s.header.destination) in (
      λ lawful. let all = decided.0 lawful in record { ends = all.0; here = all.1; elsewhere = all.2 },
      λ has. decided.1 (has.ends, has.here, has.elsewhere),
    )

-- ---- its pair of links

may_follow : (switched : Bool) (from : Option LinkKind) (to : LinkKind) → is_pair switched from to ≡ true → MayFollow switched from to
may_follow false None to is = MayFollow.from_inside
may_follow true None to is = let never : false ≡ true = is in absurd cc
may_follow false (Some Core) Core is = MayFollow.core
may_follow false (Some Core) Parent is = let never : false ≡ true = is in absurd cc
may_follow false (Some Core) Child is = let never : false ≡ true = is in absurd cc
may_follow false (Some Parent) Core is = let never : false ≡ true = is in absurd cc
may_follow false (Some Parent) Parent is = let never : false ≡ true = is in absurd cc
may_follow false (Some Parent) Child is = MayFollow.down
may_follow false (Some Child) Core is = let never : false ≡ true = is in absurd cc
may_follow false (Some Child) Parent is = MayFollow.up
may_follow false (Some Child) Child is = let never : false ≡ true = is in absurd cc
may_follow true (Some Core) Core is = let never : false ≡ true = is in absurd cc
may_follow true (Some Core) Parent is = let never : false ≡ true = is in absurd cc
may_follow true (Some Core) Child is = MayFollow.core_to_down
may_follow true (Some Parent) Core is = let never : false ≡ true = is in absurd cc
may_follow true (Some Parent) Parent is = let never : false ≡ true = is in absurd cc
may_follow true (Some Parent) Child is = let never : false ≡ true = is in absurd cc
may_follow true (Some Child) Core is = MayFollow.up_to_core
may_follow true (Some Child) Parent is = let never : false ≡ true = is in absurd cc
may_follow true (Some Child) Child is = MayFollow.up_to_down

follows : (switched : Bool) (from : Option LinkKind) (to : LinkKind) → MayFollow switched from to → is_pair switched from to ≡ true
follows _ _ _ MayFollow.from_inside = refl
follows _ _ _ MayFollow.core = refl
follows _ _ _ MayFollow.up = refl
follows _ _ _ MayFollow.down = refl
follows _ _ _ MayFollow.core_to_down = refl
follows _ _ _ MayFollow.up_to_core = refl
follows _ _ _ MayFollow.up_to_down = refl

pub pair_of : (switched : Bool) (from : Option LinkKind) (to : LinkKind) → Decides (is_pair switched from to) (MayFollow switched from to)
pair_of switched from to = (may_follow switched from to, follows switched from to)

has_pair_by : (u : PacketState) (o : Option LinkKind) → interface_kind u.network (egress u) ≡ o → Decides (known_pair u.switched (arrival_kind u) o) (HasItsPair u)
has_pair_by u None none = (λ e. let never : false ≡ true = e in absurd cc, λ pair. let known = pair.known in absurd cc)
has_pair_by u (Some to) there =
    let decided = pair_of u.switched (arrival_kind u) to in (
      λ e. record { to = to; known = there; lawful = decided.0 e },
      λ pair. let is : Some pair.to ≡ Some to = sym pair.known ∙ there in let one : pair.to ≡ to = cc in decided.1 (subst (λ (k : LinkKind). MayFollow u.switched (arrival_kind u) k) one pair.lawful),
    )

pub has_its_pair : (u : PacketState) → Decides (is_pair_lawful u) (HasItsPair u)
has_its_pair u = has_pair_by u (interface_kind u.network (egress u)) refl

-- ---- the kind of the link by which it came

pub came_by : (s : PacketState) (own : Link) → s.link ≢ 0 → own_link s.network s.link ≡ Some own → arrival_kind s ≡ Some own.kind
came_by s own outside there =
    ap₂ (λ (e : Bool) (o : Option Link). if e then option_map (λ (l : Link). l.kind) o else None) ((external s.link).1 outside) there

pub from_inside : (s : PacketState) → s.link ≡ 0 → arrival_kind s ≡ None
from_inside s zero = ap (λ (l : ℕ). if not (l == 0) then option_map (λ (k : Link). k.kind) (own_link s.network s.link) else None) zero

-- ---- what it asks

numbers_if : (b : Bool) (numbers : ℕ × ℕ) → is_some {T = ℕ × ℕ} (if b then Some numbers else None) ≡ b
numbers_if true numbers = refl
numbers_if false numbers = refl

asks_so : (l : Layer) → is_some {T = ℕ × ℕ} (request_of (Some l)) ≡ asks l
asks_so l = numbers_if (asks l) (number_at l.bytes 4 2, number_at l.bytes 6 2)

asks_by : (l : Layer) → Decides (asks l) ((((l.protocol ≡ 202) × (24 ≤ length l.bytes)) × (slice_index l.bytes 0 ≡ 130)) × (slice_index l.bytes 1 ≡ 0))
asks_by l =
    let long = l.protocol == 202 && nat_le 24 (length l.bytes) in
    let typed = long && slice_index l.bytes 0 == 130 in
    Decides-and typed (slice_index l.bytes 1 == 0)
    (Decides-and long (slice_index l.bytes 0 == 130) (Decides-and (l.protocol == 202) (nat_le 24 (length l.bytes)) (Decides-eqb l.protocol 202) (leb-true 24 (length l.bytes), le-leb 24 (length l.bytes))) (Decides-eqb (slice_index l.bytes 0) 130))
    (Decides-eqb (slice_index l.bytes 1) 0)

traceroute_by : (next_header : ℕ) (payload : List ℕ) (o : Option Layer) → upper_layer next_header payload ≡ o → Decides (is_some {T = ℕ × ℕ} (request_of o)) (IsTracerouteRequest next_header payload)
traceroute_by next_header payload None none = (λ e. let never : false ≡ true = e in absurd cc, λ is. let found = is.found in absurd cc)
traceroute_by next_header payload (Some l) there =
    let decided = asks_by l in (
      λ e. let all = decided.0 (sym (asks_so l) ∙ e) in record { layer = l; found = there; scmp = all.0.0.0; there = all.0.0.1; kind = all.0.1; code = all.1 },
      λ is.
          let some : Some is.layer ≡ Some l = sym is.found ∙ there in
          let same : is.layer ≡ l = cc in
          asks_so l
          ∙ decided.1 (
            (
              (ap (λ (k : Layer). k.protocol) (sym same) ∙ is.scmp, subst (λ (k : Layer). 24 ≤ length k.bytes) same is.there),
              ap (λ (k : Layer). slice_index k.bytes 0) (sym same) ∙ is.kind,
            ),
            ap (λ (k : Layer). slice_index k.bytes 1) (sym same) ∙ is.code,
          ),
    )

pub is_traceroute : (next_header : ℕ) (payload : List ℕ) → Decides (is_request next_header payload) (IsTracerouteRequest next_header payload)
is_traceroute next_header payload = traceroute_by next_header payload (upper_layer next_header payload) refl

-- ---- all that a packet shows where it arrives

-- No row up to the MAC's refuses it.
pub record IsClear (s : PacketState) : Type 0 where
  pub short : nat_lt longest_datagram (length s.bytes) ≡ false
  pub header : header_fault s.bytes ≡ None
  pub path : path_fault (path_bytes s.bytes) ≡ None
  pub unexpired : is_expired s ≡ false
  pub entered : (is_external s && not (ingress s == s.link)) ≡ false
  pub whole : not (s.header.payload_length == length s.payload) ≡ false
  pub sender : not (came_lawfully s) ≡ false
  pub source : not (is_source_lawful s) ≡ false
  pub destination : not (is_destination_lawful s) ≡ false
  pub authentic : not (is_authentic (turned_back s)) ≡ false

pub authorised : (s : PacketState) → IsClear s → IsAuthorised s
authorised s clear = record {
  short = ltb-false longest_datagram (length s.bytes) clear.short;
  sound = pass_both s.bytes clear.header clear.path;
  in_time = (in_time (info s) (hop s) s.moment).0 (ap not clear.unexpired);
  by_its_link = (names_its_link s).0 (ap not clear.entered);
  whole = (Decides-eqb s.header.payload_length (length s.payload)).0 (not_false (s.header.payload_length == length s.payload) clear.whole);
  sender = (sender s).0 (not_false (came_lawfully s) clear.sender);
  source = (has_its_source s).0 (not_false (is_source_lawful s) clear.source);
  destination = (has_its_destination s).0 (not_false (is_destination_lawful s) clear.destination);
  authentic = carries_here s (not_false (is_authentic (turned_back s)) clear.authentic);
}
