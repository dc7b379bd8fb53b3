-- The tests of the rows for one-hop paths decide the conditions that the laws cite, and say which links take such paths.
use Rattle.std.proofs.Common.{◌≡◌, ◌≢◌, ◌&&◌, ◌||◌, ◌==◌, not, ℕ, suc, Bool, true, false, List, [], ◌∷◌, Option, Some, None, refl, sym, ap, ap₂, ◌∙◌, arith, inl, inr, if◌then◌else◌}
use Rattle.std.specs.Bool.{Decides}
use Rattle.std.specs.List.{list_any}
use Rattle.std.specs.Option.{option_and_then}
use Rattle.std.specs.Prelude.{Contains, cond, find, is_some}
use Rattle.std.proofs.lemmas.Bool.{cases_Bool, eqb-true, ne_eqb}
use Rattle.std.proofs.lemmas.Bool.Decides.{Decides-and, Decides-eqb, Decides-not, not_from_Decides}
use Rattle.std.proofs.lemmas.List.Folds.{list_any_at}
use Rattle.bfd_control.specs.Reception.{is_taken}
use Rattle.scion_header.specs.declared.domain.Domain.{Domain}
use Rattle.scion_packet.specs.Header.{HostAddress}
use Rattle.process_packet.specs.declared.neighbours.Link.{Link}
use Rattle.process_packet.specs.Conditions.{AsksByBfd}
use Rattle.process_packet.specs.LinkControl.{answers_bfd, bfd_answer_flow, is_answered}
use Rattle.process_packet.specs.Neighbours.{is_neighbored, link_neighbor}
use Rattle.process_packet.specs.Network.{Network, is_neighbor, neighbor, own_link, takes_one_hop}
use Rattle.process_packet.specs.OneHopLaws.{LeadsTo, TakesOneHops}
use Rattle.process_packet.specs.OneHopRefusals.{HasNeighbor}

-- ---- the AS at the other end of a link

leads_over : (n : Network) (link : ℕ) (a : HostAddress) (l : Link) → own_link n link ≡ Some l → (d : Option Domain) → l.neighbor ≡ d → Decides (is_neighbor d a) (LeadsTo n link a)
leads_over n link a l there None none = (
  λ e. let never : false ≡ true = e in absurd cc,
  λ to.
      let is : Some to.own ≡ Some l = sym to.listed ∙ there in
      let one : to.own ≡ l = cc in
      let named : Some to.end ≡ None = sym to.named ∙ ap (λ (k : Link). k.neighbor) one ∙ none in
      absurd cc,
)
leads_over n link a l there (Some d) named =
    let both = Decides-and (a.isd == d.isd) (a.autonomous_system == d.autonomous_system) (Decides-eqb a.isd d.isd) (Decides-eqb a.autonomous_system d.autonomous_system) in (
      λ e. let parts = both.0 e in record { own = l; listed = there; end = d; named = named; isd = parts.0; autonomous_system = parts.1 },
      λ to.
          let is : Some to.own ≡ Some l = sym to.listed ∙ there in
          let one : to.own ≡ l = cc in
          let ends : Some to.end ≡ Some d = sym to.named ∙ ap (λ (k : Link). k.neighbor) one ∙ named in
          let end : to.end ≡ d = cc in
          both.1 (to.isd ∙ ap (λ (k : Domain). k.isd) end, to.autonomous_system ∙ ap (λ (k : Domain). k.autonomous_system) end),
    )

leads_by : (n : Network) (link : ℕ) (a : HostAddress) (o : Option Link) → own_link n link ≡ o → Decides (is_neighbor (option_and_then link_neighbor o) a) (LeadsTo n link a)
leads_by n link a None none = (λ e. let never : false ≡ true = e in absurd cc, λ to. let listed = to.listed in absurd cc)
leads_by n link a (Some l) there = leads_over n link a l there l.neighbor refl

pub leads_to : (n : Network) (link : ℕ) (a : HostAddress) → Decides (is_neighbor (neighbor n link) a) (LeadsTo n link a)
leads_to n link a = leads_by n link a (own_link n link) refl

neighbor_of : (n : Network) (link : ℕ) (o : Option Link) → own_link n link ≡ o → is_some (option_and_then link_neighbor o) ≡ true → HasNeighbor n link
neighbor_of n link None listed is = let never : false ≡ true = is in absurd cc
neighbor_of n link (Some l) listed is = named_by l.neighbor l listed refl is
  where
    named_by : (o : Option Domain) (l : Link) → own_link n link ≡ Some l → l.neighbor ≡ o → is_some o ≡ true → HasNeighbor n link
    named_by None l listed named is = let never : false ≡ true = is in absurd cc
    named_by (Some d) l listed named is = record { own = l; listed = listed; there = d; named = named }

pub has_neighbor : (n : Network) (link : ℕ) → Decides (is_some (neighbor n link)) (HasNeighbor n link)
has_neighbor n link = (
  neighbor_of n link (own_link n link) refl,
  λ has. ap (λ (o : Option Link). is_some (option_and_then link_neighbor o)) has.listed ∙ ap (λ (d : Option Domain). is_some d) has.named,
)

-- ---- control packets of BFD

-- The link is one of this router whose configuration has them answered.
record HasBfd (n : Network) (link : ℕ) : Type 0 where
  own : Link
  listed : own_link n link ≡ Some own
  answers : own.bfd ≡ true

bfd_over : (n : Network) (link : ℕ) (o : Option Link) → own_link n link ≡ o → Decides (answers_bfd o) (HasBfd n link)
bfd_over n link None none = (λ e. let never : false ≡ true = e in absurd cc, λ has. let listed = has.listed in absurd cc)
bfd_over n link (Some l) there = (
  λ e. record { own = l; listed = there; answers = e },
  λ has.
      let is : Some l ≡ Some has.own = sym there ∙ has.listed in
      let one : l ≡ has.own = cc in
      ap (λ (k : Link). k.bfd) one ∙ has.answers,
)

pub asks_by_bfd : (n : Network) (link flow : ℕ) (payload : List ℕ) → Decides (is_answered n link flow payload) (AsksByBfd n link flow payload)
unfolding is_answered
asks_by_bfd n link flow payload =
    let a = answers_bfd (own_link n link) in
    let b = not (flow == bfd_answer_flow) in
    let c = is_taken link payload in
    let both = Decides-and a b (bfd_over n link (own_link n link) refl) (Decides-not (flow == bfd_answer_flow) (Decides-eqb flow bfd_answer_flow)) in
    let all = Decides-and (a && b) c both (λ e. e, λ e. e) in (
      λ e.
          let parts = all.0 e in
          record { own = parts.0.0.own; listed = parts.0.0.listed; answers = parts.0.0.answers; first = parts.0.1; taken = parts.1 },
      λ asks. all.1 ((record { own = asks.own; listed = asks.listed; answers = asks.answers }, asks.first), asks.taken),
    )

-- ---- what leads where

-- a link that leads to an address has a neighbour
pub led_to : (n : Network) (link : ℕ) (a : HostAddress) → LeadsTo n link a → HasNeighbor n link
led_to n link a to = record { own = to.own; listed = to.listed; there = to.end; named = to.named }

-- ---- the links that take one-hop paths

found_by : (b : Bool) (x l : Link) (xs : List Link) (o : Option Link) → cond b (Some x) o ≡ Some l → (o ≡ Some l → Contains xs l) → Contains (x ∷ xs) l
found_by true x l xs o is later = let one : x ≡ l = cc in (0, omega arith, one)
found_by false x l xs o is later = let there = later is in (suc there.0, omega (arith, there.1), there.2)

found_in : (test : Link → Bool) (ls : List Link) (l : Link) → find test ls ≡ Some l → Contains ls l
found_in test [] l is = absurd cc
found_in test (x ∷ xs) l is = found_by (test x) x l xs (find test xs) is (found_in test xs l)

pub own_is_listed : (n : Network) (link : ℕ) (l : Link) → own_link n link ≡ Some l → Contains n.links l
own_is_listed n link l there = found_in (λ (k : Link). k.id == link) n.links l there

inside_by : (n : Network) (link : ℕ) → link ≡ 0 → takes_one_hop n link ≡ list_any is_neighbored n.links
inside_by n link here = ap (λ (l : ℕ). if l == 0 then list_any is_neighbored n.links else is_some (neighbor n l)) here

-- from inside where a link leads to a neighbour, and by that link
pub inside_takes : (n : Network) (link out : ℕ) (a : HostAddress) → link ≡ 0 → LeadsTo n out a → takes_one_hop n link ≡ true
inside_takes n link out a here to =
    let there = own_is_listed n out to.own to.listed in
    let named : is_neighbored to.own ≡ true = ap (λ (d : Option Domain). is_some d) to.named in
    inside_by n link here
    ∙ list_any_at is_neighbored n.links there.0 to.own there.1 (ap is_neighbored there.2 ∙ named)

by_neighbor : (n : Network) (link : ℕ) → link ≢ 0 → takes_one_hop n link ≡ is_some (neighbor n link)
by_neighbor n link other = ap (λ (b : Bool). if b then list_any is_neighbored n.links else is_some (neighbor n link)) (ne_eqb link 0 other)

pub outside_takes : (n : Network) (link : ℕ) (a : HostAddress) → link ≢ 0 → LeadsTo n link a → takes_one_hop n link ≡ true
outside_takes n link a other to = by_neighbor n link other ∙ (has_neighbor n link).1 (led_to n link a to)

-- ---- and no other

neighbored_in : (ls : List Link) → list_any is_neighbored ls ≡ true → (l : Link) × (d : Domain) × Contains ls l × (l.neighbor ≡ Some d)
neighbored_in [] is = let never : false ≡ true = is in absurd cc
neighbored_in (l ∷ ls) is = neighbored_by l.neighbor l ls refl is (neighbored_in ls)
  where
    neighbored_by : (o : Option Domain) (l : Link) (ls : List Link) → l.neighbor ≡ o → (is_some o || list_any is_neighbored ls) ≡ true
        → (list_any is_neighbored ls ≡ true → (k : Link) × (d : Domain) × Contains ls k × (k.neighbor ≡ Some d)) → (k : Link) × (d : Domain) × Contains (l ∷ ls) k × (k.neighbor ≡ Some d)
    neighbored_by (Some d) l ls named is later = (l, d, (0, omega arith, refl), named)
    neighbored_by None l ls named is later =
        let there = later is in
        let at = there.2 in (there.0, there.1, (suc at.0, omega (arith, at.1), at.2), there.3)

takes_then : (n : Network) (link : ℕ) → takes_one_hop n link ≡ true → TakesOneHops n link
takes_then n link is =
    elim (cases_Bool (link == 0)) [
      | inl here ↦
          let within : link ≡ 0 = eqb-true link 0 here in
          let there = neighbored_in n.links (sym (inside_by n link within) ∙ is) in
          TakesOneHops.from_inside there.0 there.1 within there.2 there.3
      | inr other ↦
          let outside : link ≢ 0 = not_from_Decides (link == 0) (Decides-eqb link 0) other in
          let has = (has_neighbor n link).0 (sym (by_neighbor n link outside) ∙ is) in
          TakesOneHops.by_link has.own has.there outside has.listed has.named
    ]

then_takes : {n : Network} {link : ℕ} → TakesOneHops n link → takes_one_hop n link ≡ true
then_takes {n} {link} (TakesOneHops.by_link own there outside listed named) =
    by_neighbor n link outside ∙ (has_neighbor n link).1 (record { own = own; listed = listed; there = there; named = named })
then_takes {n} {link} (TakesOneHops.from_inside own there within listed named) =
    let is : is_neighbored own ≡ true = ap (λ (d : Option Domain). is_some d) named in
    inside_by n link within ∙ list_any_at is_neighbored n.links listed.0 own listed.1 (ap is_neighbored listed.2 ∙ is)

pub takes_so : (n : Network) (link : ℕ) → Decides (takes_one_hop n link) (TakesOneHops n link)
takes_so n link = (takes_then n link, then_takes)

-- ---- the links that don't

none_neighbored : (ls : List Link) → ((l : Link) → Contains ls l → l.neighbor ≡ None) → list_any is_neighbored ls ≡ false
none_neighbored [] none = refl
none_neighbored (l ∷ ls) none =
    let first : l.neighbor ≡ None = none l (0, omega arith, refl) in
    ap₂ (λ (d : Option Domain) (b : Bool). is_some d || b) first (none_neighbored ls (λ m there. none m (suc there.0, omega (arith, there.1), there.2)))

no_neighbor_by : (n : Network) (link : ℕ) (o : Option Link) → own_link n link ≡ o → ((l : Link) → own_link n link ≡ Some l → l.neighbor ≡ None) → is_some (option_and_then link_neighbor o) ≡ false
no_neighbor_by n link None there none = refl
no_neighbor_by n link (Some l) there none = ap (λ (d : Option Domain). is_some d) (none l there)

no_neighbor : (n : Network) (link : ℕ) → ((l : Link) → own_link n link ≡ Some l → l.neighbor ≡ None) → is_some (neighbor n link) ≡ false
no_neighbor n link none = no_neighbor_by n link (own_link n link) refl none

either_false : (b : Bool) → (if b then false else false) ≡ false
either_false true = refl
either_false false = refl

pub none_takes : (n : Network) (link : ℕ) → ((l : Link) → Contains n.links l → l.neighbor ≡ None) → takes_one_hop n link ≡ false
none_takes n link none =
    ap₂ (λ (a b : Bool). if link == 0 then a else b) (none_neighbored n.links none) (no_neighbor n link (λ l there. none l (own_is_listed n link l there)))
    ∙ either_false (link == 0)
