-- Which way a packet goes: at each AS over a lawful pair of links, and so without a valley.
use Rattle.std.proofs.Common.{◌≡◌, ◌≢◌, ◌≤◌, ◌<◌, ◌+◌, ◌==◌, ◌&&◌, Decides, length, nat_lt, ℕ, zero, suc, Bool, true, false, List, [], ◌∷◌, Option, Some, None, slice_get, refl, sym, ap, ap₂, subst, ◌∙◌, arith, inl, inr}
use Rattle.std.proofs.lemmas.Bool.{cases_eq, eq-eqb, eqb-true}
use Rattle.std.proofs.lemmas.Bool.Decides.{Decides-ltb}
use Rattle.std.proofs.lemmas.Option.{same_Some}
use Rattle.scion_packet.specs.Path.{hops_in}
use Rattle.scion_packet.specs.Header.{HeaderFields}
use Rattle.scion_packet.specs.Packet.{Packet, packet_of}
use Rattle.segment_switch.specs.declared.kind.LinkKind.{LinkKind}
use Rattle.segment_switch.specs.declared.kind.LinkKind.TheVariants.{Core, Parent, Child}
use Rattle.process_packet.specs.declared.neighbours.Link.{Link}
use Rattle.process_packet.specs.declared.underlay.Underlay.{Underlay}
use Rattle.process_packet.specs.Conditions.{HasItsPair, IsHere, MayFollow}
use Rattle.process_packet.specs.Decide.{scion_moved, verdict}
use Rattle.process_packet.specs.Laws.{IsAuthorised, changes}
use Rattle.process_packet.specs.Network.{Network, interface_kind, own_link}
use Rattle.process_packet.specs.PacketState.{PacketState, arrival_kind, arrives, egress, packet}
use Rattle.process_packet.specs.Shown.{StandsToLeave, is_for_us, turned}
use Rattle.process_packet.specs.Ways.{IsSentBy}
use Rattle.process_packet.specs.WhatLeaves.{LeavesWhole}
use Rattle.process_packet.proofs.ConditionLemmas.{came_by, is_here}
use Rattle.process_packet.proofs.LawfulLemmas.{moved_from}
use Rattle.process_packet.proofs.PassingLemmas.{both_true}
use Rattle.process_packet.proofs.RowsPassed.{turned_is}
use Rattle.net_laws.specs.Configured.{AreNumbered}
use Rattle.net_laws.specs.Net.{Agrees, AreOfOneAS, Net, Router, opposite, router_at}
use Rattle.net_laws.proofs.LeavesLemmas.{same_router}
use Rattle.net_laws.proofs.NetLemmas.{ListsAt, listed_at}
use Rattle.path_authorisation.specs.Sendings.{ChangesSegment, ComesFrom, IsOnLongPath, IsSending, IsWalk, Sending, arrival, at_entry}
use Rattle.path_authorisation.specs.Ways.{EntersBy, LeavesBy, MayComeLater, WalksAreValleyFree}
use Rattle.path_authorisation.proofs.CursorLemmas as cursor
use Rattle.path_authorisation.proofs.ExitLemmas.{IsAtExit, IsLink, SentByLink, SentBySibling, by_link, by_sibling, listed_kind, own_kind, same_egress, some_link, stands_at_exit}
use Rattle.path_authorisation.proofs.NextLemmas.{IsOverWire, IsWithin, one_through, over_wire, within}
use Rattle.path_authorisation.proofs.WalkLemmas.{left_is, long_next, rest_is, says}

-- ---- kinds of links

-- at the far end of a link the lawful pairs go on as over it
may_later : (k : LinkKind) (changing : Bool) (from : Option LinkKind) (to : LinkKind) → MayFollow changing from to → from ≡ Some (opposite k) → MayComeLater k to
may_later Parent changing from to follows is = MayComeLater.after_up
may_later Core _ _ to MayFollow.from_inside is = absurd cc
may_later Core _ _ _ MayFollow.core is = MayComeLater.over_core
may_later Core _ _ _ MayFollow.up is = absurd cc
may_later Core _ _ _ MayFollow.down is = absurd cc
may_later Core _ _ _ MayFollow.core_to_down is = MayComeLater.core_to_down
may_later Core _ _ _ MayFollow.up_to_core is = absurd cc
may_later Core _ _ _ MayFollow.up_to_down is = absurd cc
may_later Child _ _ to MayFollow.from_inside is = absurd cc
may_later Child _ _ _ MayFollow.core is = absurd cc
may_later Child _ _ _ MayFollow.up is = absurd cc
may_later Child _ _ _ MayFollow.down is = MayComeLater.down
may_later Child _ _ _ MayFollow.core_to_down is = absurd cc
may_later Child _ _ _ MayFollow.up_to_core is = absurd cc
may_later Child _ _ _ MayFollow.up_to_down is = absurd cc

only_down : (a b : LinkKind) → a ≡ Child → MayComeLater a b → MayComeLater Core b
only_down _ b is MayComeLater.after_up = absurd cc
only_down _ _ is MayComeLater.over_core = absurd cc
only_down _ _ is MayComeLater.core_to_down = absurd cc
only_down _ _ is MayComeLater.down = MayComeLater.core_to_down

later_through : (a b c : LinkKind) → MayComeLater a b → MayComeLater b c → MayComeLater a c
later_through _ b c MayComeLater.after_up second = MayComeLater.after_up
later_through _ _ c MayComeLater.over_core second = second
later_through _ _ c MayComeLater.core_to_down second = only_down Child c refl second
later_through _ _ c MayComeLater.down second = second

-- ---- one sending

module _ (net : Net) (s : Sending) (is : IsSending net s) (long : IsOnLongPath s) where
  abbrev pub state : PacketState
  state = arrives s.here.network s.link s.source s.moment s.bytes

  pub whole : LeavesWhole (verdict s.here.network s.link s.source s.moment s.bytes) s.out s.to s.bytes (scion_moved s.here.network s.link s.source s.moment s.bytes)
  whole = cursor.whole s.here.network s.link s.source s.moment s.bytes s.out s.to is.are (says net s is long)

  pub authorised : IsAuthorised state
  authorised = cursor.is s.here.network s.link s.source s.moment s.bytes s.out s.to is.are (says net s is long)

  way : IsSentBy state s.out s.to whole.packet
  unfolding whole
  way = cursor.way s.here.network s.link s.source s.moment s.bytes s.out s.to is.are (says net s is long)

  pub same_header : whole.packet.header ≡ state.header
  same_header = (moved_from s.here.network s.link s.source s.moment s.bytes is.are authorised.sound s.out s.to whole.packet way).header

  pub sent_by_link : s.to ≡ None → SentByLink state s.out s.to whole.packet
  sent_by_link none = by_link state s.out s.to whole.packet none way

  pub sent_by_sibling : (at : Underlay) → s.to ≡ Some at → (is_for_us state ≡ true → ⊥) → SentBySibling state s.out s.to whole.packet
  sent_by_sibling at some others = by_sibling state s.out s.to whole.packet at some others way

-- what leaves is what comes next
pub next_packet : (net : Net) (s t : Sending) (is : IsSending net s) (long : IsOnLongPath s) → ComesFrom net s t → packet_of t.bytes ≡ (whole net s is long).packet
next_packet net s t is long comes = ap packet_of (comes.bytes ∙ left_is net s is long) ∙ (whole net s is long).read

-- what another router of the AS sends on is for another AS
pub elsewhere : (net : Net) (s t : Sending) (is : IsSending net s) (long : IsOnLongPath s) (next : IsSending net t) → ComesFrom net s t → IsWithin s.here t.here t.link
    → IsHere s.here.network (packet_of s.bytes).header.destination → ⊥
elsewhere net s t is long next comes within here =
    let after : IsOnLongPath t = long_next net s t is long comes in
    let same : (packet_of t.bytes).header ≡ (packet_of s.bytes).header = ap (λ (p : Packet). p.header) (next_packet net s t is long comes) ∙ same_header net s is long in
    let isd : (packet_of t.bytes).header.destination.isd ≡ t.here.network.isd = ap (λ (h : HeaderFields). h.destination.isd) same ∙ here.0 ∙ within.one.isd in
    let number : (packet_of t.bytes).header.destination.autonomous_system ≡ t.here.network.autonomous_system =
    ap (λ (h : HeaderFields). h.destination.autonomous_system) same ∙ here.1 ∙ within.one.autonomous_system in
    (authorised net t next after).destination.elsewhere within.inside (isd, number)

others_within : (net : Net) (s t : Sending) (is : IsSending net s) (long : IsOnLongPath s) (next : IsSending net t) → ComesFrom net s t → IsWithin s.here t.here t.link
    → is_for_us (state net s is long) ≡ true → ⊥
others_within net s t is long next comes within for_us =
    elsewhere net s t is long next comes within ((is_here s.here.network (packet_of s.bytes).header.destination).0 (both_true _ _ for_us).1)

-- ---- where it stands within an AS

-- Another router of the AS, x, has the packet from outside or had it, and a third one has the egress interface of its hop field, of
-- a link of this kind as x knows.
record Expects (net : Net) (t : Sending) (k : LinkKind) : Type 0 where
  number : ℕ
  x : Router
  there : router_at net number ≡ Some x
  one : AreOfOneAS x t.here
  id : ℕ
  not_own : own_link x.network id ≡ None
  known : interface_kind x.network id ≡ Some k
  inside : t.link ≡ 0
  exit : egress (arrives t.here.network t.link t.source t.moment t.bytes) ≡ id

-- the router that has it agrees
expected : (net : Net) → Agrees net → (r q : ℕ) (x y : Router) (id : ℕ) (m : Link) (k : LinkKind) → router_at net r ≡ Some x → router_at net q ≡ Some y → AreOfOneAS x y
    → own_link x.network id ≡ None → interface_kind x.network id ≡ Some k → own_link y.network id ≡ Some m → k ≡ m.kind
expected net agrees r q x y id m k at_r at_q one none known own =
    elim (cases_eq r q) [
      | inl same ↦
          let is : x ≡ y = same_router net r q x y at_r at_q same in
          let never : None ≡ Some m = sym none ∙ ap (λ (z : Router). own_link z.network id) is ∙ own in
          absurd cc
      | inr other ↦
          let listed : ListsAt x y id m = listed_at x y id m ((agrees.within r q x y at_r at_q one).siblings other) own in
          listed_kind x.network id listed.entry k none listed.listed known ∙ listed.kind
    ]

-- The link by which it leaves the AS next, at this router or another one, is of such a kind.
data Leads (net : Net) (s : Sending) (such : LinkKind → Type 0) : Type 0 where
  entered : (from : Link) → EntersBy s from → ((to : LinkKind) → MayFollow (changes (at_entry s)) (Some from.kind) to → such to) → Leads net s such
  passed : (k : LinkKind) → Expects net s k → such k → Leads net s such

module _ (net : Net) (agrees : Agrees net) (numbered : AreNumbered net) (s : Sending) (is : IsSending net s) (long : IsOnLongPath s) where
  abbrev st : PacketState
  st = state net s is long

  -- the pair of links at the hop by which it leaves
  pair_at : (u : PacketState) (from : Link) → StandsToLeave (turned st) u → HasItsPair u → EntersBy s from → (to : LinkKind) → MayFollow u.switched (arrival_kind u) to
      → MayFollow (changes (at_entry s)) (Some from.kind) to
  pair_at u from leaves pair enters to follows =
      let exit : IsAtExit (turned st) u = stands_at_exit leaves refl in
      let came : arrival_kind u ≡ Some from.kind = came_by u from (λ zero. enters.outside (sym exit.link ∙ zero)) (ap₂ own_link exit.network exit.link ∙ enters.own) in
      let changed : u.switched ≡ changes (at_entry s) = exit.switched ∙ ap changes (sym (turned_is st)) in
      subst (λ (o : Option LinkKind). MayFollow (changes (at_entry s)) o to) came (subst (λ (b : Bool). MayFollow b (arrival_kind u) to) changed follows)

  leaves_so : (such : LinkKind → Type 0) (l : Link) → Leads net s such → LeavesBy s l → such l.kind
  leaves_so such l (Leads.entered from enters lawful) leaves =
      let w = sent_by_link net s is long leaves.address in
      let u : PacketState = w.exit in
      let exit : IsAtExit (turned st) u = stands_at_exit w.by.leaves refl in
      let pair : HasItsPair u = w.by.pair in
      let own : own_link u.network (egress u) ≡ Some l = ap₂ own_link exit.network w.by.link ∙ leaves.own in
      let kind : pair.to ≡ l.kind = own_kind u.network (egress u) l pair.to own pair.known in
      subst such kind (lawful pair.to (pair_at u from w.by.leaves pair enters pair.to pair.lawful))
  leaves_so such l (Leads.passed k e holds) leaves =
      let w = sent_by_link net s is long leaves.address in
      let u : PacketState = w.exit in
      let same : egress u ≡ e.id = same_egress st u e.inside w.by.leaves w.by.pair ∙ e.exit in
      let own : own_link s.here.network e.id ≡ Some l = ap (own_link s.here.network) (sym same ∙ w.by.link) ∙ leaves.own in
      subst such (expected net agrees e.number s.router e.x s.here e.id l k e.there is.here_is e.one e.not_own e.known own) holds

  module _ (t : Sending) (next : IsSending net t) (comes : ComesFrom net s t) where
    comes_within : (at : Underlay) → s.to ≡ Some at → IsWithin s.here t.here t.link
    comes_within at some = within net s.router s.here s.out s.to (arrival t) t.here next.here_is at some comes.carried

    comes_over : s.to ≡ None → IsOverWire s.here s.out t.here t.link
    comes_over none = over_wire net s.router s.here s.out s.to (arrival t) t.here agrees numbered is.here_is next.here_is none comes.carried

    taken_over : (at : Underlay) → s.to ≡ Some at → SentBySibling st s.out s.to (whole net s is long).packet
    taken_over at some = sent_by_sibling net s is long at some (others_within net s t is long next comes (comes_within at some))

    -- the hop field stays the same
    exit_next : (u : PacketState) → packet u ≡ (whole net s is long).packet → egress (arrives t.here.network t.link t.source t.moment t.bytes) ≡ egress u
    exit_next u same =
        ap (λ (p : Packet). egress (record u { path = p.path })) (next_packet net s t is long comes ∙ sym same)

    leads_within : (such : LinkKind → Type 0) (at : Underlay) → s.to ≡ Some at → Leads net s such → Leads net t such
    leads_within such at some (Leads.entered from enters lawful) =
        let w = taken_over at some in
        let u : PacketState = w.exit in
        let exit : IsAtExit (turned st) u = stands_at_exit w.by.leaves refl in
        let pair : HasItsPair u = w.by.pair in
        let inside = comes_within at some in
        Leads.passed pair.to (record {
          number = s.router;
          x = s.here;
          there = is.here_is;
          one = inside.one;
          id = egress u;
          not_own = ap (λ (n : Network). own_link n (egress u)) (sym exit.network) ∙ w.by.own;
          known = ap (λ (n : Network). interface_kind n (egress u)) (sym exit.network) ∙ pair.known;
          inside = inside.inside;
          exit = exit_next u w.by.packet;
        }) (lawful pair.to (pair_at u from w.by.leaves pair enters pair.to pair.lawful))
    leads_within such at some (Leads.passed k e holds) =
        let w = taken_over at some in
        let u : PacketState = w.exit in
        let inside = comes_within at some in
        Leads.passed k (record {
          number = e.number;
          x = e.x;
          there = e.there;
          one = one_through e.x s.here t.here e.one inside.one;
          id = e.id;
          not_own = e.not_own;
          known = e.known;
          inside = inside.inside;
          exit = exit_next u w.by.packet ∙ same_egress st u e.inside w.by.leaves w.by.pair ∙ e.exit;
        }) holds

  own_left : s.to ≡ None → (l : Link) × LeavesBy s l
  own_left none =
      let w = sent_by_link net s is long none in
      let u : PacketState = w.exit in
      let exit : IsAtExit (turned st) u = stands_at_exit w.by.leaves refl in
      let l : IsLink (own_link u.network (egress u)) = some_link (own_link u.network (egress u)) w.by.own in
      (l.link, record { address = none; own = sym (ap₂ own_link exit.network w.by.link) ∙ l.is })

pub by_address : {R : Type 0} (o : Option Underlay) → (o ≡ None → R) → ((at : Underlay) → o ≡ Some at → R) → R
by_address None none some = none refl
by_address (Some at) none some = some at refl

module _ (net : Net) (agrees : Agrees net) (numbered : AreNumbered net) where
  -- ---- the pair of links of an AS

  pair_from : (such : LinkKind → Type 0) (walk : List Sending) (s : Sending) → IsWalk net (s ∷ walk) → IsOnLongPath s → Leads net s such
      → (j : ℕ) (t : Sending) (to : Link) → slice_get (s ∷ walk) j ≡ Some t → ((k : ℕ) (u : Sending) → k < j → slice_get (s ∷ walk) k ≡ Some u → u.to ≢ None)
      → LeavesBy t to → such to.kind
  pair_from such walk s is long leads zero t to at stays leaves =
      let same : s ≡ t = same_Some s t at in
      leaves_so net agrees numbered s (is.sent 0 s refl) long such to leads (subst (λ (x : Sending). LeavesBy x to) (sym same) leaves)
  pair_from such [] s is long leads (suc j) t to at stays leaves = absurd cc
  pair_from such (v ∷ walk) s is long leads (suc j) t to at stays leaves =
      let here : IsSending net s = is.sent 0 s refl in
      let comes : ComesFrom net s v = is.next 0 s v refl refl in
      let after : IsWalk net (v ∷ walk) = rest_is net s (v ∷ walk) is in
      by_address s.to (λ none. absurd (stays 0 s (omega arith) refl none))
      (λ address some. pair_from such walk v after (long_next net s v here long comes)
      (leads_within net agrees numbered s here long v (after.sent 0 v refl) comes such address some leads) j t to at
      (λ k u below there. stays (suc k) u (omega arith) there) leaves)

  pairs : (walk : List Sending) (s : Sending) → IsWalk net (s ∷ walk) → IsOnLongPath s → (i j : ℕ) (a t : Sending) (from to : Link) → i ≤ j → slice_get (s ∷ walk) i ≡ Some a
      → slice_get (s ∷ walk) j ≡ Some t → ((k : ℕ) (u : Sending) → i ≤ k → k < j → slice_get (s ∷ walk) k ≡ Some u → u.to ≢ None)
      → EntersBy a from → LeavesBy t to → MayFollow (changes (at_entry a)) (Some from.kind) to.kind
  pairs walk s is long zero j a t from to below first last stays enters leaves =
      let same : s ≡ a = same_Some s a first in
      let came : EntersBy s from = subst (λ (x : Sending). EntersBy x from) (sym same) enters in
      subst (λ (x : Sending). MayFollow (changes (at_entry x)) (Some from.kind) to.kind) same
      (pair_from (MayFollow (changes (at_entry s)) (Some from.kind)) walk s is long (Leads.entered from came (λ kind follows. follows)) j t to last
      (λ k u less there. stays k u (omega arith) less there) leaves)
  pairs walk s is long (suc i) zero a t from to below first last stays enters leaves = absurd (omega arith)
  pairs [] s is long (suc i) (suc j) a t from to below first last stays enters leaves = absurd cc
  pairs (v ∷ walk) s is long (suc i) (suc j) a t from to below first last stays enters leaves =
      let here : IsSending net s = is.sent 0 s refl in
      let comes : ComesFrom net s v = is.next 0 s v refl refl in
      pairs walk v (rest_is net s (v ∷ walk) is) (long_next net s v here long comes) i j a t from to (omega arith) first last
      (λ k u least less there. stays (suc k) u (omega arith) (omega arith) there) enters leaves

  -- ---- the order over the whole walk

  -- where it came over a wire, what may follow there may come later than the link that it left by
  entered_later : (s v : Sending) (out : Link) → IsOverWire s.here s.out v.here v.link → LeavesBy s out → (such : LinkKind → Type 0) → ((to : LinkKind) → MayComeLater out.kind to → such to)
      → Leads net v such
  entered_later s v out wire leaves such later =
      let same : wire.near ≡ out = same_Some wire.near out (sym wire.near_is ∙ leaves.own) in
      let kinds : wire.far.kind ≡ opposite out.kind = wire.kinds ∙ ap (λ (l : Link). opposite l.kind) same in
      Leads.entered wire.far (record { outside = wire.outside; own = wire.far_is })
      (λ to follows. later to (may_later out.kind (changes (at_entry v)) (Some wire.far.kind) to follows (ap (λ (k : LinkKind). Some k) kinds)))

  later_from : (k : LinkKind) (walk : List Sending) (s : Sending) → IsWalk net (s ∷ walk) → IsOnLongPath s → Leads net s (MayComeLater k)
      → (j : ℕ) (t : Sending) (m : Link) → slice_get (s ∷ walk) j ≡ Some t → LeavesBy t m → MayComeLater k m.kind
  later_from k walk s is long leads zero t m at leaves =
      let same : s ≡ t = same_Some s t at in
      leaves_so net agrees numbered s (is.sent 0 s refl) long (MayComeLater k) m leads (subst (λ (x : Sending). LeavesBy x m) (sym same) leaves)
  later_from k [] s is long leads (suc j) t m at leaves = absurd cc
  later_from k (v ∷ walk) s is long leads (suc j) t m at leaves =
      let here : IsSending net s = is.sent 0 s refl in
      let comes : ComesFrom net s v = is.next 0 s v refl refl in
      let after : IsWalk net (v ∷ walk) = rest_is net s (v ∷ walk) is in
      let next : IsSending net v = after.sent 0 v refl in
      let on : Leads net v (MayComeLater k) = by_address s.to
      (λ none.
      let own = own_left net agrees numbered s here long none in
      let now : MayComeLater k own.0.kind = leaves_so net agrees numbered s here long (MayComeLater k) own.0 leads own.1 in
      entered_later s v own.0 (comes_over net agrees numbered s here long v next comes none) own.1 (MayComeLater k) (λ to later. later_through k own.0.kind to now later))
      (λ address some. leads_within net agrees numbered s here long v next comes (MayComeLater k) address some leads) in
      later_from k walk v after (long_next net s v here long comes) on j t m at leaves

  orders : (walk : List Sending) (s : Sending) → IsWalk net (s ∷ walk) → IsOnLongPath s → (i j : ℕ) (a t : Sending) (l m : Link) → i < j → slice_get (s ∷ walk) i ≡ Some a
      → slice_get (s ∷ walk) j ≡ Some t → LeavesBy a l → LeavesBy t m → MayComeLater l.kind m.kind
  orders walk s is long i zero a t l m below first last leaves after = absurd (omega arith)
  orders [] s is long i (suc j) a t l m below first last leaves after = absurd cc
  orders (v ∷ walk) s is long zero (suc j) a t l m below first last leaves after =
      let here : IsSending net s = is.sent 0 s refl in
      let comes : ComesFrom net s v = is.next 0 s v refl refl in
      let rest : IsWalk net (v ∷ walk) = rest_is net s (v ∷ walk) is in
      let same : s ≡ a = same_Some s a first in
      let left : LeavesBy s l = subst (λ (x : Sending). LeavesBy x l) (sym same) leaves in
      later_from l.kind walk v rest (long_next net s v here long comes)
      (entered_later s v l (comes_over net agrees numbered s here long v (rest.sent 0 v refl) comes left.address) left (MayComeLater l.kind) (λ to later. later)) j t m last after
  orders (v ∷ walk) s is long (suc i) (suc j) a t l m below first last leaves after =
      let here : IsSending net s = is.sent 0 s refl in
      let comes : ComesFrom net s v = is.next 0 s v refl refl in
      orders walk v (rest_is net s (v ∷ walk) is) (long_next net s v here long comes) i j a t l m (omega arith) first last leaves after

  owns : (walk : List Sending) (s : Sending) → IsWalk net (s ∷ walk) → IsOnLongPath s → (i : ℕ) (t : Sending) → slice_get (s ∷ walk) i ≡ Some t → t.to ≡ None → (l : Link) × LeavesBy t l
  owns walk s is long zero t at none =
      let same : s ≡ t = same_Some s t at in
      subst (λ (x : Sending). (l : Link) × LeavesBy x l) same (own_left net agrees numbered s (is.sent 0 s refl) long (ap (λ (x : Sending). x.to) same ∙ none))
  owns [] s is long (suc i) t at none = absurd cc
  owns (v ∷ walk) s is long (suc i) t at none =
      owns walk v (rest_is net s (v ∷ walk) is) (long_next net s v (is.sent 0 s refl) long (is.next 0 s v refl refl)) i t at none

-- which of both it does is what the router's decision asks
changes_so : (u : PacketState) → Decides (changes u) (ChangesSegment u)
changes_so u =
    let at = u.path.place in
    let ss = u.path.segments in
    let last = at.position + 1 == hops_in ss at.segment in
    let followed = nat_lt (at.segment + 1) (length ss) in (
      λ is. let both = both_true last followed is in record { ends = eqb-true (at.position + 1) (hops_in ss at.segment) both.0; followed = (Decides-ltb (at.segment + 1) (length ss)).0 both.1 },
      λ is. ap₂ (λ (a b : Bool). a && b) (eq-eqb (at.position + 1) (hops_in ss at.segment) is.ends) ((Decides-ltb (at.segment + 1) (length ss)).1 is.followed),
    )

same_test : {P : Type 0} (a b : Bool) → Decides a P → Decides b P → a ≡ b
same_test true b one other = sym (other.1 (one.0 refl))
same_test false true one other = one.1 (other.0 refl)
same_test false false one other = refl

pub valley_free : WalksAreValleyFree
valley_free net s walk agrees numbered is long = record {
  own = owns net agrees numbered walk s is long;
  pair = λ i j a t from to below first last stays enters leaves changed says.
      subst (λ (b : Bool). MayFollow b (Some from.kind) to.kind) (same_test (changes (at_entry a)) changed (changes_so (at_entry a)) says)
      (pairs net agrees numbered walk s is long i j a t from to below first last stays enters leaves);
  order = orders net agrees numbered walk s is long;
}
