-- What a net that agrees says of two joined ends, and of the interfaces of one AS.
use Rattle.std.proofs.Common.{◌≡◌, ◌≢◌, ◌⊎◌, ◌==◌, if◌then◌else◌, ℕ, suc, Bool, true, false, List, [], ◌∷◌, find, Contains, Some, None, refl, sym, ap, ◌∙◌, arith, inl, inr}
use Rattle.std.specs.List.{slice_get}
use Rattle.std.proofs.lemmas.Bool.{cases_eq, eqb-true}
use Rattle.std.proofs.lemmas.Option.{slice_get-get_or}
use Rattle.segment_switch.specs.declared.kind.LinkKind.{LinkKind}
use Rattle.segment_switch.specs.declared.kind.LinkKind.TheVariants.{Core, Parent, Child}
use Rattle.process_packet.specs.declared.neighbours.Link.{Link}
use Rattle.process_packet.specs.declared.neighbours.Sibling.{Sibling}
use Rattle.net_laws.specs.declared.net.End.{End}
use Rattle.net_laws.specs.declared.net.Wire.{Wire}
use Rattle.net_laws.specs.Net.{Agrees, AreApart, IsNamed, IsWire, Joined, Lists, Net, Router, opposite, router_at}
use Rattle.process_packet.specs.Network.{own_link, sibling}

-- ---- joined ends

-- the links at two joined ends; the one end is joined with no third one
pub record IsWired (net : Net) (a b : End) : Type 0 where
  pub one : Router
  pub other : Router
  pub there : router_at net a.router ≡ Some one
  pub back : router_at net b.router ≡ Some other
  pub out : Link
  pub into : Link
  pub out_is : own_link one.network a.link ≡ Some out
  pub into_is : own_link other.network b.link ≡ Some into
  pub remote : out.remote ≡ into.local
  pub remote_back : into.remote ≡ out.local
  pub kinds : into.kind ≡ opposite out.kind
  pub out_names : IsNamed out.neighbor other
  pub into_names : IsNamed into.neighbor one
  pub alone : (c : End) → Joined net a c → c ≡ b

twice : (k : LinkKind) → opposite (opposite k) ≡ k
twice Core = refl
twice Parent = refl
twice Child = refl

-- the wire that joins two ends, and its number
record JoinedBy (net : Net) (a b : End) : Type 0 where
  wire : Wire
  number : ℕ
  there : slice_get net.wires number ≡ Some wire
  ends : ((wire.one ≡ a) × (wire.other ≡ b)) ⊎ ((wire.one ≡ b) × (wire.other ≡ a))

at_place : (ws : List Wire) (w : Wire) (there : Contains ws w) → slice_get ws there.0 ≡ Some w
at_place ws w there = slice_get-get_or ws there.0 w there.1 ∙ ap Some there.2

joined_by : (net : Net) (a b : End) → Joined net a b → JoinedBy net a b
joined_by net a b (inl there) =
    record { wire = record { one = a; other = b }; number = there.0; there = at_place net.wires _ there; ends = inl (refl, refl) }
joined_by net a b (inr there) =
    record { wire = record { one = b; other = a }; number = there.0; there = at_place net.wires _ there; ends = inr (refl, refl) }

-- both ends are joined by the same wire, so they are the same end
same_other : (net : Net) → Agrees net → (a b c : End) → a ≢ b → JoinedBy net a b → JoinedBy net a c → c ≡ b
same_other net agrees a b c differ j k =
    elim (cases_eq j.number k.number) [
      | inl same ↦
          let some : Some j.wire ≡ Some k.wire = sym j.there ∙ ap (slice_get net.wires) same ∙ k.there in
          let wire : j.wire ≡ k.wire = cc in
          let one = ap (λ (w : Wire). w.one) wire in
          let other = ap (λ (w : Wire). w.other) wire in
          elim j.ends [
            | inl p ↦ elim k.ends [
              | inl q ↦ sym q.1 ∙ sym other ∙ p.1
              | inr q ↦ absurd (differ (sym q.1 ∙ sym other ∙ p.1))
            ]
            | inr p ↦ elim k.ends [
              | inl q ↦ absurd (differ (sym q.0 ∙ sym one ∙ p.0))
              | inr q ↦ sym q.0 ∙ sym one ∙ p.0
            ]
          ]
      | inr other ↦
          let apart : AreApart j.wire k.wire = agrees.apart j.number k.number j.wire k.wire j.there k.there other in
          elim j.ends [
            | inl p ↦ elim k.ends [
              | inl q ↦ absurd (apart.one_one (p.0 ∙ sym q.0))
              | inr q ↦ absurd (apart.one_other (p.0 ∙ sym q.1))
            ]
            | inr p ↦ elim k.ends [
              | inl q ↦ absurd (apart.other_one (p.1 ∙ sym q.0))
              | inr q ↦ absurd (apart.other_other (p.1 ∙ sym q.1))
            ]
          ]
    ]

pub joined_ends : (net : Net) → Agrees net → (a b : End) → Joined net a b → IsWired net a b
joined_ends net agrees a b (inl there) =
    let w : IsWire net (record { one = a; other = b }) = agrees.wires (record { one = a; other = b }) there in
    record {
      one = w.one;
      other = w.other;
      there = w.one_is;
      back = w.other_is;
      out = w.out;
      into = w.into;
      out_is = w.out_is;
      into_is = w.into_is;
      remote = w.remote;
      remote_back = w.remote_back;
      kinds = w.kinds;
      out_names = w.out_names;
      into_names = w.into_names;
      alone = λ c joined. same_other net agrees a b c w.different (joined_by net a b (inl there)) (joined_by net a c joined);
    }
joined_ends net agrees a b (inr there) =
    let w : IsWire net (record { one = b; other = a }) = agrees.wires (record { one = b; other = a }) there in
    record {
      one = w.other;
      other = w.one;
      there = w.other_is;
      back = w.one_is;
      out = w.into;
      into = w.out;
      out_is = w.into_is;
      into_is = w.out_is;
      remote = w.remote_back;
      remote_back = w.remote;
      kinds = sym (ap opposite w.kinds ∙ twice w.out.kind);
      out_names = w.into_names;
      into_names = w.out_names;
      alone = λ c joined. same_other net agrees a b c (λ same. w.different (sym same)) (joined_by net a b (inr there)) (joined_by net a c joined);
    }

-- ---- the interfaces of one AS

-- a link of another router of the AS, by its number
pub record ListsAt (x y : Router) (id : ℕ) (l : Link) : Type 0 where
  pub not_own : own_link x.network id ≡ None
  pub entry : Sibling
  pub listed : sibling x.network id ≡ Some entry
  pub at : entry.at ≡ y.internal
  pub kind : entry.kind ≡ l.kind

-- what is found is in the list, and passes
pub record IsFound {X : Type 0} (p : X → Bool) (xs : List X) (x : X) : Type 0 where
  pub there : Contains xs x
  pub passes : p x ≡ true

found_in : {X : Type 0} (p : X → Bool) (y : X) (ys : List X) (x : X) → ((find p ys ≡ Some x) → IsFound p ys x) → (b : Bool) → p y ≡ b
    → (if b then Some y else find p ys) ≡ Some x → IsFound p (y ∷ ys) x
found_in p y ys x rest true is found = let same : y ≡ x = cc in record { there = (0, omega arith, same); passes = ap p (sym same) ∙ is }
found_in p y ys x rest false is found =
    let r = rest found in
    record { there = (suc r.there.0, (let below = r.there.1 in omega arith), r.there.2); passes = r.passes }

pub found : {X : Type 0} (p : X → Bool) (xs : List X) (x : X) → find p xs ≡ Some x → IsFound p xs x
found p [] x is = absurd cc
found p (y ∷ ys) x is = found_in p y ys x (found p ys x) (p y) refl is

pub listed_at : (x y : Router) (id : ℕ) (l : Link) → ((k : Link) → Contains y.network.links k → Lists x y k) → own_link y.network id ≡ Some l → ListsAt x y id l
listed_at x y id l lists own =
    let f = found (λ (k : Link). k.id == id) y.network.links l own in
    let number : l.id ≡ id = eqb-true l.id id f.passes in
    let is : Lists x y l = lists l f.there in
    record {
      not_own = ap (own_link x.network) (sym number) ∙ is.not_own;
      entry = is.entry;
      listed = ap (sibling x.network) (sym number) ∙ is.listed;
      at = is.at;
      kind = is.kind;
    }
