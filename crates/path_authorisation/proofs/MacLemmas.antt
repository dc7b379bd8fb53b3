-- What carries its MAC as an entry of a beaconed segment has the entry's MAC, and chains to the next one.
use Rattle.std.proofs.Common.{◌≡◌, ◌<◌, ℕ, suc, List, [], length, slice_index_or, Some, sym, ap, ap₂, subst, ◌∙◌, arith}
use Rattle.hop_check.specs.Beaconing.{hop_at}
use Rattle.hop_check.specs.Mac.{chain, mac6}
use Rattle.scion_packet.specs.Path.{HopField, InfoField}
use Rattle.process_packet.specs.Conditions.{CarriesMac}
use Rattle.net_laws.specs.Domain.{IsOf}
use Rattle.net_laws.specs.Net.{Net, Router, router_at}
use Rattle.net_laws.specs.PathSegments.{IsBeaconed, PathSegment, entry_at, fields_of, keys_of}
use Rattle.net_laws.proofs.HopsLemmas.{as_many, field_is, key_is}
use Rattle.path_authorisation.specs.Beaconed.{IsAfter, IsEntry, identifier_at}

-- a MAC takes of its fields these numbers alone
same_input : (key : List ℕ) (beta : ℕ) (i j : InfoField) (h g : HopField) → i.timestamp ≡ j.timestamp → h.expiry ≡ g.expiry → h.construction_ingress ≡ g.construction_ingress
    → h.construction_egress ≡ g.construction_egress → mac6 key beta i h ≡ mac6 key beta j g
same_input key beta i j h g timestamp expiry ingress egress =
    ap₂ (λ (t e : ℕ). mac6 key beta (record i { timestamp = t }) (record h { expiry = e })) timestamp expiry
    ∙ ap₂ (λ (from to : ℕ). mac6 key beta j (record g { construction_ingress = from; construction_egress = to })) ingress egress

module _ (net : Net) (t : PathSegment) (number r : ℕ) (x : Router) (i : InfoField) (h : HopField) (made : IsBeaconed net t) (there : router_at net r ≡ Some x)
    (e : IsEntry t number x i h) (carries : CarriesMac x.network.key i.segment_id i h) where
  same_mac : h.mac ≡ (entry_at t number).field.mac
  same_mac =
      let key : x.network.key ≡ (entry_at t number).key = made.keys number e.there r x there e.home in
      let inside : number < length (fields_of t) = (let many = as_many t in let below = e.there in omega arith) in
      let its : (hop_at (fields_of t) number).mac ≡ mac6 (slice_index_or (keys_of t) number []) (identifier_at t number) t.info (hop_at (fields_of t) number) = made.macs number inside in
      let field = field_is t number in
      carries
      ∙ ap₂ (λ (k : List ℕ) (beta : ℕ). mac6 k beta i h) (key ∙ sym (key_is t number)) e.identifier
      ∙ same_input (slice_index_or (keys_of t) number []) (identifier_at t number) i t.info h (entry_at t number).field e.timestamp e.expiry e.ingress e.egress
      ∙ ap (λ (g : HopField). mac6 (slice_index_or (keys_of t) number []) (identifier_at t number) t.info g) (sym field)
      ∙ sym its
      ∙ ap (λ (g : HopField). g.mac) field

  pub chains_to : chain i.segment_id h.mac ≡ identifier_at t (suc number)
  chains_to = ap₂ chain e.identifier (same_mac ∙ ap (λ (g : HopField). g.mac) (sym (field_is t number)))

-- ---- entries of two segments

module _ (s t : PathSegment) (j k : ℕ) (timestamp : s.info.timestamp ≡ t.info.timestamp) (a : IsAfter s t j k) where
  -- what is the one's entry is the other's, the one before
  pub is_before : (x : Router) (i : InfoField) (h : HopField) → k < length t.made → IsEntry s j x i h → IsEntry t a.before x i h
  is_before x i h there e =
      let next = a.next in
      record {
        there = omega arith;
        home = subst (IsOf x) a.same.home e.home;
        identifier = e.identifier ∙ a.same.identifier;
        timestamp = e.timestamp ∙ timestamp;
        expiry = e.expiry ∙ a.same.expiry;
        ingress = e.ingress ∙ a.same.ingress;
        egress = e.egress ∙ a.same.egress;
      }

  pub is_next : (x : Router) (i : InfoField) (h : HopField) → IsEntry t k x i h → IsEntry t (suc a.before) x i h
  is_next x i h e = subst (λ (n : ℕ). IsEntry t n x i h) a.next e
