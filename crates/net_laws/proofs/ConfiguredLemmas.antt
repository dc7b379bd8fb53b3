-- The links of a configuration are numbered from 1.
use Rattle.std.proofs.Common.{◌≡◌, ◌≤◌, ◌==◌, ◌&&◌, ℕ, zero, suc, Bool, true, false, List, [], ◌∷◌, Option, Some, map, refl, subst, arith, inl, inr, if◌then◌else◌}
use Rattle.std.specs.Prelude.{find, nat_le}
use Rattle.std.specs.List.{list_all, slice_get}
use Rattle.std.proofs.lemmas.Bool.{leb-true}
use Rattle.std.proofs.lemmas.Bool.Decides.{eqb_tells}
use Rattle.process_packet.specs.declared.config.Config.{Config}
use Rattle.process_packet.specs.declared.neighbours.Link.{Link}
use Rattle.process_packet.specs.Neighbours.{has_port, is_link}
use Rattle.net_laws.specs.declared.net.Net as declared
use Rattle.net_laws.specs.Net.{Router, net_of, router_of}
use Rattle.process_packet.specs.Network.{network, own_link}
use Rattle.net_laws.specs.Configured.{AreNumbered}

left : (x y : Bool) → (x && y) ≡ true → x ≡ true
left true y is = refl
left false y is = is

rest : (x y : Bool) → (x && y) ≡ true → y ≡ true
rest true y is = is
rest false y is = let never : false ≡ true = is in absurd cc

found_later : (b : Bool) (x l : Link) (o : Option Link) → b ≡ false → (if b then Some x else o) ≡ Some l → o ≡ Some l
found_later true x l o e is = absurd cc
found_later false x l o e is = is

numbered : (ls : List Link) (id : ℕ) (l : Link) → list_all is_link ls ≡ true → find (λ (k : Link). k.id == id) ls ≡ Some l → 1 ≤ id
numbered [] id l whole found = absurd cc
numbered (x ∷ xs) id l whole found =
    elim (eqb_tells x.id id) [
      | inl same ↦ let n : 1 ≤ x.id = leb-true 1 x.id (left (nat_le 1 x.id) (has_port x.local) (left (nat_le 1 x.id && has_port x.local) (has_port x.remote) (left (is_link x) _ whole))) in let is = same.1 in omega arith
      | inr other ↦ numbered xs id l (rest (is_link x) _ whole) (found_later (x.id == id) x l _ other.0 found)
    ]

pub links_numbered : (c : Config) (id : ℕ) (l : Link) → own_link (network c) id ≡ Some l → 1 ≤ id
links_numbered c id l found = numbered c.links.items id l c.links_are_whole found

in_list : (cs : List Config) (r : ℕ) (x : Router) (id : ℕ) (l : Link) → slice_get (map router_of cs) r ≡ Some x → own_link x.network id ≡ Some l → 1 ≤ id
in_list [] r x id l is found = absurd cc
in_list (c ∷ cs) zero x id l is found =
    let same : x ≡ router_of c = cc in
    links_numbered c id l (subst (λ (y : Router). own_link y.network id ≡ Some l) same found)
in_list (c ∷ cs) (suc r) x id l is found = in_list cs r x id l is found

pub net_numbered : (n : declared.Net) → AreNumbered (net_of n)
net_numbered n r x id l is found = in_list n.configs.items r x id l is found
