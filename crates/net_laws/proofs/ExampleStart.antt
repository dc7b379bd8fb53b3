-- The example's packet sets out lawfully.
use Rattle.std.proofs.Common.{◌≡◌, ◌≤◌, ◌<◌, ◌+◌, ◌*◌, ℕ, zero, suc, [], ◌∷◌, length, refl, ap, arith, inl, inr}
use Rattle.aes128_core.specs.Aes128.{cipher}
use Rattle.cmac_core.specs.Cmac.{first_blocks, tag_from}
use Rattle.field_rows.specs.Row.{Fits}
use Rattle.scion_packet.specs.Header.{IsAddress, common_table, front_len}
use Rattle.scion_packet.specs.Packet.{IsPacket, spelling}
use Rattle.scion_packet.specs.Path.{IsHop, info_table, meta_table, path_text, place_at}
use Rattle.process_packet.specs.declared.underlay.Ip.TheVariants.{V4}
use Rattle.net_laws.specs.Stretch.{beta_met}
use Rattle.net_laws.specs.Example.{example_net, hop_0, hop_1, hop_2, info_along}
use Rattle.net_laws.specs.ExampleHops.{example_packet, example_path, example_start}
use Rattle.net_laws.specs.PathSegments.{AreUnexpired, IsBeaconed, IsPathOver, met, part, stretch_of}
use Rattle.net_laws.specs.Examples.{moment}
use Rattle.process_packet.specs.Hosts.{IsReachedAt}
use Rattle.net_laws.specs.LawfulStart.{IsIpHost, IsKnown, LawfulStart}
use Rattle.net_laws.specs.Net.{Router}
use Rattle.net_laws.specs.Domain.{Domain}
use Rattle.net_laws.proofs.ExampleFields.{is_hop}
use Rattle.net_laws.proofs.ExampleHops.{along_is}

number_is : (d e : Domain) → d ≡ e → d.autonomous_system ≡ e.autonomous_system
number_is d e same = ap (λ (x : Domain). x.autonomous_system) same

apart : (k l i j : ℕ) → k < 1 → l < 1 → i < 3 → j < 3 → i < j
    → (met example_path (place_at k i)).home.autonomous_system ≡ (met example_path (place_at l j)).home.autonomous_system → ⊥
apart zero zero zero zero k l i j less same = absurd (omega arith)
apart zero zero zero (suc zero) k l i j less same = absurd (omega arith)
apart zero zero zero (suc (suc zero)) k l i j less same = absurd (omega arith)
apart zero zero zero (suc (suc (suc m))) k l i j less same = absurd (omega arith)
apart zero zero (suc zero) zero k l i j less same = absurd (omega arith)
apart zero zero (suc zero) (suc zero) k l i j less same = absurd (omega arith)
apart zero zero (suc zero) (suc (suc zero)) k l i j less same = absurd (omega arith)
apart zero zero (suc zero) (suc (suc (suc m))) k l i j less same = absurd (omega arith)
apart zero zero (suc (suc n)) m k l i j less same = absurd (omega arith)
apart zero (suc q) n m k l i j less same = absurd (omega arith)
apart (suc p) q n m k l i j less same = absurd (omega arith)

three : (k : ℕ) → k < 1 → length (part example_path k).made ≡ 3
three zero there = refl
three (suc k) there = absurd (omega arith)

beaconed : (k : ℕ) → k < 1 → IsBeaconed example_net (part example_path k)
beaconed zero there = along_is
beaconed (suc k) there = absurd (omega arith)

fresh : (k : ℕ) → k < 1 → AreUnexpired (part example_path k) moment
fresh zero there zero inside = refl
fresh zero there (suc zero) inside = refl
fresh zero there (suc (suc zero)) inside = refl
fresh zero there (suc (suc (suc j))) inside = absurd (omega arith)
fresh (suc k) there j inside = absurd (omega arith)

pub path_is : IsPathOver example_net example_path
path_is = record {
  some = omega arith;
  few = omega arith;
  beaconed = beaconed;
  meets = λ a b on-a on-b joint. let there = on-b.segment in let next = joint.next in absurd (omega arith);
  pair = λ k more. absurd (omega arith);
  distinct = λ a b on-a on-b before same.
      let k-a = on-a.segment in
      let k-b = on-b.segment in
      let n-a = three a.segment k-a in
      let n-b = three b.segment k-b in
      let i-a = on-a.position in
      let i-b = on-b.position in
      elim before [
        | inl less ↦ absurd (omega arith)
        | inr both ↦ absurd (apart a.segment b.segment a.position b.position k-a k-b (omega arith) (omega arith) both.1 (number_is (met example_path a).home (met example_path b).home same))
      ];
}

ids : (k : ℕ) → k < 1 → (part example_path k).info.segment_id ≡ beta_met (stretch_of (part example_path k)) 0
ids zero there = refl
ids (suc k) there = absurd (omega arith)

known : (x : Router) → IsKnown x example_packet.header.destination
known x = record { at = λ port. record { ip = V4 (10 ∷ 2 ∷ 0 ∷ 7 ∷ []); port = port }; reached = λ port. IsReachedAt.ip_4 refl refl }

size : length (spelling example_packet) ≡ 92
unfolding tag_from first_blocks cipher
size = refl

path_size : 4 * example_packet.header.header_length ≡ front_len example_packet.header + length (path_text example_packet.path)
unfolding tag_from first_blocks cipher
path_size = refl

six_0 : length hop_0.mac ≡ 6
unfolding tag_from first_blocks cipher
six_0 = refl

six_1 : length hop_1.mac ≡ 6
unfolding tag_from first_blocks cipher
six_1 = refl

six_2 : length hop_2.mac ≡ 6
unfolding tag_from first_blocks cipher
six_2 = refl

common : Fits (common_table example_packet.header)
common = ((omega arith, (omega arith, (omega arith, tt))), ((omega arith, tt), ((omega arith, tt), ((omega arith, tt), ((omega arith, tt), ((omega arith, (omega arith, (omega arith, (omega arith, tt)))), ((omega arith, tt), tt)))))))

destination : IsAddress example_packet.header.destination
destination = (((omega arith, tt), ((omega arith, tt), tt)), refl)

source : IsAddress example_packet.header.source
source = (((omega arith, tt), ((omega arith, tt), tt)), refl)

meta : Fits (meta_table example_packet.path)
meta = ((omega arith, (omega arith, tt)), ((omega arith, (omega arith, (omega arith, (omega arith, tt)))), tt))

info : Fits (info_table info_along)
info = ((omega arith, (omega arith, (omega arith, tt))), ((omega arith, tt), ((omega arith, tt), ((omega arith, tt), tt))))

is_hop_0 : IsHop hop_0
is_hop_0 = is_hop 0 17 hop_0.mac (omega arith) (omega arith) six_0

is_hop_1 : IsHop hop_1
is_hop_1 = is_hop 1 2 hop_1.mac (omega arith) (omega arith) six_1

is_hop_2 : IsHop hop_2
is_hop_2 = is_hop 18 0 hop_2.mac (omega arith) (omega arith) six_2

pub packet_is : IsPacket example_packet
packet_is = record {
  header = record { common = common; destination = destination; source = source; covers = omega arith };
  path_type = refl;
  path = record {
    meta = meta;
    segments = (record { info = info; hops = (is_hop_0, (is_hop_1, (is_hop_2, tt))); some = omega arith }, tt);
    some = omega arith;
    few = omega arith;
    hops = omega arith;
    inside = omega arith;
  };
  whole = path_size;
}

short : length (spelling example_packet) ≤ 9216
short = let n = size in omega arith

pub start_is : LawfulStart example_net example_path moment example_start
start_is = record {
  sets_out = record {
    path = path_is;
    unexpired = fresh;
    segments = refl;
    identifiers = ids;
    cursor = refl;
    lawful = packet_is;
    whole = refl;
    short = short;
    source = record { isd = refl; autonomous_system = refl };
    destination = record { isd = refl; autonomous_system = refl };
    from_host = IsIpHost.ip_4 refl refl;
    to_host = λ r x is home. known x;
    link = refl;
    router = refl;
  };
  quiet = inr refl;
}
