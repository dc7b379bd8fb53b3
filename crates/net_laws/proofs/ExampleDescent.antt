-- The path over the core and down is one over beaconed segments, and the packet on it sets out lawfully.
use Rattle.std.proofs.Common.{◌≡◌, ◌≤◌, ◌<◌, ◌+◌, ◌*◌, ℕ, zero, suc, true, [], ◌∷◌, length, refl, arith, inl, inr}
use Rattle.aes128_core.specs.Aes128.{cipher}
use Rattle.cmac_core.specs.Cmac.{first_blocks, tag_from}
use Rattle.field_rows.specs.Row.{Fits}
use Rattle.hop_check.specs.Beaconing.{AreBeaconed}
use Rattle.scion_packet.specs.Header.{IsAddress, common_table, front_len}
use Rattle.scion_packet.specs.Packet.{IsPacket, spelling}
use Rattle.scion_packet.specs.Path.{IsHop, info_table, meta_table, path_text}
use Rattle.segment_switch.specs.declared.kind.LinkKind.TheVariants.{Core}
use Rattle.process_packet.specs.declared.underlay.Ip.TheVariants.{V4}
use Rattle.process_packet.specs.Hosts.{IsReachedAt}
use Rattle.net_laws.specs.Example.{address, link_to}
use Rattle.net_laws.specs.Examples.{moment}
use Rattle.net_laws.specs.ExampleTurn.{descent, descent_packet, descent_start, down, down_0, down_1, down_info, family, neighbour, over, over_0, over_1, over_info, parent}
use Rattle.net_laws.specs.LawfulStart.{IsIpHost, IsKnown, LawfulStart}
use Rattle.net_laws.specs.Net.{Agrees, Router}
use Rattle.net_laws.specs.PathSegments.{AreUnexpired, AreWired, HasItsKey, IsBeaconed, IsPathOver, entry_at, fields_of, keys_of, part, stretch_of}
use Rattle.net_laws.specs.Stretch.{beta_met}
use Rattle.net_laws.proofs.AgreementLemmas.{net_decides}
use Rattle.net_laws.proofs.ExampleFields.{is_hop}
use Rattle.net_laws.proofs.ExampleTurn.{down_is, one_key}
use Rattle.net_laws.proofs.TwoStretches.{are_path}

keys : (k : ℕ) → k < 2 → HasItsKey family (entry_at over k)
keys zero there r x is home = one_key r x is
keys (suc zero) there r x is home = one_key r x is
keys (suc (suc k)) there r x is home = absurd (omega arith)

macs : AreBeaconed (keys_of over) over.beta over.info (fields_of over)
macs zero there = refl
macs (suc zero) there = refl
macs (suc (suc k)) there = absurd (omega arith)

wired : (k : ℕ) → k + 1 < 2 → AreWired family true (entry_at over k) (entry_at over (k + 1))
wired zero more = record {
  sender = neighbour;
  sender_is = refl;
  sender_home = record { isd = refl; autonomous_system = refl };
  taker = parent;
  taker_is = refl;
  taker_home = record { isd = refl; autonomous_system = refl };
  link = link_to 19 Core (address 3 2 40000) (address 3 1 40000);
  link_is = refl;
  kind = refl;
  wire = inl (2, (omega arith), refl);
}
wired (suc k) more = absurd (omega arith)

over_is : IsBeaconed family over
over_is = record { two = omega arith; beta = omega arith; keys = keys; macs = macs; wired = wired }

pub descent_is : IsPathOver family descent
descent_is = are_path family over down over_is down_is refl refl refl refl (λ same. absurd (omega arith)) (λ same. absurd (omega arith)) (λ same. absurd (omega arith))

-- ---- the start

pub agrees : Agrees family
agrees = (net_decides family).0 refl

fresh : (k : ℕ) → k < 2 → AreUnexpired (part descent k) moment
fresh zero there zero inside = refl
fresh zero there (suc zero) inside = refl
fresh zero there (suc (suc j)) inside = absurd (omega arith)
fresh (suc zero) there zero inside = refl
fresh (suc zero) there (suc zero) inside = refl
fresh (suc zero) there (suc (suc j)) inside = absurd (omega arith)
fresh (suc (suc k)) there j inside = absurd (omega arith)

ids : (k : ℕ) → k < 2 → (part descent k).info.segment_id ≡ beta_met (stretch_of (part descent k)) 0
ids zero there = refl
ids (suc zero) there = refl
ids (suc (suc k)) there = absurd (omega arith)

known : (x : Router) → IsKnown x descent_packet.header.destination
known x = record { at = λ port. record { ip = V4 (10 ∷ 2 ∷ 0 ∷ 7 ∷ []); port = port }; reached = λ port. IsReachedAt.ip_4 refl refl }

size : length (spelling descent_packet) ≡ 112
unfolding tag_from first_blocks cipher
size = refl

path_size : 4 * descent_packet.header.header_length ≡ front_len descent_packet.header + length (path_text descent_packet.path)
unfolding tag_from first_blocks cipher
path_size = refl

six_over_0 : length over_0.mac ≡ 6
unfolding tag_from first_blocks cipher
six_over_0 = refl

is_over_0 : IsHop over_0
is_over_0 = is_hop 0 19 over_0.mac (omega arith) (omega arith) six_over_0

six_over_1 : length over_1.mac ≡ 6
unfolding tag_from first_blocks cipher
six_over_1 = refl

is_over_1 : IsHop over_1
is_over_1 = is_hop 3 0 over_1.mac (omega arith) (omega arith) six_over_1

six_down_0 : length down_0.mac ≡ 6
unfolding tag_from first_blocks cipher
six_down_0 = refl

is_down_0 : IsHop down_0
is_down_0 = is_hop 0 2 down_0.mac (omega arith) (omega arith) six_down_0

six_down_1 : length down_1.mac ≡ 6
unfolding tag_from first_blocks cipher
six_down_1 = refl

is_down_1 : IsHop down_1
is_down_1 = is_hop 18 0 down_1.mac (omega arith) (omega arith) six_down_1

common : Fits (common_table descent_packet.header)
common = ((omega arith, (omega arith, (omega arith, tt))), ((omega arith, tt), ((omega arith, tt), ((omega arith, tt), ((omega arith, tt), ((omega arith, (omega arith, (omega arith, (omega arith, tt)))), ((omega arith, tt), tt)))))))

destination : IsAddress descent_packet.header.destination
destination = (((omega arith, tt), ((omega arith, tt), tt)), refl)

source : IsAddress descent_packet.header.source
source = (((omega arith, tt), ((omega arith, tt), tt)), refl)

meta : Fits (meta_table descent_packet.path)
meta = ((omega arith, (omega arith, tt)), ((omega arith, (omega arith, (omega arith, (omega arith, tt)))), tt))

info_over : Fits (info_table over_info)
info_over = ((omega arith, (omega arith, (omega arith, tt))), ((omega arith, tt), ((omega arith, tt), ((omega arith, tt), tt))))

info_down : Fits (info_table down_info)
info_down = ((omega arith, (omega arith, (omega arith, tt))), ((omega arith, tt), ((omega arith, tt), ((omega arith, tt), tt))))

packet_is : IsPacket descent_packet
packet_is = record {
  header = record { common = common; destination = destination; source = source; covers = omega arith };
  path_type = refl;
  path = record {
    meta = meta;
    segments = (record { info = info_over; hops = (is_over_0, (is_over_1, tt)); some = omega arith }, (record { info = info_down; hops = (is_down_0, (is_down_1, tt)); some = omega arith }, tt));
    some = omega arith;
    few = omega arith;
    hops = omega arith;
    inside = omega arith;
  };
  whole = path_size;
}

short : length (spelling descent_packet) ≤ 9216
short = let n = size in omega arith

pub start_is : LawfulStart family descent moment descent_start
start_is = record {
  sets_out = record {
    path = descent_is;
    unexpired = fresh;
    segments = refl;
    identifiers = ids;
    cursor = refl;
    lawful = packet_is;
    whole = refl;
    short = short;
    source = record { isd = refl; autonomous_system = refl };
    destination = record { isd = refl; autonomous_system = refl };
    from_host = IsIpHost.ip_4 refl refl;
    to_host = λ r x is home. known x;
    link = refl;
    router = refl;
  };
  quiet = inr refl;
}
