-- The example's lists of hops are a path, along and against.
use Rattle.std.proofs.Common.{◌≡◌, ◌<◌, ◌+◌, ℕ, zero, suc, false, List, [], slice_index_or, Some, refl, sym, ap, arith, inl}
use Rattle.hop_check.specs.Mac.{mac6}
use Rattle.hop_check.specs.Beaconing.{beta_at, hop_at}
use Rattle.scion_packet.specs.Path.{InfoField}
use Rattle.segment_switch.specs.declared.kind.LinkKind.TheVariants.{Child}
use Rattle.net_laws.specs.Example.{address, beta_0, link_to, example_key, example_net, first_router, last_router, middle_router, info_along}
use Rattle.net_laws.specs.ExampleHops.{example_against, example_hops, example_stretch, info_against}
use Rattle.net_laws.specs.PathSegments.{AreWired, HasItsKey, PathSegment, IsBeaconed, fields_of, keys_of, entry_at}
use Rattle.net_laws.specs.Net.{Router, router_at}

abbrev of_info : InfoField → PathSegment
of_info i = record { info = i; beta = 0x1234; is_core = false; made = example_hops }

one_key : (r : ℕ) (x : Router) → router_at example_net r ≡ Some x → x.network.key ≡ example_key
one_key zero x is = let same : first_router ≡ x = cc in ap (λ (y : Router). y.network.key) (sym same)
one_key (suc zero) x is = let same : middle_router ≡ x = cc in ap (λ (y : Router). y.network.key) (sym same)
one_key (suc (suc zero)) x is = let same : last_router ≡ x = cc in ap (λ (y : Router). y.network.key) (sym same)
one_key (suc (suc (suc r))) x is = absurd cc

keys : (i : InfoField) (k : ℕ) → k < 3 → HasItsKey example_net (entry_at (of_info i) k)
keys i zero there r x is home = one_key r x is
keys i (suc zero) there r x is home = one_key r x is
keys i (suc (suc zero)) there r x is home = one_key r x is
keys i (suc (suc (suc k))) there r x is home = absurd (omega arith)

wired : (i : InfoField) (k : ℕ) → k + 1 < 3 → AreWired example_net false (entry_at (of_info i) k) (entry_at (of_info i) (k + 1))
wired i zero more = record {
  sender = first_router;
  sender_is = refl;
  sender_home = record { isd = refl; autonomous_system = refl };
  taker = middle_router;
  taker_is = refl;
  taker_home = record { isd = refl; autonomous_system = refl };
  link = link_to 17 Child (address 1 2 40000) (address 1 1 40000);
  link_is = refl;
  kind = refl;
  wire = inl (0, (omega arith), refl);
}
wired i (suc zero) more = record {
  sender = middle_router;
  sender_is = refl;
  sender_home = record { isd = refl; autonomous_system = refl };
  taker = last_router;
  taker_is = refl;
  taker_home = record { isd = refl; autonomous_system = refl };
  link = link_to 2 Child (address 2 1 40000) (address 2 2 40000);
  link_is = refl;
  kind = refl;
  wire = inl (1, (omega arith), refl);
}
wired i (suc (suc k)) more = absurd (omega arith)

along_macs : (k : ℕ) → k < 3 → ◌≡◌ {A = List ℕ} (hop_at (fields_of example_stretch) k).mac (mac6 (slice_index_or (keys_of example_stretch) k []) (beta_at beta_0 (fields_of example_stretch) k) info_along (hop_at (fields_of example_stretch) k))
along_macs zero there = refl
along_macs (suc zero) there = refl
along_macs (suc (suc zero)) there = refl
along_macs (suc (suc (suc k))) there = absurd (omega arith)

against_macs : (k : ℕ) → k < 3 → ◌≡◌ {A = List ℕ} (hop_at (fields_of example_against) k).mac (mac6 (slice_index_or (keys_of example_against) k []) (beta_at beta_0 (fields_of example_against) k) info_against (hop_at (fields_of example_against) k))
against_macs zero there = refl
against_macs (suc zero) there = refl
against_macs (suc (suc zero)) there = refl
against_macs (suc (suc (suc k))) there = absurd (omega arith)

pub along_is : IsBeaconed example_net example_stretch
along_is = record { two = omega arith; beta = omega arith; keys = keys info_along; macs = along_macs; wired = wired info_along }

pub against_is : IsBeaconed example_net example_against
against_is = record { two = omega arith; beta = omega arith; keys = keys info_against; macs = against_macs; wired = wired info_against }
