-- The path up and down is one over beaconed segments.
use Rattle.std.proofs.Common.{◌≡◌, ◌<◌, ◌+◌, ℕ, zero, suc, false, Some, refl, sym, ap, arith, inl, inr}
use Rattle.segment_switch.specs.declared.kind.LinkKind.TheVariants.{Child}
use Rattle.hop_check.specs.Beaconing.{AreBeaconed}
use Rattle.net_laws.specs.Example.{address, example_key, link_to}
use Rattle.net_laws.specs.ExampleTurn.{down, family, one_child, neighbour, other_child, parent, second_parent, turn, up}
use Rattle.net_laws.specs.PathSegments.{AreWired, HasItsKey, IsBeaconed, IsPathOver, entry_at, fields_of, keys_of}
use Rattle.net_laws.specs.Net.{Router, router_at}
use Rattle.net_laws.proofs.TwoStretches.{are_path}

pub one_key : (r : ℕ) (x : Router) → router_at family r ≡ Some x → x.network.key ≡ example_key
one_key zero x is = let same : one_child ≡ x = cc in ap (λ (y : Router). y.network.key) (sym same)
one_key (suc zero) x is = let same : parent ≡ x = cc in ap (λ (y : Router). y.network.key) (sym same)
one_key (suc (suc zero)) x is = let same : second_parent ≡ x = cc in ap (λ (y : Router). y.network.key) (sym same)
one_key (suc (suc (suc zero))) x is = let same : other_child ≡ x = cc in ap (λ (y : Router). y.network.key) (sym same)
one_key (suc (suc (suc (suc zero)))) x is = let same : neighbour ≡ x = cc in ap (λ (y : Router). y.network.key) (sym same)
one_key (suc (suc (suc (suc (suc r))))) x is = absurd cc

up_keys : (k : ℕ) → k < 2 → HasItsKey family (entry_at up k)
up_keys zero there r x is home = one_key r x is
up_keys (suc zero) there r x is home = one_key r x is
up_keys (suc (suc k)) there r x is home = absurd (omega arith)

down_keys : (k : ℕ) → k < 2 → HasItsKey family (entry_at down k)
down_keys zero there r x is home = one_key r x is
down_keys (suc zero) there r x is home = one_key r x is
down_keys (suc (suc k)) there r x is home = absurd (omega arith)

up_macs : AreBeaconed (keys_of up) up.beta up.info (fields_of up)
up_macs zero there = refl
up_macs (suc zero) there = refl
up_macs (suc (suc k)) there = absurd (omega arith)

down_macs : AreBeaconed (keys_of down) down.beta down.info (fields_of down)
down_macs zero there = refl
down_macs (suc zero) there = refl
down_macs (suc (suc k)) there = absurd (omega arith)

up_wired : (k : ℕ) → k + 1 < 2 → AreWired family false (entry_at up k) (entry_at up (k + 1))
up_wired zero more = record {
  sender = parent;
  sender_is = refl;
  sender_home = record { isd = refl; autonomous_system = refl };
  taker = one_child;
  taker_is = refl;
  taker_home = record { isd = refl; autonomous_system = refl };
  link = link_to 1 Child (address 1 1 40000) (address 1 2 40000);
  link_is = refl;
  kind = refl;
  wire = inr (0, (omega arith), refl);
}
up_wired (suc k) more = absurd (omega arith)

down_wired : (k : ℕ) → k + 1 < 2 → AreWired family false (entry_at down k) (entry_at down (k + 1))
down_wired zero more = record {
  sender = second_parent;
  sender_is = refl;
  sender_home = record { isd = refl; autonomous_system = refl };
  taker = other_child;
  taker_is = refl;
  taker_home = record { isd = refl; autonomous_system = refl };
  link = link_to 2 Child (address 2 1 40000) (address 2 2 40000);
  link_is = refl;
  kind = refl;
  wire = inl (1, (omega arith), refl);
}
down_wired (suc k) more = absurd (omega arith)

pub down_is : IsBeaconed family down
down_is = record { two = omega arith; beta = omega arith; keys = down_keys; macs = down_macs; wired = down_wired }

up_is : IsBeaconed family up
up_is = record { two = omega arith; beta = omega arith; keys = up_keys; macs = up_macs; wired = up_wired }

pub turn_is : IsPathOver family turn
turn_is = are_path family up down up_is down_is refl refl refl refl (λ same. absurd (omega arith)) (λ same. absurd (omega arith)) (λ same. absurd (omega arith))
