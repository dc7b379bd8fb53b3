-- The interfaces of the links, one by one, and what the start of a router with a device a link gives.
use Rattle.std.proofs.Common.{◌≡◌, ◌≤◌, ◌+◌, ◌*◌, ℕ, List, [], ◌∷◌, ◌++◌, length, map, None, Some, ap, sym, subst, ◌∙◌, arith}
use Rattle.std.specs.List.{AllByRecursion, range_with_len}
use Rattle.std.proofs.lemmas.List.FromFn.{length-map-range_with_len, map-range_with_len_more}
use Rattle.process_packet.specs.declared.config.Config.{Config}
use Rattle.router_rules.specs.Links.{interface_at, link_count}
use Rattle.router_run.specs.Starting.{Begins, GivesBack}
use Rattle.router_run.specs.declared.fault.StartFault.{StartFault}
use Rattle.router_run.specs.declared.fault.StartFault.TheVariants as begin
use Rattle.cli_run.specs.declared.fault.RunFault.{RunFault}
use Rattle.udp_devices.specs.Binding.{sink_at, source_at}
use Rattle.udp_devices.specs.Devices.{Reading, Sending}
use Rattle.udp_router.specs.OverUdp.{Router}
use Rattle.udp_router.specs.Run.{IsFault, IsNew, ascending, new_sinks, new_sources, unstarted}

-- one interface more
pub one_more : (f : ℕ → ℕ) (all before : List ℕ) (x n : ℕ) → before ≡ map f (range_with_len 0 n) → x ≡ f n → all ≡ before ++ x ∷ [] → all ≡ map f (range_with_len 0 (n + 1))
one_more f all before x n so_far is pushed =
    let here : 0 + n ≡ n = omega arith in
    pushed ∙ ap (λ xs. xs ++ x ∷ []) so_far ∙ ap (λ y. map f (range_with_len 0 n) ++ y ∷ []) is ∙ sym (map-range_with_len_more f 0 n n here)

-- all of them
pub all_there : (f : ℕ → ℕ) (all : List ℕ) (n end count : ℕ) → all ≡ map f (range_with_len 0 n) → n ≤ end → end ≤ n → end ≡ count → all ≡ map f (range_with_len 0 count)
all_there f all n end count so_far up down is =
    let last : n ≡ end = omega arith in
    so_far ∙ ap (λ k. map f (range_with_len 0 k)) (last ∙ is)

-- devices that don't tell told nothing
pub untold : (X Y : Type 0) (xs : List X) → AllByRecursion (λ (x : X). (ys : List Y) → None ≡ Some ys → ys ≡ []) xs
untold X Y [] = tt
untold X Y (x ∷ xs) = (λ ys no. cc, untold X Y xs)

-- a router that began with new devices is new
pub is_new : (c : Config) (r : Router) (sources : List Reading) (sinks : List Sending) → sources ≡ new_sources c → sinks ≡ new_sinks c → Begins (λ (k : Sending). k.failed) c sources sinks r → IsNew c r
is_new c r sources sinks from to begins =
    let P : List Reading → Type 0 = λ xs. Begins (λ (k : Sending). k.failed) c xs sinks r in
    let Q : List Sending → Type 0 = λ xs. Begins (λ (k : Sending). k.failed) c (new_sources c) xs r in
    subst Q to (subst P from begins)

-- it isn't for the count of devices that it doesn't start
pub is_no_count : (c : Config) (f : StartFault Reading Sending) (e : RunFault) (sources : List Reading) (sinks : List Sending) → sources ≡ new_sources c → sinks ≡ new_sinks c
    → GivesBack (link_count c) f sources sinks → e ≡ unstarted f → IsFault c e
is_no_count c (begin.NoMemory a b) e sources sinks from to gives is = let P : RunFault → Type 0 = λ x. IsFault c x in subst P (sym is) tt
is_no_count c (begin.Count a b) e sources sinks from to gives is =
    absurd (gives.2 (ap length from ∙ length-map-range_with_len (source_at c) 0 (link_count c), ap length to ∙ length-map-range_with_len (sink_at c) 0 (link_count c)))
is_no_count c begin.Thread e sources sinks from to gives is = let P : RunFault → Type 0 = λ x. IsFault c x in subst P (sym is) tt

-- ---- at the router's own configuration

pub own_new : (c : Config) (r : Router) → IsNew c r → IsNew r.config r
own_new c r new = let P : Config → Type 0 = λ x. IsNew x r in subst P (sym new.config) new

pub own_workers : (c d : Config) (w : ℕ) → d ≡ c → w ≡ 2 * link_count c + c.processors + 1 → w ≡ 2 * link_count d + d.processors + 1
own_workers c d w is workers = let P : Config → Type 0 = λ x. w ≡ 2 * link_count x + x.processors + 1 in subst P (sym is) workers

pub own_links : (c d : Config) (ids : List ℕ) → d ≡ c → ids ≡ ascending c → ids ≡ ascending d
own_links c d ids is are = let P : Config → Type 0 = λ x. ids ≡ ascending x in subst P (sym is) are

-- there are no more links than workers
pub few_links : (c : Config) (ids : List ℕ) (w : ℕ) → ids ≡ ascending c → w ≡ 2 * link_count c + c.processors + 1 → length ids ≤ w
few_links c ids w are workers =
    let long : length ids ≡ link_count c = ap length are ∙ length-map-range_with_len (interface_at c) 0 (link_count c) in omega (arith, long, workers)
