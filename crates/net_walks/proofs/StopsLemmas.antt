-- From one stop to the next, over configurations and over routers.
use Rattle.std.proofs.Common.{append_assoc, append-nil, zero, suc, ◌++◌, ◌-◌, arith, ◌≡◌, ◌<◌, ◌+◌, ℕ, Bool, true, false, List, [], ◌∷◌, get_or, length, map, Option, Some, None, position, option_map, refl, sym, ap, ap₂, subst, ◌∙◌, if◌then◌else◌}
use Rattle.std.specs.List.{position_from, slice_get}
use Rattle.std.specs.declared.vec.Vec.{Vec}
use Rattle.std.specs.declared.alloc.Global.{Global}
use Rattle.std.proofs.lemmas.Option.{slice_get-get_or, slice_get-map}
use Rattle.std.proofs.lemmas.Bool.{cond-false, cond-true}
use Rattle.std.proofs.lemmas.Iterator.Adapters.{position_from-zero}
use Rattle.process_packet.specs.declared.config.Config.{Config}
use Rattle.process_packet.specs.declared.underlay.Underlay.{Underlay}
use Rattle.net_laws.specs.Net.{Net, Router, router_at, router_of}
use Rattle.process_packet.specs.Routed.{IsRouted, bytes_for, decision_for}
use Rattle.process_packet.specs.declared.arrival.Routed.{Routed}
use Rattle.process_packet.specs.declared.arrival.Routed.TheVariants as routed
use Rattle.process_packet.specs.declared.decision.Decision.{Decision}
use Rattle.net_laws.specs.declared.net.Wire.{Wire}
use Rattle.net_walks.specs.declared.stop.Stop.{Stop}
use Rattle.process_packet.specs.declared.arrival.Arrival.{Arrival}
use Rattle.process_packet.specs.Network.{network}
use Rattle.net_walks.specs.Stops.{Came, IsStop, arrives_within, came_by, came_to, carried_on, next_from, next_stop, sent_from, stops_from, has_address, is_for_host, within}

mapped : {X Y : Type 0} (p : Y → Bool) (v : X → Y) (n : ℕ) (xs : List X) → position_from p n (map v xs) ≡ position_from (λ (x : X). p (v x)) n xs
mapped p v n [] = refl
mapped p v n (x ∷ xs) = ap (λ (o : Option ℕ). if p (v x) then Some n else o) (mapped p v (n + 1) xs)

pub found_among : (p : Router → Bool) (configs : List Config) (o : Option ℕ) → position (λ (c : Config). p (router_of c)) configs ≡ o
    → position_from p 0 (map router_of configs) ≡ o
found_among p configs o is = mapped p router_of 0 configs ∙ sym (position_from-zero (λ (c : Config). p (router_of c)) configs) ∙ is

pub within_is : (routers : List Router) (x : Router) (c : Came) (to : Underlay) (bytes : List ℕ) (o : Option ℕ)
    → is_for_host x.network c.link c.bytes ≡ false → position_from (has_address x to) 0 routers ≡ o → within routers x c to bytes ≡ arrives_within x.internal bytes o
within_is routers x c to bytes o others at = cond-false (is_for_host x.network c.link c.bytes) _ _ others ∙ ap (arrives_within x.internal bytes) at

pub within_host : (routers : List Router) (x : Router) (c : Came) (to : Underlay) (bytes : List ℕ)
    → is_for_host x.network c.link c.bytes ≡ true → within routers x c to bytes ≡ None
within_host routers x c to bytes is = cond-true (is_for_host x.network c.link c.bytes) _ _ is

-- where it isn't for a host, it comes to the router that was found among the configurations
pub found_is : (configs xs : List Config) (config : Config) (router : ℕ) (a : Arrival) (datagram : List ℕ) (to : Underlay) (bytes : List ℕ) (here : Bool)
    (found o : Option ℕ) → here ≡ is_for_host (network config) a.link datagram → datagram ≡ a.bytes.items → here ≡ false
    → found ≡ position (λ (c : Config). has_address (router_of config) to (router_of c)) xs → xs ≡ configs → found ≡ o
    → within (map router_of configs) (router_of config) (came_to router a) to bytes ≡ arrives_within config.internal bytes o
found_is configs xs config router a datagram to bytes here found o for_us same others is all at =
    let none : is_for_host (network config) a.link a.bytes.items ≡ false = ap (is_for_host (network config) a.link) (sym same) ∙ sym for_us ∙ others in
    let place : position (λ (c : Config). has_address (router_of config) to (router_of c)) configs ≡ o =
    ap (position (λ (c : Config). has_address (router_of config) to (router_of c))) (sym all) ∙ sym is ∙ at in
    within_is (map router_of configs) (router_of config) (came_to router a) to bytes o none (found_among (has_address (router_of config) to) configs o place)

-- ---- from a stop

pub looked_up : (xs : List Config) (i : ℕ) (x : Config) → i < length xs → x ≡ get_or xs i x → Some x ≡ slice_get xs i
looked_up xs i x there is = ap Some is ∙ sym (slice_get-get_or xs i x there)

pub at_router : (configs xs : List Config) (wires : List Wire) (router : ℕ) (o : Option Config) → o ≡ slice_get xs router → xs ≡ configs
    → router_at (record { routers = map router_of configs; wires = wires }) router ≡ option_map router_of o
at_router configs xs wires router o is same =
    slice_get-map router_of configs router ∙ ap (λ (cs : List Config). option_map router_of (slice_get cs router)) (sym same) ∙ ap (option_map router_of) (sym is)

-- what a stop sends is carried on
pub sent_next : (net : Net) (s : Stop) → IsStop net s.arrival.now s → (out : ℕ) (to : Option Underlay) (vec : Vec ℕ Global) → s.routed ≡ routed.Send out to vec
    → (bytes : List ℕ) → bytes ≡ vec.items → next_stop net s.arrival.now (came_by s) ≡ sent_from net (came_by s) to out bytes (router_at net s.router)
unfolding next_stop
sent_next net s is out to vec sends bytes same =
    let n = is.here.network in
    let told = subst (IsRouted (decision_for n s.arrival) (bytes_for n s.arrival)) sends is.routed in
    ap (next_from net s.arrival.now (came_by s)) is.here_is
    ∙ ap₂ (λ (e : Decision) (b : List ℕ). carried_on net (came_by s) e b (Some is.here)) told.0 (sym told.1 ∙ sym same)
    ∙ ap (sent_from net (came_by s) to out bytes) (sym is.here_is)

-- and what isn't sent ends there
ends_by : (net : Net) (s : Stop) → IsStop net s.arrival.now s → ((out : ℕ) (to : Option Underlay) (vec : Vec ℕ Global) → s.routed ≡ routed.Send out to vec → ⊥)
    → (r : Routed) → s.routed ≡ r → None ≡ next_stop net s.arrival.now (came_by s)
unfolding next_stop
ends_by net s is never (routed.Send out to vec) sends = absurd (never out to vec sends)
ends_by net s is never (routed.Answer problem) answers =
    let n = is.here.network in
    let told = subst (IsRouted (decision_for n s.arrival) (bytes_for n s.arrival)) answers is.routed in
    sym (ap (next_from net s.arrival.now (came_by s)) is.here_is ∙ ap (λ (e : Decision). carried_on net (came_by s) e (bytes_for n s.arrival) (Some is.here)) told)
ends_by net s is never (routed.Drop cause) drops =
    let n = is.here.network in
    let told = subst (IsRouted (decision_for n s.arrival) (bytes_for n s.arrival)) drops is.routed in
    sym (ap (next_from net s.arrival.now (came_by s)) is.here_is ∙ ap (λ (e : Decision). carried_on net (came_by s) e (bytes_for n s.arrival) (Some is.here)) told)

pub ends_there : (net : Net) (s : Stop) → IsStop net s.arrival.now s → ((out : ℕ) (to : Option Underlay) (vec : Vec ℕ Global) → s.routed ≡ routed.Send out to vec → ⊥)
    → None ≡ next_stop net s.arrival.now (came_by s)
ends_there net s is never = ends_by net s is never s.routed refl

-- ---- stop after stop

pub none_further : (net : Net) (moment n : ℕ) → stops_from net moment n None ≡ []
none_further net moment zero = refl
none_further net moment (suc n) = refl

-- the stops so far and those to come, once one more is made
pub one_further : (net : Net) (moment k n : ℕ) (made more : List Came) (c : Came) (all : List Came) → n < k → more ≡ made ++ c ∷ []
    → made ++ stops_from net moment (k - n) (Some c) ≡ all → more ++ stops_from net moment (k - (n + 1)) (next_stop net moment c) ≡ all
one_further net moment k n made more c all less is so_far =
    let rest = stops_from net moment (k - (n + 1)) (next_stop net moment c) in
    let one : k - n ≡ suc (k - (n + 1)) = omega arith in
    ap (λ (cs : List Came). cs ++ rest) is
    ∙ append_assoc made (c ∷ []) rest
    ∙ ap (λ (m : ℕ). made ++ stops_from net moment m (Some c)) (sym one)
    ∙ so_far

-- where nothing comes after it, they are all
pub all_made : (net : Net) (moment k n : ℕ) (made more : List Came) (c : Came) (all : List Came) → n < k → more ≡ made ++ c ∷ []
    → made ++ stops_from net moment (k - n) (Some c) ≡ all → next_stop net moment c ≡ None → more ≡ all
all_made net moment k n made more c all less is so_far none =
    sym (append-nil more)
    ∙ ap (λ (cs : List Came). more ++ cs) (sym (none_further net moment (k - (n + 1))))
    ∙ ap (λ (o : Option Came). more ++ stops_from net moment (k - (n + 1)) o) (sym none)
    ∙ one_further net moment k n made more c all less is so_far
