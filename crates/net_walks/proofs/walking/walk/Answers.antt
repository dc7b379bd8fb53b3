use Rattle.std.proofs.Common.{append-nil, All, IfSome, ◌≡◌, ◌<◌, ◌++◌, ◌-◌, ◌+◌, ℕ, None, Option, Some, length, map, option_map, ap, sym, subst, ◌∙◌, arith}
use Rattle.std.proofs.lemmas.List.{length-map}
use Rattle.field_rows.specs.Place.{IsBytes}
use Rattle.net_laws.specs.Net.{Net, net_of, router_of}
use Rattle.net_laws.proofs.ConfiguredLemmas.{net_numbered}
use Rattle.net_walks.specs.Coming as way
use Rattle.net_walks.specs.Stops.{Came, IsStop, came_by, came_to, next_stop, stops_from}
use Rattle.net_walks.specs.declared.walking.Coming.{Coming}
use Rattle.net_walks.proofs.CarriedLemmas.{next_there}
use Rattle.net_walks.proofs.StopsLemmas.{all_made, one_further}
use Rattle.net_walks.proofs.DeliveredStops.{stops_answer, stops_deliver, stops_return}
use Rattle.net_walks.proofs.OneHopCrossing.{stops_cross}
use Rattle.net_walks.proofs.walking.walk.Goals as goal

pub returns-in-None-clause-stops : goal.returns-in-None-clause-stops
returns-in-None-clause-stops c =
    let net : Net = net_of c.args.net.now in
    let moment = c.args.arrival.now.now in
    let here : Came = way.coming c.loop.coming in
    let less = c.loop-test.true in
    let none : next_stop net moment here ≡ None =
    ap (λ (m : ℕ). next_stop net m here) (sym c.loop.invariant.moment) ∙ sym c.in_ok-next.ensures.next ∙ ap (option_map way.coming) c.in-None.is in
    all_made net moment 128 c.loop.counter (map came_by c.loop.stops.items) (map came_by c.go_on.new.stops.items) here
    (stops_from net moment 128 (Some (came_to c.args.router c.args.arrival.now))) (omega arith) c.in_ok-next.ensures.came c.loop.invariant.made none

pub returns-in-None-clause-delivered : goal.returns-in-None-clause-delivered
returns-in-None-clause-delivered c ss p text start =
    stops_deliver (net_of c.args.net.now) ss c.args.router c.args.arrival.now p (map came_by c.go_on.new.stops.items) c.requires.agrees (net_numbered c.args.net.now)
    (subst IsBytes (ap (λ (x : Came). x.bytes) c.in_ok-coming.ensures.came) c.in_ok-coming.ensures.are) text start (returns-in-None-clause-stops c)

pub returns-in-None-clause-asked : goal.returns-in-None-clause-asked
returns-in-None-clause-asked c ss p text start =
    stops_answer (net_of c.args.net.now) ss c.args.router c.args.arrival.now p (map came_by c.go_on.new.stops.items) c.requires.agrees (net_numbered c.args.net.now)
    (subst IsBytes (ap (λ (x : Came). x.bytes) c.in_ok-coming.ensures.came) c.in_ok-coming.ensures.are) text start (returns-in-None-clause-stops c)

pub returns-in-None-clause-returned : goal.returns-in-None-clause-returned
returns-in-None-clause-returned c ss start r are lawful =
    stops_return (net_of c.args.net.now) ss c.args.router c.args.arrival.now start (map came_by c.go_on.new.stops.items) c.requires.agrees (net_numbered c.args.net.now) are lawful r (returns-in-None-clause-stops c)

pub returns-in-None-clause-routed : goal.returns-in-None-clause-routed
returns-in-None-clause-routed c =
    let net : Net = net_of c.args.net.now in
    let made = λ (m : ℕ). All (IsStop net m) c.go_on.new.stops.items in
    subst made c.loop.invariant.moment
    (c.in_ok-next.ensures.stops (subst (λ (m : ℕ). All (IsStop net m) c.loop.stops.items) (sym c.loop.invariant.moment) c.loop.invariant.stops))

pub returns-in-None-clause-crossed : goal.returns-in-None-clause-crossed
returns-in-None-clause-crossed c p text start =
    stops_cross (net_of c.args.net.now) c.args.router c.args.arrival.now p c.go_on.new.stops.items c.requires.agrees (net_numbered c.args.net.now)
    (subst IsBytes (ap (λ (x : Came). x.bytes) c.in_ok-coming.ensures.came) c.in_ok-coming.ensures.are) text start (returns-in-None-clause-stops c) (returns-in-None-clause-routed c)

pub returns-clause-stops : goal.returns-clause-stops
returns-clause-stops c =
    let net : Net = net_of c.args.net.now in
    let moment = c.args.arrival.now.now in
    let over = c.loop-test.false in
    let end : 128 - c.loop.counter ≡ 0 = omega arith in
    sym (append-nil (map came_by c.loop.stops.items))
    ∙ ap (λ (n : ℕ). map came_by c.loop.stops.items ++ stops_from net moment n (Some (way.coming c.loop.coming))) (sym end)
    ∙ c.loop.invariant.made

pub returns-clause-delivered : goal.returns-clause-delivered
returns-clause-delivered c ss p text start =
    stops_deliver (net_of c.args.net.now) ss c.args.router c.args.arrival.now p (map came_by c.loop.stops.items) c.requires.agrees (net_numbered c.args.net.now)
    (subst IsBytes (ap (λ (x : Came). x.bytes) c.in_ok-coming.ensures.came) c.in_ok-coming.ensures.are) text start (returns-clause-stops c)

pub returns-clause-asked : goal.returns-clause-asked
returns-clause-asked c ss p text start =
    stops_answer (net_of c.args.net.now) ss c.args.router c.args.arrival.now p (map came_by c.loop.stops.items) c.requires.agrees (net_numbered c.args.net.now)
    (subst IsBytes (ap (λ (x : Came). x.bytes) c.in_ok-coming.ensures.came) c.in_ok-coming.ensures.are) text start (returns-clause-stops c)

pub returns-clause-crossed : goal.returns-clause-crossed
returns-clause-crossed c p text start =
    stops_cross (net_of c.args.net.now) c.args.router c.args.arrival.now p c.loop.stops.items c.requires.agrees (net_numbered c.args.net.now)
    (subst IsBytes (ap (λ (x : Came). x.bytes) c.in_ok-coming.ensures.came) c.in_ok-coming.ensures.are) text start (returns-clause-stops c) c.loop.invariant.stops

pub returns-clause-returned : goal.returns-clause-returned
returns-clause-returned c ss start r are lawful =
    stops_return (net_of c.args.net.now) ss c.args.router c.args.arrival.now start (map came_by c.loop.stops.items) c.requires.agrees (net_numbered c.args.net.now) are lawful r (returns-clause-stops c)

pub loop-preserved : goal.loop-preserved
loop-preserved c =
    let net : Net = net_of c.args.net.now in
    let moment = c.args.arrival.now.now in
    let here : Came = way.coming c.loop.coming in
    let less = c.loop-test.true in
    let next : next_stop net moment here ≡ Some (way.coming c.in-Some.next) =
    ap (λ (m : ℕ). next_stop net m here) (sym c.loop.invariant.moment) ∙ sym c.in_ok-next.ensures.next ∙ ap (option_map way.coming) c.in-Some.is in
    let when : c.in-Some.next.arrival.now ≡ c.loop.coming.arrival.now =
    let told = subst (λ (o : Option Coming). IfSome o (λ x. x.arrival.now ≡ c.loop.coming.arrival.now)) c.in-Some.is c.in_ok-next.ensures.moment in told in
    let below : c.in-Some.next.router < length net.routers = next_there net c.requires.agrees moment here (way.coming c.in-Some.next) next in
    let size : length net.routers ≡ length c.args.net.now.configs.items = length-map c.args.net.now.configs.items router_of in
    record {
      there = omega arith;
      moment = when ∙ c.loop.invariant.moment;
      made = ap (λ (o : Option Came). map came_by c.go_on.new.stops.items ++ stops_from net moment (128 - (c.loop.counter + 1)) o) (sym next)
          ∙ one_further net moment 128 c.loop.counter (map came_by c.loop.stops.items) (map came_by c.go_on.new.stops.items) here
          (stops_from net moment 128 (Some (came_to c.args.router c.args.arrival.now))) (omega arith) c.in_ok-next.ensures.came c.loop.invariant.made;
      stops = subst (λ (m : ℕ). All (IsStop net m) c.go_on.new.stops.items) c.loop.invariant.moment
          (c.in_ok-next.ensures.stops (subst (λ (m : ℕ). All (IsStop net m) c.loop.stops.items) (sym c.loop.invariant.moment) c.loop.invariant.stops));
    }
