-- A packet that sets out on a route stands on it.
use Rattle.std.proofs.Common.{ℕ, false, sym, ap, subst, ◌∙◌, arith, inl, inr}
use Rattle.scion_packet.specs.Path.{Place, place_at}
use Rattle.process_packet.specs.PacketState.{is_first_of_path}
use Rattle.net_laws.specs.Net.{Agrees, Net}
use Rattle.net_laws.specs.Domain.{IsOf}
use Rattle.net_laws.specs.Route.{IsOn, IsRoute, Route, after, info_of}
use Rattle.net_laws.specs.Start.{SetsOut, outset}
use Rattle.net_laws.specs.Stands.{PacketAt, IdsStand, IsUnasked, Stands, with_id_of}
use Rattle.net_laws.specs.Walk.{IsDelivered}
use Rattle.net_laws.proofs.AddressLemmas.{is_local_there}
use Rattle.net_laws.proofs.WalkLemmas.{walked}

pub stands_at_outset : (net : Net) (w : Route) (moment : ℕ) (a : PacketAt) → IsRoute net w moment → SetsOut net w a → Stands net w outset a
stands_at_outset net w moment a route s =
    let some = route.some in
    let two = route.hops 0 (omega arith) in
    let on : IsOn w (after outset) = record { segment = omega arith; position = omega arith } in
    let ids : IdsStand w false outset a.packet.path.segments = record {
      count = s.count;
      hops = s.hops;
      earlier = λ p lt. absurd (omega arith);
      here = λ p same. s.ids p (omega arith) ∙ ap (λ (k : ℕ). with_id_of (w.beta (place_at k 0)) (info_of w p)) same;
      ahead = λ p lt below. s.ids p below;
    } in
    record {
      way = s.way;
      there = inr (record {
        more = subst (λ (p : Place). IsOn w (after p)) (sym s.place) on;
        router = s.router ∙ ap w.left_by (sym s.place);
        link = s.link;
        here = s.here;
        here_is = s.here_is;
        home = subst (λ (p : Place). IsOf s.here (w.home p)) (sym s.place) s.home;
        sender = inl (ap is_first_of_path s.place, is_local_there s.here a.packet.header.source (w.home outset) s.home s.way.addressed.source);
        ids = subst (λ (p : Place). IdsStand w false p a.packet.path.segments) (sym s.place) ids;
        begun = inl (sym s.place);
      });
    }

pub paths_walked : (net : Net) (w : Route) (moment : ℕ) (a : PacketAt) → Agrees net → IsRoute net w moment → SetsOut net w a → IsUnasked w a.packet
    → Stands net w outset a × IsDelivered net w outset moment 127 a
paths_walked net w moment a agrees route s quiet =
    let stands = stands_at_outset net w moment a route s in
    (stands, walked net w outset moment a agrees route stands quiet)
