use Rattle.std.proofs.Common.{◌≡◌, ◌+◌, ℕ, [], map, length, refl, sym, ◌∙◌, ap, subst, arith}
use Rattle.std.proofs.lemmas.List.{length-map}
use Rattle.worker_processor.specs.Working.{Working}
use Rattle.worker_parts.specs.Outlets.{senders}
use Rattle.run_pipes.specs.Pipes.{HaveAllBack}
use Rattle.run_pipes.specs.declared.pipes.Pipes.{Pipes}
use Rattle.run_ends.specs.Rows.{AreEndsOf}
use Rattle.run_ends.specs.Shutting.{shutter_ends}
use Rattle.run_pipes.proofs.RestLemmas.{pushed_long}
use Rattle.run_report.specs.Crew.{crew_in, egress_rows, packet_rows, request_row}
use Rattle.run_report.proofs.PartLemmas.{all_joined, from_none, longer}
use Rattle.run_report.proofs.finishing.part_all.Goals as goal

pub part_each-requires : goal.part_each-requires
part_each-requires g c =
    let was = c.requires in
    let count = was.4.receivers.count in
    record {
      piping = was.0;
      rows = [];
      back = was.3;
      ends = was.4.receivers.each;
      sources = let none = ap length was.5.sources.0 in let room = was.5.sources.1 in omega arith;
      shares = let none = ap length was.5.shares.0 in let room = was.5.shares.1 in omega arith;
    }

pub part_each-requires-2 : goal.part_each-requires-2
part_each-requires-2 g c =
    let was = c.requires in
    let count = was.4.workers.count in
    record {
      piping = was.0;
      rows = _;
      requests = [];
      links = [];
      long = refl;
      back = c.part_each.ensures.back was.0 [] was.3;
      ends = was.4.workers.each;
      takers = let none = ap length was.5.packets.0 in let room = was.5.packets.1 in omega arith;
      shares = (
          let none = ap length was.5.shares.0 in
          let links = was.4.receivers.count in
          let first = longer _ _ _ _ c.part_each.ensures.shares in
          let same = c.part_each.ensures.room in
          let room = was.5.shares.1 in
          omega arith
          );
    }

pub part_slow_path-rest-requires-clause-back : goal.part_slow_path-rest-requires-clause-back
part_slow_path-rest-requires-clause-back g c =
    let was = c.requires in
    let p = was.0 in
    let back = (c.part_each-2.ensures.back p _ [] [] (c.part_each.ensures.back p [] was.3)).egress_packets in
    let long : was.2 ≡ length (map (λ (w : Working _). senders w.side.links) c.args.joined.processors.items) = let l = length-map c.args.joined.processors.items (λ (w : Working _). senders w.side.links) in let n = was.4.workers.count in omega arith in
    (_, p.egress_packets, back, subst (λ (n : ℕ). AreEndsOf n p.egress_packets (senders c.args.joined.slow.side.links)) long was.4.slow, subst (λ (n : ℕ). AreEndsOf (n + 1) p.egress_packets (shutter_ends c.args.joined.shutters.items)) long was.4.shutters)

pub part_slow_path-rest-requires-clause-shares : goal.part_slow_path-rest-requires-clause-shares
part_slow_path-rest-requires-clause-shares g c =
    let was = c.requires in
    let none = ap length was.5.shares.0 in
    let links = was.4.receivers.count in
    let workers = was.4.workers.count in
    let first = longer _ _ _ _ c.part_each.ensures.shares in
    let second = longer _ _ _ _ c.part_each-2.ensures.shares in
    let same = c.part_each-2.ensures.room ∙ c.part_each.ensures.room in
    let room = was.5.shares.1 in
    omega arith

pub part_each-requires-3 : goal.part_each-requires-3
part_each-requires-3 g c =
    let was = c.requires in
    let count = was.4.forwarders in
    record {
      takers = let none = ap length was.5.egress_packets.0 in let room = was.5.egress_packets.1 in omega arith;
      sinks = let none = ap length was.5.sinks.0 in let room = was.5.sinks.1 in omega arith;
      sent = let none = ap length was.5.sent.0 in let room = was.5.sent.1 in omega arith;
      shares = (
          let none = ap length was.5.shares.0 in
          let links = was.4.receivers.count in
          let workers = was.4.workers.count in
          let first = longer _ _ _ _ c.part_each.ensures.shares in
          let second = longer _ _ _ _ c.part_each-2.ensures.shares in
          let third = pushed_long _ _ _ _ c.part_slow_path-rest.ensures.shares.0 refl in
          let same = c.part_slow_path-rest.ensures.shares.1 ∙ (c.part_each-2.ensures.room ∙ c.part_each.ensures.room) in
          let room = was.5.shares.1 in
          omega arith
          );
    }

pub returns-clause-back : goal.returns-clause-back
returns-clause-back g c = λ p was.
    let w = crew_in c.args.joined in
    let second = c.part_each-2.ensures.back p _ [] [] (c.part_each.ensures.back p [] was) in
    subst (λ (k : Pipes g.row.N.Denot). HaveAllBack (packet_rows w) (request_row w) (egress_rows w) p k) (sym c.part_each-3.ensures.back)
    (record { packets = second.packets; requests = second.requests; egress_packets = c.part_slow_path-rest.ensures.back _ p.egress_packets second.egress_packets })

pub returns-clause-takers : goal.returns-clause-takers
returns-clause-takers g c =
    let space = c.requires.5 in
    record { packet_are = from_none _ _ _ space.packets.0 c.part_each-2.ensures.takers; request_is = c.part_slow_path-rest.ensures.taker; egress_are = from_none _ _ _ space.egress_packets.0 c.part_each-3.ensures.takers }

pub returns-clause-kept : goal.returns-clause-kept
returns-clause-kept g c = record { receivers = c.part_each.ensures.kept; processors = c.part_each-2.ensures.kept; slow = c.part_slow_path-rest.ensures.kept; forwarders = c.part_each-3.ensures.kept; shutters = c.part_slow_path-rest.ensures.marking }

pub returns-clause-shares : goal.returns-clause-shares
returns-clause-shares g c = all_joined _ _ _ _ _ _ _ _ _ c.requires.5.shares.0 c.part_each.ensures.shares c.part_each-2.ensures.shares c.part_slow_path-rest.ensures.shares.0 c.part_each-3.ensures.shares

pub returns-clause-sent : goal.returns-clause-sent
returns-clause-sent g c = from_none _ _ _ c.requires.5.sent.0 c.part_each-3.ensures.sent

pub returns-clause-sources : goal.returns-clause-sources
returns-clause-sources g c = from_none _ _ _ c.requires.5.sources.0 c.part_each.ensures.sources

pub returns-clause-sinks : goal.returns-clause-sinks
returns-clause-sinks g c = from_none _ _ _ c.requires.5.sinks.0 c.part_each-3.ensures.sinks
