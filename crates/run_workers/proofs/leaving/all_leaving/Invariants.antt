use Rattle.std.proofs.Common.{◌≡◌, ◌+◌, ◌*◌, ◌≤◌, length, vec_capacity}
use Rattle.std.specs.Arc.{arc_value}
use Rattle.worker_order.specs.Returned.{AllAt}
use Rattle.router_rules.specs.Links.{link_count}
use Rattle.run_ends.specs.Rows.{new_takers}
use Rattle.run_pipes.specs.Piping.{IsTakerThere, Piping}
use Rattle.run_pipes.specs.Pipes.{HaveForwarders}
use Rattle.run_pipes.specs.Rest.{IsRest}
use Rattle.run_workers.specs.Kits.{IsLeavingAt}
use Rattle.run_workers.specs.Shares.{HaveGone}
use Rattle.run_workers.proofs.leaving.all_leaving.Given as goal

abbrev pub invariant-loop-link : goal.invariant-loop-link
invariant-loop-link g l =
    let c = (arc_value l.common.shared).config in
    record {
      count : (length l.made.items ≡ l.link) × (l.links ≤ vec_capacity l.made);
      shares : HaveGone (link_count c + c.processors + 1) l.link l.initial.shares l.shares;
      made : (p : Piping) → HaveForwarders c 0 p l.initial.pipes → l.fn.takers.items ≡ new_takers p.egress_packets → AllAt (IsLeavingAt c p) 0 l.made.items × HaveForwarders c l.link p l.pipes × IsRest (IsTakerThere p.egress_packets) (2 * l.link) (2 * link_count c) l.takers;
    }
