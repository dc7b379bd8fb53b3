use Rattle.std.proofs.Common.{◌≡◌, ◌≤◌, length, vec_capacity}
use Rattle.std.specs.Arc.{arc_value}
use Rattle.worker_order.specs.Returned.{AllAt}
use Rattle.router_rules.specs.Links.{link_count}
use Rattle.run_ends.specs.Rows.{new_takers}
use Rattle.run_pipes.specs.Piping.{IsTakerThere, Piping}
use Rattle.run_pipes.specs.Pipes.{HaveReceivers}
use Rattle.run_pipes.specs.Rest.{IsRest}
use Rattle.run_workers.specs.Kits.{IsEnteringAt}
use Rattle.run_workers.specs.Shares.{HaveGone}
use Rattle.run_workers.proofs.entering.all_entering.Given as goal

abbrev pub invariant-loop-link : goal.invariant-loop-link
invariant-loop-link g l =
    let c = (arc_value l.common.shared).config in
    record {
      count : (length l.made.items ≡ l.link) × (l.links ≤ vec_capacity l.made);
      shares : HaveGone 0 l.link l.initial.shares l.shares;
      made : (p : Piping) → HaveReceivers c 0 p l.initial.pipes → l.fn.free.items ≡ new_takers p.free → AllAt (IsEnteringAt c p) 0 l.made.items × HaveReceivers c l.link p l.pipes × IsRest (IsTakerThere p.free) l.link (link_count c) l.free;
    }
