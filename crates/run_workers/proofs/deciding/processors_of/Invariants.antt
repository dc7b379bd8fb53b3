use Rattle.std.proofs.Common.{◌≡◌, ◌≤◌, length, vec_capacity}
use Rattle.std.specs.Arc.{arc_value}
use Rattle.router_rules.specs.Links.{link_count}
use Rattle.worker_order.specs.Returned.{AllAt}
use Rattle.run_ends.specs.Rows.{new_takers}
use Rattle.run_pipes.specs.Piping.{IsTakerThere, Piping}
use Rattle.run_pipes.specs.Pipes.{HaveProcessors}
use Rattle.run_pipes.specs.Rest.{IsRest}
use Rattle.run_workers.specs.Kits.{IsWorkingThere}
use Rattle.run_workers.specs.Shares.{HaveGone}
use Rattle.run_workers.proofs.deciding.processors_of.Given as goal

abbrev pub invariant-loop-index : goal.invariant-loop-index
invariant-loop-index g l =
    let c = (arc_value l.common.shared).config in
    record {
      count : (length l.made.items ≡ l.index) × (l.count ≤ vec_capacity l.made);
      shares : HaveGone (link_count c) l.index l.initial.shares l.shares;
      made : (p : Piping) → HaveProcessors c 0 p l.initial.pipes → l.fn.takers.items ≡ new_takers p.packets → AllAt (IsWorkingThere c p) 0 l.made.items × HaveProcessors c l.index p l.pipes × IsRest (IsTakerThere p.packets) l.index c.processors l.takers;
    }
