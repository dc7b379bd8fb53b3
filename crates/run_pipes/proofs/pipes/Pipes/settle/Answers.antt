use Rattle.std.proofs.Common.{true, refl, sym, subst}
use Rattle.order_laws.specs.Settled.{SlowPathRequest}
use Rattle.ruled_pipe.specs.Pipe.{Keeping, shape_of}
use Rattle.router_rules.specs.Rules.{kinds}
use Rattle.run_ends.specs.Finished.{IsReady}
use Rattle.run_ends.specs.Settled.{IsDone}
use Rattle.run_pipes.proofs.pipes.Pipes.settle.Goals as goal

pub settle_all-requires : goal.settle_all-requires
settle_all-requires g c = let was = c.requires in (was.0, was.3.packets, was.4.packets, was.5)

pub settle-requires : goal.settle-requires
settle-requires g c = let was = c.requires in subst (λ (o : Keeping (SlowPathRequest kinds)). IsReady o c.args.request_taker) (sym was.4.requests) (refl, (true, was.6))

pub settle_all-requires-2 : goal.settle_all-requires-2
settle_all-requires-2 g c = let was = c.requires in (was.2, was.3.egress_packets, was.4.egress_packets, was.7)

pub returns : goal.returns
returns g c = λ rs ms ls p back. (
  c.settle_all.ensures rs p.packets back.packets,
  subst (λ (o : Keeping (SlowPathRequest kinds)). IsDone (shape_of o) o.senders c.args.request_taker) back.requests c.settle.ensures,
  c.settle_all-2.ensures ls p.egress_packets back.egress_packets,
)
