use Rattle.router_run.proofs.joining.join_workers.Goals as goal

pub returns : goal.returns
returns g c = record {
  receivers = c.join_all-receivers.ensures;
  processors = c.join_all-processors.ensures;
  slow = c.join_worker-slow.ensures;
  forwarders = c.join_all-forwarders.ensures;
  shutters = c.marked-shutters.ensures;
}
