use Rattle.std.proofs.Common.{◌≡◌, ◌+◌, ◌++◌, ◌≤◌, length, vec_capacity}
use Rattle.order_laws.specs.Deeds.{Each}
use Rattle.run_workers.specs.Kits.{paired}
use Rattle.run_workers.proofs.over.over_each.Given as goal

abbrev pub invariant-loop-k : goal.invariant-loop-k
invariant-loop-k g l = record {
  left : l.k + length l.parts ≡ length l.fn.parts.items;
  both : length l.devices ≡ length l.parts;
  fit : Each (λ d. g.P.Over.fits d) l.devices;
  room : (length l.workers.items ≡ l.k) × (length l.fn.parts.items ≤ vec_capacity l.workers);
  made : l.workers.items ++ paired g.P.Over.worker l.parts l.devices ≡ paired g.P.Over.worker l.fn.parts.items l.fn.devices.items;
}
