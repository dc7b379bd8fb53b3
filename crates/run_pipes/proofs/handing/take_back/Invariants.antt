use Rattle.std.proofs.Common.{◌≡◌, ◌++◌, length, map}
use Rattle.std.specs.Vec.Iter.{into_iter_items, into_iter_len}
use Rattle.order_laws.specs.Deeds.{Each}
use Rattle.run_ends.specs.TakenBack.{after_row}
use Rattle.run_pipes.proofs.handing.take_back.Given as goal

abbrev pub invariant-loop-end : goal.invariant-loop-end
invariant-loop-end g l = record {
  back : l.pipes.items ≡ after_row (map g.E.End.sender l.yielded) l.initial.pipes.items;
  told : Each (λ e. g.E.End.told e) l.yielded;
  at : l.at ≡ length l.yielded;
  split : l.yielded ++ into_iter_items l.end-iterator ≡ l.fn.ends.items;
  len : into_iter_len l.end-iterator ≡ length (into_iter_items l.end-iterator);
}
