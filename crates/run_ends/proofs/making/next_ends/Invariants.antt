use Rattle.std.proofs.Common.{◌≡◌, ◌≤◌, length, vec_capacity}
use Rattle.run_ends.specs.Opened.{AreMadeOf, minted, minted_ends}
use Rattle.run_ends.proofs.making.next_ends.Given as goal

abbrev pub invariant-loop-at : goal.invariant-loop-at
invariant-loop-at g l = record {
  pipes : l.pipes.items ≡ minted l.at l.fn.pipes.items;
  ends : AreMadeOf (g.M.EndMaker.makes l.fn.maker) 0 (minted_ends l.at l.fn.pipes.items) l.row.items;
  room : (length l.row.items ≡ l.at) × (length l.fn.pipes.items ≤ vec_capacity l.row);
}
