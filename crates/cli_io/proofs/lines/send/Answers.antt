use Rattle.std.proofs.Common.{◌≤◌, length, drop, arith, length-drop, take-add}
use Rattle.std.proofs.lemmas.List.{take_rest}
use Rattle.cli_io.proofs.LinesLemmas.{Appends-then}
use Rattle.cli_io.proofs.lines.send.Goals as goal

pub loop-at-preserved : goal.loop-at-preserved
loop-at-preserved g c =
    let within : c.in-Ok.count ≤ length (drop c.loop-at.at c.args.text.now) = rw (take_rest c.args.text.now c.loop-at.at) at c.in-Ok.ensures.bound in
    record {
      inside = omega (arith, within, length-drop c.loop-at.at c.args.text.now, c.loop-at.invariant.inside);
      sent = rw (take-add c.loop-at.at c.in-Ok.count c.args.text.now) (Appends-then _ _ _ _ _ c.loop-at.invariant.sent (rw (take_rest c.args.text.now c.loop-at.at) at c.in-Ok.ensures.bytes));
    }
