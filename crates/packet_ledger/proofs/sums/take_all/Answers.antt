use Rattle.std.proofs.Common.{[], ◌∷◌, length, ap, ◌∙◌, sym, append_assoc, length-append, arith}
use Rattle.crossbeam_utils.specs.Seq.{cell_view}
use Rattle.packet_ledger.specs.Amounts.{count_at, plus}
use Rattle.packet_ledger.proofs.Counting.{plus_at}
use Rattle.packet_ledger.proofs.Closing.{gathered_next, counts_next, posted_most}
use Rattle.packet_ledger.proofs.sums.take_all.Goals as goal

pub loop-share-preserved : goal.loop-share-preserved
loop-share-preserved g c =
    let at = c.loop-share in
    let x = c.in-Some.share in
    let steps = c.in-Some.ensures.steps.0 in
    let then = c.add_share-counts.ensures in (
      then.own,
      gathered_next at.yielded x (cell_view c.args.token.now) (cell_view at.token) (cell_view c.add_share-counts.new.token) at.invariant.1 then.token,
      then.counts ∙ ap (λ t. plus t x.counts) at.invariant.2 ∙ sym (counts_next at.yielded x),
      (λ i.
          let a = at.invariant.3 i in let b = then.few i in let p = plus_at i at.counts x.counts in let e = ap (count_at i) then.counts in
          omega (arith, length-append at.yielded (x ∷ []))),
      (λ i. posted_most at.yielded x i (at.invariant.4 i) (then.posted i)),
      append_assoc at.yielded (x ∷ []) _ ∙ rw (← steps) at.invariant.5,
      (let was = at.invariant.6 in let gone = c.in-Some.ensures.steps.1 in let short = ap length steps in omega arith),
    )
